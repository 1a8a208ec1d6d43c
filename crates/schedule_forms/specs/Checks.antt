-- What checking the lines of a schedule makes of them.
use Rattle.std.specs.Prelude.{◌≡◌, ◌≢◌, ℕ, ◌-◌, ◌^◌, min, List, [], ◌∷◌, ◌++◌, length, codes, Option, None, Result, Ok, Err}
use Rattle.std.specs.Fmt.{decimal}
use Rattle.line_loop.specs.declared.halt.LineStop.{LineStop}
use Rattle.line_loop.specs.declared.halt.LineStop.TheVariants.{Malformed, NoMemory}
use Rattle.line_loop.specs.declared.halt.EndStop.{EndStop}
use Rattle.line_loop.specs.declared.halt.EndStop.TheVariants as ending
use Rattle.schedule_forms.specs.Grammar.{AreInGrammar}

-- The text for so many lines that are in the grammar.
unfoldable pub ok_line : ℕ → List ℕ
ok_line n = codes "ok " ++ decimal n ++ codes "\n"

-- A text spells a value, or it spells none, or memory is wanting.
abbrev pub Fits : {X : Type 0} → Option X → Result (Unit {0}) LineStop → Type 0
Fits read (Ok done) = read ≢ None
Fits read (Err Malformed) = read ≡ None
Fits read (Err NoMemory) = Unit {0}
Fits read (Err other) = ⊥

-- These lines are in the grammar, and nothing is sent for them.
pub record AreChecked (ls : List (List ℕ)) (text : List ℕ) : Type 0 where
  pub fit : AreInGrammar ls
  pub silent : text ≡ []

-- How far a count of 64 bits tells the number of lines.
abbrev pub counted : List (List ℕ) → ℕ
counted ls = min (length ls) (2 ^ 64 - 1)

-- Where no line was counted before, these are checked, and now they are counted.
abbrev pub Counted : ℕ → ℕ → List (List ℕ) → List ℕ → Type 0
Counted first now ls text = first ≡ 0 → AreChecked ls text × (now ≡ counted ls)

-- Why a line behind checked ones isn't handled: with it they aren't in the grammar, or memory is wanting.
abbrev pub StopsCheck : List (List ℕ) → List ℕ → List ℕ → LineStop → Type 0
StopsCheck ls text l Malformed = AreChecked ls text × ¬ AreInGrammar (ls ++ l ∷ [])
StopsCheck ls text l NoMemory = AreChecked ls text
StopsCheck ls text l other = ⊥

-- What closes checked lines, of which this is the number: it, or that the first one is missing.
abbrev pub EndsWith : ℕ → List (List ℕ) → Result (List ℕ) EndStop → Type 0
EndsWith number ls (Ok closing) = (ls ≢ []) × (closing ≡ ok_line number)
EndsWith number ls (Err ending.Missing) = ls ≡ []
EndsWith number ls (Err ending.NoMemory) = Unit {0}

abbrev pub EndsCheck : List (List ℕ) → List ℕ → Result (List ℕ) EndStop → Type 0
EndsCheck ls text end = EndsWith (length ls) ls end
