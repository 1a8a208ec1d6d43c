-- What a part says of itself, and what it does with a line.
use Rattle.std.specs.Prelude.{◌≡◌, ℕ, List, [], ◌∷◌, ◌++◌, Result, Ok, Err}
use Rattle.run_loop.specs.Parts.{Walk}
use Rattle.line_loop.specs.declared.halt.LineStop.{LineStop}
use Rattle.line_loop.specs.declared.halt.EndStop.{EndStop}

-- A part, with the bench and the modems that it is lent.
pub record Scene (P B M : Type 0) : Type 0 where
  pub part : P
  pub bench : B
  pub modems : M

abbrev pub scene : {P B M : Type 0} → P → B → M → Scene P B M
scene part bench modems = record { part = part; bench = bench; modems = modems }

-- What lines, their text and a further line made of a scene that stops at it.
abbrev pub Stopping : Type 1
Stopping = List (List ℕ) → List ℕ → List ℕ → LineStop → Type 0

-- What closes lines and their text: the closing text, or why the input may not end behind them.
abbrev pub Ending : Type 1
Ending = List (List ℕ) → List ℕ → Result (List ℕ) EndStop → Type 0

-- The part appended its text for this line, and its walk goes on.
pub record HasHandled {S : Type 0} (behind : S → S → Walk) (old new : S) (l out out' : List ℕ) : Type 0 where
  pub text : List ℕ
  pub appended : out' ≡ out ++ text
  pub stands : (first : S) (ls : List (List ℕ)) (before : List ℕ)
      → behind first old ls before → behind first new (ls ++ l ∷ []) (before ++ text)

-- The part stops at this line.
abbrev pub HasStopped : {S : Type 0} → (S → S → Walk) → (S → S → Stopping) → S → S → List ℕ → LineStop → Type 0
HasStopped {S} behind stops old new l stop =
    (first : S) (ls : List (List ℕ)) (before : List ℕ)
    → behind first old ls before → stops first new ls before l stop

-- The part handled this line, or it stops at it.
abbrev pub Handles : {S : Type 0} → (S → S → Walk) → (S → S → Stopping)
    → S → S → List ℕ → List ℕ → List ℕ → Result (Unit {0}) LineStop → Type 0
Handles behind stops old new l out out' (Ok done) = HasHandled behind old new l out out'
Handles behind stops old new l out out' (Err stop) = HasStopped behind stops old new l stop

-- The part appended the closing text of its lines.
pub record HasFinished {S : Type 0} (behind : S → S → Walk) (ends : S → S → Ending) (now : S) (out out' : List ℕ) : Type 0 where
  pub closing : List ℕ
  pub appended : out' ≡ out ++ closing
  pub closes : (first : S) (ls : List (List ℕ)) (text : List ℕ)
      → behind first now ls text → ends first now ls text (Ok closing)

-- The part appended the closing text, or the input may not end here.
abbrev pub Finishes : {S : Type 0} → (S → S → Walk) → (S → S → Ending)
    → S → List ℕ → List ℕ → Result (Unit {0}) EndStop → Type 0
Finishes behind ends now out out' (Ok done) = HasFinished behind ends now out out'
Finishes {S} behind ends now out out' (Err stop) =
    (first : S) (ls : List (List ℕ)) (text : List ℕ)
    → behind first now ls text → ends first now ls text (Err stop)
