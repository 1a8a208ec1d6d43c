-- The words of a line, which single spaces part, and reading them from the left.
use Rattle.std.specs.Prelude.{◌≡◌, ℕ, zero, suc, List, [], ◌∷◌, ◌++◌, codes, Option, Some, None, Result, Ok, Err}
use Rattle.std.specs.List.{slice_split, flat_map}
use Rattle.iot_bytes.specs.Tokens.{is_space}
use Rattle.iot_bytes.specs.declared.memory.ReadError.{ReadError}
use Rattle.iot_bytes.specs.declared.memory.ReadError.TheVariants.{Malformed, NoMemory}
use Rattle.sgp_der.specs.Fields.{◌>>=◌}

-- the words of a text: the parts between its spaces
unfoldable pub words : List ℕ → List (List ℕ)
words text = slice_split is_space text

-- a word behind a space
unfoldable pub spaced : List ℕ → List ℕ
spaced word = codes " " ++ word

-- the text of these words, with one space between each two
abbrev pub joined : List (List ℕ) → List ℕ
joined [] = []
joined (w ∷ ws) = w ++ flat_map spaced ws

-- the words behind a space, and none where the text has ended
abbrev pub words_behind : List ℕ → List (List ℕ)
words_behind [] = []
words_behind (space ∷ text) = words text

-- the value that the next word spells, and the words behind it
unfoldable pub word_at : {X : Type 0} → (List ℕ → Option X) → List (List ℕ) → Option (X × List (List ℕ))
word_at of [] = None
word_at of (w ∷ ws) = do
  x ← of w
  Some (x, ws)

-- the value that the one word spells which is left
unfoldable pub last_word : {X : Type 0} → (List ℕ → Option X) → List (List ℕ) → Option X
last_word of [] = None
last_word of (w ∷ []) = of w
last_word of (w ∷ v ∷ ws) = None

-- no word is left
unfoldable pub no_word : List (List ℕ) → Option (Unit {0})
no_word [] = Some tt
no_word (w ∷ ws) = None

-- the values that the words spell, at most so many
unfoldable pub list_of : {X : Type 0} → (List ℕ → Option X) → ℕ → List (List ℕ) → Option (List X)
list_of of most [] = Some []
list_of of zero (w ∷ ws) = None
list_of of (suc more) (w ∷ ws) = do
  x ← of w
  xs ← list_of of more ws
  Some (x ∷ xs)

-- what a reader of one word answers is what that word is read as, unless memory ran out; `left` are the words behind it
abbrev pub GivesWord : {X : Type 0} → Result X ReadError → List (List ℕ) → Option (X × List (List ℕ)) → Type 0
GivesWord (Ok x) left read = read ≡ Some (x, left)
GivesWord (Err Malformed) left read = read ≡ None
GivesWord (Err NoMemory) left read = Unit {0}
