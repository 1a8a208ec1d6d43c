-- What frames make of a part, and what is sent for them. A part is told by what a frame makes of its state: the
-- next state and the content of the answer, or nothing, where the part's grammar doesn't have the frame.
use Rattle.std.specs.Prelude.{◌≡◌, ℕ, List, [], ◌∷◌, ◌++◌, Option, Some, None}
use Rattle.sgp_der.specs.Fields.{◌>>=◌}
use Rattle.iot_bytes.specs.Frames.{frame}
use Rattle.iot_bytes.specs.declared.memory.ReadError.{ReadError}
use Rattle.iot_bytes.specs.declared.memory.ReadError.TheVariants as error
use Rattle.run_loop.specs.declared.halt.PartStop.{PartStop}
use Rattle.run_loop.specs.declared.halt.PartStop.TheVariants.{ChipFault, Malformed, Unrecognised, NoMemory}

abbrev pub Rule : Type 0 → Type 0
Rule S = S → List ℕ → Option (S × List ℕ)

-- the state behind these frames, and the octets that are sent for them: the frame of each answer
unfoldable pub fold : {S : Type 0} → Rule S → S → List (List ℕ) → Option (S × List ℕ)
fold rule s [] = Some (s, [])
fold rule s (f ∷ fs) = do
  turn ← rule s f
  others ← fold rule turn.0 fs
  Some (others.0, frame turn.1 ++ others.1)

-- these frames were answered with this text
pub record AreFolded {S : Type 0} (rule : Rule S) (s : S) (fs : List (List ℕ)) (text : List ℕ) : Type 0 where
  pub state : S
  pub folds : fold rule s fs ≡ Some (state, text)

-- in this state a frame has no answer for this reason: it isn't in the grammar, or memory is wanting
abbrev pub HasNone : {S : Type 0} → Rule S → S → List ℕ → PartStop → Type 0
HasNone rule s f ChipFault = ⊥
HasNone rule s f Malformed = rule s f ≡ None
HasNone rule s f Unrecognised = ⊥
HasNone rule s f NoMemory = Unit {0}

-- behind these frames a part stops at a further one
pub record StopsAt {S : Type 0} (rule : Rule S) (s : S) (fs : List (List ℕ)) (text f : List ℕ) (stop : PartStop) : Type 0 where
  pub folded : AreFolded rule s fs text
  pub reason : HasNone rule folded.state f stop

-- why a frame that wasn't read has no answer
abbrev pub stop_of : ReadError → PartStop
stop_of error.Malformed = Malformed
stop_of error.NoMemory = NoMemory
