-- What a part says of itself and of the outside that it is lent, and what it does with a frame. Here a part is told
-- together with its outside.
use Rattle.std.specs.Prelude.{◌≡◌, ℕ, ◌<◌, ◌^◌, List, [], ◌∷◌, ◌++◌, length, Result, Ok, Err}
use Rattle.iot_bytes.specs.Frames.{frame}
use Rattle.run_loop.specs.declared.halt.PartStop.{PartStop}

-- What frames and the text of their answers made of a part.
abbrev pub Walk : Type 1
Walk = List (List ℕ) → List ℕ → Type 0

-- What frames, their text and a further frame made of a part that stops at it.
abbrev pub Stopping : Type 1
Stopping = List (List ℕ) → List ℕ → List ℕ → PartStop → Type 0

-- The part appended its answer to this frame, and its walk goes on.
pub record HasAnswered {P : Type 0} (behind : P → P → Walk) (old new : P) (f out out' : List ℕ) : Type 0 where
  pub content : List ℕ
  pub appended : out' ≡ out ++ content
  pub short : length content < 2 ^ 32
  pub stands : (first : P) (fs : List (List ℕ)) (text : List ℕ)
      → behind first old fs text → behind first new (fs ++ f ∷ []) (text ++ frame content)

-- The part stops at this frame.
abbrev pub HasStopped : {P : Type 0} → (P → P → Walk) → (P → P → Stopping) → P → P → List ℕ → PartStop → Type 0
HasStopped {P} behind stops old new f stop =
    (first : P) (fs : List (List ℕ)) (text : List ℕ)
    → behind first old fs text → stops first new fs text f stop

-- The part answered this frame, or it stops at it.
abbrev pub Answers : {P : Type 0} → (P → P → Walk) → (P → P → Stopping)
    → P → P → List ℕ → List ℕ → List ℕ → Result (Unit {0}) PartStop → Type 0
Answers behind stops old new f out out' (Ok done) = HasAnswered behind old new f out out'
Answers behind stops old new f out out' (Err stop) = HasStopped behind stops old new f stop

-- The octets are the frame of the part's answer to this frame, and its walk goes on.
pub record HasReplied {P : Type 0} (behind : P → P → Walk) (old new : P) (f out : List ℕ) : Type 0 where
  pub content : List ℕ
  pub framed : out ≡ frame content
  pub stands : (first : P) (fs : List (List ℕ)) (text : List ℕ)
      → behind first old fs text → behind first new (fs ++ f ∷ []) (text ++ frame content)

-- The octets are the frame of the part's answer, or the part stops at the frame.
abbrev pub Replies : {P : Type 0} → (P → P → Walk) → (P → P → Stopping)
    → P → P → List ℕ → List ℕ → Result (Unit {0}) PartStop → Type 0
Replies behind stops old new f out (Ok done) = HasReplied behind old new f out
Replies behind stops old new f out (Err stop) = HasStopped behind stops old new f stop
