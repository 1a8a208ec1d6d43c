-- Looks at the chip that may fail, one after the other.
use Rattle.std.proofs.Common.{◌≡◌, ℕ, ◌+◌, ◌≤◌}
use Rattle.std.specs.Prelude.{Result, Ok, Err, OnOk, OnErr}
use Rattle.chip_port.specs.Seen.{Seen}
use Rattle.chip_port.proofs.Runs.{ran_then, ran_most}
use Rattle.card_store.specs.declared.ends.StageError.{StageError}
use Rattle.card_store.specs.declared.ends.StageError.TheVariants as stage
use Rattle.card_store.specs.Looking.{Looks}
use Rattle.card_store.specs.Comparing.{Tries}
use Rattle.card_store.proofs.Looking.{looks_then, looks_most, looks_ran}

-- a further try
pub tries_then : (T : Type 0) (m n : ℕ) (a b c : Seen) (r : Result T StageError) → Looks m a b → Tries n r b c → Tries (m + n) r a c
tries_then T m n a b c (Ok x) ab bc = looks_then ab bc
tries_then T m n a b c (Err stage.Failed) ab bc = ran_then (looks_ran m a.leaves a b ab (λ i was. was)) bc (λ i now. (ab.keeps.leaves i).1 now)
tries_then T m n a b c (Err stage.NoMemory) ab bc = looks_then ab bc

-- an error after a look is handed on
pub tries_fail : (T U : Type 0) (m n k : ℕ) (a b c : Seen) (e : StageError) → m + n ≤ k → Looks m a b → Tries {T = T} n (Err e) b c → Tries {T = U} k (Err e) a c
tries_fail T U m n k a b c stage.Failed le ab bc = ran_most le (ran_then (looks_ran m a.leaves a b ab (λ i was. was)) bc (λ i now. (ab.keeps.leaves i).1 now))
tries_fail T U m n k a b c stage.NoMemory le ab bc = looks_most le (looks_then ab bc)

-- what was done with memory alone after a look
pub tried : (n : ℕ) (a b : Seen) (r : Result (Unit {0}) StageError) → Looks n a b → OnErr r (r ≡ Err stage.NoMemory) → Tries n r a b
tried n a b (Ok x) l h = l
tried n a b (Err stage.Failed) l h = absurd (cc h)
tried n a b (Err stage.NoMemory) l h = l

-- what follows where a call succeeded
pub where_listed : {T : Type 0} (r : Result T StageError) {P Q : Type 0} → (P → Q) → OnOk r P → OnOk r Q
where_listed (Ok x) f h = f h
where_listed (Err e) f h = tt
