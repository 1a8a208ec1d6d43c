-- The rules of a chip: what each call does to what the chip shows.
use Rattle.std.specs.Prelude.{◌≡◌, ◌⊎◌, ℕ, ◌+◌, ◌≤◌, true, false, if◌then◌else◌, ◌==◌, List, ◌++◌, length, take, drop, Result, is_ok, OnOk, OnErr, Some, leb}
use Rattle.iot_bytes.specs.Causes.{Rose}
use Rattle.chip_port.specs.Seen.{Seen, Tally, Marks, called, Passes, up}

-- the content with these octets at this place
abbrev pub put : List ℕ → ℕ → List ℕ → List ℕ
put image at octets = take at image ++ octets ++ drop (at + length octets) image

-- the same but for n octets at this place, which may be any
pub record Torn (at n : ℕ) (old new : List ℕ) : Type 0 where
  pub before : take at new ≡ take at old
  pub after : drop (at + n) new ≡ drop (at + n) old
  pub size : length new ≡ length old

-- each image of these comes by this step from one of those
abbrev pub Follows : (List ℕ → List ℕ → Type 0) → (List ℕ → Type 0) → (List ℕ → Type 0) → Type 0
Follows step old new = (image : List ℕ) → new image → (before : List ℕ) × old before × step before image

-- no image but this one
abbrev pub Only : List ℕ → (List ℕ → Type 0) → Type 0
Only image leaves = (c : List ℕ) → leaves c → c ≡ image

-- the same images
abbrev pub Same : (List ℕ → Type 0) → (List ℕ → Type 0) → Type 0
Same old new = (c : List ℕ) → (old c → new c) × (new c → old c)

-- where the chip tells its content
abbrev pub IfTold : Seen → Type 0 → Type 0
IfTold s P = s.told ≡ true → P

-- whether it tells stays, and a failure is told only where the count of faults rose
pub record HasCause {T E : Type 0} (old new : Seen) (result : Result T E) : Type 0 where
  pub told : new.told ≡ old.told
  pub monotone : old.faults ≤ new.faults
  pub failed : OnErr result (Rose old.faults new.faults)

-- spare as it was, less this
pub record Takes (calls octets : ℕ) (old new : Seen) : Type 0 where
  pub calls_left : new.spare.calls + calls ≡ old.spare.calls
  pub octets_left : new.spare.octets + octets ≡ old.spare.octets

-- what is past stays, and only what a cut may leave now joins it
pub record Elapses (old new : Seen) : Type 0 where
  pub keeps : (n : ℕ) (c : List ℕ) → old.left n c → new.left n c
  pub nothing_else : (n : ℕ) (c : List ℕ) → new.left n c → old.left n c ⊎ ((n ≡ new.marks.answers) × new.leaves c)

-- what each of the four calls that a plan counts does
-- (on a cut chip it fails and is only counted; under a plan of 0 calls it is the cut; else it takes one call from the plan, and a failure is a break)
pub record Called {T E : Type 0} (old new : Seen) (result : Result T E) : Type 0 where
  pub tally : new.tally ≡ called (is_ok result) old.tally
  pub passes : OnOk result (Passes old.tally)
  pub calm : OnOk result (new.faults ≡ old.faults)
  pub time : Elapses old new

-- neither what it reads, nor what a cut leaves, nor what was marked
pub record Keeps (old new : Seen) : Type 0 where
  pub reads : new.reads ≡ old.reads
  pub leaves : Same old.leaves new.leaves
  pub marks : new.marks ≡ old.marks

-- a read fills its buffer from the content and changes nothing else but what each call does
pub record ReadOut {T E : Type 0} (at : ℕ) (before after : List ℕ) (old new : Seen) (result : Result T E) : Type 0 where
  pub call : Called old new result
  pub keeps : Keeps old new
  pub done : OnOk result (after ≡ take (length before) (drop at old.reads))

-- a write puts its octets in place; whether it succeeds or not, its range may be any octets after a cut, and what is outside stays, in the content too
pub record Written {T E : Type 0} (at : ℕ) (octets : List ℕ) (old new : Seen) (result : Result T E) : Type 0 where
  pub call : Called old new result
  pub marks : new.marks ≡ old.marks
  pub leaves : Follows (Torn at (length octets)) old.leaves new.leaves
  pub outside : Torn at (length octets) old.reads new.reads
  pub done : OnOk result (new.reads ≡ put old.reads at octets)

-- a sync never changes the content; one that succeeds leaves nothing else, one that fails syncs nothing
pub record Synced {T E : Type 0} (old new : Seen) (result : Result T E) : Type 0 where
  pub call : Called old new result
  pub reads : new.reads ≡ old.reads
  pub marks : new.marks ≡ old.marks
  pub fewer : (c : List ℕ) → new.leaves c → old.leaves c
  pub done : OnOk result (Only old.reads new.leaves)
  pub failed : OnErr result (Same old.leaves new.leaves)

-- one answer more, with the counts of this moment
abbrev pub answered : Tally → Marks → Marks
answered t m = record m {
  answers = m.answers + 1;
  cuts_at = λ n. if n == m.answers + 1 then t.cuts else m.cuts_at n;
  breaks_at = λ n. if n == m.answers + 1 then t.breaks else m.breaks_at n;
}

-- an answer changes no image; one that succeeds is marked, one that fails is not
pub record Answered {T E : Type 0} (old new : Seen) (result : Result T E) : Type 0 where
  pub call : Called old new result
  pub reads : new.reads ≡ old.reads
  pub leaves : Same old.leaves new.leaves
  pub marks : new.marks ≡ (if is_ok result then answered old.tally old.marks else old.marks)

-- nothing changes but spare, and the tally in this way
pub record Untouched (tally : Tally → Tally) (old new : Seen) : Type 0 where
  pub told : new.told ≡ old.told
  pub faults : new.faults ≡ old.faults
  pub keeps : Keeps old new
  pub left : (n : ℕ) → Same (old.left n) (new.left n)
  pub tally_is : new.tally ≡ tally old.tally

-- room for so many calls and octets, and nothing else
pub record Prepared {T E : Type 0} (calls octets : ℕ) (old new : Seen) (result : Result T E) : Type 0 where
  pub told : new.told ≡ old.told
  pub faults : new.faults ≡ old.faults
  pub room : OnOk result ((calls ≤ new.spare.calls) × (octets ≤ new.spare.octets))
  pub no_less : (old.spare.calls ≤ new.spare.calls) × (old.spare.octets ≤ new.spare.octets)

-- no fault, and the same spare, on any chip
pub record Quiet (old new : Seen) : Type 0 where
  pub told : new.told ≡ old.told
  pub faults : new.faults ≡ old.faults
  pub spare : new.spare ≡ old.spare

-- the answers to come are woken by this image
abbrev pub woken : List ℕ → Marks → Marks
woken image m = record m { woke = λ n. if leb n m.answers then m.woke n else Some image }

-- a power cycle gives one of the images that a cut could leave, and only that one stays; one that fails is a break and nothing else
pub record Woken {T E : Type 0} (old new : Seen) (result : Result T E) : Type 0 where
  pub tally : new.tally ≡ (if is_ok result then record old.tally { cut = false } else record old.tally { breaks = up old.tally.breaks })
  pub calm : OnOk result (new.faults ≡ old.faults)
  pub done : OnOk result (old.leaves new.reads × Only new.reads new.leaves × (new.marks ≡ woken new.reads old.marks))
  pub failed : OnErr result (Keeps old new)
  pub time : Elapses old new

-- what holds of every chip that tells its content, at every moment
pub record Sound (size : ℕ) (s : Seen) : Type 0 where
  pub reads_now : s.leaves s.reads
  pub sized : (c : List ℕ) → s.leaves c → length c ≡ size
  pub counts_now : (c : List ℕ) → s.leaves c → s.left s.marks.answers c
  pub none_above : (n : ℕ) (c : List ℕ) → s.left n c → n ≤ s.marks.answers
