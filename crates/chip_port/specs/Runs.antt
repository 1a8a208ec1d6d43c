-- What a run of several calls does, from its start to its end.
use Rattle.std.specs.Prelude.{◌≡◌, ◌⊎◌, ℕ, ◌+◌, ◌≤◌, Bool, true, false, List, Option, Some, None}
use Rattle.chip_port.specs.declared.chip.Tear.{Tear}
use Rattle.iot_bytes.specs.Causes.{Rose}
use Rattle.chip_port.specs.Seen.{Seen, Tally, is_due, Passes}
use Rattle.chip_port.specs.Rules.{answered}

-- the plan after at most n calls that passed
abbrev pub Less : ℕ → Option (ℕ × Tear) → Option (ℕ × Tear) → Type 0
Less n None new = new ≡ None
Less n (Some plan) new = (calls : ℕ) × (new ≡ Some (calls, plan.1)) × (calls ≤ plan.0) × (plan.0 ≤ calls + n)

-- a plan that lets n calls pass
abbrev pub LetsPass : ℕ → Option (ℕ × Tear) → Type 0
LetsPass n None = Unit {0}
LetsPass n (Some plan) = n ≤ plan.0

-- cut, or the next call is
abbrev pub IsDoomed : Tally → Type 0
IsDoomed t = (t.cut ≡ true) ⊎ (is_due t.plan ≡ true)

-- at most n calls, all of which succeeded
pub record Smooth (n : ℕ) (old new : Tally) : Type 0 where
  pub more : old.uses ≤ new.uses
  pub most : new.uses ≤ old.uses + n
  pub plans : new.plans ≡ old.plans
  pub cuts : new.cuts ≡ old.cuts
  pub breaks : new.breaks ≡ old.breaks
  pub cut : new.cut ≡ old.cut
  pub plan : Less n old.plan new.plan

-- at most n calls, of which the last one failed
pub record Broke (n : ℕ) (old new : Tally) : Type 0 where
  pub more : old.uses ≤ new.uses
  pub most : new.uses ≤ old.uses + n
  pub plans : new.plans ≡ old.plans
  pub cuts : old.cuts ≤ new.cuts
  pub breaks : old.breaks ≤ new.breaks
  pub cause : old.cut ≡ false → Rose old.cuts new.cuts ⊎ Rose old.breaks new.breaks
  pub early : old.cut ≡ false → LetsPass n old.plan → Rose old.breaks new.breaks × (new.cuts ≡ old.cuts) × (new.cut ≡ false) × Less n old.plan new.plan
  pub doomed : IsDoomed old → IsDoomed new

-- at most n calls: all succeeded, or the last one failed
unfoldable pub Went : ℕ → Bool → Tally → Tally → Type 0
Went n true old new = Smooth n old new
Went n false old new = Broke n old new

-- a run of at most n calls between two answers of a chip that tells its content: a cut at any moment of it leaves only what has P; the count of faults stays where all calls succeeded
pub record Ran (n : ℕ) (ok : Bool) (P : List ℕ → Type 0) (old new : Seen) : Type 0 where
  pub told : new.told ≡ true
  pub marks : new.marks ≡ old.marks
  pub keeps : (k : ℕ) (c : List ℕ) → old.left k c → new.left k c
  pub adds : (k : ℕ) (c : List ℕ) → new.left k c → old.left k c ⊎ ((k ≡ old.marks.answers) × P c)
  pub here : (c : List ℕ) → new.leaves c → P c
  pub calm : ok ≡ true → new.faults ≡ old.faults
  pub went : Went n ok old.tally new.tally

-- a run that ends with an answer: until then a cut may leave only what has P, and since then only what has Q; the chip was neither cut nor under a plan of 0 calls as it began, isn't cut now, and no call failed
pub record Ended (n : ℕ) (P Q : List ℕ → Type 0) (old new : Seen) : Type 0 where
  pub told : new.told ≡ true
  pub marks : new.marks ≡ answered new.tally old.marks
  pub keeps : (k : ℕ) (c : List ℕ) → old.left k c → new.left k c
  pub adds : (k : ℕ) (c : List ℕ) → new.left k c → old.left k c ⊎ (((k ≡ old.marks.answers) × P c) ⊎ ((k ≡ old.marks.answers + 1) × Q c))
  pub here : (c : List ℕ) → new.leaves c → Q c
  pub passes : Passes old.tally
  pub powered : new.tally.cut ≡ false
  pub calm : new.faults ≡ old.faults
  pub went : Went n true old.tally new.tally

-- a run with an answer as its last call: ended where the answer succeeded, and else a run that broke
abbrev pub Closed : ℕ → Bool → (List ℕ → Type 0) → (List ℕ → Type 0) → Seen → Seen → Type 0
Closed n true P Q old new = Ended n P Q old new
Closed n false P Q old new = Ran n false P old new
