-- What a chip shows of itself: its octets, what a cut may leave, and its counts.
use Rattle.std.specs.Prelude.{◌≡◌, ℕ, ◌+◌, ◌-◌, ◌^◌, min, max, Bool, true, false, if◌then◌else◌, ◌==◌, List}
use Rattle.std.specs.Prelude.{Option, Some, None}
use Rattle.chip_port.specs.declared.chip.Tear.{Tear}

-- counts of the calls, and the planned cut
pub record Tally : Type 0 where
  pub uses : ℕ
  pub cuts : ℕ
  pub breaks : ℕ
  pub plans : ℕ
  pub plan : Option (ℕ × Tear)
  pub cut : Bool

-- what is fixed as an answer succeeds
pub record Marks : Type 0 where
  pub answers : ℕ
  pub cuts_at : ℕ → ℕ
  pub breaks_at : ℕ → ℕ
  pub woke : ℕ → Option (List ℕ)

-- the calls and octets that need no more memory
pub record Spare : Type 0 where
  pub calls : ℕ
  pub octets : ℕ

-- whether the content is told, the count of faults, the spare calls and octets; and where told the content, what a cut may leave now, what it may have left since each answer, the marks and the counts
pub record Seen : Type 1 where
  pub told : Bool
  pub faults : ℕ
  pub spare : Spare
  pub reads : List ℕ
  pub leaves : List ℕ → Type 0
  pub left : ℕ → List ℕ → Type 0
  pub marks : Marks
  pub tally : Tally

-- one more; a count stands still at the end of its type
abbrev pub up : ℕ → ℕ
up count = max count (min (count + 1) (2 ^ 64 - 1))

-- the next call is the cut
abbrev pub is_due : Option (ℕ × Tear) → Bool
is_due None = false
is_due (Some plan) = plan.0 == 0

-- one call of the plan is used
abbrev pub one_less : Option (ℕ × Tear) → Option (ℕ × Tear)
one_less None = None
one_less (Some plan) = Some (plan.0 - 1, plan.1)

-- the counts after one of the four calls that a plan counts
abbrev pub called : Bool → Tally → Tally
called ok t =
    if t.cut then record t { uses = up t.uses }
    else (if is_due t.plan then record t { uses = up t.uses; plan = None; cuts = up t.cuts; cut = true }
    else record t { uses = up t.uses; plan = one_less t.plan; breaks = if ok then t.breaks else up t.breaks })

-- no cut has come, and this call isn't the cut
pub record Passes (t : Tally) : Type 0 where
  pub powered : t.cut ≡ false
  pub not_due : is_due t.plan ≡ false

-- a new plan
abbrev pub plan_of : ℕ → Tear → Tally → Tally
plan_of calls tear t = record t { plan = Some (calls, tear); plans = up t.plans }

-- the plan is dropped
abbrev pub no_plan : Tally → Tally
no_plan t = record t { plan = None }
