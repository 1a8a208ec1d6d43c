-- The counts of a chip in memory.
use Rattle.std.specs.Prelude.{ℕ, ◌/◌, Bool, true, false, if◌then◌else◌, ◌==◌, Option, Some, None, is_some}
use Rattle.chip_port.specs.declared.chip.Tear.{Tear}
use Rattle.chip_port.specs.declared.chip.Tear.TheVariants.{Old, New, Half, Junk}
use Rattle.chip_port.specs.declared.counts.Plan.{Plan}
use Rattle.chip_port.specs.declared.counts.Counts.{Counts}
use Rattle.chip_port.specs.declared.counts.Turn.{Turn}
use Rattle.chip_port.specs.declared.counts.Turn.TheVariants.{Pass, Fail, Cut}
use Rattle.chip_port.specs.Seen.{Tally}

-- the planned cut
abbrev pub plan_seen : Option Plan → Option (ℕ × Tear)
plan_seen None = None
plan_seen (Some plan) = Some (plan.calls, plan.tear)

-- the counts that the rules speak of
abbrev pub tally_of : Counts → Tally
tally_of c = record { uses = c.uses; cuts = c.cuts; breaks = c.breaks; plans = c.plans; plan = plan_seen c.plan; cut = is_some c.cut }

-- whether the call succeeds
abbrev pub passed : Turn → Bool
passed Pass = true
passed Fail = false
passed (Cut tear) = false

-- the tear, where the call is the cut
abbrev pub cut_by : Turn → Option Tear
cut_by Pass = None
cut_by Fail = None
cut_by (Cut tear) = Some tear

-- the tear of a plan of 0 calls
abbrev pub tear_due : Option (ℕ × Tear) → Option Tear
tear_due None = None
tear_due (Some plan) = if plan.0 == 0 then Some plan.1 else None

-- the tear, where the next call is the cut
abbrev pub cut_now : Tally → Option Tear
cut_now t = if t.cut then None else tear_due t.plan

-- the tear of the last cut, where no power cycle came since
abbrev pub torn_by : Option Tear → Option Tear → Option Tear
torn_by None former = former
torn_by (Some tear) former = Some tear

-- how many octets of a cut write of n are kept: all, the first half rounded down, or none
abbrev pub kept_len : Tear → ℕ → ℕ
kept_len Old n = 0
kept_len New n = n
kept_len Half n = n / 2
kept_len Junk n = 0
