-- What the calls of a chip in memory do beyond the rules of every chip: its history, and the calls that are to fail.
use Rattle.std.specs.Prelude.{◌≡◌, ◌↔◌, List, Contains, Option, Result, is_ok, IsErr}
use Rattle.chip_port.specs.declared.chip.Tear.{Tear}
use Rattle.chip_port.specs.declared.mem.MemChip.{MemChip}
use Rattle.chip_port.specs.Seen.{Seen, Passes}
use Rattle.chip_port.specs.Past.{Past, history}
use Rattle.chip_port.specs.Counts.{tally_of, cut_now, torn_by}
use Rattle.chip_port.specs.MemSeen.{seen_in}

-- what a chip in memory shows
abbrev pub sees_of : MemChip → Seen
sees_of s = seen_in s.medium.past s.counts s.calls s.octets

-- all that was done to it, the newest first
abbrev pub past_in : MemChip → List Past
past_in s = s.medium.past

-- the tear of the last cut, where no power cycle came since
abbrev pub tear_in : MemChip → Option Tear
tear_in s = s.counts.cut

-- a call that is neither on a cut chip nor the cut fails exactly where its number is one of the failing ones; the history has what it did, or the cut with what the cut left
pub record Plays {T E : Type 0} (done : List Past) (torn : Tear → List Past) (old new : MemChip) (result : Result T E) : Type 0 where
  pub failing : new.failing ≡ old.failing
  pub fails : Passes (tally_of old.counts) → (IsErr result ↔ Contains old.failing old.counts.uses)
  pub tear : tear_in new ≡ torn_by (cut_now (tally_of old.counts)) (tear_in old)
  pub past : past_in new ≡ history (cut_now (tally_of old.counts)) (is_ok result) done torn (past_in old)

-- neither the history nor the calls that are to fail
pub record KeepsPast (old new : MemChip) : Type 0 where
  pub failing : new.failing ≡ old.failing
  pub tear : tear_in new ≡ tear_in old
  pub past : past_in new ≡ past_in old
