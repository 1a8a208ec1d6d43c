-- What a chip in memory shows.
use Rattle.std.specs.Prelude.{◌≡◌, ℕ, Bool, true, false, if◌then◌else◌, List, [], ◌∷◌, Option, Some, None}
use Rattle.chip_port.specs.declared.chip.TheConstants.{CHIP_SIZE}
use Rattle.chip_port.specs.declared.counts.Counts.{Counts}
use Rattle.chip_port.specs.Seen.{Seen}
use Rattle.chip_port.specs.Rules.{Sound}
use Rattle.chip_port.specs.Past.{Past, wrote, did_sync, did_answer, was_cut, woke_as, images, may_leave, has_left, marks_of, fits, survived, zeros}
use Rattle.chip_port.specs.PastLaws.{survived_left, left_sized, left_now, none_above}
use Rattle.chip_port.specs.declared.medium.Survives.TheVariants.{Content, Synced, Junk as JunkImage}
use Rattle.chip_port.specs.declared.medium.Survives.{Survives}
use Rattle.chip_port.specs.declared.chip.Tear.{Tear}
use Rattle.chip_port.specs.declared.chip.Tear.TheVariants.{Old, New, Half, Junk}
use Rattle.chip_port.specs.Counts.{tally_of}

-- what a chip with this history shows: it tells its content
abbrev pub seen_in : List Past → Counts → ℕ → ℕ → Seen
seen_in past counts calls octets = record {
  told = true;
  faults = counts.faults;
  spare = record { calls = calls; octets = octets };
  reads = (images CHIP_SIZE past).content;
  leaves = may_leave CHIP_SIZE past;
  left = has_left CHIP_SIZE past;
  marks = marks_of CHIP_SIZE past;
  tally = tally_of counts;
}

-- nothing was done since a power cycle
abbrev pub is_woken : List Past → Bool
is_woken [] = false
is_woken (wrote at n octets ∷ older) = false
is_woken (did_sync ∷ older) = false
is_woken (did_answer cuts breaks ∷ older) = false
is_woken (was_cut tear ∷ older) = false
is_woken (woke_as survives ∷ older) = true

pub sound_in : (past : List Past) (counts : Counts) (calls octets : ℕ) → fits CHIP_SIZE past ≡ true → Sound CHIP_SIZE (seen_in past counts calls octets)
sound_in past counts calls octets f = record {
  reads_now = survived_left CHIP_SIZE Content past f;
  sized = left_sized CHIP_SIZE past f;
  counts_now = left_now CHIP_SIZE past;
  none_above = none_above CHIP_SIZE past;
}

-- what a power cycle gives after this tear
abbrev pub survives_by : Option Tear → Survives
survives_by None = Content
survives_by (Some Old) = Synced
survives_by (Some New) = Content
survives_by (Some Half) = Content
survives_by (Some Junk) = JunkImage

-- the image that a power cycle gives: after a cut with the tear Old what was synced last, with Junk A5 in each range not synced, and else all that was written
abbrev pub given : List Past → Option Tear → List ℕ
given past tear = survived (survives_by tear) (images CHIP_SIZE past)

-- the history after a power cycle; of two with nothing between them the second adds nothing
abbrev pub woken_past : List Past → Option Tear → List Past
woken_past past tear = if is_woken past then past else woke_as (survives_by tear) ∷ past

-- all octets 0, synced, and nothing counted
pub record StartsBlank (s : Seen) : Type 0 where
  pub told : s.told ≡ true
  pub reads : s.reads ≡ zeros CHIP_SIZE
  pub leaves : (c : List ℕ) → s.leaves c → c ≡ zeros CHIP_SIZE
  pub left : (n : ℕ) (c : List ℕ) → s.left n c → (n ≡ 0) × (c ≡ zeros CHIP_SIZE)
  pub marks : s.marks ≡ record { answers = 0; cuts_at = λ n. 0; breaks_at = λ n. 0; woke = λ n. None }
  pub tally : s.tally ≡ record { uses = 0; cuts = 0; breaks = 0; plans = 0; plan = None; cut = false }
  pub faults : s.faults ≡ 0
