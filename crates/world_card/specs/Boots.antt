-- What a power cycle does to a card on its bench.
use Rattle.std.specs.Prelude.{◌≡◌, ◌≤◌, ℕ, Bool, true, false, List, Option, Some, IsSome, Ok, Err}
use Rattle.iot_bytes.specs.Causes.{Rose}
use Rattle.chip_port.specs.Seen.{Seen, is_due}
use Rattle.small_card.specs.Cards.{FullCard}
use Rattle.small_card.specs.Histories.{full_of}
use Rattle.card_store.specs.Standing.{Stands}
use Rattle.euicc_core.specs.Openings.{Opens}
use Rattle.euicc_core.specs.declared.ends.OpenError.{OpenError}
use Rattle.euicc_core.specs.declared.ends.OpenError.TheVariants as open_end
use Rattle.small_world.specs.Stepping.{attempt, booted}
use Rattle.small_world.specs.Stretches.{is_far}
use Rattle.small_world.specs.Worlds.{SmallWorld}
use Rattle.world_card.specs.Benches.{IsOnBench, HoldsWorld}
use Rattle.world_card.specs.Counts.{Counted, answered_fate, lost_fate, short_fate}
use Rattle.world_card.specs.declared.ends.BootEnd.{BootEnd}
use Rattle.world_card.specs.declared.ends.BootEnd.TheVariants.{Booted, Lost, Foreign, NoMemory}

-- the count of faults never falls, and a boot is lost only where it rose
pub record HasCauseOfBoot (end : BootEnd) (s t : Seen) : Type 0 where
  pub told : t.told ≡ s.told
  pub monotone : s.faults ≤ t.faults
  pub lost : end ≡ Lost → Rose s.faults t.faults

-- how an opening that failed ends a boot
abbrev pub of_open : OpenError → BootEnd
of_open open_end.Failed = Lost
of_open open_end.Unrecognised = Foreign
of_open open_end.NoMemory = NoMemory

-- the image with which the newest answer was woken stands for this card
pub record IsWokenFor (f : FullCard) (t : Seen) : Type 0 where
  pub image : List ℕ
  pub woke : t.marks.woke t.marks.answers ≡ Some image
  pub stands : Stands f image

-- a boot takes an attempt only of a dark card, where there is one
pub record MayTakeAttempt (w : SmallWorld) : Type 0 where
  pub dark : w.lit ≡ false
  pub there : IsSome (attempt w.marks)

-- the card answered to reset, with the attempt or without it, as the image that the power cycle gave tells
pub record IsBooted (first : ℕ) (w : SmallWorld) (held : Option FullCard) (s t : Seen) : Type 0 where
  pub taken : Bool
  pub may : taken ≡ true → MayTakeAttempt w
  pub not_due : is_due w.plan ≡ false
  pub stands : IsOnBench first held t (booted false taken w)
  pub woken : IsWokenFor (full_of (booted false taken w).history) t
  pub counts : Counted (answered_fate (is_far w.plan)) s t

pub record IsLostBoot (first : ℕ) (w : SmallWorld) (held : Option FullCard) (s t : Seen) : Type 0 where
  pub stands : IsOnBench first held t (booted true false w)
  pub counts : Counted (lost_fate (is_far w.plan)) s t

-- memory ran out before a step of the card, and the bench holds what it held
pub record IsBefore (first : ℕ) (w : SmallWorld) (s t : Seen) : Type 0 where
  pub holds : HoldsWorld first t w
  pub counts : Counted (short_fate (is_far w.plan)) s t

abbrev pub Boots : ℕ → SmallWorld → BootEnd → Option FullCard → Seen → Seen → Type 0
Boots first w Booted held s t = IsBooted first w held s t
Boots first w Lost held s t = IsLostBoot first w held s t
Boots first w Foreign held s t = ⊥
Boots first w NoMemory held s t = IsBefore first w s t

-- how the opening of a card ends, after the power came back
abbrev pub Reopens : BootEnd → Option FullCard → Seen → Seen → Type 0
Reopens Booted held s t = Opens (Ok held) s t
Reopens Lost held s t = Opens (Err open_end.Failed) s t
Reopens Foreign held s t = Opens (Err open_end.Unrecognised) s t
Reopens NoMemory held s t = Opens (Err open_end.NoMemory) s t
