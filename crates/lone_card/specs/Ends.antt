-- Inputs that are answered to their end, and inputs that stop.
use Rattle.std.specs.Prelude.{◌≡◌, ◌⊎◌, ℕ, ◌≤◌, true, List, [], length, None}
use Rattle.std.specs.List.{AllByRecursion}
use Rattle.iot_bytes.specs.Frames.{IsTorn}
use Rattle.chip_port.specs.Seen.{Seen}
use Rattle.small_card.specs.Cards.{FullCard}
use Rattle.card_store.specs.Standing.{Stands}
use Rattle.run_loop.specs.declared.reading.TheConstants.{MOST_FRAMES}
use Rattle.run_loop.specs.Breaks.{PassesLimit, IsUnfit}
use Rattle.run_loop.specs.Frames.{IsShort}
use Rattle.lone_card.specs.Cards.{reply_to, Begins}

-- The first frame, if there is one, personalises a card, or the chip tells that it stands for one.
abbrev pub CanBegin : Seen → List (List ℕ) → Type 0
CanBegin s fs = Begins None fs ⊎ ((s.told ≡ true) × ((card : FullCard) × Stands card s.reads))

-- These frames are within the limits, and there is a card to answer them.
pub record AreHandled (s : Seen) (fs : List (List ℕ)) : Type 0 where
  pub few : length fs ≤ MOST_FRAMES
  pub short : AllByRecursion IsShort fs
  pub begins : CanBegin s fs

-- The chip tells that it stands for no card, no frame was handled, and this one doesn't personalise a card.
pub record IsNoStart (s : Seen) (fs : List (List ℕ)) (f : List ℕ) : Type 0 where
  pub told : s.told ≡ true
  pub blank : (card : FullCard) → Stands card s.reads → ⊥
  pub none : fs ≡ []
  pub unfit : reply_to None f ≡ None

-- The status where an input stops behind these frames, and neither a call failed nor memory was wanting but for 6.
pub record StopsWith (s : Seen) (fs : List (List ℕ)) (tail : List ℕ) (status : ℕ) : Type 0 where
  pub torn : IsTorn tail → (status ≡ 5) ⊎ (status ≡ 6)
  pub limit : PassesLimit fs tail → (status ≡ 7) ⊎ (status ≡ 6)
  pub unfit : IsUnfit (IsNoStart s) fs tail → (status ≡ 8) ⊎ (status ≡ 6)
