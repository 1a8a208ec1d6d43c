-- The worlds that a card and its bench stand for.
use Rattle.std.specs.Prelude.{◌≡◌, ℕ, true, false, List, ◌∷◌, length, if◌then◌else◌, Option, Some, None, IfSome}
use Rattle.chip_port.specs.Seen.{Seen}
use Rattle.small_card.specs.Cards.{FullCard}
use Rattle.small_card.specs.Histories.{History, full_of}
use Rattle.small_card.specs.Legal.{IsLegal, May}
use Rattle.card_store.specs.Holding.{Mark, Holds, StandsAt}
use Rattle.card_store.specs.Standing.{IsSettled}
use Rattle.small_world.specs.Stepping.{attempt}
use Rattle.small_world.specs.Worlds.{SmallWorld}

-- the newest mark is of the whole history
pub record IsNewest (h : History) (marks : List Mark) : Type 0 where
  pub mark : Mark
  pub older : List Mark
  pub newest : marks ≡ mark ∷ older
  pub whole : mark.units ≡ length h.units

-- the history is legal, with the attempt too; nothing is in progress on a lit card
pub record IsSound (w : SmallWorld) : Type 0 where
  pub legal : IsLegal w.history
  pub tried : IfSome (attempt w.marks) (May w.history)
  pub newest : IsNewest w.history w.marks
  pub rests : w.lit ≡ true → attempt w.marks ≡ None

-- the chip is powered, and settled on the card
pub record IsPowered (f : FullCard) (s : Seen) : Type 0 where
  pub settled : IsSettled f s
  pub powered : s.tally.cut ≡ false

-- the bench holds the world's history and marks; what a cut left of a dark card's chip stands for the history, with or without the attempt
pub record HoldsWorld (first : ℕ) (s : Seen) (w : SmallWorld) : Type 0 where
  pub told : s.told ≡ true
  pub holds : Holds s first w.history w.marks
  pub lit : w.lit ≡ true → IsPowered (full_of w.history) s
  pub dark : w.lit ≡ false → (image : List ℕ) → s.leaves image → StandsAt w.history (attempt w.marks) image

-- the card of a lit world
abbrev pub held_in : SmallWorld → Option FullCard
held_in w = if w.lit then Some (full_of w.history) else None

pub record IsOnBench (first : ℕ) (held : Option FullCard) (s : Seen) (w : SmallWorld) : Type 0 where
  pub sound : IsSound w
  pub held_is : held ≡ held_in w
  pub bench : HoldsWorld first s w
  pub plan : s.tally.plan ≡ w.plan
