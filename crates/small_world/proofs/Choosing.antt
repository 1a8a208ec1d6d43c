-- A boot's two choices leave two cards, so a chip shows one of them alone.
use Rattle.std.proofs.Common.{◌≡◌, ◌≢◌, ℕ, List, [], subst, Option, None, Some}
use Rattle.std.specs.Prelude.{IfSome}
use Rattle.small_card.specs.Histories.{History, card_of, full_of, with_unit}
use Rattle.small_card.specs.Laws.{AreAlikeInNumbers}
use Rattle.small_card.specs.Legal.{May, IsLegal, IsLegalFrom}
use Rattle.small_card.specs.Units.{CardUnit}
use Rattle.small_card.proofs.Progress.{no_return, numbers_tell}
use Rattle.card_store.specs.Standing.{Stands}
use Rattle.card_store.proofs.Cards.{stands_for_one}

pub with_differs : (h : History) (u : CardUnit) → IsLegal h → May h u → full_of (with_unit h u) ≢ full_of h
unfolding IsLegal IsLegalFrom with_unit
with_differs h u l m = no_return h.start u [] h.units (l, m)

pub with_numbers : (h : History) (u : CardUnit) → IsLegal h → May h u → AreAlikeInNumbers (card_of (with_unit h u)) (card_of h) → ⊥
unfolding IsLegal IsLegalFrom with_unit
with_numbers h u l m = numbers_tell h.start u [] h.units (l, m)

pub with_image : (h : History) (u : CardUnit) (image : List ℕ) → IsLegal h → May h u → Stands (full_of (with_unit h u)) image → Stands (full_of h) image → ⊥
with_image h u image l m s t = with_differs h u l m (stands_for_one (full_of (with_unit h u)) (full_of h) image s t)

-- the attempt that a mark has may happen
pub attempt_may : (h : History) (o : Option CardUnit) (u : CardUnit) → o ≡ Some u → IfSome o (May h) → May h u
attempt_may h None u e t = absurd (cc)
attempt_may h (Some v) u e t = let is : v ≡ u = cc in subst (May h) is t
