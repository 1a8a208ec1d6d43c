-- A chip that holds a history goes on holding it over the calls of a card.
use Rattle.std.specs.Prelude.{◌≡◌, ◌⊎◌, ℕ, List, ◌∷◌, Option, None}
use Rattle.chip_port.specs.Seen.{Seen}
use Rattle.small_card.specs.Units.{CardUnit}
use Rattle.small_card.specs.Histories.{History, full_of}
use Rattle.small_card.specs.declared.types.Command.{Command}
use Rattle.package_codec.specs.Replies.{unit_of, after}
use Rattle.card_store.specs.Looking.{Looks}
use Rattle.card_store.specs.Standing.{Stands}
use Rattle.card_store.specs.Holding.{Mark, Holds, IsHeld, StandsAt, followed, standing}
use Rattle.euicc_core.specs.Answers.{Answers}

-- an answered step adds a mark of the history after the command; its unit, if any, is the attempt of the mark before
abbrev pub StepsAreHeld : Seen → Seen → Type 0
StepsAreHeld s t =
    (first : ℕ) (h : History) (c : Command) (m : Mark) (older : List Mark)
    → IsHeld s first h m older (unit_of h c)
    → Answers (StandsAt h (unit_of h c)) (full_of (after h c)) s t
    → Holds t first (after h c) (standing (after h c) ∷ record m { attempt = unit_of h c } ∷ older)

-- an opening adds a mark: the card is that of the history, or that with the attempt
abbrev pub OpeningsAreHeld : Seen → Seen → Type 0
OpeningsAreHeld s t =
    (first : ℕ) (h : History) (m : Mark) (older : List Mark) (u v : Option CardUnit)
    → IsHeld s first h m older u → (v ≡ None) ⊎ (v ≡ u)
    → Answers (Stands (full_of (followed h v))) (full_of (followed h v)) s t
    → Holds t first (followed h v) (standing (followed h v) ∷ record m { attempt = u } ∷ older)

-- a look at the chip changes nothing
abbrev pub LooksAreHeld : Seen → Seen → Type 0
LooksAreHeld s t = (n first : ℕ) (h : History) (marks : List Mark) → Looks n s t → Holds s first h marks → Holds t first h marks
