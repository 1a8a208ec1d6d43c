-- A chip holds a history and its marks, one mark for each answer, the newest first.
use Rattle.std.specs.Prelude.{◌≡◌, ◌⊎◌, ℕ, ◌+◌, ◌≤◌, Bool, true, List, [], ◌∷◌, length, Option, Some, None}
use Rattle.chip_port.specs.Seen.{Seen}
use Rattle.chip_port.specs.Runs.{Ran, Ended}
use Rattle.small_card.specs.Units.{CardUnit}
use Rattle.small_card.specs.Histories.{History, full_of, with_unit}
use Rattle.small_card.specs.Prefixes.{first_units}
use Rattle.card_store.specs.Standing.{Stands, StandsForEither}

-- how many units stood as the answer was given, and the unit that was in progress before the next answer
pub record Mark : Type 0 where
  pub units : ℕ
  pub attempt : Option CardUnit

-- what an image stands for between an answer and the next: the units that stood, with or without the attempt
abbrev pub StandsAt : History → Option CardUnit → List ℕ → Type 0
StandsAt h None image = Stands (full_of h) image
StandsAt h (Some u) image = StandsForEither (full_of h) (full_of (with_unit h u)) image

-- so many units of the history stood; every image that a cut may have left since this answer stands for them, with or without the attempt, and one of the images for them alone
pub record IsMarked (h : History) (m : Mark) (left : List ℕ → Type 0) : Type 0 where
  pub within : m.units ≤ length h.units
  pub each : (image : List ℕ) → left image → StandsAt (first_units m.units h) m.attempt image
  pub some : (image : List ℕ) × left image × Stands (full_of (first_units m.units h)) image

-- the marks of the answers, of which the oldest one has this number
abbrev pub AreMarked : Seen → ℕ → History → List Mark → Type 0
AreMarked s first h [] = Unit {0}
AreMarked s first h (m ∷ older) = IsMarked h m (s.left (first + length older)) × AreMarked s first h older

pub record Holds (s : Seen) (first : ℕ) (h : History) (marks : List Mark) : Type 0 where
  pub answers : s.marks.answers + 1 ≡ first + length marks
  pub marked : AreMarked s first h marks

-- the history with a unit more, if there is one
abbrev pub followed : History → Option CardUnit → History
followed h None = h
followed h (Some u) = with_unit h u

-- the mark of a history as it stands, with nothing in progress
abbrev pub standing : History → Mark
standing h = record { units = length h.units; attempt = None }

-- this unit, or none, was in progress after the newest mark
unfoldable pub tried : Option CardUnit → List Mark → List Mark
tried u [] = []
tried u (m ∷ older) = record m { attempt = u } ∷ older

-- the chip holds the history up to its last unit, and nothing else than this unit is in progress
pub record IsHeld (s : Seen) (first : ℕ) (h : History) (m : Mark) (older : List Mark) (u : Option CardUnit) : Type 0 where
  pub told : s.told ≡ true
  pub holds : Holds s first h (m ∷ older)
  pub all : m.units ≡ length h.units
  pub attempt : (m.attempt ≡ None) ⊎ (m.attempt ≡ u)

-- a run that ends with an answer adds a mark: the unit in progress stands now, or it doesn't
abbrev pub AnswersAreHeld : Seen → Seen → Type 0
AnswersAreHeld s t =
    (first n : ℕ) (h : History) (m : Mark) (older : List Mark) (u v : Option CardUnit)
    → IsHeld s first h m older u → (v ≡ None) ⊎ (v ≡ u)
    → Ended n (StandsAt h u) (Stands (full_of (followed h v))) s t
    → Holds t first (followed h v) (standing (followed h v) ∷ record m { attempt = u } ∷ older)

-- a run without an answer leaves the unit that was in progress with the last mark
abbrev pub LossesAreHeld : Seen → Seen → Type 0
LossesAreHeld s t =
    (first n : ℕ) (ok : Bool) (h : History) (m : Mark) (older : List Mark) (u : Option CardUnit)
    → IsHeld s first h m older u → Ran n ok (StandsAt h u) s t → Holds t first h (record m { attempt = u } ∷ older)
