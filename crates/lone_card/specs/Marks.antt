-- The marks of a card that answers frames: one for each answer of its chip, the newest first.
use Rattle.std.specs.Prelude.{List, [], ◌∷◌, ℕ, Option, Some, None}
use Rattle.small_card.specs.Units.{CardUnit}
use Rattle.small_card.specs.Histories.{History}
use Rattle.small_card.specs.declared.types.Command.{Command}
use Rattle.package_codec.specs.Replies.{unit_of, after}
use Rattle.es10_codec.specs.Reading.{command_at}
use Rattle.card_store.specs.Holding.{Mark, standing, tried}
use Rattle.lone_card.specs.Cards.{started, after_frame}

-- The unit that a command is about to make, if any; a frame that is none makes no unit.
unfoldable pub unit_by : History → Option Command → Option CardUnit
unit_by h (Some c) = unit_of h c
unit_by h None = None

-- The unit of a frame.
unfoldable pub unit_in : Option History → List ℕ → Option CardUnit
unit_in (Some h) f = unit_by h (command_at f)
unit_in None f = None

-- The marks after a command: its unit is the attempt of the last one, and the history after it has a mark of its own.
-- A frame that is no command needs no answer of the chip.
unfoldable pub marked : History → Option Command → List Mark → List Mark
marked h (Some c) marks = standing (after h c) ∷ tried (unit_of h c) marks
marked h None marks = marks

-- The mark of a card that was just opened or personalised.
abbrev pub opened : Option History → List Mark
opened (Some h) = standing h ∷ []
opened None = []

-- The marks after a frame.
unfoldable pub marks_after : Option History → List Mark → List ℕ → List Mark
marks_after (Some h) marks f = marked h (command_at f) marks
marks_after None marks f = opened (started (command_at f))

-- The marks after these frames.
unfoldable pub marks_from : Option History → List Mark → List (List ℕ) → List Mark
marks_from o marks [] = marks
marks_from o marks (f ∷ fs) = marks_from (after_frame o f) (marks_after o marks f) fs

-- The marks after these frames of a card that was opened before them, or of one that the first of them makes.
abbrev pub marks_of : Option History → List (List ℕ) → List Mark
marks_of start fs = marks_from start (opened start) fs
