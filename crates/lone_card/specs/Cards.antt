-- What frames make of a card, and what is sent for them.
use Rattle.std.specs.Prelude.{◌≢◌, ℕ, List, [], ◌∷◌, ◌++◌, Option, Some, None, option_map}
use Rattle.iot_bytes.specs.Frames.{frame}
use Rattle.small_card.specs.Histories.{History}
use Rattle.small_card.specs.Legal.{IsLegal, IsOnce}
use Rattle.small_card.specs.declared.types.Answer.{Answer}
use Rattle.small_card.specs.declared.types.Answer.TheVariants.{Personalised, Malformed}
use Rattle.small_card.specs.declared.types.Command.{Command}
use Rattle.small_card.specs.declared.types.Command.TheVariants.{Personalise}
use Rattle.package_codec.specs.Replies.{reply, after}
use Rattle.es10_codec.specs.Reading.{command_at}
use Rattle.es10_codec.specs.Spelling.{answer}
use Rattle.small_card.specs.Fresh.{fresh}

-- The history of the card that a command personalises: no unit yet.
abbrev pub started : Option Command → Option History
started (Some (Personalise eid profiles)) = Some (record { start = fresh eid profiles; units = [] })
started other = None

-- The reply of a card to a command, or to a frame that is none.
unfoldable pub reply_of : History → Option Command → Answer
reply_of h (Some c) = reply h c
reply_of h None = Malformed

-- The history after a command; a frame that is none leaves it.
unfoldable pub after_command : History → Option Command → History
after_command h (Some c) = after h c
after_command h None = h

-- The reply to a frame. Where there is no card yet, only a frame that personalises one has a reply.
unfoldable pub reply_to : Option History → List ℕ → Option Answer
reply_to (Some h) f = Some (reply_of h (command_at f))
reply_to None f = option_map (λ h. Personalised) (started (command_at f))

-- The history after a frame. Where there is no card yet, it is that of the card that the frame personalises.
unfoldable pub after_frame : Option History → List ℕ → Option History
after_frame (Some h) f = Some (after_command h (command_at f))
after_frame None f = started (command_at f)

-- The history after these frames, from a card's, or from none.
unfoldable pub history_of : Option History → List (List ℕ) → Option History
history_of o [] = o
history_of o (f ∷ fs) = history_of (after_frame o f) fs

-- The octets that are sent for a reply.
abbrev pub sent_for : Option Answer → List ℕ
sent_for (Some a) = frame (answer a)
sent_for None = []

-- The octets that are sent for these frames.
unfoldable pub output : Option History → List (List ℕ) → List ℕ
output o [] = []
output o (f ∷ fs) = sent_for (reply_to o f) ++ output (after_frame o f) fs

-- Where there is no card yet, the first frame, if there is one, personalises it. So each frame has a reply.
abbrev pub Begins : Option History → List (List ℕ) → Type 0
Begins (Some h) fs = Unit {0}
Begins None [] = Unit {0}
Begins None (f ∷ fs) = reply_to None f ≢ None

-- If there is a card, its history is legal: its packages took effect once, in rising counters.
abbrev pub IsRightful : Option History → Type 0
IsRightful None = Unit {0}
IsRightful (Some h) = IsLegal h × IsOnce h
