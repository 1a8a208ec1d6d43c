-- The last mark is that of the history as it stands.
use Rattle.std.proofs.Common.{◌≡◌, List, [], ◌∷◌, ◌++◌, ℕ, Option, Some, None, refl}
use Rattle.small_card.specs.Histories.{History}
use Rattle.small_card.specs.declared.types.Command.{Command}
use Rattle.es10_codec.specs.Reading.{command_at}
use Rattle.package_codec.specs.Replies.{unit_of}
use Rattle.card_store.specs.Holding.{Mark, tried}
use Rattle.lone_card.specs.Cards.{started, after_command, after_frame, history_of}
use Rattle.lone_card.specs.Marks.{marked, opened, marks_after, marks_from}
use Rattle.lone_card.specs.Benches.{IsTopped}

pub marks_from-push : (o : Option History) (marks : List Mark) (fs : List (List ℕ)) (f : List ℕ) → marks_from o marks (fs ++ f ∷ []) ≡ marks_after (history_of o fs) (marks_from o marks fs) f
unfolding marks_from history_of
marks_from-push o marks [] f = refl
marks_from-push o marks (g ∷ gs) f = marks_from-push (after_frame o g) (marks_after o marks g) gs f

pub opened_topped : (o : Option History) → IsTopped o (opened o)
opened_topped (Some h) = ([], refl)
opened_topped None = refl

command_topped : (h : History) (c : Option Command) (marks : List Mark) → IsTopped (Some h) marks → IsTopped (Some (after_command h c)) (marked h c marks)
unfolding after_command marked
command_topped h (Some c) marks top = (tried (unit_of h c) marks, refl)
command_topped h None marks top = top

frame_topped : (o : Option History) (marks : List Mark) (f : List ℕ) → IsTopped o marks → IsTopped (after_frame o f) (marks_after o marks f)
unfolding after_frame marks_after
frame_topped (Some h) marks f top = command_topped h (command_at f) marks top
frame_topped None marks f top = opened_topped (started (command_at f))

frames_topped : (o : Option History) (marks : List Mark) (fs : List (List ℕ)) → IsTopped o marks → IsTopped (history_of o fs) (marks_from o marks fs)
unfolding history_of marks_from
frames_topped o marks [] top = top
frames_topped o marks (f ∷ fs) top = frames_topped (after_frame o f) (marks_after o marks f) fs (frame_topped o marks f top)

pub marks_topped : (start : Option History) (fs : List (List ℕ)) → IsTopped (history_of start fs) (marks_from start (opened start) fs)
marks_topped start fs = frames_topped start (opened start) fs (opened_topped start)
