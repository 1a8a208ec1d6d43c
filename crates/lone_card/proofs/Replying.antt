-- A frame that is a command, one that is none, and one that makes a card.
use Rattle.std.proofs.Common.{◌≡◌, ◌∙◌, ap, sym, subst, refl, ℕ, List, [], ◌∷◌, true, Option, Some, None, Ok}
use Rattle.std.specs.Prelude.{IfOk}
use Rattle.chip_port.specs.Seen.{Seen}
use Rattle.chip_port.specs.Rules.{Sound}
use Rattle.sgp_values.specs.Eids.{IsEid}
use Rattle.small_card.specs.Cards.{FullCard}
use Rattle.small_card.specs.Fresh.{fresh}
use Rattle.small_card.specs.Histories.{History, full_of}
use Rattle.small_card.specs.Legal.{IsLegal}
use Rattle.small_card.specs.Ranges.{IsTable, IsCommand, IsAnswer}
use Rattle.small_card.specs.declared.types.Answer.{Answer}
use Rattle.small_card.specs.declared.types.Answer.TheVariants.{Malformed}
use Rattle.small_card.specs.declared.types.Command.{Command}
use Rattle.small_card.specs.declared.types.Command.TheVariants.{Personalise}
use Rattle.small_card.specs.declared.types.Profile.{Profile}
use Rattle.small_card.proofs.Fresh.{fresh_valid}
use Rattle.small_card.proofs.Validity.{full_start, alone_legal}
use Rattle.package_codec.specs.Replies.{unit_of, after}
use Rattle.es10_codec.specs.Reading.{command_at}
use Rattle.card_store.specs.Holding.{standing, tried}
use Rattle.card_store.specs.Looking.{HasCauseOf}
use Rattle.euicc_core.specs.Steps.{IsReply, Steps, HasCauseOfStep, ChipSteps, IsInRange}
use Rattle.euicc_core.specs.declared.ends.StepEnd.{StepEnd}
use Rattle.euicc_core.specs.declared.ends.StepEnd.TheVariants as step
use Rattle.run_loop.specs.declared.halt.PartStop.TheVariants as stop
use Rattle.lone_card.specs.Cards.{reply_of, after_command, reply_to, after_frame}
use Rattle.lone_card.specs.Marks.{unit_by, unit_in, marked, marks_after}
use Rattle.lone_card.specs.Answering.{StandsFor, Replied, IsBegun, of_step}
use Rattle.lone_card.specs.Benches.{GoesOn, BreaksOff, Works, IsReady}
use Rattle.lone_card.proofs.Chips.{looked, answered, lost}

pub values : (eid : List ℕ) (ps : List Profile) → IsCommand (Personalise eid ps) → IsEid eid × IsTable ps
unfolding IsCommand
values eid ps fits = fits

pub table_of : (eid : List ℕ) (ps : List Profile) → IsCommand (Personalise eid ps) → IsTable ps
table_of eid ps fits = (values eid ps fits).1

-- the history of the card that a first command makes
abbrev pub begun_history : List ℕ → List Profile → History
begun_history eid ps = record { start = fresh eid ps; units = [] }

-- the card of a first command
pub begun : (eid : List ℕ) (ps : List Profile) (held : Option FullCard) → IsCommand (Personalise eid ps) → held ≡ Some (fresh eid ps) → IsBegun (Some (Personalise eid ps)) held
begun eid ps held fits is =
    let v = values eid ps fits in
    record {
      history = begun_history eid ps;
      starts = refl;
      holds = is ∙ ap (λ (f : FullCard). Some f) (sym (full_start (fresh eid ps)));
      legal = alone_legal (fresh eid ps) (fresh_valid eid ps v.0 v.1);
    }

-- a frame that spells a command has its reply, and the card of the history after it
command_replied : (h : History) (f : List ℕ) (c : Command) (now : Option FullCard) (a : Answer) → command_at f ≡ Some c → IsReply h c now a → Replied (Some h) f (Some now) (Ok a)
unfolding reply_to after_frame reply_of after_command
command_replied h f c now a is r =
    let reply_is : reply_of h (command_at f) ≡ reply_of h (Some c) = ap (reply_of h) is in
    let after_is : after_command h (command_at f) ≡ after_command h (Some c) = ap (after_command h) is in (
      ap (λ (x : Answer). Some x) (reply_is ∙ sym r.reply_is),
      (r.card_is ∙ ap (λ (g : History). Some (full_of g)) (sym after_is), subst IsLegal (sym after_is) r.legal),
    )

-- the reply of a step
pub step_replied : (f : List ℕ) (c : Command) (end : StepEnd) (before now : Option FullCard) → command_at f ≡ Some c → Steps c before now end → (o : Option History) → StandsFor (Some before) o → Replied o f (Some now) (of_step end)
step_replied f c (step.Answered a) before now is steps None s = absurd s
step_replied f c (step.Answered a) before now is steps (Some h) s = command_replied h f c now a is (steps h s.1 s.0)
step_replied f c step.Lost before now is steps o s = tt
step_replied f c step.Dark before now is steps o s = tt
step_replied f c step.NoMemory before now is steps o s = tt

-- a card that stands for a history isn't dark
not_dark : (before : Option FullCard) (o : Option History) → StandsFor (Some before) o → before ≡ None → ⊥
not_dark before None s none = absurd s
not_dark before (Some h) s none = let same : Some (full_of h) ≡ None = sym s.0 ∙ none in absurd cc

pub step_cause : (end : StepEnd) (before : Option FullCard) (s t : Seen) → IsReady (Some before) s → (end ≡ step.Dark → before ≡ None) → HasCauseOfStep end s t → HasCauseOf stop.ChipFault s t (of_step end)
step_cause (step.Answered a) before s t ready dark h = record { told = h.told; monotone = h.monotone; cause = λ at. absurd cc }
step_cause step.Lost before s t ready dark h = record { told = h.told; monotone = h.monotone; cause = λ at. h.lost refl }
step_cause step.Dark before s t ready dark h = absurd (not_dark before ready.there.0 ready.there.1 (dark refl))
step_cause step.NoMemory before s t ready dark h = record { told = h.told; monotone = h.monotone; cause = λ at. absurd cc }

pub step_range : (end : StepEnd) → IsInRange end → IfOk (of_step end) IsAnswer
step_range (step.Answered a) r = r
step_range step.Lost r = tt
step_range step.Dark r = tt
step_range step.NoMemory r = tt

-- what a command makes of the chip is what its frame makes
frame_goes : (h : History) (f : List ℕ) (c : Command) (s t : Seen) → command_at f ≡ Some c → GoesOn (Some h) (Some (after h c)) (λ marks. standing (after h c) ∷ tried (unit_of h c) marks) s t
    → GoesOn (Some h) (after_frame (Some h) f) (λ marks. marks_after (Some h) marks f) s t
unfolding after_frame after_command marks_after marked
frame_goes h f c s t is g =
    subst (λ (o : Option Command). GoesOn (Some h) (Some (after_command h o)) (λ marks. marked h o marks) s t) (sym is) g

frame_breaks : (h : History) (f : List ℕ) (c : Command) (s t : Seen) → command_at f ≡ Some c → BreaksOff (Some h) (unit_of h c) s t → BreaksOff (Some h) (unit_in (Some h) f) s t
unfolding unit_in unit_by
frame_breaks h f c s t is b = subst (λ (o : Option Command). BreaksOff (Some h) (unit_by h o) s t) (sym is) b

-- what a step makes of the chip
pub step_works : (f : List ℕ) (c : Command) (end : StepEnd) (before : Option FullCard) (s t : Seen) → command_at f ≡ Some c → Sound 346624 s → Sound 346624 t → s.told ≡ true → ChipSteps c before end s t
    → (o : Option History) → StandsFor (Some before) o → Works o f (of_step end) s t
step_works f c end before s t is sound later told steps None at = absurd at
step_works f c (step.Answered a) before s t is sound later told steps (Some h) at = frame_goes h f c s t is (answered s t h c sound later told (steps h at.1 at.0).ends)
step_works f c step.Lost before s t is sound later told steps (Some h) at = frame_breaks h f c s t is (lost s t h (unit_of h c) sound told (steps h at.1 at.0).ends)
step_works f c step.Dark before s t is sound later told steps (Some h) at = absurd (steps h at.1 at.0).ends
step_works f c step.NoMemory before s t is sound later told steps (Some h) at = looked s t (Some h) (steps h at.1 at.0).ends.0

-- a frame that is no command
none_replied : (h : History) (f : List ℕ) (now : Option FullCard) → command_at f ≡ None → (now ≡ Some (full_of h)) × IsLegal h → Replied (Some h) f (Some now) (Ok Malformed)
unfolding reply_to after_frame reply_of after_command
none_replied h f now is s =
    let after_is : after_command h (command_at f) ≡ h = ap (after_command h) is in (
      ap (λ (o : Option Command). Some (reply_of h o)) is,
      (s.0 ∙ ap (λ (g : History). Some (full_of g)) (sym after_is), subst IsLegal (sym after_is) s.1),
    )

pub not_a_command : (f : List ℕ) (now : Option FullCard) → command_at f ≡ None → (o : Option History) → StandsFor (Some now) o → Replied o f (Some now) (Ok Malformed)
not_a_command f now is None s = absurd s
not_a_command f now is (Some h) s = none_replied h f now is s

none_goes : (h : History) (f : List ℕ) (s t : Seen) → command_at f ≡ None → GoesOn (Some h) (Some h) (λ marks. marks) s t → GoesOn (Some h) (after_frame (Some h) f) (λ marks. marks_after (Some h) marks f) s t
unfolding after_frame after_command marks_after marked
none_goes h f s t is g = subst (λ (o : Option Command). GoesOn (Some h) (Some (after_command h o)) (λ marks. marked h o marks) s t) (sym is) g

pub none_works : (f : List ℕ) (before : Option FullCard) (s t : Seen) (a : Answer) → command_at f ≡ None → ((o : Option History) → GoesOn o o (λ marks. marks) s t) → (o : Option History) → StandsFor (Some before) o → Works o f (Ok a) s t
none_works f before s t a is g None at = absurd at
none_works f before s t a is g (Some h) at = none_goes h f s t is (g (Some h))
