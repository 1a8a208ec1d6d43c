-- What the assistant does keeps the invariant.
use Rattle.std.proofs.Common.{◌≡◌, ℕ, Bool, not, cond, List, [], ◌∷◌, Option, None, Some, Result, Ok, Err}
use Rattle.std.specs.Prelude.{◌==◌}
use Rattle.std.proofs.lemmas.Bool.{cond_both}
use Rattle.small_card.specs.Lists.{Every}
use Rattle.small_card.specs.Cards.{EimList}
use Rattle.small_card.specs.EimOperations.{is_empty_list, last_association}
use Rattle.small_card.specs.Histories.{History, card_of, former_of, full_of}
use Rattle.small_card.specs.Legal.{IsLegal}
use Rattle.small_card.specs.Ranges.{IsAnswer, IsCommand, IsRefused}
use Rattle.std.specs.List.{AllPass}
use Rattle.sgp_values.specs.Ranges.{is_octet}
use Rattle.package_codec.proofs.InRange.{reads_in_range}
use Rattle.package_codec.proofs.Replying.{reply_fits}
use Rattle.esipa_codec.specs.Eims.{EimState}
use Rattle.small_card.specs.Units.{is_pending}
use Rattle.small_card.specs.declared.types.Answer.{Answer}
use Rattle.small_card.specs.declared.types.Answer.TheVariants as answer
use Rattle.small_card.specs.declared.types.Armed.{Armed}
use Rattle.small_card.specs.declared.types.Command.{Command}
use Rattle.small_card.specs.declared.types.Command.TheVariants as command
use Rattle.small_card.specs.declared.types.Package.{Package}
use Rattle.small_card.specs.declared.types.PackageResult.{PackageResult}
use Rattle.small_card.specs.declared.types.Refused.{Refused}
use Rattle.small_card.proofs.ListLemmas.{every_mono, every_map}
use Rattle.package_codec.specs.Checks.{check}
use Rattle.package_codec.specs.Replies.{load_reply, rollback_reply, initial_reply, reply, after, unit_of}
use Rattle.esipa_codec.specs.Assistant.{IpaEvent, asked, post_of, refusal_to, results_to, answer_act, act_of}
use Rattle.esipa_codec.specs.declared.messages.Post.{Post}
use Rattle.small_world.specs.Acting.{command_of, posts_of, hearing, told_answer, is_answered, asked_card, done, acts}
use Rattle.small_world.specs.Forms.{newest, forms}
use Rattle.small_world.specs.Has.{Has}
use Rattle.small_world.specs.Lines.{told_loaded, handed}
use Rattle.small_world.specs.Stepping.{attempt, commanded, lost_step, answered_step}
use Rattle.small_world.specs.Worlds.{SmallWorld}
use Rattle.small_world.proofs.Commanding.{IsGood, commanded_keeps}
use Rattle.small_world.proofs.HasLemmas.{has_every}
use Rattle.small_world.proofs.Invariant.{IsSent, KeepsWorld, sent_grown, keeps_up}
use Rattle.small_world.proofs.Numbering.{numbered}

-- messages that are sent are true of the history
abbrev pub AreSent : History → List Post → Type 0
AreSent h ps = Every (λ p. IsSent (forms h) p.message) ps

-- for these answers the assistant sends what is true
abbrev pub SendsTrue : History → Answer → Type 0
SendsTrue h a = (es : List IpaEvent) → AreSent h (posts_of (answer_act es a))

refusal_true : (h : History) (o : Option (List ℕ)) (f : Refused) → IsRefused f → AreSent h (posts_of (refusal_to o f))
unfolding posts_of
refusal_true h None f i = tt
refusal_true h (Some id) f i = (i, tt)

results_true : (h : History) (rs : List PackageResult) → Every (λ r. Has r (forms h)) rs → AreSent h (posts_of (results_to rs))
unfolding posts_of
results_true h [] t = tt
results_true h (r ∷ rs) t = every_map (λ x. Has x (forms h)) (λ p. IsSent (forms h) p.message) post_of (λ x i. i) (r ∷ rs) t

pending_forms : (h : History) → IsLegal h → h.start.card.results.pending ≡ [] → Every (λ r. Has r (forms h)) (card_of h).results.pending
unfolding full_of
pending_forms h l e =
    let n = numbered h l e in
    every_mono (λ r. Has r (newest h)) (λ r. Has r (forms h)) (λ r i. has_every (λ x. Has x (forms h)) (newest h) r n.inside i) (card_of h).results.pending n.pending

load_true : (h : History) (r : Result Package Refused) → IsAnswer (load_reply h r) → SendsTrue h (load_reply h r)
unfolding posts_of IsAnswer
load_true h (Ok p) a es = tt
load_true h (Err f) a es = refusal_true h (asked es) f a

load_answer : (h : History) (good : Bool) (bytes : List ℕ) → IsLegal h → AllPass is_octet bytes → IsAnswer (load_reply h (check h good bytes))
unfolding reply IsCommand
load_answer h good bytes l o = reply_fits reads_in_range h (command.Load good bytes) l o

roll_true : (h : History) (o : Option Armed) → SendsTrue h (rollback_reply h o)
unfolding posts_of
roll_true h (Some a) es = tt
roll_true h None es = tt

initial_true : (h : History) (ms : EimList) → SendsTrue h (initial_reply ms)
unfolding posts_of
initial_true h ms es =
    cond_both (not (is_empty_list ms.entries)) (answer.InitialRefused 1) (cond (ms.next == last_association) (answer.InitialRefused 2) (answer.Associated ms.next)) (λ a. AreSent h (posts_of (answer_act es a))) (λ _. tt)
    (λ _. cond_both (ms.next == last_association) (answer.InitialRefused 2) (answer.Associated ms.next) (λ a. AreSent h (posts_of (answer_act es a))) (λ _. tt) (λ _. tt))

reply_true : (h : History) (c : Command) (ds : List EimState) → IsLegal h → h.start.card.results.pending ≡ [] → IsGood ds c → SendsTrue h (reply h c)
unfolding reply posts_of
reply_true h (command.Personalise eid profiles) ds l f g es = tt
reply_true h (command.Load good bytes) ds l f g es = load_true h (check h good bytes) (load_answer h good bytes l g) es
reply_true h command.Rollback ds l f g es = roll_true h (former_of h) es
reply_true h (command.Remove seq) ds l f g es = cond_both (is_pending seq (card_of h).results.pending) answer.Removed answer.Absent (λ a. AreSent h (posts_of (answer_act es a))) (λ _. tt) (λ _. tt)
reply_true h command.Results ds l f g es = results_true h (card_of h).results.pending (pending_forms h l f)
reply_true h command.Eims ds l f g es = tt
reply_true h (command.Initial i a k) ds l f g es = initial_true h (card_of h).eims es

-- what was true before a command is true after it
after_true : (h : History) (c : Command) (ps : List Post) → AreSent h ps → AreSent (after h c) ps
unfolding after
after_true h c ps s = every_mono (λ p. IsSent (forms h) p.message) (λ p. IsSent (forms (after h c)) p.message) (λ p i. sent_grown h (unit_of h c) p.message i) ps s

commanded_true : (w : SmallWorld) (c : Command) (lost : Bool) (ps : List Post) → AreSent w.history ps → AreSent (commanded c lost w).history ps
unfolding commanded
commanded_true w c lost ps s =
    cond_both w.lit (cond lost (lost_step c w) (answered_step c w)) w (λ v. AreSent v.history ps)
    (λ _. cond_both lost (lost_step c w) (answered_step c w) (λ v. AreSent v.history ps) (λ _. s) (λ _. after_true w.history c ps s))
    (λ _. s)

told_keeps : (w : SmallWorld) (a : Answer) → SendsTrue w.history a → KeepsWorld w → KeepsWorld (told_answer a w)
unfolding told_answer act_of
told_keeps w a s k = keeps_up w.history (attempt w.marks) w.to_eims (posts_of (answer_act w.assistant a)) w.to_ipa w.eims (s w.assistant) k

replied_keeps : (w : SmallWorld) (c : Command) (lost : Bool) → IsGood w.eims c → KeepsWorld w → KeepsWorld (told_answer (reply w.history c) (commanded c lost w))
replied_keeps w c lost g k =
    told_keeps (commanded c lost w) (reply w.history c)
    (λ es. commanded_true w c lost (posts_of (answer_act es (reply w.history c))) (reply_true w.history c w.eims k.legal k.fresh g es))
    (commanded_keeps w c lost g k)

pub asked_keeps : (w : SmallWorld) (c : Command) (lost : Bool) → IsGood w.eims c → KeepsWorld w → KeepsWorld (asked_card c lost w)
unfolding asked_card
asked_keeps w c lost g k =
    cond_both (is_answered lost w) (told_answer (reply w.history c) (commanded c lost w)) (commanded c lost w) KeepsWorld
    (λ _. replied_keeps w c lost g k)
    (λ _. commanded_keeps w c lost g k)

-- an act whose command is good, or whose messages are true
abbrev pub IsGoodAct : SmallWorld → Option Command → List Post → Type 0
IsGoodAct w None ps = AreSent w.history ps
IsGoodAct w (Some c) ps = IsGood w.eims c

done_keeps : (w : SmallWorld) (e : IpaEvent) (o : Option Command) (ps : List Post) (lost : Bool) → IsGoodAct w o ps → KeepsWorld w → KeepsWorld (done o ps lost (hearing e w))
done_keeps w e None ps lost g k = keeps_up w.history (attempt w.marks) w.to_eims ps w.to_ipa w.eims g k
done_keeps w e (Some c) ps lost g k = asked_keeps (hearing e w) c lost g k

pub acts_keeps : (w : SmallWorld) (e : IpaEvent) (lost : Bool) → IsGoodAct w (command_of (act_of w.assistant e)) (posts_of (act_of w.assistant e)) → KeepsWorld w → KeepsWorld (acts e lost w)
unfolding acts
acts_keeps w e lost g k = done_keeps w e (command_of (act_of w.assistant e)) (posts_of (act_of w.assistant e)) lost g k

loaded_keeps : (w : SmallWorld) (a : Answer) → KeepsWorld w → KeepsWorld (told_loaded a w)
unfolding posts_of
loaded_keeps w answer.Personalised k = k
loaded_keeps w (answer.Loaded r) k = told_keeps w (answer.Loaded r) (λ es. tt) k
loaded_keeps w (answer.LoadRefused f) k = k
loaded_keeps w (answer.RolledBack seq) k = k
loaded_keeps w answer.NotPermitted k = k
loaded_keeps w answer.Removed k = k
loaded_keeps w answer.Absent k = k
loaded_keeps w (answer.Results rs) k = k
loaded_keeps w (answer.Eims es) k = k
loaded_keeps w (answer.Associated association) k = k
loaded_keeps w (answer.InitialRefused code) k = k
loaded_keeps w answer.Malformed k = k
loaded_keeps w answer.AlreadyPersonal k = k

pub handed_keeps : (w : SmallWorld) (good : Bool) (bytes : List ℕ) (lost : Bool) → IsGood w.eims (command.Load good bytes) → KeepsWorld w → KeepsWorld (handed good bytes lost w)
unfolding handed
handed_keeps w good bytes lost g k =
    let c : Command = command.Load good bytes in
    let now : KeepsWorld (commanded c lost w) = commanded_keeps w c lost g k in
    cond_both (is_answered lost w) (told_loaded (reply w.history c) (commanded c lost w)) (commanded c lost w) KeepsWorld
    (λ _. loaded_keeps (commanded c lost w) (reply w.history c) now)
    (λ _. now)
