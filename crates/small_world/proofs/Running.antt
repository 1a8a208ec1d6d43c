-- Each line keeps the invariant, and so does each run from a start world.
use Rattle.std.proofs.Common.{◌≡◌, ℕ, ◌-◌, Bool, true, false, List, [], ◌∷◌, length, refl, Option, None, Some}
use Rattle.std.specs.Prelude.{IfSome, ◌==◌, ◌%◌}
use Rattle.std.proofs.lemmas.Bool.{cond_both}
use Rattle.small_card.specs.Lists.{Every}
use Rattle.small_card.specs.Cards.{FullCard}
use Rattle.small_card.specs.Fresh.{fresh}
use Rattle.small_card.specs.Histories.{History}
use Rattle.small_card.specs.Legal.{IsLegal, IsLegalFrom, May}
use Rattle.small_card.specs.Units.{CardUnit}
use Rattle.small_card.specs.Valid.{IsValid}
use Rattle.small_card.specs.declared.types.Command.TheVariants as command
use Rattle.small_card.proofs.Fresh.{fresh_valid}
use Rattle.esipa_codec.specs.Assistant.{poll, push, message, probe, restart, act_of, failures}
use Rattle.esipa_codec.specs.Eims.{EimState, bound_to, ordered, skipped}
use Rattle.esipa_codec.specs.declared.ends.Act.{Act}
use Rattle.esipa_codec.specs.declared.ends.Act.TheVariants as act
use Rattle.esipa_codec.specs.declared.messages.ToIpa.{ToIpa}
use Rattle.esipa_codec.specs.declared.messages.ToIpa.TheVariants as down
use Rattle.modem_bank.specs.Modems.{Seen}
use Rattle.iot_schedule.specs.Ranges.{IsDevice, IsStep}
use Rattle.iot_schedule.specs.declared.types.Device.{Device}
use Rattle.iot_schedule.specs.declared.types.Line.{Line}
use Rattle.iot_schedule.specs.declared.types.Line.TheVariants as line
use Rattle.iot_schedule.specs.declared.types.Pick.{Pick}
use Rattle.iot_schedule.specs.declared.types.Pick.TheVariants.{At, Last}
use Rattle.small_world.specs.Acting.{command_of, posts_of, acts}
use Rattle.small_world.specs.Forms.{newest, newest_from, forms, forms_from}
use Rattle.small_world.specs.Lines.{polled, gone_down, acted, attended}
use Rattle.small_world.specs.Lossless.{NoneLost, Made}
use Rattle.small_world.specs.Network.{is_known, picked}
use Rattle.small_world.specs.Runs.{Turn, after_turn, world_after, AreSteps}
use Rattle.small_world.specs.Stepping.{attempt}
use Rattle.small_world.specs.Worlds.{SmallWorld, started, start_world, eid_of}
use Rattle.small_world.specs.declared.reply.Reply.{Reply}
use Rattle.small_world.proofs.Acts.{IsGoodAct, acts_keeps, handed_keeps}
use Rattle.small_world.proofs.Commanding.{spelled_octets, commanded_keeps, booted_keeps}
use Rattle.small_world.proofs.Delivering.{gone_up_keeps, bound_change, ordered_change, skipped_change, joined_keeps}
use Rattle.small_world.proofs.HasLemmas.{at_every}
use Rattle.small_world.proofs.Invariant.{IsSent, IsAnswered, MayCome, KeepsWorld, at_eim_keeps}
use Rattle.small_world.proofs.Keeping.{none_lost, all_made}

-- what is picked has what every element has
pub picked_every : {X : Type 0} (P : X → Type 0) (p : Pick) (xs : List X) → Every P xs → IfSome (picked p xs) P
unfolding picked
picked_every P (At n) xs h = at_every P xs n h
picked_every P Last xs h = at_every P xs (length xs - 1) h

polled_keeps : (w : SmallWorld) (id : List ℕ) → KeepsWorld w → KeepsWorld (polled id w)
unfolding polled act_of command_of posts_of
polled_keeps w id k = cond_both (is_known id w.eims) (acts (poll id (eid_of w)) false w) w KeepsWorld (λ _. acts_keeps w (poll id (eid_of w)) false (k.eid, tt) k) (λ _. k)

-- the act for a message that was sent is good
message_good : (w : SmallWorld) (from : List ℕ) (m : ToIpa) (good : Bool) → IsAnswered w.eims m
    → IsGoodAct w (command_of (act_of w.assistant (message from m good))) (posts_of (act_of w.assistant (message from m good)))
unfolding act_of command_of posts_of
message_good w from (down.Package bytes) good a = spelled_octets bytes a
message_good w from down.Nothing good a = tt
message_good w from (down.Ack seq) good a = a

gone_down_keeps : (w : SmallWorld) (o : Option Reply) (good lost : Bool) → IfSome o (λ r. IsAnswered w.eims r.message) → KeepsWorld w → KeepsWorld (gone_down o good lost w)
unfolding gone_down
gone_down_keeps w None good lost a k = k
gone_down_keeps w (Some r) good lost a k = acts_keeps w (message r.from r.message good) lost (message_good w r.from r.message good a) k

probe_good : (w : SmallWorld) (passed : Bool) → IsGoodAct w (command_of (act_of w.assistant (probe passed))) (posts_of (act_of w.assistant (probe passed)))
unfolding act_of command_of posts_of
probe_good w true = tt
probe_good w false = cond_both {A = Act} (failures (probe false ∷ w.assistant) % 3 == 0) act.Rollback act.Rest (λ a. IsGoodAct w (command_of a) (posts_of a)) (λ _. tt) (λ _. tt)

push_keeps : (w : SmallWorld) (lost : Bool) → KeepsWorld w → KeepsWorld (acts push lost w)
unfolding act_of command_of posts_of
push_keeps w lost k = acts_keeps w push lost tt k

restart_keeps : (w : SmallWorld) (lost : Bool) → KeepsWorld w → KeepsWorld (acts restart lost w)
unfolding act_of command_of posts_of
restart_keeps w lost k = acts_keeps w restart lost tt k

pub acted_keeps : (w : SmallWorld) (l : Line) (lost taken : Bool) → IsStep l → KeepsWorld w → KeepsWorld (acted l lost taken w)
unfolding acted IsStep
acted_keeps w (line.Eim id) lost taken i k = joined_keeps w id i k
acted_keeps w (line.Initial id address key) lost taken i k = commanded_keeps w (command.Initial id address key) lost i k
acted_keeps w (line.Bind id association last) lost taken i k =
    at_eim_keeps w.history (attempt w.marks) w.to_eims w.to_ipa w.eims id (bound_to association last) (bound_change (forms w.history) association last i.1 i.2) k
acted_keeps w (line.Order id body) lost taken i k = at_eim_keeps w.history (attempt w.marks) w.to_eims w.to_ipa w.eims id (ordered body) (ordered_change (forms w.history) body i.1) k
acted_keeps w (line.Skip id) lost taken i k = at_eim_keeps w.history (attempt w.marks) w.to_eims w.to_ipa w.eims id skipped (skipped_change (forms w.history)) k
acted_keeps w (line.Poll id) lost taken i k = polled_keeps w id k
acted_keeps w (line.Up pick) lost taken i k = gone_up_keeps w (picked pick w.to_eims) (picked_every (λ p. IsSent (forms w.history) p.message) pick w.to_eims k.sent) k
acted_keeps w (line.Down pick good) lost taken i k = gone_down_keeps w (picked pick w.to_ipa) good lost (picked_every (λ r. IsAnswered w.eims r.message) pick w.to_ipa k.acked) k
acted_keeps w (line.Load good bytes) lost taken i k = handed_keeps w good bytes lost i k
acted_keeps w line.Push lost taken i k = push_keeps w lost k
acted_keeps w (line.Probe passed) lost taken i k = acts_keeps w (probe passed) lost (probe_good w passed) k
acted_keeps w line.Rollback lost taken i k = commanded_keeps w command.Rollback lost tt k
acted_keeps w line.Restart lost taken i k = restart_keeps w lost k
acted_keeps w (line.Cut calls tear) lost taken i k = k
acted_keeps w line.Boot lost taken i k = booted_keeps w lost taken k
acted_keeps w line.Show lost taken i k = k
acted_keeps w (line.Kept id) lost taken i k = k
acted_keeps w (line.Detach at) lost taken i k = k
acted_keeps w line.Modems lost taken i k = k

turn_keeps : (w : SmallWorld) (t : Turn) → IsStep t.line → KeepsWorld w → KeepsWorld (after_turn w t)
unfolding after_turn attended
turn_keeps w t i k = acted_keeps w t.line t.lost t.taken i k

started_keeps : (f : FullCard) (enabled : Option (List ℕ)) (handed_in : List Seen) → IsValid f → f.card.results.pending ≡ [] → KeepsWorld (started f enabled handed_in)
unfolding started IsLegal IsLegalFrom newest newest_from forms forms_from attempt
started_keeps f enabled handed_in v e = record { legal = v; fresh = e; eid = v.card.eid; tried = tt; kept = tt; sent = tt; truthful = tt; acked = tt; apart = tt; fit = tt }

start_keeps : (d : Device) (handed_in : List Seen) → IsDevice d → KeepsWorld (start_world d handed_in)
unfolding start_world fresh
start_keeps d handed_in i = started_keeps (fresh d.eid d.profiles) _ handed_in (fresh_valid d.eid d.profiles i.eid i.profiles) refl

-- the invariant holds after any turns, whatever was lost or taken
pub run_keeps : (d : Device) (handed_in : List Seen) (ts : List Turn) → IsDevice d → AreSteps ts → KeepsWorld (world_after (start_world d handed_in) ts)
unfolding world_after AreSteps
run_keeps d handed_in [] i s = start_keeps d handed_in i
run_keeps d handed_in (t ∷ ts) i s = turn_keeps (world_after (start_world d handed_in) ts) t s.0 (run_keeps d handed_in ts i s.1)

pub run_lossless : (w : SmallWorld) → KeepsWorld w → NoneLost w.history w.eims
run_lossless w k = none_lost w.history w.eims k.legal k.fresh k.truthful k.kept

pub run_made : (w : SmallWorld) → KeepsWorld w → Made w.history w.eims
run_made w k = all_made w.history w.eims k.truthful

come_may : (h : History) (es : List EimState) (o : Option CardUnit) → IfSome o (MayCome h es) → IfSome o (May h)
come_may h es None t = tt
come_may h es (Some u) t = t.may

-- the unit that was in progress may happen
pub run_tried : (w : SmallWorld) → KeepsWorld w → IfSome (attempt w.marks) (May w.history)
run_tried w k = come_may w.history w.eims (attempt w.marks) k.tried
