-- Probes, and messages to the assistant, take turns of the small world.
use Rattle.std.proofs.Common.{◌≡◌, ℕ, Bool, true, false, cond, List, [], ◌∷◌, ◌++◌, Option, Some, None, Result, Ok, Err, refl, sym, ◌∙◌, ap, subst}
use Rattle.std.specs.Prelude.{codes, ◌==◌, ◌%◌}
use Rattle.std.specs.Fmt.{decimal}
use Rattle.std.proofs.lemmas.List.{append-nil}
use Rattle.small_card.specs.declared.types.Command.{Command}
use Rattle.small_card.specs.declared.types.Command.TheVariants as command
use Rattle.esipa_codec.specs.Assistant.{IpaEvent, act_of, probe, message, strikes, failures}
use Rattle.esipa_codec.specs.declared.ends.Act.{Act}
use Rattle.esipa_codec.specs.declared.ends.Act.TheVariants as act
use Rattle.esipa_codec.specs.declared.messages.Post.{Post}
use Rattle.esipa_codec.specs.declared.messages.ToIpa.{ToIpa}
use Rattle.esipa_codec.specs.declared.messages.ToIpa.TheVariants as to_ipa
use Rattle.iot_schedule.specs.declared.types.Line.{Line}
use Rattle.iot_schedule.specs.declared.types.Line.TheVariants as line
use Rattle.iot_schedule.specs.declared.types.Pick.{Pick}
use Rattle.small_world.specs.Acting.{command_of, posts_of, hearing, sending, done, acts}
use Rattle.small_world.specs.Lines.{acted, gone_down}
use Rattle.small_world.specs.Network.{picked}
use Rattle.small_world.specs.Printing.{printed, probe_text, down_text, obeyed_text, sent_for}
use Rattle.small_world.specs.Runs.{given, brought}
use Rattle.small_world.specs.Stretches.{is_costly, is_cut}
use Rattle.small_world.specs.Texts.{no_such, rest}
use Rattle.small_world.specs.Worlds.{SmallWorld}
use Rattle.small_world.specs.declared.reply.Reply.{Reply}
use Rattle.world_network.specs.Networks.{Parts, IsNetwork, down_act, hearing_from}
use Rattle.world_network.proofs.Standing.{network_alike}
use Rattle.iot_world.specs.Asking.{Says}
use Rattle.iot_world.specs.Carrying.{IsCarried, PrintsAlso, PrintsReply}
use Rattle.iot_world.specs.Quiet.{QuietEnd}
use Rattle.iot_world.specs.declared.ends.Halt.{Halt}
use Rattle.iot_world.specs.declared.ends.Halt.TheVariants.{Limit, Foreign, NoMemory}
use Rattle.iot_world.proofs.Resting.{IsIdleLine}

-- nothing is sent
sends_none : (n : Parts) (w : SmallWorld) (ps : List Post) → ps ≡ [] → IsNetwork n w → IsNetwork n (sending ps w)
sends_none n w ps none = network_alike n w (sending ps w) refl refl refl (ap (λ (x : List Post). w.to_eims ++ x) none ∙ append-nil w.to_eims) refl

-- a word that was said on a line that doesn't reach the card
pub said_quietly : (l : Line) (w : SmallWorld) (text : List ℕ) (result : Result (Unit {0}) Halt) (n : Parts) (before out : List ℕ) → printed w l false ≡ text → IsNetwork n (acted l false false w) → Says text before out result → QuietEnd l w result n before out
said_quietly l w text (Ok done) n before out prints network says = record { says = says ∙ ap (λ (x : List ℕ). before ++ x) (sym prints); network = network }
said_quietly l w text (Err Limit) n before out prints network says = absurd says
said_quietly l w text (Err Foreign) n before out prints network says = says
said_quietly l w text (Err NoMemory) n before out prints network says = tt

-- the third failed probe
pub probe_carried : (w : SmallWorld) (passed : Bool) → act_of w.assistant (probe passed) ≡ act.Rollback → IsCarried w (line.Probe passed) (probe passed) command.Rollback
unfolding given command_of posts_of acted acts is_costly is_cut
probe_carried w passed e = record {
  gives = record { is = ap command_of e; no_boot = refl; costs = refl; no_cut = refl };
  does = λ lost. ap (λ (a : Act). done (command_of a) (posts_of a) lost (hearing (probe passed) w)) e;
}

pub probe_prints : (w : SmallWorld) (passed : Bool) → act_of w.assistant (probe passed) ≡ act.Rollback → PrintsReply w (line.Probe passed) command.Rollback
unfolding printed probe_text command_of
probe_prints w passed e = λ lost. ap (λ (a : Act). probe_text w (probe passed) lost (command_of a)) e

-- any other probe
probe_rests : (es : List IpaEvent) (passed : Bool) → (act_of es (probe passed) ≡ act.Rollback → ⊥) → act_of es (probe passed) ≡ act.Rest
unfolding act_of
probe_rests es true never = refl
probe_rests es false never = by_count (failures (probe false ∷ es) % 3 == 0) refl
  where
    by_count : (b : Bool) → failures (probe false ∷ es) % 3 == 0 ≡ b → cond b act.Rollback act.Rest ≡ act.Rest
    by_count true e = absurd (never (ap (λ (b : Bool). cond b act.Rollback act.Rest) e))
    by_count false e = refl

pub probe_idle : (w : SmallWorld) (passed : Bool) → act_of w.assistant (probe passed) ≡ act.Rest → IsIdleLine w (line.Probe passed)
unfolding given command_of is_cut
probe_idle w passed e = record { gives_none = ap command_of e; no_boot = refl; no_cut = refl }

pub probe_said : (w : SmallWorld) (passed : Bool) (n : Parts) (count : ℕ) (result : Result (Unit {0}) Halt) (before out : List ℕ) → act_of w.assistant (probe passed) ≡ act.Rest → IsNetwork n (hearing (probe passed) w) → count ≡ strikes (probe passed ∷ w.assistant)
    → Says (codes "strikes " ++ decimal count) before out result → QuietEnd (line.Probe passed) w result n before out
unfolding printed probe_text command_of posts_of acted acts
probe_said w passed n count result before out e network is says =
    said_quietly (line.Probe passed) w (codes "strikes " ++ decimal count) result n before out
    (ap (λ (a : Act). probe_text w (probe passed) false (command_of a)) e ∙ ap (λ (k : ℕ). codes "strikes " ++ decimal k) (sym is))
    (subst (λ (a : Act). IsNetwork n (done (command_of a) (posts_of a) false (hearing (probe passed) w))) (sym e) (sends_none n (hearing (probe passed) w) [] refl network))
    says

pub probe_else : (w : SmallWorld) (passed : Bool) (a : Act) → a ≡ act_of w.assistant (probe passed) → (a ≡ act.Rollback → ⊥) → act_of w.assistant (probe passed) ≡ act.Rest
probe_else w passed a is never = probe_rests w.assistant passed (λ e. never (is ∙ e))

-- the message that was named
pub record IsBrought (w : SmallWorld) (good : Bool) (o : Option Reply) (a : Act) : Type 0 where
  pub reply : Reply
  pub there : o ≡ Some reply
  pub does : a ≡ act_of w.assistant (message reply.from reply.message good)

pub brought_by : (w : SmallWorld) (good : Bool) (o : Option Reply) (a : Act) → Some a ≡ down_act w good o → IsBrought w good o a
unfolding down_act
brought_by w good None a e = absurd cc
brought_by w good (Some r) a e = let same : a ≡ act_of w.assistant (message r.from r.message good) = cc in record { reply = r; there = refl; does = same }

pub none_brought : (w : SmallWorld) (good : Bool) (o : Option Reply) → None ≡ down_act w good o → o ≡ None
unfolding down_act
none_brought w good None e = refl
none_brought w good (Some r) e = absurd cc

pub heard_brought : (w : SmallWorld) (good : Bool) (o : Option Reply) (a : Act) (n : Parts) (b : IsBrought w good o a) → IsNetwork n (hearing_from good o w) → IsNetwork n (hearing (message b.reply.from b.reply.message good) w)
unfolding hearing_from
heard_brought w good o a n b network = subst (λ (x : Option Reply). IsNetwork n (hearing_from good x w)) b.there network

pub down_carried : (w : SmallWorld) (pick : Pick) (good : Bool) (a : Act) (c : Command) (b : IsBrought w good (picked pick w.to_ipa) a) → command_of a ≡ Some c → IsCarried w (line.Down pick good) (message b.reply.from b.reply.message good) c
unfolding given acted gone_down acts is_costly is_cut
down_carried w pick good a c b e =
    let r = b.reply in
    let ev = message r.from r.message good in
    let gives : command_of (act_of w.assistant ev) ≡ Some c = ap command_of (sym b.does) ∙ e in
    record {
      gives = record { is = ap (brought w good) b.there ∙ gives; no_boot = refl; costs = refl; no_cut = refl };
      does = λ lost. ap (λ (o : Option Reply). gone_down o good lost w) b.there ∙ ap (λ (o : Option Command). done o (posts_of (act_of w.assistant ev)) lost (hearing ev w)) gives;
    }

pub down_prints : (w : SmallWorld) (pick : Pick) (good : Bool) (a : Act) (c : Command) (b : IsBrought w good (picked pick w.to_ipa) a) → command_of a ≡ Some c → PrintsAlso w (line.Down pick good) (message b.reply.from b.reply.message good) c
unfolding printed down_text obeyed_text sent_for
down_prints w pick good a c b e =
    let r = b.reply in
    let ev = message r.from r.message good in
    λ lost. ap (down_text w good lost) b.there ∙ ap (obeyed_text w ev lost) (ap command_of (sym b.does) ∙ e)

-- a message that asks for nothing
message_sends_none : (es : List IpaEvent) (from : List ℕ) (m : ToIpa) (good : Bool) → posts_of (act_of es (message from m good)) ≡ []
unfolding act_of posts_of
message_sends_none es from (to_ipa.Package bytes) good = refl
message_sends_none es from to_ipa.Nothing good = refl
message_sends_none es from (to_ipa.Ack seq) good = refl

pub rest_idle : (w : SmallWorld) (pick : Pick) (good : Bool) (a : Act) (b : IsBrought w good (picked pick w.to_ipa) a) → command_of a ≡ None → IsIdleLine w (line.Down pick good)
unfolding given is_cut
rest_idle w pick good a b e = record { gives_none = ap (brought w good) b.there ∙ ap command_of (sym b.does) ∙ e; no_boot = refl; no_cut = refl }

pub rest_said : (w : SmallWorld) (pick : Pick) (good : Bool) (a : Act) (n : Parts) (result : Result (Unit {0}) Halt) (before out : List ℕ) (b : IsBrought w good (picked pick w.to_ipa) a) → command_of a ≡ None
    → IsNetwork n (hearing (message b.reply.from b.reply.message good) w) → Says rest before out result → QuietEnd (line.Down pick good) w result n before out
unfolding printed down_text obeyed_text acted gone_down acts
rest_said w pick good a n result before out b e network says =
    let r = b.reply in
    let ev = message r.from r.message good in
    let none : command_of (act_of w.assistant ev) ≡ None = ap command_of (sym b.does) ∙ e in
    said_quietly (line.Down pick good) w rest result n before out (ap (down_text w good false) b.there ∙ ap (obeyed_text w ev false) none)
    (subst (λ (o : Option Reply). IsNetwork n (gone_down o good false w)) (sym b.there)
    (subst (λ (o : Option Command). IsNetwork n (done o (posts_of (act_of w.assistant ev)) false (hearing ev w))) (sym none) (sends_none n (hearing ev w) (posts_of (act_of w.assistant ev)) (message_sends_none w.assistant r.from r.message good) network)))
    says

pub unnamed_idle : (w : SmallWorld) (pick : Pick) (good : Bool) → picked pick w.to_ipa ≡ None → IsIdleLine w (line.Down pick good)
unfolding given is_cut
unnamed_idle w pick good e = record { gives_none = ap (brought w good) e; no_boot = refl; no_cut = refl }

pub unnamed_said : (w : SmallWorld) (pick : Pick) (good : Bool) (n : Parts) (result : Result (Unit {0}) Halt) (before out : List ℕ) → picked pick w.to_ipa ≡ None → IsNetwork n (hearing_from good (picked pick w.to_ipa) w) → Says no_such before out result → QuietEnd (line.Down pick good) w result n before out
unfolding printed down_text acted gone_down hearing_from
unnamed_said w pick good n result before out e network says =
    said_quietly (line.Down pick good) w no_such result n before out (ap (down_text w good false) e)
    (subst (λ (o : Option Reply). IsNetwork n (gone_down o good false w)) (sym e) (subst (λ (o : Option Reply). IsNetwork n (hearing_from good o w)) e network)) says
