-- A network stands for a world, before and after each event.
use Rattle.std.proofs.Common.{◌≡◌, ℕ, ◌+◌, ◌≤◌, ◌<◌, Bool, true, false, cond, List, [], ◌∷◌, ◌++◌, length, map, refl, ◌∙◌, ap, sym, subst, arith, Option, None, Some}
use Rattle.std.specs.Prelude.{◌-◌, slice_get, option_map, IfSome}
use Rattle.std.proofs.lemmas.Bool.{cond-true, cond-false}
use Rattle.std.proofs.lemmas.List.{append-nil, length-map}
use Rattle.std.proofs.lemmas.Option.{slice_get-map}
use Rattle.std.proofs.lemmas.Nat.{mod_below}
use Rattle.small_card.specs.Lists.{Every}
use Rattle.small_card.specs.Ranges.{IsAnswer, IsResult, IsRefused, IsCommand}
use Rattle.small_card.specs.declared.types.Answer.{Answer}
use Rattle.small_card.specs.declared.types.Answer.TheVariants as answer
use Rattle.small_card.specs.declared.types.PackageResult.{PackageResult}
use Rattle.small_card.specs.declared.types.Refused.{Refused}
use Rattle.sgp_values.specs.Eids.{IsEid}
use Rattle.esipa_codec.specs.Assistant.{IpaEvent, message, act_of, restart, answered, answer_act, poll, post_of, results_to, refusal_to, asked, strikes, failures}
use Rattle.esipa_codec.specs.Eims.{EimState, new_eim, message_end, heard}
use Rattle.esipa_codec.specs.Ranges.{IsToEim, IsToIpa}
use Rattle.esipa_codec.specs.declared.messages.Post.{Post}
use Rattle.esipa_codec.specs.declared.messages.ToEim.{ToEim}
use Rattle.esipa_codec.specs.declared.messages.ToIpa.{ToIpa}
use Rattle.esipa_codec.specs.declared.messages.ToIpa.TheVariants as down
use Rattle.esipa_codec.specs.declared.ends.MessageEnd.{MessageEnd}
use Rattle.esipa_codec.specs.declared.ends.MessageEnd.TheVariants as says
use Rattle.eim_queue.specs.Queues.{IsSendable}
use Rattle.iot_schedule.specs.declared.types.Pick.{Pick}
use Rattle.iot_schedule.specs.declared.types.Pick.TheVariants.{At, Last}
use Rattle.small_card.proofs.ListLemmas.{same_yes}
use Rattle.small_world.proofs.HasLemmas.{has_found}
use Rattle.small_world.proofs.Running.{picked_every}
use Rattle.small_world.proofs.Delivering.{joined_apart}
use Rattle.world_network.specs.declared.mail.Letter.{Letter}
use Rattle.ipa_core.specs.Assistants.{IsIpa}
use Rattle.ipa_core.specs.declared.assistant.Ipa.{Ipa}
use Rattle.small_world.specs.Acting.{hearing, sending, posts_of, command_of, acts}
use Rattle.small_world.specs.Lines.{polled}
use Rattle.small_world.specs.Lossless.{AreApart}
use Rattle.small_world.specs.Network.{is_named, is_known, eim_of, at_eim, joined, picked, reply_of, replies_of, gone_up}
use Rattle.small_world.specs.Octets.{octets_sent, most_octets_sent, IsWithin}
use Rattle.small_world.specs.Worlds.{SmallWorld, eid_of, start_world, started}
use Rattle.small_world.specs.declared.reply.Reply.{Reply}
use Rattle.small_card.specs.Fresh.{fresh}
use Rattle.iot_schedule.specs.declared.types.Device.{Device}
use Rattle.modem_bank.specs.Modems.{Seen}
use Rattle.esipa_codec.specs.declared.ends.Act.{Act}
use Rattle.esipa_codec.specs.declared.ends.OrderEnd.{OrderEnd}
use Rattle.esipa_codec.specs.Spelling.{to_eim, to_ipa}
use Rattle.world_network.specs.Mails.{IsMail, IsPost, IsReply, post_letter, reply_letter, posts_octets, replies_octets, with_posts, with_replies, replies_from}
use Rattle.world_network.specs.Managers.{AreManagers, IfBooked}
use Rattle.world_network.specs.Networks.{Parts, IsNetwork, acting, said_to, heard_of}
use Rattle.world_network.specs.declared.mail.Mail.{Mail}
use Rattle.world_network.specs.declared.managers.Manager.{Manager}
use Rattle.world_network.proofs.Places.{apart_at, ordered_then}
use Rattle.world_network.proofs.Sending.{post_len, reply_len, sums_append, posts_stand, replies_stand}

-- What the network stands for in a world is all that it sees of it.
pub network_alike : (n : Parts) (w v : SmallWorld) → eid_of v ≡ eid_of w → v.assistant ≡ w.assistant → v.eims ≡ w.eims → v.to_eims ≡ w.to_eims → v.to_ipa ≡ w.to_ipa → IsNetwork n w → IsNetwork n v
unfolding IsWithin octets_sent
network_alike n w v d a e u i h = record {
  eid = h.eid ∙ sym d;
  ipa = subst (IsIpa n.ipa) (sym a) h.ipa;
  eims = subst (AreManagers n.managers) (sym e) h.eims;
  mail = subst (λ (ps : List Post). IsMail n.mail ps v.to_ipa) (sym u) (subst (IsMail n.mail w.to_eims) (sym i) h.mail);
  within = subst (λ (ps : List Post). posts_octets ps + replies_octets v.to_ipa ≤ most_octets_sent) (sym u) (subst (λ (rs : List Reply). posts_octets w.to_eims + replies_octets rs ≤ most_octets_sent) (sym i) h.within);
  apart = subst AreApart (sym e) h.apart;
}

within_of : (m : Mail) (w : SmallWorld) → IsMail m w.to_eims w.to_ipa → m.octets ≤ most_octets_sent → IsWithin w
unfolding IsWithin octets_sent
within_of m w h few = subst (λ (k : ℕ). k ≤ most_octets_sent) h.octets few

-- An eIM of the network changed.
pub changed_network : (n : Parts) (w : SmallWorld) (ms : List Manager) (id : List ℕ) (change : EimState → EimState) → IsNetwork n w → ((e : EimState) → (change e).id ≡ e.id) → AreManagers ms (at_eim id change w.eims)
    → IsNetwork (record n { managers = ms }) (record w { eims = at_eim id change w.eims })
unfolding IsWithin octets_sent
changed_network n w ms id change h i k = record {
  eid = h.eid;
  ipa = h.ipa;
  eims = k;
  mail = h.mail;
  within = h.within;
  apart = apart_at id change w.eims i h.apart;
}

-- The assistant heard something, and messages were sent.
pub sent_network : (n : Parts) (w : SmallWorld) (ipa : Ipa) (x : IpaEvent) (ps : List Post) → IsNetwork n w → IsIpa ipa (x ∷ w.assistant) → Every IsPost ps → (with_posts ps n.mail).octets ≤ most_octets_sent
    → IsNetwork (record n { ipa = ipa; mail = with_posts ps n.mail }) (sending ps (hearing x w))
sent_network n w ipa x ps h i f few =
    let mail : IsMail (with_posts ps n.mail) (w.to_eims ++ ps) w.to_ipa = posts_stand n.mail w.to_eims ps w.to_ipa h.mail f in
    record {
      eid = h.eid;
      ipa = i;
      eims = h.eims;
      mail = mail;
      within = within_of (with_posts ps n.mail) (sending ps (hearing x w)) mail few;
      apart = h.apart;
    }

-- The assistant heard something.
pub heard_network : (n : Parts) (w : SmallWorld) (ipa : Ipa) (x : IpaEvent) → IsNetwork n w → IsIpa ipa (x ∷ w.assistant) → IsNetwork (record n { ipa = ipa }) (hearing x w)
unfolding IsWithin octets_sent
heard_network n w ipa x h i = record { eid = h.eid; ipa = i; eims = h.eims; mail = h.mail; within = h.within; apart = h.apart }

posts_fit : (rs : List PackageResult) → Every IsResult rs → Every IsPost (map post_of rs)
unfolding IsToEim
posts_fit [] h = tt
posts_fit (r ∷ rs) h = (h.0, posts_fit rs h.1)

results_fit : (rs : List PackageResult) → Every IsResult rs → Every IsPost (posts_of (results_to rs))
unfolding posts_of
results_fit [] h = tt
results_fit (r ∷ rs) h = posts_fit (r ∷ rs) h

refusal_fits : (to : Option (List ℕ)) (f : Refused) → IsRefused f → Every IsPost (posts_of (refusal_to to f))
unfolding posts_of IsToEim
refusal_fits None f h = tt
refusal_fits (Some id) f h = (h, tt)

answer_fits : (es : List IpaEvent) (a : Answer) → IsAnswer a → Every IsPost (posts_of (answer_act es a))
unfolding posts_of IsAnswer
answer_fits es answer.Personalised h = tt
answer_fits es (answer.Loaded r) h = tt
answer_fits es (answer.LoadRefused f) h = refusal_fits (asked es) f h
answer_fits es (answer.RolledBack seq) h = tt
answer_fits es answer.NotPermitted h = tt
answer_fits es answer.Removed h = tt
answer_fits es answer.Absent h = tt
answer_fits es (answer.Results rs) h = results_fit rs h.each
answer_fits es (answer.Eims xs) h = tt
answer_fits es (answer.Associated association) h = tt
answer_fits es (answer.InitialRefused code) h = tt
answer_fits es answer.Malformed h = tt
answer_fits es answer.AlreadyPersonal h = tt

-- What the assistant sends for an answer in range is in range.
pub answered_fits : (es : List IpaEvent) (a : Answer) → IsAnswer a → Every IsPost (posts_of (act_of es (answered a)))
unfolding act_of
answered_fits es a h = answer_fits es a h

pub poll_fits : (es : List IpaEvent) (id eid : List ℕ) → IsEid eid → Every IsPost (posts_of (act_of es (poll id eid)))
unfolding act_of posts_of IsToEim
poll_fits es id eid h = (h, tt)

pub polled_known : (w : SmallWorld) (id : List ℕ) → is_known id w.eims ≡ true → polled id w ≡ sending (posts_of (act_of w.assistant (poll id (eid_of w)))) (hearing (poll id (eid_of w)) w)
unfolding polled acts act_of posts_of command_of
polled_known w id k = cond-true (is_known id w.eims) (acts (poll id (eid_of w)) false w) w k

pub polled_unknown : (w : SmallWorld) (id : List ℕ) → is_known id w.eims ≡ false → polled id w ≡ w
unfolding polled
polled_unknown w id k = cond-false (is_known id w.eims) (acts (poll id (eid_of w)) false w) w k

-- The assistant acted, and its messages were sent.
pub acted_network : (n : Parts) (w : SmallWorld) (ipa : Ipa) (x : IpaEvent) (a : Act) (m : Mail) → IsNetwork n w → IsIpa ipa (x ∷ w.assistant) → a ≡ act_of w.assistant x → Every IsPost (posts_of a) → m.octets ≤ most_octets_sent → m ≡ with_posts (posts_of a) n.mail
    → IsNetwork (record n { ipa = ipa; mail = m }) (acting x w)
acted_network n w ipa x a m h i is f few e =
    let ps : List Post = posts_of a in
    let there : IsNetwork (record n { ipa = ipa; mail = with_posts ps n.mail }) (sending ps (hearing x w)) = sent_network n w ipa x ps h i f (subst (λ (k : Mail). k.octets ≤ most_octets_sent) e few) in
    subst (λ (k : Mail). IsNetwork (record n { ipa = ipa; mail = k }) (acting x w)) (sym e)
    (subst (λ (b : Act). IsNetwork (record n { ipa = ipa; mail = with_posts ps n.mail }) (sending (posts_of b) (hearing x w))) is there)

sending_octets : (v : SmallWorld) (ps : List Post) → octets_sent (sending ps v) ≡ octets_sent v + posts_octets ps
unfolding octets_sent
sending_octets v ps =
    let k : posts_octets (v.to_eims ++ ps) ≡ posts_octets v.to_eims + posts_octets ps = sums_append post_len v.to_eims ps in
    omega (arith, k)

mail_octets : (n : Parts) (w : SmallWorld) → IsNetwork n w → n.mail.octets ≡ octets_sent w
unfolding octets_sent
mail_octets n w h = h.mail.octets

heard_octets : (w : SmallWorld) (x : IpaEvent) → octets_sent (hearing x w) ≡ octets_sent w
unfolding octets_sent
heard_octets w x = refl

pub acted_limit : (n : Parts) (w : SmallWorld) (x : IpaEvent) (a : Act) → IsNetwork n w → a ≡ act_of w.assistant x → most_octets_sent < n.mail.octets + posts_octets (posts_of a) → most_octets_sent < octets_sent (acting x w)
acted_limit n w x a h is l =
    let ps : List Post = posts_of a in
    let s = sending_octets (hearing x w) ps in
    let o = heard_octets w x in
    let m = mail_octets n w h in
    subst (λ (b : Act). most_octets_sent < octets_sent (sending (posts_of b) (hearing x w))) is (omega (arith, l, s, o, m))

pub joined_there : (n : Parts) (w : SmallWorld) (id : List ℕ) → IsNetwork n w → is_known id w.eims ≡ true → IsNetwork n (joined id w)
unfolding joined
joined_there n w id h k = network_alike n w (joined id w) refl refl (cond-true (is_known id w.eims) w.eims (w.eims ++ new_eim id (eid_of w) ∷ []) k) refl refl h

pub joined_new : (n : Parts) (w : SmallWorld) (ms : List Manager) (id : List ℕ) → IsNetwork n w → is_known id w.eims ≡ false → AreManagers ms (w.eims ++ new_eim id n.eid ∷ []) → IsNetwork (record n { managers = ms }) (joined id w)
unfolding joined IsWithin octets_sent
joined_new n w ms id h k s =
    let es : List EimState = w.eims ++ new_eim id (eid_of w) ∷ [] in
    let is : cond (is_known id w.eims) w.eims es ≡ es = cond-false (is_known id w.eims) w.eims es k in
    record {
      eid = h.eid;
      ipa = h.ipa;
      eims = subst (AreManagers ms) (sym is) (subst (λ (eid : List ℕ). AreManagers ms (w.eims ++ new_eim id eid ∷ [])) h.eid s);
      mail = h.mail;
      within = h.within;
      apart = subst AreApart (sym is) (joined_apart id (eid_of w) w.eims h.apart k);
    }

no_mail : IsMail (record { to_eims = []; to_ipa = []; octets = 0 }) [] []
no_mail = record { to_eims = refl; to_ipa = refl; octets = refl; posts_fit = tt; replies_fit = tt }

pub new_network : (d : Device) (handed_in : List Seen) (eid : List ℕ) (ipa : Ipa) (ms : List Manager) (m : Mail) → d.eid ≡ eid → IsIpa ipa [] → ms ≡ [] → m ≡ record { to_eims = []; to_ipa = []; octets = 0 }
    → IsNetwork (record { eid = eid; ipa = ipa; managers = ms; mail = m }) (start_world d handed_in)
unfolding start_world started fresh IsWithin octets_sent
new_network d handed_in eid ipa ms m e i s k = record {
  eid = sym e;
  ipa = i;
  eims = subst (λ (xs : List Manager). AreManagers xs []) (sym s) tt;
  mail = subst (λ (x : Mail). IsMail x [] []) (sym k) no_mail;
  within = omega arith;
  apart = tt;
}

pub restarted_network : (n : Parts) (w : SmallWorld) (ipa : Ipa) → IsNetwork n w → IsIpa ipa (restart ∷ w.assistant) → IsNetwork (record n { ipa = ipa }) (acts restart false w)
unfolding acts act_of command_of posts_of
restarted_network n w ipa h i = network_alike (record n { ipa = ipa }) (hearing restart w) (acts restart false w) refl refl refl (append-nil w.to_eims) refl (heard_network n w ipa restart h i)

pub booked_then : (r : Option OrderEnd) (P Q : Type 0) → (P → Q) → IfBooked r P → IfBooked r Q
booked_then None P Q f p = f p
booked_then (Some end) P Q f p = ordered_then end P Q f p

-- An assistant has at most two strikes.
pub few_strikes : (ipa : Ipa) (es : List IpaEvent) → IsIpa ipa es → ipa.strikes ≤ 2
unfolding strikes
few_strikes ipa es h = let l = mod_below (failures es) 3 (omega arith) in omega (arith, l, h.strikes_are)

picked_map : {X Y : Type 0} (f : X → Y) (pick : Pick) (xs : List X) → picked pick (map f xs) ≡ option_map f (picked pick xs)
unfolding picked
picked_map f (At n) xs = slice_get-map f xs n
picked_map f Last xs = ap (λ (n : ℕ). slice_get (map f xs) (n - 1)) (length-map xs f) ∙ slice_get-map f xs (length xs - 1)

from_map : {X Y : Type 0} (f : X → Y) (o : Option X) (y : Y) → Some y ≡ option_map f o → (x : X) × (o ≡ Some x) × (y ≡ f x)
from_map f None y e = absurd (cc)
from_map f (Some x) y e = (x, refl, (let is : y ≡ f x = cc in is))

none_map : {X Y : Type 0} (f : X → Y) (o : Option X) → None ≡ option_map f o → o ≡ None
none_map f None e = refl
none_map f (Some x) e = absurd (cc)

some_has : {X : Type 0} (P : X → Type 0) (o : Option X) (x : X) → o ≡ Some x → IfSome o P → P x
some_has P o x e h = subst (λ (q : Option _). IfSome q P) e h

-- The named letter is that of the named message.
pub named_post : (m : Mail) (ps : List Post) (rs : List Reply) (pick : Pick) (l : Letter) (x : ToEim) → IsMail m ps rs → Some l ≡ picked pick m.to_eims → ((y : ToEim) → IsToEim y → l.octets ≡ to_eim y → x ≡ y)
    → picked pick ps ≡ Some (record { to = l.peer; message = x })
named_post m ps rs pick l x h e again =
    let (p, there, is) = from_map post_letter (picked pick ps) l (e ∙ ap (picked pick) h.to_eims ∙ picked_map post_letter pick ps) in
    let fits : IsToEim p.message = some_has IsPost (picked pick ps) p there (picked_every IsPost pick ps h.posts_fit) in
    let to_is : p.to ≡ l.peer = sym (ap (λ (k : Letter). k.peer) is) in
    let message_is : p.message ≡ x = sym (again p.message fits (ap (λ (k : Letter). k.octets) is)) in
    let made : List ℕ → ToEim → Post = λ t y. record { to = t; message = y } in
    there ∙ ap (λ t. Some (made t p.message)) to_is ∙ ap (λ y. Some (made l.peer y)) message_is

pub named_reply : (m : Mail) (ps : List Post) (rs : List Reply) (pick : Pick) (l : Letter) (x : ToIpa) → IsMail m ps rs → Some l ≡ picked pick m.to_ipa → ((y : ToIpa) → IsToIpa y → l.octets ≡ to_ipa y → x ≡ y)
    → picked pick rs ≡ Some (record { from = l.peer; message = x })
named_reply m ps rs pick l x h e again =
    let (r, there, is) = from_map reply_letter (picked pick rs) l (e ∙ ap (picked pick) h.to_ipa ∙ picked_map reply_letter pick rs) in
    let fits : IsToIpa r.message = some_has IsReply (picked pick rs) r there (picked_every IsReply pick rs h.replies_fit) in
    let from_is : r.from ≡ l.peer = sym (ap (λ (k : Letter). k.peer) is) in
    let message_is : r.message ≡ x = sym (again r.message fits (ap (λ (k : Letter). k.octets) is)) in
    let made : List ℕ → ToIpa → Reply = λ t y. record { from = t; message = y } in
    there ∙ ap (λ t. Some (made t r.message)) from_is ∙ ap (λ y. Some (made l.peer y)) message_is

pub unnamed_post : (m : Mail) (ps : List Post) (rs : List Reply) (pick : Pick) → IsMail m ps rs → None ≡ picked pick m.to_eims → picked pick ps ≡ None
unnamed_post m ps rs pick h e = none_map post_letter (picked pick ps) (e ∙ ap (picked pick) h.to_eims ∙ picked_map post_letter pick ps)

pub unnamed_reply : (m : Mail) (ps : List Post) (rs : List Reply) (pick : Pick) → IsMail m ps rs → None ≡ picked pick m.to_ipa → picked pick rs ≡ None
unnamed_reply m ps rs pick h e = none_map reply_letter (picked pick rs) (e ∙ ap (picked pick) h.to_ipa ∙ picked_map reply_letter pick rs)

-- The command that a message in range brings is in range.
pub brought_fits : (from : List ℕ) (m : ToIpa) (good : Bool) → IsToIpa m → IfSome (command_of (act_of [] (message from m good))) IsCommand
unfolding act_of command_of IsCommand IsToIpa
brought_fits from (down.Package bytes) good h = h.each
brought_fits from down.Nothing good h = tt
brought_fits from (down.Ack seq) good h = h

said_same : (p : Post) (o : Option EimState) → said_to p o ≡ option_map (message_end p.message) o
unfolding said_to
said_same p None = refl
said_same p (Some e) = refl

pub heard_same : (p : Post) (es : List EimState) → heard_of (Some p) es ≡ option_map (message_end p.message) (eim_of p.to es)
unfolding heard_of
heard_same p es = said_same p (eim_of p.to es)

replies_said : (p : Post) (es : List EimState) (o : Option EimState) → eim_of p.to es ≡ o → replies_of p o ≡ replies_from p.to (said_to p o)
unfolding replies_of said_to eim_of
replies_said p es None q = refl
replies_said p es (Some e) q =
    let f = has_found (is_named p.to) es e q in
    ap (λ (id : List ℕ). reply_of id (message_end p.message e)) (sym (same_yes p.to e.id f.1))

-- What is sent for a message is what its eIM said.
replies_are : (p : Post) (es : List EimState) → replies_of p (eim_of p.to es) ≡ replies_from p.to (heard_of (Some p) es)
unfolding heard_of
replies_are p es = replies_said p es (eim_of p.to es) refl

-- A message reached its eIM.
pub gone_up_network : (n : Parts) (w : SmallWorld) (p : Post) (ms : List Manager) (m : Mail) (end : Option MessageEnd) → IsNetwork n w → AreManagers ms (at_eim p.to (heard p.message) w.eims) → ((e : EimState) → (heard p.message e).id ≡ e.id) → end ≡ heard_of (Some p) w.eims
    → Every IsReply (replies_from p.to end) → m.octets ≤ most_octets_sent → m ≡ with_replies (replies_from p.to end) n.mail → IsNetwork (record n { managers = ms; mail = m }) (gone_up (Some p) w)
unfolding gone_up
gone_up_network n w p ms m end h s i is f few e =
    let rs : List Reply = replies_from p.to end in
    let v : SmallWorld = record w { eims = at_eim p.to (heard p.message) w.eims; to_ipa = w.to_ipa ++ rs } in
    let mail : IsMail m w.to_eims (w.to_ipa ++ rs) = subst (λ (k : Mail). IsMail k w.to_eims (w.to_ipa ++ rs)) (sym e) (replies_stand n.mail w.to_eims w.to_ipa rs h.mail f) in
    let there : IsNetwork (record n { managers = ms; mail = m }) v = record {
      eid = h.eid;
      ipa = h.ipa;
      eims = s;
      mail = mail;
      within = within_of m v mail few;
      apart = apart_at p.to (heard p.message) w.eims i h.apart;
    } in
    let same : rs ≡ replies_of p (eim_of p.to w.eims) = ap (replies_from p.to) is ∙ sym (replies_are p w.eims) in
    subst (λ (qs : List Reply). IsNetwork (record n { managers = ms; mail = m }) (record w { eims = at_eim p.to (heard p.message) w.eims; to_ipa = w.to_ipa ++ qs })) same there

up_octets : (w : SmallWorld) (p : Post) → octets_sent (gone_up (Some p) w) ≡ octets_sent w + replies_octets (replies_of p (eim_of p.to w.eims))
unfolding gone_up octets_sent
up_octets w p =
    let rs : List Reply = replies_of p (eim_of p.to w.eims) in
    let k : replies_octets (w.to_ipa ++ rs) ≡ replies_octets w.to_ipa + replies_octets rs = sums_append reply_len w.to_ipa rs in
    omega (arith, k)

pub gone_up_limit : (n : Parts) (w : SmallWorld) (p : Post) (end : Option MessageEnd) → IsNetwork n w → end ≡ heard_of (Some p) w.eims → most_octets_sent < n.mail.octets + replies_octets (replies_from p.to end) → most_octets_sent < octets_sent (gone_up (Some p) w)
gone_up_limit n w p end h is l =
    let same : replies_from p.to end ≡ replies_of p (eim_of p.to w.eims) = ap (replies_from p.to) is ∙ sym (replies_are p w.eims) in
    let m = mail_octets n w h in
    let o = up_octets w p in
    let c : replies_octets (replies_from p.to end) ≡ replies_octets (replies_of p (eim_of p.to w.eims)) = ap replies_octets same in
    omega (arith, l, m, o, c)

-- What is said and may be sent is in range.
pub said_fits : (id : List ℕ) (o : Option MessageEnd) → IfSome o IsSendable → Every IsReply (replies_from id o)
said_fits id None h = tt
said_fits id (Some (says.Reply m)) h = (h.0, tt)
said_fits id (Some says.Silent) h = tt
said_fits id (Some says.NoMemory) h = tt
