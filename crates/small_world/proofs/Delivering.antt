-- Messages to eIMs, and what eIMs do besides, keep the invariant.
use Rattle.std.proofs.Common.{◌≡◌, ◌≢◌, inl, inr, ℕ, ◌+◌, ◌≤◌, Bool, true, false, List, [], ◌∷◌, ◌++◌, map, refl, ◌∙◌, sym, subst, arith, Option, None, Some}
use Rattle.std.specs.Prelude.{◌==◌, IfSome, nat_lt}
use Rattle.std.proofs.lemmas.Bool.{cond_both, eqb-false, false≢true}
use Rattle.sgp_values.specs.Eids.{IsEid}
use Rattle.sgp_values.specs.Ranges.{IsEimId}
use Rattle.small_card.specs.Lists.{same, greatest, Every}
use Rattle.small_card.specs.Ranges.{IsNumber, IsBody, greatest_counter}
use Rattle.small_card.specs.declared.types.Body.{Body}
use Rattle.small_card.specs.declared.types.PackageResult.{PackageResult}
use Rattle.small_card.proofs.ListLemmas.{every_mono, every_append, every_push, none_every, pair_push, same_yes, same_no}
use Rattle.esipa_codec.specs.Eims.{EimState, Order, new_eim, counters_of, bound_to, ordered_by, ordered, waits, first_waiting, skip_first, skipped, package_of, answer_with, message_end, heard, IsBinding}
use Rattle.esipa_codec.specs.declared.ends.Binding.{Binding}
use Rattle.esipa_codec.specs.declared.ends.MessageEnd.TheVariants as heard_end
use Rattle.esipa_codec.specs.declared.messages.Post.{Post}
use Rattle.esipa_codec.specs.declared.messages.ToEim.{ToEim}
use Rattle.esipa_codec.specs.declared.messages.ToEim.TheVariants as up
use Rattle.esipa_codec.specs.declared.messages.ToIpa.TheVariants as down
use Rattle.small_world.specs.Forms.{forms}
use Rattle.small_world.specs.Has.{Has}
use Rattle.small_world.specs.Lossless.{AreApart}
use Rattle.small_world.specs.Network.{is_named, is_known, eim_of, at_eim, joined, reply_of, replies_of, gone_up}
use Rattle.small_world.specs.Stepping.{attempt}
use Rattle.small_world.specs.Worlds.{SmallWorld, eid_of}
use Rattle.small_world.proofs.HasLemmas.{has_every, has_left, has_map, has_found, found_fits, below_last}
use Rattle.small_world.proofs.Invariant.{IsSent, IsAnswered, IsOrder, IsFit, Keeps, KeepsWorld, keeps_down, keeps_eims, HasGrown, IsTrue, IsChange, changed, at_eim_keeps}

-- a message is heard
heard_grows : (m : ToEim) (e : EimState) → HasGrown e (heard m e)
unfolding heard
heard_grows (up.Poll eid) e = record { id = refl; received = λ r i. i }
heard_grows (up.Result s) e = cond_both (same s.eim e.id) (record e { received = s ∷ e.received }) e (HasGrown e) (λ _. record { id = refl; received = λ r i. inr i }) (λ _. record { id = refl; received = λ r i. i })
heard_grows (up.Refused f) e = record { id = refl; received = λ r i. i }

heard_true : (fs : List PackageResult) (m : ToEim) (e : EimState) → IsSent fs m → IsTrue fs e → IsTrue fs (heard m e)
unfolding heard
heard_true fs (up.Poll eid) e s t = t
heard_true fs (up.Result r) e s t = cond_both (same r.eim e.id) (record e { received = r ∷ e.received }) e (IsTrue fs) (λ b. ((s, same_yes r.eim e.id b), t)) (λ _. t)
heard_true fs (up.Refused f) e s t = t

heard_fits : (m : ToEim) (e : EimState) → IsFit e → IsFit (heard m e)
unfolding heard
heard_fits (up.Poll eid) e f = f
heard_fits (up.Result r) e f = cond_both (same r.eim e.id) (record e { received = r ∷ e.received }) e IsFit (λ _. record { id = f.id; eid = f.eid; bound = f.bound; orders = f.orders }) (λ _. f)
heard_fits (up.Refused g) e f = record { id = f.id; eid = f.eid; bound = f.bound; orders = f.orders }

heard_change : (fs : List PackageResult) (m : ToEim) → IsSent fs m → IsChange fs (heard m)
heard_change fs m s = record { grows = heard_grows m; truth = λ e t. heard_true fs m e s t; fits = heard_fits m }

-- the order of an eIM that waits first is its own
waiting_fits : (e : EimState) → IsFit e → IfSome (first_waiting e) IsOrder
unfolding first_waiting
waiting_fits e f = found_fits IsOrder (waits e.received) e.orders f.orders

-- what is answered to a poll is a package in range, or nothing
offered : (es : List EimState) (id eid : List ℕ) (o : Option Order) → IsEimId id → IsEid eid → IfSome o IsOrder → IsAnswered es (answer_with id eid o)
offered es id eid None i d f = tt
offered es id eid (Some o) i d f = (
  package_of id eid o,
  record {
    «package» = record { eim = i; eid = d; association = f.association; counter = f.counter; body = f.body };
    signature = record { few = omega arith; each = λ k d l. absurd (omega (arith, l)) };
  },
  refl,
)

-- what comes back from an eIM that heard a message
back_answered : (es : List EimState) (m : ToEim) (e : EimState) → IsFit e → Has (heard m e) es → Every (λ r. IsAnswered es r.message) (reply_of e.id (message_end m e))
unfolding message_end heard
back_answered es (up.Poll eid) e f i = (
  cond_both (same eid e.eid) (answer_with e.id e.eid (first_waiting e)) down.Nothing (IsAnswered es) (λ _. offered es e.id e.eid (first_waiting e) f.id f.eid (waiting_fits e f)) (λ _. tt),
  tt,
)
back_answered es (up.Result r) e f i =
    cond_both (same r.eim e.id) (heard_end.Reply (down.Ack r.seq)) heard_end.Silent (λ a. Every (λ x. IsAnswered es x.message) (reply_of e.id a))
    (λ b.
    let took : Has r (heard (up.Result r) e).received = cond_both (same r.eim e.id) (record e { received = r ∷ e.received }) e (λ d. Has r d.received) (λ _. inl refl) (λ c. absurd (false≢true (sym c ∙ b))) in
    (record { at = heard (up.Result r) e; there = i; form = r; received = took; number = refl }, tt))
    (λ _. tt)
back_answered es (up.Refused g) e f i = tt

-- the named eIM has heard it
there_heard : (id : List ℕ) (change : EimState → EimState) (e : EimState) (es : List EimState) → Has e es → is_named id e ≡ true → Has (change e) (at_eim id change es)
unfolding at_eim
there_heard id change e es i n =
    let made : changed id change e ≡ change e = cond_both (is_named id e) (change e) e (λ d. d ≡ change e) (λ _. refl) (λ c. absurd (false≢true (sym c ∙ n))) in
    subst (λ d. Has d (map (changed id change) es)) made (has_map (changed id change) e es i)

replies_answered : (p : Post) (es : List EimState) (o : Option EimState) → eim_of p.to es ≡ o → Every IsFit es → Every (λ r. IsAnswered (at_eim p.to (heard p.message) es) r.message) (replies_of p o)
unfolding replies_of eim_of
replies_answered p es None q f = tt
replies_answered p es (Some e) q f =
    let found = has_found (is_named p.to) es e q in
    back_answered (at_eim p.to (heard p.message) es) p.message e (has_every IsFit es e f found.0) (there_heard p.to (heard p.message) e es found.0 found.1)

gone_up_some : (w : SmallWorld) (p : Post) → IsSent (forms w.history) p.message → KeepsWorld w → KeepsWorld (gone_up (Some p) w)
unfolding gone_up
gone_up_some w p s k =
    let es : List EimState = at_eim p.to (heard p.message) w.eims in
    keeps_down w.history (attempt w.marks) w.to_eims w.to_ipa (replies_of p (eim_of p.to w.eims)) es
    (replies_answered p w.eims (eim_of p.to w.eims) refl k.fit)
    (at_eim_keeps w.history (attempt w.marks) w.to_eims w.to_ipa w.eims p.to (heard p.message) (heard_change (forms w.history) p.message s) k)

gone_up_none : (w : SmallWorld) → KeepsWorld w → KeepsWorld (gone_up None w)
unfolding gone_up
gone_up_none w k = k

pub gone_up_keeps : (w : SmallWorld) (o : Option Post) → IfSome o (λ p. IsSent (forms w.history) p.message) → KeepsWorld w → KeepsWorld (gone_up o w)
gone_up_keeps w None s k = gone_up_none w k
gone_up_keeps w (Some p) s k = gone_up_some w p s k

-- an eIM that is bound otherwise, or has other orders, has received the same
pub record IsRest (d e : EimState) : Type 0 where
  pub id : e.id ≡ d.id
  pub eid : e.eid ≡ d.eid
  pub received : e.received ≡ d.received

rest_change : (fs : List PackageResult) (change : EimState → EimState) → ((e : EimState) → IsRest e (change e)) → ((e : EimState) → IsFit e → IsFit (change e)) → IsChange fs change
rest_change fs change r f = record {
  grows = λ e. record { id = (r e).id; received = λ x i. subst (Has x) (sym (r e).received) i };
  truth = λ e t. subst (λ i. Every (λ x. Has x fs × (x.eim ≡ i)) (change e).received) (sym (r e).id) (subst (Every (λ x. Has x fs × (x.eim ≡ e.id))) (sym (r e).received) t);
  fits = f;
}

no_change : (e : EimState) → IsRest e e
no_change e = record { id = refl; eid = refl; received = refl }

bound_rest : (association last : ℕ) (e : EimState) → IsRest e (bound_to association last e)
unfolding bound_to
bound_rest association last e = cond_both (nat_lt last (greatest (counters_of association e.orders))) e (record e { bound = Some (record { association = association; last = last }) }) (IsRest e) (λ _. no_change e) (λ _. record { id = refl; eid = refl; received = refl })

bound_fits : (association last : ℕ) (e : EimState) → IsNumber association → last ≤ greatest_counter → IsFit e → IsFit (bound_to association last e)
unfolding bound_to
bound_fits association last e a l f = cond_both (nat_lt last (greatest (counters_of association e.orders))) e (record e { bound = Some (record { association = association; last = last }) }) IsFit (λ _. f) (λ _. record { id = f.id; eid = f.eid; bound = (a, l); orders = f.orders })

pub bound_change : (fs : List PackageResult) (association last : ℕ) → IsNumber association → last ≤ greatest_counter → IsChange fs (bound_to association last)
bound_change fs association last a l = rest_change fs (bound_to association last) (bound_rest association last) (λ e f. bound_fits association last e a l f)

ordered_by_rest : (b : Option Binding) (body : Body) (e : EimState) → IsRest e (ordered_by b body e)
ordered_by_rest None body e = no_change e
ordered_by_rest (Some b) body e = cond_both (b.last == greatest_counter) e (record e {
  bound = Some (record b { last = b.last + 1 });
  orders = e.orders ++ record { association = b.association; counter = b.last + 1; body = body; skipped = false } ∷ [];
}) (IsRest e) (λ _. no_change e) (λ _. record { id = refl; eid = refl; received = refl })

ordered_by_fits : (b : Option Binding) (body : Body) (e : EimState) → IsBody body → IfSome b IsBinding → IsFit e → IsFit (ordered_by b body e)
ordered_by_fits None body e o t f = f
ordered_by_fits (Some b) body e o t f = cond_both (b.last == greatest_counter) e (record e {
  bound = Some (record b { last = b.last + 1 });
  orders = e.orders ++ record { association = b.association; counter = b.last + 1; body = body; skipped = false } ∷ [];
}) IsFit (λ _. f)
    (λ n.
    let other : b.last ≢ greatest_counter = eqb-false b.last greatest_counter n in
    let low : b.last + 1 ≤ greatest_counter = below_last b.last greatest_counter t.1 other in
    record {
      id = f.id;
      eid = f.eid;
      bound = (t.0, low);
      orders = every_push IsOrder e.orders (record { association = b.association; counter = b.last + 1; body = body; skipped = false }) f.orders (record { association = t.0; counter = record { some = omega arith; fits = low }; body = o });
    })

pub ordered_change : (fs : List PackageResult) (body : Body) → IsBody body → IsChange fs (ordered body)
unfolding ordered
ordered_change fs body o = rest_change fs (ordered body) (λ e. ordered_by_rest e.bound body e) (λ e f. ordered_by_fits e.bound body e o f.bound f)

skip_fits : (test : Order → Bool) (os : List Order) → Every IsOrder os → Every IsOrder (skip_first test os)
unfolding skip_first
skip_fits test [] f = tt
skip_fits test (o ∷ os) f = cond_both (test o) (record o { skipped = true } ∷ os) (o ∷ skip_first test os) (Every IsOrder) (λ _. (record { association = f.0.association; counter = f.0.counter; body = f.0.body }, f.1)) (λ _. (f.0, skip_fits test os f.1))

pub skipped_change : (fs : List PackageResult) → IsChange fs skipped
unfolding skipped
skipped_change fs = rest_change fs skipped (λ e. record { id = refl; eid = refl; received = refl }) (λ e f. record { id = f.id; eid = f.eid; bound = f.bound; orders = skip_fits (waits e.received) e.orders f.orders })

-- an eIM joins, and has received nothing
pub joined_apart : (id eid : List ℕ) (es : List EimState) → AreApart es → is_known id es ≡ false → AreApart (es ++ new_eim id eid ∷ [])
unfolding is_known
joined_apart id eid es h n = pair_push (λ d e. d.id ≢ e.id) es (new_eim id eid) h (every_mono (λ e. is_named id e ≡ false) (λ e. e.id ≢ id) (λ e f same_id. same_no id e.id f (sym same_id)) es (none_every (is_named id) es n))

pub joined_keeps : (w : SmallWorld) (id : List ℕ) → IsEimId id → KeepsWorld w → KeepsWorld (joined id w)
unfolding joined
joined_keeps w id i k =
    let e : EimState = new_eim id (eid_of w) in
    let es : List EimState = w.eims ++ e ∷ [] in
    cond_both (is_known id w.eims) w.eims es (λ xs. Keeps w.history (attempt w.marks) w.to_eims w.to_ipa xs) (λ _. k)
    (λ n. keeps_eims w.history (attempt w.marks) w.to_eims w.to_ipa w.eims es
    (λ d j. (d, has_left d w.eims (e ∷ []) j, record { id = refl; received = λ r q. q }))
    (every_append (IsTrue (forms w.history)) w.eims (e ∷ []) k.truthful (tt, tt))
    (joined_apart id (eid_of w) w.eims k.apart n)
    (every_push IsFit w.eims e k.fit (record { id = i; eid = k.eid; bound = tt; orders = tt })) k)
