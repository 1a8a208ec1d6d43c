-- An eIM in code that is found by its identifier, and what it stands for.
use Rattle.std.proofs.Common.{◌≡◌, ◌≢◌, ℕ, ◌<◌, ◌+◌, Bool, true, false, ◌||◌, cond, List, [], ◌∷◌, ◌++◌, length, map, refl, ◌∙◌, ap, sym, subst, arith, zero, suc, Option, None, Some, get_or, set, nat_lt}
use Rattle.std.specs.Prelude.{Result, Ok, Err, IsErrAnd, IsErrOf, OnOk, IfOk, IfSome, MatchResult, ◌==◌, find, position, option_map}
use Rattle.std.specs.List.{list_any}
use Rattle.std.proofs.lemmas.Bool.{cond_both, cond-true, cond-false}
use Rattle.std.proofs.lemmas.List.Quantifiers.{position-Some}
use Rattle.small_card.specs.Lists.{same, greatest, Every}
use Rattle.small_card.proofs.ListLemmas.{pair_map, nowhere, same_yes}
use Rattle.small_card.specs.Ranges.{greatest_counter}
use Rattle.small_card.specs.declared.types.Body.{Body}
use Rattle.esipa_codec.specs.Eims.{EimState, counters_of, bound_to, ordered_by, ordered, skipped, heard}
use Rattle.esipa_codec.specs.declared.ends.Binding.{Binding}
use Rattle.esipa_codec.specs.declared.messages.ToEim.{ToEim}
use Rattle.esipa_codec.specs.declared.messages.ToEim.TheVariants as up
use Rattle.esipa_codec.specs.declared.ends.MessageEnd.{MessageEnd}
use Rattle.esipa_codec.specs.declared.ends.MessageEnd.TheVariants as answer
use Rattle.esipa_codec.specs.declared.ends.OrderEnd.{OrderEnd}
use Rattle.esipa_codec.specs.declared.ends.OrderEnd.TheVariants as order_answer
use Rattle.eim_queue.specs.Queues.{Queue, IsEim, IfOrdered, IfServed, IsSendable}
use Rattle.iot_bytes.specs.declared.memory.NoMemory.{NoMemory}
use Rattle.small_world.specs.Lossless.{AreApart}
use Rattle.small_world.specs.Network.{is_named, is_known, eim_of, at_eim}
use Rattle.world_network.specs.Managers.{IsManager, AreManagers, has_id}
use Rattle.world_network.specs.declared.mail.SendEnd.{SendEnd}
use Rattle.world_network.specs.declared.managers.Manager.{Manager}

-- Whether an eIM is there.
pub known_same : (id : List ℕ) (ms : List Manager) (es : List EimState) → AreManagers ms es → list_any (has_id id) ms ≡ is_known id es
unfolding is_known
known_same id [] [] h = refl
known_same id [] (e ∷ es) h = absurd h
known_same id (m ∷ ms) [] h = absurd h
known_same id (m ∷ ms) (e ∷ es) h = ap (λ (x : List ℕ). same id x || list_any (has_id id) ms) h.0.id_is ∙ ap (λ (b : Bool). same id e.id || b) (known_same id ms es h.1)

pub pairs_push : (ms : List Manager) (es : List EimState) (m : Manager) (e : EimState) → AreManagers ms es → IsManager m e → AreManagers (ms ++ m ∷ []) (es ++ e ∷ [])
pairs_push [] [] m e h k = (k, tt)
pairs_push [] (f ∷ es) m e h k = absurd h
pairs_push (n ∷ ms) [] m e h k = absurd h
pairs_push (n ∷ ms) (f ∷ es) m e h k = (h.0, pairs_push ms es m e h.1 k)

-- The eIM at a place stands for the named one, and may change as that one does.
pub record IsFoundAt (id : List ℕ) (ms : List Manager) (es : List EimState) (place : ℕ) (d : Manager) : Type 0 where
  pub e : EimState
  pub named : eim_of id es ≡ Some e
  pub is : IsManager d e
  pub put : AreApart es → (change : EimState → EimState) (q : Queue) → (change e).id ≡ e.id → IsEim q (change e) → AreManagers (set ms place (record d { queue = q })) (at_eim id change es)

-- Those of other identifiers stay.
others_stay : (id : List ℕ) (change : EimState → EimState) (e : EimState) (es : List EimState) → same id e.id ≡ true → Every (λ (f : EimState). e.id ≢ f.id) es → at_eim id change es ≡ es
unfolding at_eim
others_stay id change e [] hit h = refl
others_stay id change e (f ∷ es) hit h =
    let here : cond (is_named id f) (change f) f ≡ f = cond_both (is_named id f) (change f) f (λ (x : EimState). x ≡ f) (λ b. absurd (h.0 (sym (same_yes id e.id hit) ∙ same_yes id f.id b))) (λ _. refl) in
    ap (λ (x : EimState). x ∷ map (λ g. cond (is_named id g) (change g) g) es) here ∙ ap (λ (xs : List EimState). f ∷ xs) (others_stay id change e es hit h.1)

found_in : (id : List ℕ) (ms : List Manager) (es : List EimState) (place : ℕ) (d : Manager) → AreManagers ms es → place < length ms → has_id id (get_or ms place d) ≡ true → ((k : ℕ) → k < place → has_id id (get_or ms k d) ≡ false) → d ≡ get_or ms place d
    → IsFoundAt id ms es place d
unfolding eim_of at_eim
found_in id [] es place d h l t off is = absurd (omega (arith, l))
found_in id (m ∷ ms) [] place d h l t off is = absurd h
found_in id (m ∷ ms) (e ∷ es) zero d h l t off is =
    let hit : same id e.id ≡ true = sym (ap (same id) h.0.id_is) ∙ t in
    let its : IsManager d e = subst (λ (x : Manager). IsManager x e) (sym is) h.0 in
    record {
      e = e;
      named = cond-true (is_named id e) (Some e) (find (is_named id) es) hit;
      is = its;
      put = λ apart change q i k. (
        subst (IsManager (record d { queue = q })) (sym (cond-true (is_named id e) (change e) e hit)) (record { id_is = its.id_is ∙ sym i; queue_is = k }),
        subst (AreManagers ms) (sym (others_stay id change e es hit apart.0)) h.1,
      );
    }
found_in id (m ∷ ms) (e ∷ es) (suc place) d h l t off is =
    let miss : same id e.id ≡ false = sym (ap (same id) h.0.id_is) ∙ off 0 (omega arith) in
    let rest = found_in id ms es place d h.1 (omega (arith, l)) t (λ k j. off (suc k) (omega (arith, j))) is in
    record {
      e = rest.e;
      named = cond-false (is_named id e) (Some e) (find (is_named id) es) miss ∙ rest.named;
      is = rest.is;
      put = λ apart change q i k. (
        subst (IsManager m) (sym (cond-false (is_named id e) (change e) e miss)) h.0,
        rest.put apart.1 change q i k,
      );
    }

pub found_at : (id : List ℕ) (ms : List Manager) (es : List EimState) (place : ℕ) (d : Manager) → AreManagers ms es → position (has_id id) ms ≡ Some place → d ≡ get_or ms place d → IsFoundAt id ms es place d
found_at id ms es place d h p is =
    let s = position-Some (has_id id) ms place d p in
    found_in id ms es place d h s.0 s.1 s.2 is

-- No eIM of this identifier is there, and nothing changes.
pub record IsAbsent (id : List ℕ) (es : List EimState) : Type 0 where
  pub named : eim_of id es ≡ None
  pub stays : (change : EimState → EimState) → at_eim id change es ≡ es

absent_in : (id : List ℕ) (ms : List Manager) (es : List EimState) → AreManagers ms es → Every (λ m. has_id id m ≡ false) ms → IsAbsent id es
unfolding eim_of at_eim
absent_in id [] [] h n = record { named = refl; stays = λ change. refl }
absent_in id [] (e ∷ es) h n = absurd h
absent_in id (m ∷ ms) [] h n = absurd h
absent_in id (m ∷ ms) (e ∷ es) h n =
    let miss : same id e.id ≡ false = sym (ap (same id) h.0.id_is) ∙ n.0 in
    let rest = absent_in id ms es h.1 n.1 in
    record {
      named = cond-false (is_named id e) (Some e) (find (is_named id) es) miss ∙ rest.named;
      stays = λ change. ap (λ (x : EimState). x ∷ map (λ g. cond (is_named id g) (change g) g) es) (cond-false (is_named id e) (change e) e miss) ∙ ap (λ (xs : List EimState). e ∷ xs) (rest.stays change);
    }

pub absent : (id : List ℕ) (ms : List Manager) (es : List EimState) → AreManagers ms es → position (has_id id) ms ≡ None → IsAbsent id es
absent id ms es h p = absent_in id ms es h (nowhere (has_id id) ms p)

-- What an eIM does keeps its identifier.
pub bound_id : (association last : ℕ) (e : EimState) → (bound_to association last e).id ≡ e.id
unfolding bound_to
bound_id association last e = cond_both (nat_lt last (greatest (counters_of association e.orders))) e (record e { bound = Some (record { association = association; last = last }) }) (λ (x : EimState). x.id ≡ e.id) (λ _. refl) (λ _. refl)

ordered_by_id : (b : Option Binding) (body : Body) (e : EimState) → (ordered_by b body e).id ≡ e.id
ordered_by_id None body e = refl
ordered_by_id (Some b) body e = cond_both (b.last == greatest_counter) e (record e {
  bound = Some (record b { last = b.last + 1 });
  orders = e.orders ++ record { association = b.association; counter = b.last + 1; body = body; skipped = false } ∷ [];
}) (λ (x : EimState). x.id ≡ e.id) (λ _. refl) (λ _. refl)

pub ordered_id : (body : Body) (e : EimState) → (ordered body e).id ≡ e.id
unfolding ordered
ordered_id body e = ordered_by_id e.bound body e

pub skipped_id : (e : EimState) → (skipped e).id ≡ e.id
unfolding skipped
skipped_id e = refl

pub heard_id : (m : ToEim) (e : EimState) → (heard m e).id ≡ e.id
unfolding heard
heard_id (up.Poll eid) e = refl
heard_id (up.Result r) e = cond_both (same r.eim e.id) (record e { received = r ∷ e.received }) e (λ (x : EimState). x.id ≡ e.id) (λ _. refl) (λ _. refl)
heard_id (up.Refused f) e = refl

-- What follows where memory was there.
pub ordered_then : (r : OrderEnd) (P Q : Type 0) → (P → Q) → IfOrdered r P → IfOrdered r Q
ordered_then (order_answer.Ordered n) P Q f p = f p
ordered_then order_answer.Unbound P Q f p = f p
ordered_then order_answer.CounterSpent P Q f p = f p
ordered_then order_answer.NoMemory P Q f p = tt

pub served_then : (r : MessageEnd) (P Q : Type 0) → (P → Q) → IfServed r P → IfServed r Q
served_then (answer.Reply m) P Q f p = f p
served_then answer.Silent P Q f p = f p
served_then answer.NoMemory P Q f p = tt

-- What the found eIM says, the named one says.
pub ends : {X : Type 0} (of : EimState → X) (o : Option EimState) (e : EimState) (x : X) → o ≡ Some e → x ≡ of e → Some x ≡ option_map of o
ends of o e x n k = ap (λ y. Some y) k ∙ sym (ap (option_map of) n)

-- After a change, and with a new one, no two eIMs have one identifier.
pub apart_at : (id : List ℕ) (change : EimState → EimState) (es : List EimState) → ((e : EimState) → (change e).id ≡ e.id) → AreApart es → AreApart (at_eim id change es)
unfolding at_eim
apart_at id change es i h =
    let f : EimState → EimState = λ e. cond (is_named id e) (change e) e in
    let same_id : (e : EimState) → (f e).id ≡ e.id = λ e. cond_both (is_named id e) (change e) e (λ (x : EimState). x.id ≡ e.id) (λ _. i e) (λ _. refl) in
    pair_map (λ d e. d.id ≢ e.id) (λ d e. d.id ≢ e.id) f (λ x y r s. r (sym (same_id x) ∙ s ∙ same_id y)) es h

-- What follows where it went well.
pub on_then : {X E : Type 0} (r : Result X E) (P Q : Type 0) → (P → Q) → OnOk r P → OnOk r Q
on_then (Ok x) P Q f p = f p
on_then (Err e) P Q f p = tt

-- A new eIM stands for the one that joins.
pub added : (ms ns : List Manager) (es : List EimState) (m : Manager) (e : EimState) → ns ≡ ms ++ m ∷ [] → IsManager m e → AreManagers ms es → AreManagers ns (es ++ e ∷ [])
added ms ns es m e is k h = subst (λ (xs : List Manager). AreManagers xs (es ++ e ∷ [])) (sym is) (pairs_push ms es m e h k)

abbrev pub IsSaid : Result (Option MessageEnd) NoMemory → MessageEnd → Type 0
IsSaid r end = MatchResult r (λ said. (said ≡ Some end) × (end ≢ answer.NoMemory)) (λ e. end ≡ answer.NoMemory)

-- What an eIM said is known unless memory was wanting.
pub served_ok : (end : MessageEnd) (P : Type 0) → end ≢ answer.NoMemory → IfServed end P → P
served_ok (answer.Reply m) P n p = p
served_ok answer.Silent P n p = p
served_ok answer.NoMemory P n p = absurd (n refl)

pub said_ends : (r : Result (Option MessageEnd) NoMemory) (end : MessageEnd) (o : Option MessageEnd) → IsSaid r end → IfServed end (Some end ≡ o) → IfOk r (λ x. x ≡ o)
said_ends (Ok x) end o s h = s.0 ∙ served_ok end (Some end ≡ o) s.1 h
said_ends (Err e) end o s h = tt

pub said_stands : (r : Result (Option MessageEnd) NoMemory) (end : MessageEnd) (P : Type 0) → IsSaid r end → IfServed end P → OnOk r P
said_stands (Ok x) end P s h = served_ok end P s.1 h
said_stands (Err e) end P s h = tt

pub said_range : (r : Result (Option MessageEnd) NoMemory) (end : MessageEnd) → IsSaid r end → IsSendable end → IfOk r (λ x. IfSome x IsSendable)
said_range (Ok x) end s h = subst (λ (y : Option MessageEnd). IfSome y IsSendable) (sym s.0) h
said_range (Err e) end s h = tt

some_end : (x y : MessageEnd) → Some x ≡ Some y → x ≡ y
some_end x y e = let is : x ≡ y = cc in is

pub said_served : (r : Result (Option MessageEnd) NoMemory) (end : MessageEnd) → IsSaid r end → IfOk r (λ x. x ≢ Some answer.NoMemory)
said_served (Ok x) end s = λ e. s.1 (some_end end answer.NoMemory (sym s.0 ∙ e))
said_served (Err e) end s = tt

-- The end that is handed on is that which came.
pub handed_on : {X : Type 0} (r : Result X SendEnd) (e end : SendEnd) → IsErrAnd r (λ y. y ≡ e) → IsErrOf r end → IsErrOf {T = Unit {0}} {E = SendEnd} (Err e) end
handed_on (Ok x) e end a h = absurd a
handed_on (Err y) e end a h =
    let is : y ≡ end = cc in
    let made : SendEnd → Result (Unit {0}) SendEnd = λ z. Err z in
    ap made (sym a ∙ is)
