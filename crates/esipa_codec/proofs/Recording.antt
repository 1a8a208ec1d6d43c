-- One more result received: the record of an association and counter never falls.
use Rattle.std.proofs.Common.{◌≡◌, ℕ, ◌≤◌, ◌+◌, ◌++◌, true, false, ◌&&◌, List, [], ◌∷◌, refl, ◌∙◌, ap, arith, Option, None, Some}
use Rattle.std.specs.Prelude.{◌==◌, nat_lt}
use Rattle.std.proofs.lemmas.Bool.{cond_both, cond-true, eq-eqb, ltb-true}
use Rattle.small_card.specs.Lists.{same, greatest}
use Rattle.small_card.specs.declared.types.Body.{Body}
use Rattle.small_card.specs.declared.types.PackageResult.{PackageResult}
use Rattle.small_card.specs.Ranges.{greatest_counter}
use Rattle.esipa_codec.specs.Eims.{EimState, counters_of, bound_to, ordered_by, ordered, skipped, heard}
use Rattle.esipa_codec.specs.Events.{EimEvent, bind, order, skip, message, after_event}
use Rattle.esipa_codec.specs.Records.{is_of, greater, record_of}
use Rattle.esipa_codec.specs.declared.ends.Binding.{Binding}
use Rattle.esipa_codec.specs.declared.messages.ToEim.{ToEim}
use Rattle.esipa_codec.specs.declared.messages.ToEim.TheVariants as to_eim

-- the older record isn't above the greater one
older_below : (r s : PackageResult) (o : Option PackageResult) → o ≡ Some s → s.seq ≤ (greater r o).seq
unfolding greater
older_below r s None e = absurd (cc)
older_below r s (Some t) e =
    let k : t ≡ s = cc in
    let n : t.seq ≡ s.seq = ap (λ (y : PackageResult). y.seq) k in
    cond_both (nat_lt t.seq r.seq) r t (λ y. s.seq ≤ y.seq)
    (λ b. let l = ltb-true t.seq r.seq b in omega (arith, n, l))
    (λ b. omega (arith, n))

-- a record whose number isn't below
abbrev pub IsAtLeast : ℕ → ℕ → PackageResult → List PackageResult → Type 0
IsAtLeast association counter x received =
    (s : PackageResult) × (record_of association counter received ≡ Some s) × (x.seq ≤ s.seq)

one_more : (association counter : ℕ) (r x : PackageResult) (older : List PackageResult) → record_of association counter older ≡ Some x → IsAtLeast association counter x (r ∷ older)
unfolding record_of
one_more association counter r x older e =
    let o : Option PackageResult = record_of association counter older in
    cond_both (is_of association counter r) (Some (greater r o)) o (λ y. (s : PackageResult) × (y ≡ Some s) × (x.seq ≤ s.seq))
    (λ _. (greater r o, refl, older_below r x o e))
    (λ _. (x, e, omega arith))

as_before : (association counter : ℕ) (x : PackageResult) (received : List PackageResult) → record_of association counter received ≡ Some x → IsAtLeast association counter x received
as_before association counter x received e = (x, e, omega arith)

-- binding and ordering leave what was received
bound_received : (association last : ℕ) (e : EimState) → (bound_to association last e).received ≡ e.received
unfolding bound_to
bound_received association last e =
    cond_both (nat_lt last (greatest (counters_of association e.orders))) e (record e { bound = Some (record { association = association; last = last }) })
    (λ (y : EimState). y.received ≡ e.received) (λ _. refl) (λ _. refl)

ordered_received : (b : Option Binding) (body : Body) (e : EimState) → (ordered_by b body e).received ≡ e.received
ordered_received None body e = refl
ordered_received (Some b) body e =
    cond_both (b.last == greatest_counter) e (record e {
      bound = Some (record b { last = b.last + 1 });
      orders = e.orders ++ record { association = b.association; counter = b.last + 1; body = body; skipped = false } ∷ [];
    }) (λ (y : EimState). y.received ≡ e.received) (λ _. refl) (λ _. refl)

heard_record : (association counter : ℕ) (x : PackageResult) (m : ToEim) (e : EimState) → record_of association counter e.received ≡ Some x → IsAtLeast association counter x (heard m e).received
unfolding heard
heard_record association counter x (to_eim.Poll eid) e k = as_before association counter x e.received k
heard_record association counter x (to_eim.Refused f) e k = as_before association counter x e.received k
heard_record association counter x (to_eim.Result r) e k =
    cond_both (same r.eim e.id) (record e { received = r ∷ e.received }) e (λ (y : EimState). IsAtLeast association counter x y.received)
    (λ _. one_more association counter r x e.received k)
    (λ _. as_before association counter x e.received k)

pub record_stays : (y : EimEvent) (e : EimState) (association counter : ℕ) (x : PackageResult) → record_of association counter e.received ≡ Some x → IsAtLeast association counter x (after_event y e).received
unfolding after_event ordered skipped
record_stays (bind a last) e association counter x k = as_before association counter x (bound_to a last e).received (ap (record_of association counter) (bound_received a last e) ∙ k)
record_stays (order body) e association counter x k = as_before association counter x (ordered_by e.bound body e).received (ap (record_of association counter) (ordered_received e.bound body e) ∙ k)
record_stays skip e association counter x k = as_before association counter x e.received k
record_stays (message m) e association counter x k = heard_record association counter x m e k

pub own_key : (r : PackageResult) → is_of r.association r.counter r ≡ true
own_key r = ap (λ b. b && r.counter == r.counter) (eq-eqb r.association r.association refl) ∙ eq-eqb r.counter r.counter refl

pub late_greater : (r s : PackageResult) → r.seq ≤ s.seq → greater r (Some s) ≡ s
unfolding greater
late_greater r s l =
    cond_both (nat_lt s.seq r.seq) r s (λ y. y ≡ s) (λ b. let k = ltb-true s.seq r.seq b in absurd (omega (arith, l, k))) (λ b. refl)

-- a result whose number isn't above that of its record changes no record
pub late_record : (received : List PackageResult) (r s : PackageResult) → record_of r.association r.counter received ≡ Some s → r.seq ≤ s.seq → record_of r.association r.counter (r ∷ received) ≡ Some s
unfolding record_of
late_record received r s e l =
    let o : Option PackageResult = record_of r.association r.counter received in
    cond-true (is_of r.association r.counter r) (Some (greater r o)) o (own_key r) ∙ ap (λ p. Some (greater r p)) e ∙ ap (λ y. Some y) (late_greater r s l)
