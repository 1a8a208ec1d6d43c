-- What the card keeps decides a check as the history does.
use Rattle.std.proofs.Common.{length, Result, Err, ◌≡◌, ◌≢◌, ℕ, ◌≤◌, ◌<◌, Bool, true, false, not, ◌&&◌, ◌||◌, cond, List, [], ◌∷◌, refl, ◌∙◌, ap, sym, subst, Option, None, Some, arith}
use Rattle.std.specs.Prelude.{◌==◌, nat_le, find}
use Rattle.std.specs.Option.{option_or}
use Rattle.std.specs.List.{list_any}
use Rattle.std.proofs.lemmas.Bool.{false_from_ne_true, eq-eqb, ne_eqb, le-leb, leb-true}
use Rattle.small_card.specs.Cards.{Results}
use Rattle.small_card.specs.Checks.{refused, has_association, has_room, eim_refusal, later_refusal}
use Rattle.small_card.specs.Histories.{History, card_of, full_of, kept}
use Rattle.small_card.specs.Laws.{IsCounted}
use Rattle.small_card.specs.Legal.{IsLegal}
use Rattle.small_card.specs.Lists.{same, Every, EveryPair}
use Rattle.small_card.specs.EimOperations.{is_eim, has_eim}
use Rattle.small_card.specs.Valid.{AreEntriesApart}
use Rattle.small_card.specs.declared.types.EimEntry.{EimEntry}
use Rattle.small_card.specs.declared.types.Package.{Package}
use Rattle.small_card.specs.declared.types.Refused.{Refused}
use Rattle.small_card.proofs.Counting.{legal_counted}
use Rattle.small_card.proofs.ListLemmas.{same_yes}
use Rattle.small_card.proofs.Validity.{legal_valid}
use Rattle.small_card.specs.declared.types.Signed.{Signed}
use Rattle.package_codec.specs.Checks.{most_octets, verdict_refusal, package_refusal, unless_refused, check_read, check}
use Rattle.package_codec.specs.Reading.{signed_at}

-- the entry that is found passes the test
found_every : {X : Type 0} (t : X → Bool) (Q : X → Type 0) (xs : List X) (x : X) → find t xs ≡ Some x → Every Q xs → (t x ≡ true) × Q x
found_every t Q [] x e h = absurd cc
found_every {X} t Q (y ∷ ys) x e h =
    elim (t y) as (λ b. t y ≡ b → cond {A = Option X} b (Some y) (find t ys) ≡ Some x → (t x ≡ true) × Q x) [
      | true ↦ λ is f. let same : y ≡ x = cc in subst (λ z. (t z ≡ true) × Q z) same (is, h.0)
      | false ↦ λ is f. found_every t Q ys x f h.1
    ] refl e

pub found_none : {X : Type 0} (t : X → Bool) (xs : List X) → find t xs ≡ None → list_any t xs ≡ false
found_none t [] e = refl
found_none {X} t (y ∷ ys) e =
    elim (t y) as (λ b. cond {A = Option X} b (Some y) (find t ys) ≡ None → b || list_any t ys ≡ false) [
      | true ↦ λ f. absurd cc
      | false ↦ λ f. found_none t ys f
    ] e

found_some : {X : Type 0} (t : X → Bool) (xs : List X) (x : X) → find t xs ≡ Some x → list_any t xs ≡ true
found_some t [] x e = absurd cc
found_some {X} t (y ∷ ys) x e =
    elim (t y) as (λ b. cond {A = Option X} b (Some y) (find t ys) ≡ Some x → b || list_any t ys ≡ true) [
      | true ↦ λ f. refl
      | false ↦ λ f. found_some t ys x f
    ] e

-- no other entry has the identifier
none_named : (id : List ℕ) (n : ℕ) (e : EimEntry) (es : List EimEntry) → is_eim id e ≡ true → Every (AreEntriesApart e) es → list_any (λ x. is_eim id x && x.association == n) es ≡ false
none_named id n e [] is h = refl
none_named id n e (x ∷ xs) is h =
    let other : is_eim id x ≡ false = false_from_ne_true (is_eim id x) (λ k. h.0.ids (sym (same_yes id e.id is) ∙ same_yes id x.id k)) in
    ap (λ b. (b && x.association == n) || list_any (λ y. is_eim id y && y.association == n) xs) other ∙ none_named id n e xs is h.1

or_none : (b c : Bool) → c ≡ false → b || c ≡ b
or_none true c e = refl
or_none false c e = e

-- the entry's association decides
named_association : (id : List ℕ) (n : ℕ) (e : EimEntry) (es : List EimEntry) → find (is_eim id) es ≡ Some e → EveryPair AreEntriesApart es → list_any (λ x. is_eim id x && x.association == n) es ≡ (e.association == n)
named_association id n e [] f h = absurd cc
named_association id n e (x ∷ xs) f h =
    elim (is_eim id x) as (λ b. is_eim id x ≡ b → cond {A = Option EimEntry} b (Some x) (find (is_eim id) xs) ≡ Some e → (b && x.association == n) || list_any (λ y. is_eim id y && y.association == n) xs ≡ (e.association == n)) [
      | true ↦ λ is g.
          let one : x ≡ e = cc in
          or_none (x.association == n) _ (none_named id n x xs is h.0) ∙ ap (λ (y : EimEntry). y.association == n) one
      | false ↦ λ is g. named_association id n e xs g h.1
    ] refl f

valid_apart : (h : History) → IsLegal h → EveryPair AreEntriesApart (card_of h).eims.entries
unfolding full_of
valid_apart h l = (legal_valid h l).card.eims.apart

pub association_decides : (h : History) (id : List ℕ) (n : ℕ) (e : EimEntry) → IsLegal h → find (is_eim id) (card_of h).eims.entries ≡ Some e → has_association id n (card_of h).eims.entries ≡ (e.association == n)
unfolding has_association
association_decides h id n e l f = named_association id n e (card_of h).eims.entries f (valid_apart h l)

-- the entry's counter is the one that the history keeps
pub counter_kept : (h : History) (id : List ℕ) (n : ℕ) (e : EimEntry) → IsLegal h → find (is_eim id) (card_of h).eims.entries ≡ Some e → e.association ≡ n → kept h id n ≡ e.counter
unfolding IsCounted
counter_kept h id n e l f is =
    let c = found_every (is_eim id) (λ x. x.counter ≡ kept h x.id x.association) (card_of h).eims.entries e f (legal_counted h l) in
    ap (λ i. kept h i n) (same_yes id e.id c.0) ∙ ap (λ m. kept h e.id m) (sym is) ∙ sym c.1

-- what the checks after the verdict look at
pub record LooksAt (h : History) (p : Package) (eid : List ℕ) (e : EimEntry) (rs : Results) : Type 0 where
  pub eid_is : (card_of h).eid ≡ eid
  pub results_are : (card_of h).results ≡ rs
  pub named : has_association p.eim p.association (card_of h).eims.entries ≡ (e.association == p.association)
  pub counted : e.association ≡ p.association → kept h p.eim p.association ≡ e.counter

pub looks_at : (h : History) (p : Package) (eid : List ℕ) (e : EimEntry) (rs : Results) → IsLegal h → (card_of h).eid ≡ eid → (card_of h).results ≡ rs → find (is_eim p.eim) (card_of h).eims.entries ≡ Some e → LooksAt h p eid e rs
looks_at h p eid e rs l a b f = record {
  eid_is = a;
  results_are = b;
  named = association_decides h p.eim p.association e l f;
  counted = counter_kept h p.eim p.association e l f;
}

was_not : (b : Bool) → true ≡ not b → b ≡ false
was_not true e = absurd cc
was_not false e = refl

was : (b : Bool) → false ≡ not b → b ≡ true
was true e = refl
was false e = absurd cc

pub wrong_eid : (h : History) (p : Package) (eid : List ℕ) (e : EimEntry) (rs : Results) → LooksAt h p eid e rs → true ≡ not (same p.eid eid) → later_refusal (card_of h) (kept h p.eim p.association) p ≡ Some (refused 4)
unfolding later_refusal
wrong_eid h p eid e rs at other = rw (at.eid_is, was_not (same p.eid eid) other) refl

pub wrong_association : (h : History) (p : Package) (eid : List ℕ) (e : EimEntry) (rs : Results) → LooksAt h p eid e rs → false ≡ not (same p.eid eid) → e.association ≢ p.association → later_refusal (card_of h) (kept h p.eim p.association) p ≡ Some (refused 5)
unfolding later_refusal
wrong_association h p eid e rs at own ne = rw (at.eid_is, was (same p.eid eid) own, at.named, ne_eqb e.association p.association ne) refl

pub replayed : (h : History) (p : Package) (eid : List ℕ) (e : EimEntry) (rs : Results) → LooksAt h p eid e rs → false ≡ not (same p.eid eid) → e.association ≡ p.association → p.counter ≤ e.counter
    → later_refusal (card_of h) (kept h p.eim p.association) p ≡ Some (record { code = 6; kept = e.counter; received = p.counter })
unfolding later_refusal
replayed h p eid e rs at own is low = rw (at.eid_is, was (same p.eid eid) own, at.named, eq-eqb e.association p.association is, at.counted is, le-leb p.counter e.counter low) refl

above_leb : (m n : ℕ) → n < m → nat_le m n ≡ false
above_leb m n above = false_from_ne_true (nat_le m n) (λ e. absurd (omega (arith, leb-true m n e)))

pub no_room_left : (h : History) (p : Package) (eid : List ℕ) (e : EimEntry) (rs : Results) → LooksAt h p eid e rs → false ≡ not (same p.eid eid) → e.association ≡ p.association → e.counter < p.counter → has_room rs ≡ false
    → later_refusal (card_of h) (kept h p.eim p.association) p ≡ Some (refused 7)
unfolding later_refusal
no_room_left h p eid e rs at own is above full = rw (at.eid_is, was (same p.eid eid) own, at.named, eq-eqb e.association p.association is, at.counted is, above_leb p.counter e.counter above, at.results_are, full) refl

pub passes : (h : History) (p : Package) (eid : List ℕ) (e : EimEntry) (rs : Results) → LooksAt h p eid e rs → false ≡ not (same p.eid eid) → e.association ≡ p.association → e.counter < p.counter → has_room rs ≡ true
    → later_refusal (card_of h) (kept h p.eim p.association) p ≡ None
unfolding later_refusal
passes h p eid e rs at own is above room = rw (at.eid_is, was (same p.eid eid) own, at.named, eq-eqb e.association p.association is, at.counted is, above_leb p.counter e.counter above, at.results_are, room) refl

pub unknown_eim : (h : History) (good : Bool) (p : Package) → find (is_eim p.eim) (card_of h).eims.entries ≡ None → package_refusal h good p ≡ Some (refused 2)
unfolding package_refusal eim_refusal has_eim
unknown_eim h good p f = rw (found_none (is_eim p.eim) (card_of h).eims.entries f) refl

pub known_eim : (h : History) (good : Bool) (p : Package) (e : EimEntry) → find (is_eim p.eim) (card_of h).eims.entries ≡ Some e → package_refusal h good p ≡ option_or (verdict_refusal good) (later_refusal (card_of h) (kept h p.eim p.association) p)
unfolding package_refusal eim_refusal has_eim
known_eim h good p e f = rw (found_some (is_eim p.eim) (card_of h).eims.entries e f) refl

pub too_long : (h : History) (good : Bool) (bytes : List ℕ) → most_octets < length bytes → check h good bytes ≡ Err (refused 8)
unfolding check
too_long h good bytes long = rw (above_leb (length bytes) most_octets long) refl

pub unread : (h : History) (good : Bool) (bytes : List ℕ) → length bytes ≤ most_octets → signed_at bytes ≡ None → check h good bytes ≡ Err (refused 1)
unfolding check check_read
unread h good bytes short none = rw (le-leb (length bytes) most_octets short, none) refl

pub read : (h : History) (good : Bool) (bytes : List ℕ) (s : Signed) → length bytes ≤ most_octets → signed_at bytes ≡ Some s → check h good bytes ≡ unless_refused (package_refusal h good s.«package») s.«package»
unfolding check check_read
read h good bytes s short some = rw (le-leb (length bytes) most_octets short, some) refl

-- one refusal
pub one_refusal : (x : Result Package Refused) (r why : Refused) → x ≡ Err r → r ≡ why → x ≡ Err why
one_refusal x r why e same = e ∙ ap (λ (y : Refused). Err y) same

pub bad_verdict : (good : Bool) (o : Option Refused) → good ≡ false → option_or (verdict_refusal good) o ≡ Some (refused 3)
bad_verdict true o e = absurd cc
bad_verdict false o e = refl

pub good_verdict : (good : Bool) (o : Option Refused) → good ≡ true → option_or (verdict_refusal good) o ≡ o
good_verdict true o e = refl
good_verdict false o e = absurd cc
