-- One more result received.
use Rattle.std.proofs.Common.{◌≡◌, ℕ, ◌+◌, ◌≤◌, ◌<◌, suc, zero, Bool, true, false, ◌&&◌, ◌||◌, List, [], ◌∷◌, ◌++◌, length, map, refl, ◌∙◌, ap, sym, subst, arith, None, Some, nat_lt, get_or, set}
use Rattle.std.specs.Prelude.{◌==◌, position, Result, Ok, Err, OnOk, OnErr}
use Rattle.std.specs.List.{list_any, cons_option, filter_map}
use Rattle.std.proofs.lemmas.Bool.{cond_both, cond-true, cond-false, eqb-true, eq-eqb, and_parts, or_parts, or_right, lt-ltb, true≢false, false≢true}
use Rattle.std.proofs.lemmas.List.{map-append}
use Rattle.std.proofs.lemmas.List.Quantifiers.{position-Some}
use Rattle.std.proofs.Math.Seq.{map-set_same}
use Rattle.small_card.specs.Lists.{Every, EveryPair}
use Rattle.small_card.specs.declared.types.PackageResult.{PackageResult}
use Rattle.small_card.proofs.ListLemmas.{every_push, every_mono, every_both, every_all, pair_push, any_push, none_every, every_none, nowhere}
use Rattle.esipa_codec.specs.Records.{Key, key, keys, is_of, is_recorded, greater, record_of, records_of}
use Rattle.esipa_codec.proofs.Recording.{own_key, late_greater}
use Rattle.eim_queue.specs.Places.{is_key}
use Rattle.eim_queue.specs.Records.{AreRecords}

-- the same test on results and on keys
pub any_key : (association counter : ℕ) (rs : List PackageResult) → list_any (is_key association counter) (map key rs) ≡ list_any (is_of association counter) rs
any_key association counter [] = refl
any_key association counter (r ∷ rs) = ap (λ b. is_of association counter r || b) (any_key association counter rs)

or_flip : (a b : Bool) → (a || b) ≡ (b || a)
or_flip true true = refl
or_flip true false = refl
or_flip false true = refl
or_flip false false = refl

-- a result whose key is there adds no key
already : (association counter : ℕ) (r : PackageResult) (older : List PackageResult) → is_recorded r.association r.counter older ≡ true → (is_of association counter r || list_any (is_of association counter) older) ≡ list_any (is_of association counter) older
already association counter r older e =
    elim (is_of association counter r) as (λ b. is_of association counter r ≡ b → (b || list_any (is_of association counter) older) ≡ list_any (is_of association counter) older) [
      | true ↦ λ f.
          let both = and_parts (r.association == association) (r.counter == counter) f in
          let a = eqb-true r.association association both.0 in
          let c = eqb-true r.counter counter both.1 in
          sym (sym (ap (λ n. list_any (is_of n r.counter) older) a ∙ ap (λ n. list_any (is_of association n) older) c) ∙ e)
      | false ↦ λ f. refl
    ] refl

-- what is received is among the keys
keys_there : (association counter : ℕ) (rs : List PackageResult) → list_any (is_key association counter) (keys rs) ≡ list_any (is_of association counter) rs
unfolding keys
keys_there association counter [] = refl
keys_there association counter (r ∷ older) =
    cond_both (is_recorded r.association r.counter older) (keys older) (keys older ++ key r ∷ []) (λ ks. list_any (is_key association counter) ks ≡ is_of association counter r || list_any (is_of association counter) older)
    (λ e. keys_there association counter older ∙ sym (already association counter r older e))
    (λ e. any_push (is_key association counter) (keys older) (key r) ∙ ap (λ b. b || is_of association counter r) (keys_there association counter older) ∙ or_flip (list_any (is_of association counter) older) (is_of association counter r))

-- without a result of the key there is no record
no_record : (association counter : ℕ) (rs : List PackageResult) → list_any (is_of association counter) rs ≡ false → record_of association counter rs ≡ None
unfolding record_of
no_record association counter [] e = refl
no_record association counter (r ∷ older) e =
    let parts = or_parts (is_of association counter r) (list_any (is_of association counter) older) e in
    cond-false (is_of association counter r) (Some (greater r (record_of association counter older))) (record_of association counter older) parts.0 ∙ no_record association counter older parts.1

-- the record of another key stays
other_record : (r s : PackageResult) (received : List PackageResult) → is_of s.association s.counter r ≡ false → record_of s.association s.counter (r ∷ received) ≡ record_of s.association s.counter received
unfolding record_of
other_record r s received e = cond-false (is_of s.association s.counter r) (Some (greater r (record_of s.association s.counter received))) (record_of s.association s.counter received) e

-- the record of its own key is the greater
own_record : (r : PackageResult) (received : List PackageResult) → record_of r.association r.counter (r ∷ received) ≡ Some (greater r (record_of r.association r.counter received))
unfolding record_of
own_record r received = cond-true (is_of r.association r.counter r) (Some (greater r (record_of r.association r.counter received))) (record_of r.association r.counter received) (own_key r)

flip_of : (r s : PackageResult) → is_of r.association r.counter s ≡ false → is_of s.association s.counter r ≡ false
flip_of r s e =
    elim (is_of s.association s.counter r) as (λ b. is_of s.association s.counter r ≡ b → b ≡ false) [
      | true ↦ λ f.
          let both = and_parts (r.association == s.association) (r.counter == s.counter) f in
          let back : is_of r.association r.counter s ≡ true = ap (λ b. b && s.counter == r.counter) (eq-eqb s.association r.association (sym (eqb-true r.association s.association both.0))) ∙ eq-eqb s.counter r.counter (sym (eqb-true r.counter s.counter both.1)) in
          absurd (false≢true (sym e ∙ back))
      | false ↦ λ f. refl
    ] refl

alone : (r : PackageResult) → Some (greater r None) ≡ Some r
unfolding greater
alone r = refl

-- a result of a new key goes last
pub pushed_records : (rows received : List PackageResult) (r : PackageResult) → AreRecords rows received → list_any (is_of r.association r.counter) rows ≡ false → AreRecords (rows ++ r ∷ []) (r ∷ received)
unfolding keys
pushed_records rows received r h e =
    let none : is_recorded r.association r.counter received ≡ false = sym (keys_there r.association r.counter received) ∙ ap (list_any (is_key r.association r.counter)) (sym h.order) ∙ any_key r.association r.counter rows ∙ e in
    record {
      order = map-append key rows (r ∷ []) ∙ ap (λ ks. ks ++ key r ∷ []) h.order ∙ sym (cond-false (is_recorded r.association r.counter received) (keys received) (keys received ++ key r ∷ []) none);
      each = every_push (λ s. record_of s.association s.counter (r ∷ received) ≡ Some s) rows r
          (every_both (λ s. record_of s.association s.counter received ≡ Some s) (λ s. is_of r.association r.counter s ≡ false) (λ s. record_of s.association s.counter (r ∷ received) ≡ Some s)
          (λ s k f. other_record r s received (flip_of r s f) ∙ k) rows h.each (none_every (is_of r.association r.counter) rows e))
          (own_record r received ∙ ap (λ o. Some (greater r o)) (no_record r.association r.counter received none) ∙ alone r);
    }

get_every : {X : Type 0} (Q : X → Type 0) (xs : List X) (at : ℕ) (d : X) → at < length xs → Every Q xs → Q (get_or xs at d)
get_every Q [] at d l h = absurd (omega (arith, l))
get_every Q (x ∷ xs) zero d l h = h.0
get_every Q (x ∷ xs) (suc at) d l h = get_every Q xs at d (omega (arith, l)) h.1

pub any_at : {X : Type 0} (t : X → Bool) (xs : List X) (at : ℕ) (d : X) → at < length xs → t (get_or xs at d) ≡ true → list_any t xs ≡ true
any_at t [] at d l e = absurd (omega (arith, l))
any_at t (x ∷ xs) zero d l e = ap (λ b. b || list_any t xs) e
any_at t (x ∷ xs) (suc at) d l e = or_right (t x) (list_any t xs) (any_at t xs at d (omega (arith, l)) e)

-- the one element that passes gets another value
set_every : {X : Type 0} (P : X → Type 0) (t : X → Bool) (xs : List X) (at : ℕ) (y d : X) → at < length xs → t (get_or xs at d) ≡ true → EveryPair (λ x z. t x ≡ true → t z ≡ false) xs → Every (λ x. t x ≡ false → P x) xs → P y → Every P (set xs at y)
set_every P t [] at y d l e a h p = absurd (omega (arith, l))
set_every P t (x ∷ xs) zero y d l e a h p = (p, every_both (λ z. t x ≡ true → t z ≡ false) (λ z. t z ≡ false → P z) P (λ z f g. g (f e)) xs a.0 h.1)
set_every P t (x ∷ xs) (suc at) y d l e a h p =
    let less : at < length xs = omega (arith, l) in
    let off : t x ≡ false = elim (t x) as (λ b. t x ≡ b → b ≡ false) [ true ↦ λ f. absurd (true≢false (sym e ∙ get_every (λ z. t x ≡ true → t z ≡ false) xs at d less a.0 f)) | false ↦ λ f. refl ] refl in
    (h.0 off, set_every P t xs at y d less e a.1 h.1 p)

set_same : {X : Type 0} (xs : List X) (at : ℕ) (d : X) → at < length xs → set xs at (get_or xs at d) ≡ xs
set_same [] at d l = absurd (omega (arith, l))
set_same (x ∷ xs) zero d l = refl
set_same (x ∷ xs) (suc at) d l = ap (λ ys. x ∷ ys) (set_same xs at d (omega (arith, l)))

-- the keys are apart
keys_apart : (association counter : ℕ) (rs : List PackageResult) → EveryPair (λ k l. is_key association counter k ≡ true → is_key association counter l ≡ false) (keys rs)
unfolding keys
keys_apart association counter [] = tt
keys_apart association counter (r ∷ older) =
    let t : Key → Bool = is_key association counter in
    cond_both (is_recorded r.association r.counter older) (keys older) (keys older ++ key r ∷ []) (λ ks. EveryPair (λ k l. t k ≡ true → t l ≡ false) ks)
    (λ _. keys_apart association counter older)
    (λ e. pair_push (λ k l. t k ≡ true → t l ≡ false) (keys older) (key r) (keys_apart association counter older)
    (elim (t (key r)) as (λ b. t (key r) ≡ b → Every (λ k. t k ≡ true → t (key r) ≡ false) (keys older)) [
      | true ↦ λ f.
          let both = and_parts (r.association == association) (r.counter == counter) f in
          let there : list_any (is_of association counter) older ≡ false = ap (λ n. list_any (is_of n counter) older) (sym (eqb-true r.association association both.0)) ∙ ap (λ n. list_any (is_of r.association n) older) (sym (eqb-true r.counter counter both.1)) ∙ e in
          every_mono (λ k. t k ≡ false) (λ k. t k ≡ true → t (key r) ≡ false) (λ k off on. absurd (true≢false (sym on ∙ off))) (keys older) (none_every t (keys older) (keys_there association counter older ∙ there))
      | false ↦ λ f. every_all (λ k. t k ≡ true → t (key r) ≡ false) (λ k _. f) (keys older)
    ] refl))

every_from : {X Y : Type 0} (P : Y → Type 0) (f : X → Y) (xs : List X) → Every P (map f xs) → Every (λ x. P (f x)) xs
every_from P f [] h = tt
every_from P f (x ∷ xs) h = (h.0, every_from P f xs h.1)

pair_from : {X Y : Type 0} (R : Y → Y → Type 0) (f : X → Y) (xs : List X) → EveryPair R (map f xs) → EveryPair (λ x y. R (f x) (f y)) xs
pair_from R f [] h = tt
pair_from R f (x ∷ xs) h = (every_from (R (f x)) f xs h.0, pair_from R f xs h.1)

rows_apart : (association counter : ℕ) (rows received : List PackageResult) → AreRecords rows received → EveryPair (λ x y. is_of association counter x ≡ true → is_of association counter y ≡ false) rows
rows_apart association counter rows received h =
    pair_from (λ k l. is_key association counter k ≡ true → is_key association counter l ≡ false) key rows
    (subst (EveryPair (λ k l. is_key association counter k ≡ true → is_key association counter l ≡ false)) (sym h.order) (keys_apart association counter received))

-- the record of a place and a result of its key
pub record IsPlace (rows : List PackageResult) (at : ℕ) (r s : PackageResult) : Type 0 where
  pub inside : at < length rows
  pub there : get_or rows at s ≡ s
  pub its : is_of r.association r.counter s ≡ true

same_key : (r s : PackageResult) → is_of r.association r.counter s ≡ true → key r ≡ key s
same_key r s e =
    let both = and_parts (s.association == r.association) (s.counter == r.counter) e in
    let a : s.association ≡ r.association = eqb-true s.association r.association both.0 in
    let c : s.counter ≡ r.counter = eqb-true s.counter r.counter both.1 in
    ap (λ n. (n, r.counter)) (sym a) ∙ ap (λ n. (s.association, n)) (sym c)

-- a result of the same key takes the place
pub same_keys : (rows : List PackageResult) (at : ℕ) (r s : PackageResult) → IsPlace rows at r s → map key (set rows at r) ≡ map key rows
same_keys rows at r s p = map-set_same key rows at r s (same_key r s p.its ∙ ap key (sym p.there))

keys_stay : (rows received : List PackageResult) (at : ℕ) (r s : PackageResult) → AreRecords rows received → IsPlace rows at r s → keys (r ∷ received) ≡ keys received
unfolding keys
keys_stay rows received at r s h p =
    let t : PackageResult → Bool = is_of r.association r.counter in
    let e : is_recorded r.association r.counter received ≡ true = sym (keys_there r.association r.counter received) ∙ ap (list_any (is_key r.association r.counter)) (sym h.order) ∙ any_key r.association r.counter rows ∙ any_at t rows at s p.inside (ap t p.there ∙ p.its) in
    cond-true (is_recorded r.association r.counter received) (keys received) (keys received ++ key r ∷ []) e

others_stay : (rows received : List PackageResult) (r : PackageResult) → AreRecords rows received → Every (λ x. is_of r.association r.counter x ≡ false → record_of x.association x.counter (r ∷ received) ≡ Some x) rows
others_stay rows received r h = every_mono (λ x. record_of x.association x.counter received ≡ Some x) (λ x. is_of r.association r.counter x ≡ false → record_of x.association x.counter (r ∷ received) ≡ Some x)
    (λ x k e. other_record r x received (flip_of r x e) ∙ k) rows h.each

place_record : (rows received : List PackageResult) (at : ℕ) (r s : PackageResult) → AreRecords rows received → IsPlace rows at r s → record_of r.association r.counter (r ∷ received) ≡ Some (greater r (Some s))
place_record rows received at r s h p =
    let k : record_of s.association s.counter received ≡ Some s = subst (λ x. record_of x.association x.counter received ≡ Some x) p.there (get_every (λ x. record_of x.association x.counter received ≡ Some x) rows at s p.inside h.each) in
    let e = same_key r s p.its in
    own_record r received ∙ ap (λ o. Some (greater r o)) (ap (λ n. record_of n.0 n.1 received) e ∙ k)

greater_new : (r s : PackageResult) → s.seq < r.seq → greater r (Some s) ≡ r
unfolding greater
greater_new r s l = cond-true (nat_lt s.seq r.seq) r s (lt-ltb s.seq r.seq l)

-- a greater number takes the record's place
pub replaced_records : (rows received : List PackageResult) (at : ℕ) (r s : PackageResult) → AreRecords rows received → IsPlace rows at r s → s.seq < r.seq → AreRecords (set rows at r) (r ∷ received)
replaced_records rows received at r s h p l = record {
  order = same_keys rows at r s p ∙ h.order ∙ sym (keys_stay rows received at r s h p);
  each = set_every (λ x. record_of x.association x.counter (r ∷ received) ≡ Some x) (is_of r.association r.counter) rows at r s p.inside (ap (is_of r.association r.counter) p.there ∙ p.its)
      (rows_apart r.association r.counter rows received h) (others_stay rows received r h)
      (place_record rows received at r s h p ∙ ap (λ x. Some x) (greater_new r s l));
}

-- the record stays where the number isn't greater
pub kept_records : (rows received : List PackageResult) (at : ℕ) (r s : PackageResult) → AreRecords rows received → IsPlace rows at r s → r.seq ≤ s.seq → AreRecords rows (r ∷ received)
kept_records rows received at r s h p l =
    let same_rows : set rows at s ≡ rows = ap (set rows at) (sym p.there) ∙ set_same rows at s p.inside in
    record {
      order = h.order ∙ sym (keys_stay rows received at r s h p);
      each = subst (λ (xs : List PackageResult). Every (λ x. record_of x.association x.counter (r ∷ received) ≡ Some x) xs) same_rows
          (set_every (λ x. record_of x.association x.counter (r ∷ received) ≡ Some x) (is_of r.association r.counter) rows at s s p.inside (ap (is_of r.association r.counter) p.there ∙ p.its)
          (rows_apart r.association r.counter rows received h) (others_stay rows received r h)
          (ap (λ n. record_of n.0 n.1 (r ∷ received)) (sym (same_key r s p.its)) ∙ place_record rows received at r s h p ∙ ap (λ x. Some x) (late_greater r s l)));
    }

-- a place that was found
pub found_place : (rows shown seen : List PackageResult) (at : ℕ) (r s : PackageResult) → shown ≡ rows → seen ≡ rows → position (is_of r.association r.counter) shown ≡ Some at → s ≡ get_or seen at s → IsPlace rows at r s
found_place rows shown seen at r s same again e is =
    let here : s ≡ get_or rows at s = is ∙ ap (λ xs. get_or xs at s) again in
    let k = position-Some (is_of r.association r.counter) rows at s (ap (position (is_of r.association r.counter)) (sym same) ∙ e) in
    record { inside = k.0; there = sym here; its = subst (λ x. is_of r.association r.counter x ≡ true) (sym here) k.1 }

-- none was found
pub found_none : (rows shown : List PackageResult) (r : PackageResult) → shown ≡ rows → position (is_of r.association r.counter) shown ≡ None → list_any (is_of r.association r.counter) rows ≡ false
found_none rows shown r same e = every_none (is_of r.association r.counter) rows (nowhere (is_of r.association r.counter) rows (ap (position (is_of r.association r.counter)) (sym same) ∙ e))

pub then_ok : {T E : Type 0} (r : Result T E) (P Q : Type 0) → (P → Q) → OnOk r P → OnOk r Q
then_ok (Ok x) P Q f h = f h
then_ok (Err x) P Q f h = tt

pub either_way : {T E : Type 0} (r : Result T E) (P Q R : Type 0) → (P → R) → (Q → R) → OnOk r P → OnErr r Q → R
either_way (Ok x) P Q R f g h k = f h
either_way (Err x) P Q R f g h k = g k

-- a record of a key is there exactly where a result of that key was received
pub known_records : (rows received : List PackageResult) (association counter : ℕ) → AreRecords rows received → list_any (is_of association counter) rows ≡ is_recorded association counter received
known_records rows received association counter h =
    sym (any_key association counter rows) ∙ ap (list_any (is_key association counter)) h.order ∙ keys_there association counter received

-- the records in the order of first receiving are these rows
looked_up : (received rows : List PackageResult) → Every (λ r. record_of r.association r.counter received ≡ Some r) rows → filter_map (λ (k : Key). record_of k.0 k.1 received) (map key rows) ≡ rows
looked_up received [] h = refl
looked_up received (r ∷ rows) h = ap (λ o. cons_option o (filter_map (λ (k : Key). record_of k.0 k.1 received) (map key rows))) h.0 ∙ ap (λ rs. r ∷ rs) (looked_up received rows h.1)

pub records_are : (rows received : List PackageResult) → AreRecords rows received → rows ≡ records_of received
unfolding records_of
records_are rows received h =
    sym (looked_up received rows h.each) ∙ ap (filter_map (λ (k : Key). record_of k.0 k.1 received)) h.order
