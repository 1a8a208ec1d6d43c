-- What the kept places find.
use Rattle.std.proofs.Common.{◌≡◌, ℕ, ◌<◌, suc, zero, Bool, true, false, ◌&&◌, ◌⊎◌, inl, inr, cond, List, [], ◌∷◌, ◌++◌, length, map, refl, ◌∙◌, ap, sym, arith, Option, None, Some, nat_lt, get_or}
use Rattle.std.specs.Prelude.{◌==◌, position, slice_get}
use Rattle.std.specs.List.{list_any, position_or_len}
use Rattle.std.specs.Option.{is_some, unwrap_or}
use Rattle.std.specs.BTreeMap.{BTreeMap}
use Rattle.std.proofs.lemmas.Bool.{cond-true, cond-false, eqb-true, eq-eqb, and_parts, lt-ltb, le-ltb, true≢false, false_from_ne_true}
use Rattle.std.proofs.lemmas.List.Sums.{position_or_len_is}
use Rattle.esipa_codec.specs.Records.{Key}
use Rattle.small_card.proofs.ListLemmas.{any_at}
use Rattle.eim_queue.specs.Places.{is_key, place_in, some_passes, ArePlaces}

flip : (m n : ℕ) → (m == n) ≡ (n == m)
flip m n = grind arith

-- the test of `settled` is that of the key
pub flip_key : (association counter : ℕ) (k : Key) → (association == k.0 && counter == k.1) ≡ is_key association counter k
flip_key association counter k = ap (λ b. b && counter == k.1) (flip association k.0) ∙ ap (λ b. k.0 == association && b) (flip counter k.1)

key_yes : (association counter : ℕ) (k : Key) → is_key association counter k ≡ true → k ≡ (association, counter)
key_yes association counter k e =
    let both = and_parts (k.0 == association) (k.1 == counter) e in
    ap (λ n. (n, k.1)) (eqb-true k.0 association both.0) ∙ ap (λ n. (association, n)) (eqb-true k.1 counter both.1)

pub own_place : (k : Key) → is_key k.0 k.1 k ≡ true
own_place k = ap (λ b. b && k.1 == k.1) (eq-eqb k.0 k.0 refl) ∙ eq-eqb k.1 k.1 refl

pub there : {X : Type 0} (xs : List X) (i : ℕ) (d : X) → i < length xs → slice_get xs i ≡ Some (get_or xs i d)
there [] i d l = absurd (omega (arith, l))
there (x ∷ xs) zero d l = refl
there (x ∷ xs) (suc i) d l = there xs i d (omega (arith, l))

-- what is shown at a place
pub got : {X : Type 0} (xs : List X) (at : ℕ) (x d : X) → slice_get xs at ≡ Some x → get_or xs at d ≡ x
got [] at x d e = absurd (true≢false (sym (ap is_some e)))
got (y ∷ xs) zero x d e = ap (λ o. unwrap_or o d) e
got (y ∷ xs) (suc at) x d e = got xs at x d e

key_there : {X : Type 0} (f : X → Key) (xs : List X) (i : ℕ) (d : X) → i < length xs → slice_get (map f xs) i ≡ Some (f (get_or xs i d))
key_there f [] i d l = absurd (omega (arith, l))
key_there f (x ∷ xs) zero d l = refl
key_there f (x ∷ xs) (suc i) d l = key_there f xs i d (omega (arith, l))

-- what has a key stands at the place of that key
placed : {X : Type 0} (f : X → Key) (places : BTreeMap Key ℕ) (association counter : ℕ) (xs : List X) (i : ℕ) (d : X)
    → ArePlaces places (map f xs) → i < length xs → is_key association counter (f (get_or xs i d)) ≡ true → place_in places (association, counter) ≡ Some i
placed f places association counter xs i d h l e =
    h i (association, counter) (key_there f xs i d l ∙ ap (λ k. Some k) (key_yes association counter (f (get_or xs i d)) e))

same_place : (p : Option ℕ) (m n : ℕ) → p ≡ Some m → p ≡ Some n → m ≡ n
same_place p m n h k = ap (λ o. unwrap_or o 0) (sym h ∙ k)

-- the key isn't elsewhere
pub alone : {X : Type 0} (f : X → Key) (places : BTreeMap Key ℕ) (association counter : ℕ) (xs : List X) (at i : ℕ) (d : X)
    → ArePlaces places (map f xs) → place_in places (association, counter) ≡ Some at → i < length xs → (i ≡ at → ⊥) → is_key association counter (f (get_or xs i d)) ≡ false
alone f places association counter xs at i d h p l n =
    false_from_ne_true (is_key association counter (f (get_or xs i d))) (λ e. n (same_place (place_in places (association, counter)) i at (placed f places association counter xs i d h l e) p))

-- the key isn't there
pub absent : {X : Type 0} (f : X → Key) (places : BTreeMap Key ℕ) (association counter : ℕ) (xs : List X) (i : ℕ) (d : X)
    → ArePlaces places (map f xs) → place_in places (association, counter) ≡ None → i < length xs → is_key association counter (f (get_or xs i d)) ≡ false
absent f places association counter xs i d h p l =
    false_from_ne_true (is_key association counter (f (get_or xs i d))) (λ e. absurd (none_some (sym p ∙ placed f places association counter xs i d h l e))) where
      none_some : None ≡ Some i → ⊥
      none_some q = true≢false (sym (ap is_some q))

none_passes : {X : Type 0} (test : X → Bool) (xs : List X) → ((i : ℕ) (d : X) → i < length xs → test (get_or xs i d) ≡ false) → position test xs ≡ None
none_passes test [] h = refl
none_passes test (x ∷ xs) h =
    let n : position_or_len test (x ∷ xs) ≡ length (x ∷ xs) = position_or_len_is test (x ∷ xs) (length (x ∷ xs)) x (omega arith) (λ k l. h k x l) (λ l. absurd (omega (arith, l))) in
    cond-false (nat_lt (position_or_len test (x ∷ xs)) (length (x ∷ xs))) (Some (position_or_len test (x ∷ xs))) None (le-ltb (position_or_len test (x ∷ xs)) (length (x ∷ xs)) (omega (arith, n)))

first_passes : {X : Type 0} (test : X → Bool) (xs : List X) (at : ℕ) (d : X) → at < length xs → test (get_or xs at d) ≡ true → ((i : ℕ) → i < at → test (get_or xs i d) ≡ false) → position test xs ≡ Some at
first_passes test xs at d l e off =
    let n : position_or_len test xs ≡ at = position_or_len_is test xs at d (omega (arith, l)) off (λ _. e) in
    cond-true (nat_lt (position_or_len test xs) (length xs)) (Some (position_or_len test xs)) None (lt-ltb (position_or_len test xs) (length xs) (omega (arith, n, l))) ∙ ap (λ m. Some m) n

-- what is looked up at a place
shown : {X : Type 0} (test : X → Bool) (xs : List X) (at : ℕ) → some_passes test (slice_get xs at) ≡ true → (at < length xs) × ((d : X) → test (get_or xs at d) ≡ true)
shown test [] at e = absurd (true≢false (sym e))
shown test (x ∷ xs) zero e = (omega arith, λ d. e)
shown test (x ∷ xs) (suc at) e = let rest = shown test xs at e in (omega (arith, rest.0), rest.1)

shown_off : {X : Type 0} (test : X → Bool) (xs : List X) (at : ℕ) (d : X) → some_passes test (slice_get xs at) ≡ false → at < length xs → test (get_or xs at d) ≡ false
shown_off test [] at d e l = absurd (omega (arith, l))
shown_off test (x ∷ xs) zero d e l = e
shown_off test (x ∷ xs) (suc at) d e l = shown_off test xs at d e (omega (arith, l))

-- the place of a key, where it stands there
pub found_there : {X : Type 0} (f : X → Key) (places : BTreeMap Key ℕ) (association counter : ℕ) (xs : List X) (at : ℕ)
    → ArePlaces places (map f xs) → place_in places (association, counter) ≡ Some at → some_passes (λ x. is_key association counter (f x)) (slice_get xs at) ≡ true → position (λ x. is_key association counter (f x)) xs ≡ Some at
found_there f places association counter [] at h p e = absurd (true≢false (sym e))
found_there f places association counter (x ∷ xs) at h p e =
    let k = shown (λ x. is_key association counter (f x)) (x ∷ xs) at e in
    first_passes (λ x. is_key association counter (f x)) (x ∷ xs) at x k.0 (k.1 x)
    (λ i l. alone f places association counter (x ∷ xs) at i x h p (omega (arith, l, k.0)) (λ n. omega (arith, n, l)))

pub found_other : {X : Type 0} (f : X → Key) (places : BTreeMap Key ℕ) (association counter : ℕ) (xs : List X) (at : ℕ)
    → ArePlaces places (map f xs) → place_in places (association, counter) ≡ Some at → some_passes (λ x. is_key association counter (f x)) (slice_get xs at) ≡ false → position (λ x. is_key association counter (f x)) xs ≡ None
found_other f places association counter xs at h p e =
    none_passes (λ x. is_key association counter (f x)) xs
    (λ i d l. false_from_ne_true (is_key association counter (f (get_or xs i d))) (λ t.
    let n = same_place (place_in places (association, counter)) i at (placed f places association counter xs i d h l t) p in
    true≢false (sym t ∙ ap (λ j. is_key association counter (f (get_or xs j d))) n ∙ shown_off (λ x. is_key association counter (f x)) xs at d e (omega (arith, n, l)))))

pub found_nowhere : {X : Type 0} (f : X → Key) (places : BTreeMap Key ℕ) (association counter : ℕ) (xs : List X)
    → ArePlaces places (map f xs) → place_in places (association, counter) ≡ None → position (λ x. is_key association counter (f x)) xs ≡ None
found_nowhere f places association counter xs h p =
    none_passes (λ x. is_key association counter (f x)) xs (λ i d l. absent f places association counter xs i d h p l)

-- one more place is kept, of a key that isn't there
pub record Keeps (old new : BTreeMap Key ℕ) (association counter at : ℕ) : Type 0 where
  pub places : (k : Key) → place_in new k ≡ cond (is_key association counter k) (Some at) (place_in old k)

pub places_stay : (old new : BTreeMap Key ℕ) (association counter at : ℕ) (ks : List Key) → ArePlaces old ks → list_any (is_key association counter) ks ≡ false → Keeps old new association counter at → ArePlaces new ks
places_stay old new association counter at ks h off p = λ i k e.
    p.places k
    ∙ cond-false (is_key association counter k) (Some at) (place_in old k) (false_from_ne_true (is_key association counter k) (λ t. true≢false (sym (any_at (is_key association counter) ks i k e t) ∙ off)))
    ∙ h i k e

pushed_there : (ks : List Key) (k j : Key) (i : ℕ) → slice_get (ks ++ j ∷ []) i ≡ Some k → (slice_get ks i ≡ Some k) ⊎ ((i ≡ length ks) × (k ≡ j))
pushed_there [] k j zero e = inr (refl, sym (ap (λ o. unwrap_or o j) e))
pushed_there [] k j (suc i) e = absurd (true≢false (sym (ap is_some e)))
pushed_there (x ∷ ks) k j zero e = inl e
pushed_there (x ∷ ks) k j (suc i) e = elim (pushed_there ks k j i e) [ inl h ↦ inl h | inr h ↦ inr (omega (arith, h.0), h.1) ]

pub places_more : (old new : BTreeMap Key ℕ) (ks : List Key) (j : Key) → ArePlaces old ks → list_any (is_key j.0 j.1) ks ≡ false → Keeps old new j.0 j.1 (length ks) → ArePlaces new (ks ++ j ∷ [])
places_more old new ks j h off p = λ i k e.
    elim (pushed_there ks k j i e) [
      | inl there ↦ places_stay old new j.0 j.1 (length ks) ks h off p i k there
      | inr last ↦ p.places k ∙ cond-true (is_key j.0 j.1 k) (Some (length ks)) (place_in old k) (ap (is_key j.0 j.1) last.1 ∙ own_place j) ∙ ap (λ n. Some n) (sym last.0)
    ]
