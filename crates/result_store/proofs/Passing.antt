-- What passes a test that one element at most passes, and what stays.
use Rattle.std.proofs.Common.{◌≡◌, ℕ, ◌+◌, ◌≤◌, ◌<◌, suc, Bool, true, false, not, ◌||◌, cond, List, [], ◌∷◌, length, arith, refl, ◌∙◌, ap, Option, None, Some}
use Rattle.std.specs.List.{filter, list_any, position_or_len, slice_get}
use Rattle.std.specs.Prelude.{position, nat_lt}
use Rattle.std.proofs.lemmas.Bool.{ltb-false, ne_eqb, eqb-true}
use Rattle.small_card.specs.Lists.{EveryPair, without}
use Rattle.small_card.specs.Ranges.{IsBefore}
use Rattle.small_card.specs.Units.{has_seq}
use Rattle.small_card.specs.declared.types.PackageResult.{PackageResult}
use Rattle.small_card.proofs.ListLemmas.{every_mono, pair_mono}
use Rattle.small_card.proofs.Pending.{filter_none}

filter_past : {X : Type 0} (t : X → Bool) (xs : List X) → length xs ≤ position_or_len t xs → filter t xs ≡ []
filter_past t [] h = refl
filter_past t (x ∷ xs) h =
    elim (t x) as (λ b. suc (length xs) ≤ cond (not b) (1 + position_or_len t xs) 0 → cond b (x ∷ filter t xs) (filter t xs) ≡ []) [
      | true ↦ λ l. absurd (omega (arith, l))
      | false ↦ λ l. filter_past t xs (omega arith)
    ] h

filter_one : {X : Type 0} (t : X → Bool) (xs : List X) (x : X) → EveryPair (λ x y. t x ≡ true → t y ≡ false) xs → slice_get xs (position_or_len t xs) ≡ Some x → filter t xs ≡ x ∷ []
filter_one t [] x h g = absurd (cc)
filter_one t (y ∷ ys) x h g =
    elim (t y) as (λ b. t y ≡ b → slice_get (y ∷ ys) (cond (not b) (1 + position_or_len t ys) 0) ≡ Some x → cond b (y ∷ filter t ys) (filter t ys) ≡ x ∷ []) [
      | true ↦ λ e k.
          let s : Some y ≡ Some x = k in
          let i : y ≡ x = cc in
          ap (λ zs. y ∷ zs) (filter_none t ys (every_mono (λ z. t y ≡ true → t z ≡ false) (λ z. t z ≡ false) (λ z f. f e) ys h.0)) ∙ ap (λ z. z ∷ []) i
      | false ↦ λ e k.
          let n : suc (position_or_len t ys) ≡ 1 + position_or_len t ys = omega arith in
          filter_one t ys x h.1 (ap (slice_get (y ∷ ys)) n ∙ k)
    ] refl g

-- what stands at the first place that passes is all that passes
pub filter_place : {X : Type 0} (t : X → Bool) (xs : List X) (at : ℕ) (x : X) → EveryPair (λ x y. t x ≡ true → t y ≡ false) xs → position t xs ≡ Some at → slice_get xs at ≡ Some x → filter t xs ≡ x ∷ []
filter_place t xs at x h e g =
    elim (nat_lt (position_or_len t xs) (length xs)) as (λ b. nat_lt (position_or_len t xs) (length xs) ≡ b → cond {A = Option ℕ} b (Some (position_or_len t xs)) None ≡ Some at → filter t xs ≡ x ∷ []) [
      | true ↦ λ l k. let i : position_or_len t xs ≡ at = cc in filter_one t xs x h (ap (slice_get xs) i ∙ g)
      | false ↦ λ l k. absurd (cc)
    ] refl e

pub filter_no_place : {X : Type 0} (t : X → Bool) (xs : List X) → position t xs ≡ None → filter t xs ≡ []
filter_no_place t xs e =
    elim (nat_lt (position_or_len t xs) (length xs)) as (λ b. nat_lt (position_or_len t xs) (length xs) ≡ b → cond {A = Option ℕ} b (Some (position_or_len t xs)) None ≡ None → filter t xs ≡ []) [
      | true ↦ λ l k. absurd (cc)
      | false ↦ λ l k. filter_past t xs (ltb-false (position_or_len t xs) (length xs) l)
    ] refl e

-- rising numbers are distinct
pub rising_one : (seq : ℕ) (rs : List PackageResult) → EveryPair IsBefore rs → EveryPair (λ x y. has_seq seq x ≡ true → has_seq seq y ≡ false) rs
rising_one seq rs h = pair_mono IsBefore (λ x y. has_seq seq x ≡ true → has_seq seq y ≡ false)
    (λ (x : PackageResult) (y : PackageResult) (l : x.seq < y.seq) (e : has_seq seq x ≡ true).
    ne_eqb y.seq seq (λ (f : y.seq ≡ seq). omega (arith, l, f, eqb-true x.seq seq e))) rs h

pub any_of_none : {X : Type 0} (t : X → Bool) (xs : List X) → filter t xs ≡ [] → list_any t xs ≡ false
any_of_none t [] h = refl
any_of_none t (x ∷ xs) h =
    elim (t x) as (λ b. cond b (x ∷ filter t xs) (filter t xs) ≡ [] → b || list_any t xs ≡ false) [
      | true ↦ λ k. absurd (cc)
      | false ↦ λ k. any_of_none t xs k
    ] h

pub any_of_some : {X : Type 0} (t : X → Bool) (xs ys : List X) (y : X) → filter t xs ≡ y ∷ ys → list_any t xs ≡ true
any_of_some t [] ys y h = absurd (cc)
any_of_some t (x ∷ xs) ys y h =
    elim (t x) as (λ b. cond b (x ∷ filter t xs) (filter t xs) ≡ y ∷ ys → b || list_any t xs ≡ true) [
      | true ↦ λ k. refl
      | false ↦ λ k. any_of_some t xs ys y k
    ] h

pub without_of_none : {X : Type 0} (t : X → Bool) (xs : List X) → filter t xs ≡ [] → without t xs ≡ xs
without_of_none t [] h = refl
without_of_none t (x ∷ xs) h =
    elim (t x) as (λ b. cond b (x ∷ filter t xs) (filter t xs) ≡ [] → cond (not b) (x ∷ without t xs) (without t xs) ≡ x ∷ xs) [
      | true ↦ λ k. absurd (cc)
      | false ↦ λ k. ap (λ zs. x ∷ zs) (without_of_none t xs k)
    ] h
