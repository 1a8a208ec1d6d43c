-- Each call leaves a store.
use Rattle.std.proofs.Common.{◌≡◌, ℕ, ◌+◌, ◌≤◌, ◌<◌, Bool, true, false, not, ◌||◌, cond, List, [], ◌∷◌, ◌++◌, length, map, arith, refl, ◌∙◌, ap, sym, subst, Option, None, Some}
use Rattle.std.specs.Prelude.{nat_le, ◌↔◌, IsSome, find}
use Rattle.std.specs.Borrow.{Bor}
use Rattle.std.specs.Option.{option_copied, option_to_list, is_some}
use Rattle.std.specs.List.{filter, list_any}
use Rattle.std.proofs.lemmas.Bool.{leb-true, leb-false, not-true, and_parts, true≢false}
use Rattle.std.proofs.lemmas.List.{length-append}
use Rattle.small_card.specs.Lists.{without}
use Rattle.small_card.specs.Cards.{Results}
use Rattle.small_card.specs.Checks.{has_room}
use Rattle.small_card.specs.Packages.{with_result}
use Rattle.small_card.specs.Units.{has_seq, is_pending, without_result, with_mark, marked}
use Rattle.small_card.specs.Numbered.{IsGiven}
use Rattle.small_card.specs.Ranges.{IsBefore}
use Rattle.small_card.specs.Valid.{IsPending, AreResults}
use Rattle.small_card.specs.declared.types.PackageResult.{PackageResult}
use Rattle.small_card.proofs.ListLemmas.{every_mono, every_push, every_append, every_filter, every_map, every_all, pair_push, pair_filter, length_filter}
use Rattle.small_card.proofs.ResultLemmas.{marked_few, marked_rising}
use Rattle.small_card.proofs.NumberTests.{given_later}
use Rattle.result_store.proofs.Passing.{any_of_none, any_of_some, without_of_none}
use Rattle.result_store.specs.declared.store.RemoveEnd.{RemoveEnd}
use Rattle.result_store.specs.declared.store.RemoveEnd.TheVariants.{Absent}
use Rattle.result_store.specs.Stores.{IsStore, passed}
use Rattle.result_store.specs.Calls.{Call, put, remove, mark_rolled, pass_number, after_call, after_calls, MayCall, May}

-- what room is
pub record Room (rs : Results) : Type 0 where
  pub few : length rs.pending < 8
  pub next : rs.next ≤ 4294967293

pub room_parts : (rs : Results) → has_room rs ≡ true → Room rs
unfolding has_room
room_parts rs e =
    let r = and_parts (not (nat_le 8 (length rs.pending))) (nat_le rs.next 4294967293) e in
    record { few = leb-false 8 (length rs.pending) (not-true _ r.0); next = leb-true rs.next 4294967293 r.1 }

-- the results of a valid card are a store
pub valid_store : (rs : Results) → AreResults rs → IsStore rs
valid_store rs h = record {
  few = h.few;
  each = every_mono (IsPending rs.next) (λ r. IsGiven rs.next r.seq) (λ r p. record { some = p.result.seq.some; given = p.given }) rs.pending h.each;
  pairs = h.rising;
  next = h.next;
}

pub same_store : (rs : Results) (ps : List PackageResult) (n : ℕ) → IsStore rs → ps ≡ rs.pending → n ≡ rs.next → IsStore (record { pending = ps; next = n })
same_store rs ps n h e f =
    let p : IsStore (record { pending = ps; next = rs.next }) = subst (λ (qs : List PackageResult). IsStore (record { pending = qs; next = rs.next })) (sym e) h in
    subst (λ (m : ℕ). IsStore (record { pending = ps; next = m })) (sym f) p

pub put_store : (r : PackageResult) (rs : Results) → r.seq ≡ rs.next → length rs.pending < 8 → rs.next ≤ 4294967294 → IsStore rs → IsStore (with_result r rs)
unfolding with_result
put_store r rs e few room h = record {
  few = let l : length (rs.pending ++ r ∷ []) ≡ length rs.pending + 1 = length-append rs.pending (r ∷ []) in omega (arith, l, few);
  each = every_push (λ r. IsGiven (rs.next + 1) r.seq) rs.pending r (every_mono (λ r. IsGiven rs.next r.seq) (λ r. IsGiven (rs.next + 1) r.seq) (λ r. given_later rs.next r.seq) rs.pending h.each) (record { some = omega (arith, e, h.next.some); given = omega (arith, e) });
  pairs = pair_push IsBefore rs.pending r h.pairs (every_mono (λ r. IsGiven rs.next r.seq) (λ x. IsBefore x r) (λ x p. omega (arith, p.given, e)) rs.pending h.each);
  next = record { some = omega arith; fits = omega (arith, room) };
}

pub removed_store : (seq : ℕ) (rs : Results) → IsStore rs → IsStore (without_result seq rs)
unfolding without_result
removed_store seq rs h = record {
  few = let l : length (without (has_seq seq) rs.pending) ≤ length rs.pending = length_filter (λ r. not (has_seq seq r)) rs.pending in omega (arith, l, h.few);
  each = every_filter (λ r. IsGiven rs.next r.seq) (λ r. not (has_seq seq r)) rs.pending h.each;
  pairs = pair_filter IsBefore (λ r. not (has_seq seq r)) rs.pending h.pairs;
  next = h.next;
}

pub marked_store : (seq : ℕ) (rs : Results) → rs.next ≤ 4294967294 → IsStore rs → IsStore (marked seq rs)
unfolding marked
marked_store seq rs room h = record {
  few = marked_few seq rs.next 8 rs.pending h.few;
  each = every_append (λ r. IsGiven (rs.next + 1) r.seq) (without (has_seq seq) rs.pending) (map (with_mark rs.next) (filter (has_seq seq) rs.pending))
      (every_mono (λ r. IsGiven rs.next r.seq) (λ r. IsGiven (rs.next + 1) r.seq) (λ r. given_later rs.next r.seq) (without (has_seq seq) rs.pending) (every_filter (λ r. IsGiven rs.next r.seq) (λ r. not (has_seq seq r)) rs.pending h.each))
      (every_map (λ y. Unit {0}) (λ r. IsGiven (rs.next + 1) r.seq) (with_mark rs.next) (λ y _. record { some = h.next.some; given = omega arith }) (filter (has_seq seq) rs.pending) (every_all (λ y. Unit {0}) (λ y. tt) (filter (has_seq seq) rs.pending)));
  pairs = marked_rising (λ r. IsGiven rs.next r.seq) seq rs.next (λ x p. p.given) rs.pending h.pairs h.each;
  next = record { some = omega arith; fits = omega (arith, room) };
}

pub passed_store : (rs : Results) → rs.next ≤ 4294967294 → IsStore rs → IsStore (passed rs)
unfolding passed
passed_store rs room h = record {
  few = h.few;
  each = every_mono (λ r. IsGiven rs.next r.seq) (λ r. IsGiven (rs.next + 1) r.seq) (λ r. given_later rs.next r.seq) rs.pending h.each;
  pairs = h.pairs;
  next = record { some = omega arith; fits = omega (arith, room) };
}

call_store : (rs : Results) (c : Call) → IsStore rs → MayCall rs c → IsStore (after_call rs c)
unfolding MayCall
call_store rs (put eim association counter items) h m =
    let r = room_parts rs m in
    put_store (record { seq = rs.next; eim = eim; association = association; counter = counter; items = items; rolled = false }) rs refl r.few (omega (arith, r.next)) h
call_store rs (remove seq) h m = removed_store seq rs h
call_store rs (mark_rolled seq) h m = marked_store seq rs m.1 h
call_store rs pass_number h m = passed_store rs m h

pub calls_store : (rs : Results) (cs : List Call) → IsStore rs → May rs cs → IsStore (after_calls rs cs)
unfolding after_calls May
calls_store rs [] h m = h
calls_store rs (c ∷ cs) h m = calls_store (after_call rs c) cs (call_store rs c h m.0) m.1

-- what the fields of a store keep through its calls

pub room_of : (view now : Results) → view ≡ now → has_room now ≡ true → has_room view ≡ true
room_of view now e h = ap has_room e ∙ h

pub next_of : (view now : Results) → view ≡ now → now.next ≤ 4294967294 → view.next ≤ 4294967294
next_of view now e h = subst (λ (rs : Results). rs.next ≤ 4294967294) (sym e) h

pub put_kept : (xs ys : List PackageResult) (n : ℕ) (r : PackageResult) → IsStore (record { pending = xs; next = n }) → has_room (record { pending = xs; next = n }) ≡ true → r.seq ≡ n → ys ≡ xs ++ r ∷ [] → IsStore (record { pending = ys; next = n + 1 })
unfolding with_result
put_kept xs ys n r h room e same =
    let k = room_parts (record { pending = xs; next = n }) room in
    subst (λ (zs : List PackageResult). IsStore (record { pending = zs; next = n + 1 })) (sym same)
    (put_store r (record { pending = xs; next = n }) e k.few (omega (arith, k.next)) h)

pub removed_kept : (xs ys : List PackageResult) (n seq : ℕ) → IsStore (record { pending = xs; next = n }) → ys ≡ without (has_seq seq) xs → IsStore (record { pending = ys; next = n })
unfolding without_result
removed_kept xs ys n seq h same =
    subst (λ (zs : List PackageResult). IsStore (record { pending = zs; next = n })) (sym same) (removed_store seq (record { pending = xs; next = n }) h)

pub marked_kept : (xs ys : List PackageResult) (n seq : ℕ) → IsStore (record { pending = xs; next = n }) → n ≤ 4294967294 → ys ≡ without (has_seq seq) xs ++ map (with_mark n) (filter (has_seq seq) xs) → IsStore (record { pending = ys; next = n + 1 })
unfolding marked
marked_kept xs ys n seq h room same =
    subst (λ (zs : List PackageResult). IsStore (record { pending = zs; next = n + 1 })) (sym same) (marked_store seq (record { pending = xs; next = n }) room h)

-- what removals and look-ups answer

any_of_list : (t : PackageResult → Bool) (xs : List PackageResult) (o : Option PackageResult) → option_to_list o ≡ filter t xs → list_any t xs ≡ is_some o
any_of_list t xs None e = any_of_none t xs (sym e)
any_of_list t xs (Some x) e = any_of_some t xs [] x (sym e)

none_iff : (o : Option PackageResult) → (o ≡ None) ↔ (is_some o ≡ false)
none_iff None = (λ e. refl, λ e. refl)
none_iff (Some x) = (λ e. absurd (cc), λ e. absurd (true≢false e))

pub absent_iff : (rs : Results) (xs : List PackageResult) (seq : ℕ) (taken : Option PackageResult) (end : RemoveEnd) → rs.pending ≡ xs → option_to_list taken ≡ filter (has_seq seq) xs → (end ≡ Absent) ↔ (taken ≡ None) → (end ≡ Absent) ↔ (is_pending seq rs.pending ≡ false)
unfolding is_pending
absent_iff rs xs seq taken end e k a =
    let same : is_pending seq rs.pending ≡ is_some taken = ap (list_any (has_seq seq)) e ∙ any_of_list (has_seq seq) xs taken k in
    let n = none_iff taken in
    (λ b. same ∙ n.0 (a.0 b), λ f. a.1 (n.1 (sym same ∙ f)))

pub absent_same : (xs ys : List PackageResult) (seq : ℕ) (taken : Option PackageResult) → taken ≡ None → option_to_list taken ≡ filter (has_seq seq) xs → ys ≡ without (has_seq seq) xs → ys ≡ xs
absent_same xs ys seq taken e k same = same ∙ without_of_none (has_seq seq) xs (sym k ∙ ap option_to_list e)

any_of_find : (t : PackageResult → Bool) (xs : List PackageResult) → is_some (find t xs) ≡ list_any t xs
any_of_find t [] = refl
any_of_find t (x ∷ xs) = elim (t x) as (λ b. is_some (cond {A = Option PackageResult} b (Some x) (find t xs)) ≡ b || list_any t xs) [ true ↦ refl | false ↦ any_of_find t xs ]

is_copied : (o : Option (Bor PackageResult)) → is_some (option_copied o) ≡ is_some o
is_copied None = refl
is_copied (Some x) = refl

pub found_iff : (rs : Results) (o : Option (Bor PackageResult)) (seq : ℕ) → option_copied o ≡ find (has_seq seq) rs.pending → (IsSome o) ↔ (is_pending seq rs.pending ≡ true)
unfolding is_pending
found_iff rs o seq e =
    let same : is_some o ≡ is_pending seq rs.pending = sym (is_copied o) ∙ ap is_some e ∙ any_of_find (has_seq seq) rs.pending in
    (λ s. sym same ∙ s, λ p. same ∙ p)
