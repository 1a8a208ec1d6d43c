-- The pending results stay valid.
use Rattle.std.proofs.Common.{◌≡◌, ℕ, ◌+◌, ◌≤◌, ◌<◌, true, not, List, [], ◌∷◌, ◌++◌, length, map, arith}
use Rattle.std.specs.List.{filter}
use Rattle.std.proofs.lemmas.Bool.{eqb-true}
use Rattle.std.proofs.lemmas.List.{length-append, length-map}
use Rattle.small_card.specs.Lists.{Every, EveryPair, without}
use Rattle.small_card.specs.Cards.{Results}
use Rattle.small_card.specs.Packages.{with_result}
use Rattle.small_card.specs.Units.{has_seq, without_result, with_mark, marked}
use Rattle.small_card.specs.Ranges.{IsNumber, IsResult, IsBefore}
use Rattle.small_card.specs.Valid.{IsPending, AreResults}
use Rattle.small_card.specs.declared.types.PackageResult.{PackageResult}
use Rattle.small_card.proofs.ListLemmas.{every_mono, every_push, every_append, every_filter, every_passes, every_map, every_all, pair_push, pair_append, pair_both, pair_filter, pair_map, length_filter, length_parts}

pending_later : (n : ℕ) (r : PackageResult) → IsPending n r → IsPending (n + 1) r
pending_later n r h = record { result = h.result; given = omega (arith, h.given) }

pub pushed_valid : (r : PackageResult) (rs : Results) → IsResult r → r.seq ≡ rs.next → length rs.pending < 8 → rs.next ≤ 4294967294 → AreResults rs → AreResults (with_result r rs)
unfolding with_result
pushed_valid r rs k e few room h = record {
  few = let l : length (rs.pending ++ r ∷ []) ≡ length rs.pending + 1 = length-append rs.pending (r ∷ []) in omega (arith, l, few);
  each = every_push (IsPending (rs.next + 1)) rs.pending r (every_mono (IsPending rs.next) (IsPending (rs.next + 1)) (pending_later rs.next) rs.pending h.each) (record { result = k; given = omega (arith, e) });
  rising = pair_push IsBefore rs.pending r h.rising (every_mono (IsPending rs.next) (λ x. IsBefore x r) (λ x p. omega (arith, p.given, e)) rs.pending h.each);
  next = record { some = omega arith; fits = omega (arith, room) };
}

pub removed_valid : (seq : ℕ) (rs : Results) → AreResults rs → AreResults (without_result seq rs)
unfolding without_result
removed_valid seq rs h = record {
  few = let l : length (without (has_seq seq) rs.pending) ≤ length rs.pending = length_filter (λ r. not (has_seq seq r)) rs.pending in omega (arith, l, h.few);
  each = every_filter (IsPending rs.next) (λ r. not (has_seq seq r)) rs.pending h.each;
  rising = pair_filter IsBefore (λ r. not (has_seq seq r)) rs.pending h.rising;
  next = h.next;
}

mark_valid : (n : ℕ) (r : PackageResult) → IsNumber n → IsPending n r → IsPending (n + 1) (with_mark n r)
mark_valid n r k h = record {
  result = record { seq = k; eim = h.result.eim; association = h.result.association; counter = h.result.counter; many = h.result.many; items = h.result.items };
  given = omega arith;
}

-- of rising numbers one at most is this one
marks_rise : (seq n : ℕ) (rs : List PackageResult) → EveryPair IsBefore rs → EveryPair IsBefore (map (with_mark n) (filter (has_seq seq) rs))
marks_rise seq n rs h = pair_map (λ x y. IsBefore x y × (has_seq seq x ≡ true) × (has_seq seq y ≡ true)) IsBefore (with_mark n)
    (λ x y r. absurd (omega (arith, r.0, eqb-true x.seq seq r.1, eqb-true y.seq seq r.2))) (filter (has_seq seq) rs)
    (pair_both IsBefore (λ x. has_seq seq x ≡ true) (filter (has_seq seq) rs) (pair_filter IsBefore (has_seq seq) rs h) (every_passes (has_seq seq) rs))

-- each of the other results stands before each of the marked ones
marks_last : (P : PackageResult → Type 0) (seq n : ℕ) → ((x : PackageResult) → P x → x.seq < n) → (rs : List PackageResult) → Every P rs → Every (λ x. Every (IsBefore x) (map (with_mark n) (filter (has_seq seq) rs))) (without (has_seq seq) rs)
marks_last P seq n below rs h = every_mono P (λ x. Every (IsBefore x) (map (with_mark n) (filter (has_seq seq) rs)))
    (λ x p. every_map (λ y. Unit {0}) (IsBefore x) (with_mark n) (λ y _. below x p) (filter (has_seq seq) rs) (every_all (λ y. Unit {0}) (λ y. tt) (filter (has_seq seq) rs)))
    (without (has_seq seq) rs) (every_filter P (λ r. not (has_seq seq r)) rs h)

-- a mark keeps their number, and the marked ones come last
pub marked_few : (seq n most : ℕ) (rs : List PackageResult) → length rs ≤ most → length (without (has_seq seq) rs ++ map (with_mark n) (filter (has_seq seq) rs)) ≤ most
marked_few seq n most rs few =
    let rest : List PackageResult = without (has_seq seq) rs in
    let marks : List PackageResult = map (with_mark n) (filter (has_seq seq) rs) in
    let l : length (rest ++ marks) ≡ length rest + length marks = length-append rest marks in
    let m : length marks ≡ length (filter (has_seq seq) rs) = length-map (filter (has_seq seq) rs) (with_mark n) in
    omega (arith, l, m, length_parts (has_seq seq) rs, few)

pub marked_rising : (P : PackageResult → Type 0) (seq n : ℕ) → ((x : PackageResult) → P x → x.seq < n) → (rs : List PackageResult) → EveryPair IsBefore rs → Every P rs → EveryPair IsBefore (without (has_seq seq) rs ++ map (with_mark n) (filter (has_seq seq) rs))
marked_rising P seq n below rs rising each =
    pair_append IsBefore (without (has_seq seq) rs) (map (with_mark n) (filter (has_seq seq) rs)) (pair_filter IsBefore (λ r. not (has_seq seq r)) rs rising) (marks_rise seq n rs rising) (marks_last P seq n below rs each)

pub marked_valid : (seq : ℕ) (rs : Results) → rs.next ≤ 4294967294 → AreResults rs → AreResults (marked seq rs)
unfolding marked
marked_valid seq rs room h = record {
  few = marked_few seq rs.next 8 rs.pending h.few;
  each = every_append (IsPending (rs.next + 1)) (without (has_seq seq) rs.pending) (map (with_mark rs.next) (filter (has_seq seq) rs.pending))
      (every_mono (IsPending rs.next) (IsPending (rs.next + 1)) (pending_later rs.next) (without (has_seq seq) rs.pending) (every_filter (IsPending rs.next) (λ r. not (has_seq seq r)) rs.pending h.each))
      (every_map (IsPending rs.next) (IsPending (rs.next + 1)) (with_mark rs.next) (λ r p. mark_valid rs.next r h.next p) (filter (has_seq seq) rs.pending) (every_filter (IsPending rs.next) (has_seq seq) rs.pending h.each));
  rising = marked_rising (IsPending rs.next) seq rs.next (λ x p. p.given) rs.pending h.rising h.each;
  next = record { some = omega arith; fits = omega (arith, room) };
}
