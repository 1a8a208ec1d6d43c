-- Looks at the chip, one after the other.
use Rattle.std.proofs.Common.{◌≡◌, ℕ, ◌+◌, ◌*◌, ◌≤◌, true, List, ◌++◌, length, take, drop, refl, sym, ap, subst, ◌∙◌, arith, inl, ⊎_elim}
use Rattle.std.specs.Prelude.{Ok}
use Rattle.std.proofs.Math.Seq.{take-add}
use Rattle.std.proofs.lemmas.List.{take_all, drop-drop, length-drop}
use Rattle.chip_port.specs.Seen.{Seen, Tally, Passes, called}
use Rattle.chip_port.specs.Rules.{IfTold, HasCause, ReadOut, Untouched}
use Rattle.chip_port.specs.Runs.{Ran, Smooth, Went}
use Rattle.chip_port.proofs.Runs.{smooth_none, smooth_then, went_one, less_more}
use Rattle.undo_journal.specs.Home.{home_in, block_of}
use Rattle.card_store.specs.Looking.{Looks}

smooth_most : (m n : ℕ) (a b : Tally) → m ≤ n → Smooth m a b → Smooth n a b
smooth_most m n a b le s = record { more = s.more; most = omega (arith, s.most); plans = s.plans; cuts = s.cuts; breaks = s.breaks; cut = s.cut; plan = less_more m n a.plan b.plan le s.plan }

pub looks_none : (s : Seen) → s.told ≡ true → Looks 0 s s
looks_none s told = record { told = told; faults = refl; keeps = record { reads = refl; leaves = λ i. (λ was. was, λ was. was); marks = refl }; left = λ k i. (λ was. was, λ was. was); went = smooth_none s.tally }

pub looks_then : {m n : ℕ} {a b c : Seen} → Looks m a b → Looks n b c → Looks (m + n) a c
looks_then {m} {n} {a} {b} {c} x y = record {
  told = y.told;
  faults = y.faults ∙ x.faults;
  keeps = record { reads = y.keeps.reads ∙ x.keeps.reads; leaves = λ i. (λ was. (y.keeps.leaves i).0 ((x.keeps.leaves i).0 was), λ now. (x.keeps.leaves i).1 ((y.keeps.leaves i).1 now)); marks = y.keeps.marks ∙ x.keeps.marks };
  left = λ k i. (λ was. (y.left k i).0 ((x.left k i).0 was), λ now. (x.left k i).1 ((y.left k i).1 now));
  went = smooth_then m n a.tally b.tally c.tally x.went y.went;
}

pub looks_most : {m n : ℕ} {a b : Seen} → m ≤ n → Looks m a b → Looks n a b
looks_most {m} {n} {a} {b} le x = record { told = x.told; faults = x.faults; keeps = x.keeps; left = x.left; went = smooth_most m n a.tally b.tally le x.went }

smooth_one : (t u : Tally) → Passes t → u ≡ called true t → Smooth 1 t u
unfolding Went
smooth_one t u p is = subst (λ (v : Tally). Smooth 1 t v) (sym is) (went_one true t (λ e. p))

-- a read that succeeded
pub looks_read : {T E : Type 0} {a b : Seen} {x : T} {at : ℕ} {before after : List ℕ} → a.told ≡ true → ((i : List ℕ) → a.leaves i → a.left a.marks.answers i) → HasCause {E = E} a b (Ok x) → IfTold a (ReadOut {E = E} at before after a b (Ok x)) → Looks 1 a b
looks_read {T} {E} {a} {b} told law cause out =
    let r = out told in
    record {
      told = cause.told ∙ told;
      faults = r.call.calm;
      keeps = r.keeps;
      left = λ k i. (r.call.time.keeps k i, λ now. ⊎_elim (λ was. was) (λ n. subst (λ (m : ℕ). a.left m i) (sym (n.0 ∙ ap (λ m. m.answers) r.keeps.marks)) (law i ((r.keeps.leaves i).1 n.1))) (r.call.time.nothing_else k i now));
      went = smooth_one a.tally b.tally r.call.passes r.call.tally;
    }

-- a look is a run that adds no image
pub looks_ran : (n : ℕ) (P : List ℕ → Type 0) (a b : Seen) → Looks n a b → ((i : List ℕ) → a.leaves i → P i) → Ran n true P a b
unfolding Went
looks_ran n P a b l here = record {
  told = l.told;
  marks = l.keeps.marks;
  keeps = λ k i was. (l.left k i).0 was;
  adds = λ k i now. inl ((l.left k i).1 now);
  here = λ i now. here i ((l.keeps.leaves i).1 now);
  calm = λ ok. l.faults;
  went = l.went;
}

-- nothing but spare changed
pub untouched_looks : (n : ℕ) (a b : Seen) → a.told ≡ true → Untouched (λ t. t) a b → Looks n a b
untouched_looks n a b told u = record {
  told = u.told ∙ told;
  faults = u.faults;
  keeps = u.keeps;
  left = u.left;
  went = subst (λ (t : Tally). Smooth n a.tally t) (sym u.tally_is) (smooth_most 0 n a.tally a.tally (omega arith) (smooth_none a.tally));
}

-- a block of the home, from where it stands in the image
pub block_in : (image : List ℕ) (block : ℕ) → take 256 (drop (174336 + 256 * block) image) ≡ block_of (home_in image) block
block_in image block = ap (λ (l : List ℕ). take 256 l) (ap (λ (n : ℕ). drop n image) at ∙ sym (drop-drop (256 * block) 174336 image))
  where
    at : 174336 + 256 * block ≡ 174336 + 256 * block
    at = refl

-- one block more
pub blocks_on : (home read block : List ℕ) (k : ℕ) → read ≡ take (256 * k) home → block ≡ block_of home k → read ++ block ≡ take (256 * (k + 1)) home
blocks_on home read block k so_far is =
    let next : 256 * (k + 1) ≡ 256 * k + 256 = omega arith in
    ap (λ (l : List ℕ). l ++ block) so_far ∙ ap (λ (l : List ℕ). take (256 * k) home ++ l) is ∙ sym (take-add (256 * k) 256 home) ∙ ap (λ (n : ℕ). take n home) (sym next)

-- all blocks
pub blocks_all : (image read : List ℕ) (k : ℕ) → length image ≡ 346624 → 673 ≤ k → read ≡ take (256 * k) (home_in image) → read ≡ home_in image
blocks_all image read k size le so_far = so_far ∙ take_all (256 * k) (home_in image) (omega (arith, length-drop 174336 image))
