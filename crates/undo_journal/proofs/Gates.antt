-- What an image stands for while the gate is opened, open, and closed.
use Rattle.std.proofs.Common.{◌≡◌, ◌⊎◌, inl, inr, ℕ, ◌+◌, ◌-◌, ◌*◌, ◌<◌, ◌≤◌, ◌/◌, ◌%◌, Bool, true, false, List, [], ◌∷◌, ◌++◌, length, take, drop, get_or, refl, sym, ◌∙◌, ap, subst, arith, length-drop, length-take, take-append-drop}
use Rattle.std.specs.Prelude.{Option, Some, None, if◌then◌else◌, ◌==◌, leb, ◌&&◌, suc}
use Rattle.std.proofs.lemmas.Grind.{common_steps}
use Rattle.std.proofs.lemmas.Bool.Decides.{nat_tests}
use Rattle.std.proofs.lemmas.List.{take-take, drop-drop, drop-take, append-nil}
use Rattle.chip_port.specs.Rules.{put, Torn}
use Rattle.chip_port.proofs.Apart.{drop_past, take_before, torn_front, torn_back, torn_middle, torn_get}
use Rattle.std.proofs.lemmas.Bool.{cases_Bool}
use Rattle.undo_journal.specs.Steps.{spelled, directory_of}
use Rattle.undo_journal.specs.Home.{numbers, count_of, entries, rises, is_well_formed, put_back, kept, same_octets, magic, has_magic, is_open, home_in, home, AreBlocks}
use Rattle.undo_journal.specs.States.{Has, Lists, Keeps, IsRecorded, IsOpenOver}
use Rattle.undo_journal.proofs.PutBack.{From, put_back_torn, put_back_kept}

pub from_rises : (n : ℕ) (blocks : List ℕ) → rises blocks ≡ true → ((b : ℕ) (bs : List ℕ) → blocks ≡ b ∷ bs → n ≤ b) → From n blocks
from_rises n [] r le = tt
from_rises n (b ∷ []) r le = (le b [] refl, grind (arith, nat_tests), tt)
from_rises n (b ∷ c ∷ bs) r le =
    let rest : rises (c ∷ bs) ≡ true = grind (arith, nat_tests) in
    let lt : b < c = grind (arith, nat_tests) in
    let more = from_rises (b + 1) (c ∷ bs) rest (λ x xs e. let same : c ≡ x = cc e in omega arith) in
    (le b (c ∷ bs) refl, omega (arith, lt, more.1), more)

numbers_spelled : (ns more : List ℕ) (n : ℕ) → n ≡ 2 * length ns → numbers (take n (spelled ns ++ more)) ≡ ns
numbers_spelled [] more n is = ap (λ (k : ℕ). numbers (take k more)) is
numbers_spelled (m ∷ ns) more n is =
    let two : n ≡ suc (suc (2 * length ns)) = omega arith in
    let one : 256 * (m / 256) + m % 256 ≡ m = omega arith in
    ap (λ (k : ℕ). numbers (take k (spelled (m ∷ ns) ++ more))) two
    ∙ ap (λ (x : ℕ). x ∷ numbers (take (2 * length ns) (spelled ns ++ more))) one
    ∙ ap (λ (l : List ℕ). m ∷ l) (numbers_spelled ns more (2 * length ns) refl)

-- a directory spells its blocks
pub entries_are : (blocks directory : List ℕ) → AreBlocks blocks → take (2 + 2 * length blocks) directory ≡ directory_of blocks → (count_of directory ≡ length blocks) × (entries directory ≡ blocks)
entries_are blocks directory are is =
    let m = length blocks in
    let more = drop (2 + 2 * m) directory in
    let whole : directory ≡ m / 256 ∷ m % 256 ∷ spelled blocks ++ more = sym (take-append-drop (2 + 2 * m) directory) ∙ ap (λ (l : List ℕ). l ++ more) is in
    let one : 256 * (m / 256) + m % 256 ≡ m = omega arith in
    (ap count_of whole ∙ one, ap entries whole ∙ numbers_spelled blocks more (2 * (256 * (m / 256) + m % 256)) (ap (λ (k : ℕ). 2 * k) one))

le_test : (m n : ℕ) → m ≤ n → leb m n ≡ true
le_test m n le = grind (arith, nat_tests)

both : (a b : Bool) → a ≡ true → b ≡ true → (a && b) ≡ true
both a b p q = rw (p, q) refl

-- what is spelled is listed
pub lists_spelled : (blocks directory : List ℕ) → AreBlocks blocks → take (2 + 2 * length blocks) directory ≡ directory_of blocks → Lists blocks directory
lists_spelled blocks directory are is = let e = entries_are blocks directory are is in record { counted = e.0; listed = e.1 }

pub well_formed : (blocks directory : List ℕ) → AreBlocks blocks → Lists blocks directory → is_well_formed directory ≡ true
unfolding is_well_formed
well_formed blocks directory are e =
    both _ _ (both _ _ (le_test 1 (count_of directory) (omega (arith, e.counted, are.some))) (le_test (count_of directory) 673 (omega (arith, e.counted, are.few)))) (ap rises e.listed ∙ are.rising)

put_back_front : (blocks old h : List ℕ) → put_back blocks old h ≡ put_back blocks (take (256 * length blocks) old) h
put_back_front [] old h = refl
put_back_front (b ∷ bs) old h =
    let n = 256 * length bs in
    let is : 256 * length (b ∷ bs) ≡ 256 + n = omega arith in
    let first : take 256 (take (256 + n) old) ≡ take 256 old = take-take 256 (256 + n) old (omega arith) in
    let rest : drop 256 (take (256 + n) old) ≡ take n (drop 256 old) = drop-take 256 n old in
    put_back_front bs (drop 256 old) (put h (256 * b) (take 256 old))
    ∙ sym (
    ap (λ (k : ℕ). put_back (b ∷ bs) (take k old) h) is
    ∙ ap (λ (l : List ℕ). put_back bs l (put h (256 * b) (take 256 (take (256 + n) old)))) rest
    ∙ ap (λ (l : List ℕ). put_back bs (take n (drop 256 old)) (put h (256 * b) l)) first
    )

-- the home behind an open gate
pub home_open : (blocks old image : List ℕ) → AreBlocks blocks → Keeps blocks old image → is_open image ≡ true → home image ≡ Some (put_back blocks old (home_in image))
unfolding home
home_open blocks old image are keeps opened =
    let D = take 1536 (drop 512 image) in
    let m = length blocks in
    let copies : take (256 * m) (take 172288 (drop 2048 image)) ≡ old = take-take (256 * m) 172288 (drop 2048 image) (omega (arith, are.few)) ∙ keeps.copies in
    let front = keeps.front in
    let wf = well_formed blocks D are keeps.directory in
    simp (front, opened, wf) (
    ap (λ (l : List ℕ). Some (put_back l (take 172288 (drop 2048 image)) (drop 174336 image))) keeps.directory.listed
    ∙ ap (λ (l : List ℕ). Some l) (put_back_front blocks (take 172288 (drop 2048 image)) (drop 174336 image) ∙ ap (λ (l : List ℕ). put_back blocks l (drop 174336 image)) copies)
    )

pub home_shut : (image : List ℕ) → has_magic image ≡ true → is_open image ≡ false → home image ≡ Some (home_in image)
unfolding home
home_shut image front shut = simp (front, shut)

where_true : (b : Bool) (o : Option (List ℕ)) (blocks : List ℕ) → (if b then o else None) ≡ Some blocks → b ≡ true
where_true true o blocks e = refl
where_true false o blocks e = absurd cc

-- an image with a home has the magic
pub home_magic : (image blocks : List ℕ) → home image ≡ Some blocks → has_magic image ≡ true
unfolding home
home_magic image blocks e = where_true (has_magic image) _ blocks e

lists_as : (blocks d i : List ℕ) → take 1536 (drop 512 i) ≡ take 1536 (drop 512 d) → Lists blocks (take 1536 (drop 512 d)) → Lists blocks (take 1536 (drop 512 i))
lists_as blocks d i same l = subst (λ (x : List ℕ). Lists blocks x) (sym same) l

pub keeps_torn : (blocks old d i : List ℕ) → Torn 256 1 d i → Keeps blocks old d → Keeps blocks old i
keeps_torn blocks old d i t k = record {
  size = t.size ∙ k.size;
  front = ap (λ (l : List ℕ). same_octets l magic) (torn_front 256 1 8 d i (omega arith) t) ∙ k.front;
  directory = lists_as blocks d i (ap (λ (l : List ℕ). take 1536 l) (torn_back 256 1 512 d i (omega arith) t)) k.directory;
  copies = ap (λ (l : List ℕ). take (256 * length blocks) l) (torn_back 256 1 2048 d i (omega arith) t) ∙ k.copies;
}

-- the kept blocks of a home give it again
pub kept_back : (blocks h : List ℕ) → AreBlocks blocks → length h ≡ 172288 → put_back blocks (kept blocks h) h ≡ h
kept_back blocks h are size =
    ap (λ (l : List ℕ). put_back blocks l h) (sym (append-nil (kept blocks h))) ∙ put_back_kept 0 blocks h [] (from_rises 0 blocks are.rising (λ b bs e. omega arith)) size

-- how long the home is
pub length-recorded : (blocks before d : List ℕ) → IsRecorded blocks before d → length before ≡ 172288
length-recorded blocks before d r = ap length (sym r.home) ∙ omega (arith, length-drop 174336 d, r.keeps.size)

-- while the gate is opened the home is the old one
pub opening : (blocks before d i : List ℕ) → AreBlocks blocks → IsRecorded blocks before d → Torn 256 1 d i → home i ≡ Some before
opening blocks before d i are r t =
    let old = kept blocks before in
    let same : drop 174336 i ≡ before = torn_back 256 1 174336 d i (omega arith) t ∙ r.home in
    let keeps = keeps_torn blocks old d i t r.keeps in
    elim (cases_Bool (get_or i 256 0 == 165)) [
      | inl opens ↦
          home_open blocks old i are keeps opens
          ∙ ap (λ (l : List ℕ). Some (put_back blocks old l)) same
          ∙ ap (λ (l : List ℕ). Some l) (kept_back blocks before are (length-recorded blocks before d r))
      | inr shuts ↦ home_shut i keeps.front shuts ∙ ap (λ (l : List ℕ). Some l) same
    ]

-- while the gate is closed it is the old one or the new one
pub closing : (blocks old before d i : List ℕ) → AreBlocks blocks → IsOpenOver blocks old before d → Torn 256 1 d i → (home i ≡ Some before) ⊎ (home i ≡ Some (drop 174336 d))
closing blocks old before d i are o t =
    let same : drop 174336 i ≡ drop 174336 d = torn_back 256 1 174336 d i (omega arith) t in
    let keeps = keeps_torn blocks old d i t o.keeps in
    elim (cases_Bool (get_or i 256 0 == 165)) [
      | inl opens ↦ inl (
          home_open blocks old i are keeps opens
          ∙ ap (λ (l : List ℕ). Some (put_back blocks old l)) same
          ∙ ap (λ (l : List ℕ). Some l) o.home
          )
      | inr shuts ↦ inr (home_shut i keeps.front shuts ∙ ap (λ (l : List ℕ). Some l) same)
    ]

torn_drop : (k at n : ℕ) (d i : List ℕ) → Torn (k + at) n d i → Torn at n (drop k d) (drop k i)
torn_drop k at n d i t = record {
  before = torn_middle (k + at) n k at d i (omega arith) t;
  after = on i ∙ t.after ∙ sym (on d);
  size = length-drop k i ∙ ap (λ (m : ℕ). m - k) t.size ∙ sym (length-drop k d);
}
  where
    on : (l : List ℕ) → drop (at + n) (drop k l) ≡ drop (k + at + n) l
    on l = let e : k + (at + n) ≡ k + at + n = omega arith in drop-drop (at + n) k l ∙ ap (λ (m : ℕ). drop m l) e

-- a kept home block may hold anything while the gate is open
pub home_torn : (blocks old before : List ℕ) (block : ℕ) (d i : List ℕ) → AreBlocks blocks → Has block blocks → IsOpenOver blocks old before d → Torn (174336 + 256 * block) 256 d i → IsOpenOver blocks old before i
home_torn blocks old before block d i are has o t =
    let m = length blocks in
    let at = 174336 + 256 * block in
    let room : 256 * m ≤ length old = omega (arith, ap length o.keeps.copies, length-take (256 * m) (drop 2048 d), length-drop 2048 d, o.keeps.size, are.few) in
    record {
      keeps = record {
        size = t.size ∙ o.keeps.size;
        front = ap (λ (l : List ℕ). same_octets l magic) (torn_front at 256 8 d i (omega arith) t) ∙ o.keeps.front;
        directory = lists_as blocks d i (torn_middle at 256 512 1536 d i (omega arith) t) o.keeps.directory;
        copies = torn_middle at 256 2048 (256 * m) d i (omega (arith, are.few)) t ∙ o.keeps.copies;
      };
      opened = ap (λ (n : ℕ). n == 165) (torn_get at 256 256 d i (omega arith) t) ∙ o.opened;
      home = put_back_torn 0 block blocks old (drop 174336 d) (drop 174336 i) (from_rises 0 blocks are.rising (λ b bs e. omega arith)) has
          (omega (arith, length-drop 174336 d, o.keeps.size)) room (torn_drop 174336 (256 * block) 256 d i t) ∙ o.home;
    }

pub opened_home : (blocks old before d : List ℕ) → AreBlocks blocks → IsOpenOver blocks old before d → home d ≡ Some before
opened_home blocks old before d are o = home_open blocks old d are o.keeps o.opened ∙ ap (λ (l : List ℕ). Some l) o.home

pub put_gate : (x r : List ℕ) (gate : ℕ) → length r ≡ 346624 → x ≡ put r 256 (gate ∷ []) → (drop 174336 x ≡ drop 174336 r) × (take 8 x ≡ take 8 r) × (get_or x 256 0 ≡ gate)
put_gate x r gate size is = (
  ap (λ (l : List ℕ). drop 174336 l) is ∙ drop_past 174336 256 (gate ∷ []) r (omega arith) (omega (arith, size)),
  ap (λ (l : List ℕ). take 8 l) is ∙ take_before 8 256 (gate ∷ []) r (omega arith) (omega (arith, size)),
  ap (λ (l : List ℕ). get_or l 256 0) is ∙ get_put r 256 gate (omega (arith, size)),
)
  where
    get_put : (r : List ℕ) (at gate : ℕ) → at + 1 ≤ length r → get_or (put r at (gate ∷ [])) at 0 ≡ gate
    get_put r at gate le = grind (arith, common_steps)
