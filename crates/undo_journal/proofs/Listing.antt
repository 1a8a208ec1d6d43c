-- What a directory lists.
use Rattle.std.proofs.Common.{◌≡◌, inl, inr, ℕ, zero, suc, ◌+◌, ◌-◌, ◌*◌, ◌<◌, ◌≤◌, Bool, true, false, List, [], ◌∷◌, length, take, drop, get_or, refl, sym, ◌∙◌, ap, subst, arith, length-drop, add-one}
use Rattle.std.specs.Prelude.{ltb, leb, nat_lt, ◌&&◌}
use Rattle.std.proofs.lemmas.Grind.{common_steps}
use Rattle.std.proofs.lemmas.Bool.{leb-true}
use Rattle.std.proofs.lemmas.Bool.Decides.{nat_tests}
use Rattle.std.proofs.Math.Seq.{drop-cons}
use Rattle.undo_journal.specs.Home.{numbers, count_of, entries, rises, is_well_formed, AreBlocks}
use Rattle.undo_journal.specs.States.{Lists, Has}
use Rattle.undo_journal.proofs.Gates.{from_rises}
use Rattle.undo_journal.proofs.PutBack.{has_above}

-- the number at a place of a list of pairs of octets
numbers_at : (octets : List ℕ) (n c k : ℕ) → n ≡ 2 * c → k < c → n ≤ length octets → get_or (numbers (take n octets)) k 0 ≡ 256 * get_or octets (2 * k) 0 + get_or octets (2 * k + 1) 0
numbers_at [] n c k is lt room = absurd (omega arith)
numbers_at (high ∷ []) n c k is lt room = absurd (omega arith)
numbers_at (high ∷ low ∷ rest) n c zero is lt room =
    let two : n ≡ suc (suc (2 * (c - 1))) = omega arith in
    ap (λ (m : ℕ). get_or (numbers (take m (high ∷ low ∷ rest))) 0 0) two
numbers_at (high ∷ low ∷ rest) n c (suc k) is lt room =
    let two : n ≡ suc (suc (2 * (c - 1))) = omega arith in
    let at : 2 * suc k ≡ suc (suc (2 * k)) = omega arith in
    let next : 2 * suc k + 1 ≡ suc (suc (2 * k + 1)) = omega arith in
    ap (λ (m : ℕ). get_or (numbers (take m (high ∷ low ∷ rest))) (suc k) 0) two
    ∙ numbers_at rest (2 * (c - 1)) (c - 1) k refl (omega arith) (omega arith)
    ∙ sym (ap (λ (m : ℕ). 256 * get_or (high ∷ low ∷ rest) m 0 + get_or (high ∷ low ∷ rest) (2 * suc k + 1) 0) at
    ∙ ap (λ (m : ℕ). 256 * get_or rest (2 * k) 0 + get_or (high ∷ low ∷ rest) m 0) next)

length-numbers : (octets : List ℕ) (n c : ℕ) → n ≡ 2 * c → n ≤ length octets → length (numbers (take n octets)) ≡ c
length-numbers octets n zero is room = ap (λ (m : ℕ). length (numbers (take m octets))) is
length-numbers [] n (suc c) is room = absurd (omega arith)
length-numbers (high ∷ []) n (suc c) is room = absurd (omega arith)
length-numbers (high ∷ low ∷ rest) n (suc c) is room =
    let two : n ≡ suc (suc (2 * c)) = omega arith in
    let more = length-numbers rest (2 * c) c refl (omega arith) in
    ap (λ (m : ℕ). length (numbers (take m (high ∷ low ∷ rest)))) two ∙ ap (λ (m : ℕ). suc m) more

get_or-drop_two : (l : List ℕ) (k : ℕ) → get_or (drop 2 l) k 0 ≡ get_or l (2 + k) 0
get_or-drop_two l k = grind (arith, common_steps)

pub entries_at : (directory : List ℕ) (k : ℕ) → k < count_of directory → 2 + 2 * count_of directory ≤ length directory → get_or (entries directory) k 0 ≡ 256 * get_or directory (2 + 2 * k) 0 + get_or directory (3 + 2 * k) 0
entries_at directory k lt room =
    let next : 2 + (2 * k + 1) ≡ 3 + 2 * k = omega arith in
    numbers_at (drop 2 directory) (2 * count_of directory) (count_of directory) k refl lt (omega (arith, length-drop 2 directory))
    ∙ ap (λ (m : ℕ). 256 * m + get_or (drop 2 directory) (2 * k + 1) 0) (get_or-drop_two directory (2 * k))
    ∙ ap (λ (m : ℕ). 256 * get_or directory (2 + 2 * k) 0 + m) (get_or-drop_two directory (2 * k + 1) ∙ ap (λ (m : ℕ). get_or directory m 0) next)

pub length-entries : (directory : List ℕ) → 2 + 2 * count_of directory ≤ length directory → length (entries directory) ≡ count_of directory
length-entries directory room = length-numbers (drop 2 directory) (2 * count_of directory) (count_of directory) refl (omega (arith, length-drop 2 directory))

-- one step down a list that is tested
pub rises_on : (bs : List ℕ) (k : ℕ) → k + 1 < length bs → rises (drop k bs) ≡ (ltb (get_or bs k 0) (get_or bs (k + 1) 0) && rises (drop (k + 1) bs))
rises_on bs k lt =
    let first : drop k bs ≡ get_or bs k 0 ∷ drop (suc k) bs = drop-cons bs k 0 (omega arith) in
    let second : drop (suc k) bs ≡ get_or bs (suc k) 0 ∷ drop (suc (suc k)) bs = drop-cons bs (suc k) 0 (omega arith) in
    let whole : drop k bs ≡ get_or bs k 0 ∷ get_or bs (suc k) 0 ∷ drop (suc (suc k)) bs = first ∙ ap (λ (l : List ℕ). get_or bs k 0 ∷ l) second in
    ap rises whole ∙ ap (λ (l : List ℕ). ltb (get_or bs k 0) (get_or bs (suc k) 0) && rises l) (sym second) ∙ rw add-one refl

-- the last one
pub rises_last : (bs : List ℕ) (k : ℕ) → k + 1 ≡ length bs → rises (drop k bs) ≡ ltb (get_or bs k 0) 673
rises_last [] k is = absurd (omega arith)
rises_last (b ∷ []) zero is = refl
rises_last (b ∷ c ∷ bs) zero is = absurd (omega arith)
rises_last (b ∷ bs) (suc k) is = rises_last bs k (omega arith)

pub last_test : (x y : ℕ) → x ≡ y → ltb y 673 ≡ nat_lt x 673
last_test x y is = grind (arith, nat_tests)

and_split : (a b : Bool) → (a && b) ≡ true → (a ≡ true) × (b ≡ true)
and_split true b h = (refl, h)
and_split false b h = absurd (cc h)

pub rising_on : (bs : List ℕ) (k x y : ℕ) → k + 1 < length bs → x ≡ get_or bs k 0 → y ≡ get_or bs (k + 1) 0 → x < y → rises (drop k bs) ≡ rises (drop (k + 1) bs)
rising_on bs k x y lt is next up =
    let test : ltb (get_or bs k 0) (get_or bs (k + 1) 0) ≡ true = grind (arith, nat_tests) in
    rises_on bs k lt ∙ rw test refl

pub rising_ends : (bs : List ℕ) (k x y : ℕ) → k + 1 < length bs → x ≡ get_or bs k 0 → y ≡ get_or bs (k + 1) 0 → y ≤ x → rises (drop k bs) ≡ false
rising_ends bs k x y lt is next down =
    let test : ltb (get_or bs k 0) (get_or bs (k + 1) 0) ≡ false = grind (arith, nat_tests) in
    rises_on bs k lt ∙ rw test refl

-- what a well-formed directory lists
pub well_formed_lists : (directory : List ℕ) → length directory ≡ 1536 → is_well_formed directory ≡ true → AreBlocks (entries directory) × Lists (entries directory) directory
unfolding is_well_formed
well_formed_lists directory size fit =
    let parts = and_split _ _ fit in
    let counts = and_split _ _ parts.0 in
    let low : 1 ≤ count_of directory = leb-true _ _ counts.0 in
    let high : count_of directory ≤ 673 = leb-true _ _ counts.1 in
    let len : length (entries directory) ≡ count_of directory = length-entries directory (omega arith) in
    (record { some = omega arith; few = omega arith; rising = parts.1 }, record { counted = sym len; listed = refl })

pub has_at : (bs : List ℕ) (k : ℕ) → k < length bs → Has (get_or bs k 0) bs
has_at [] k lt = absurd (omega arith)
has_at (b ∷ bs) zero lt = inl refl
has_at (b ∷ bs) (suc k) lt = inr (has_at bs k (omega arith))

pub below_at : (bs : List ℕ) (k : ℕ) → AreBlocks bs → k < length bs → get_or bs k 0 < 673
below_at bs k are lt = (has_above 0 (get_or bs k 0) bs (from_rises 0 bs are.rising (λ b cs e. omega arith)) (has_at bs k lt)).1

-- the tests, as they are made
pub few_or_many : (directory : List ℕ) (n : ℕ) → n ≡ count_of directory → (leb 1 n && leb n 673) ≡ false → is_well_formed directory ≡ false
unfolding is_well_formed
few_or_many directory n is out = let none : (leb 1 (count_of directory) && leb (count_of directory) 673) ≡ false = ap (λ (k : ℕ). leb 1 k && leb k 673) (sym is) ∙ out in rw none refl

pub fit_is : (directory : List ℕ) (r : Bool) → 1 ≤ count_of directory → count_of directory ≤ 673 → rises (entries directory) ≡ r → is_well_formed directory ≡ r
unfolding is_well_formed
fit_is directory r low high is = ap (λ (b : Bool). leb 1 (count_of directory) && leb (count_of directory) 673 && b) is ∙ (grind (arith, nat_tests))

-- a block of a well-formed directory, as it is read
pub block_at : (D : List ℕ) (at b : ℕ) → length D ≡ 1536 → is_well_formed D ≡ true → at < count_of D → b ≡ 256 * get_or D (2 + 2 * at) 0 + get_or D (3 + 2 * at) 0
    → (b ≡ get_or (entries D) at 0) × (b < 673) × (at < length (entries D)) × Has b (entries D)
block_at D at b size fit lt is =
    let lists = well_formed_lists D size fit in
    let room : 2 + 2 * count_of D ≤ length D = omega (arith, lists.0.few, lists.1.counted) in
    let read : b ≡ get_or (entries D) at 0 = is ∙ sym (entries_at D at lt room) in
    let within : at < length (entries D) = omega (arith, lists.1.counted) in
    (read, omega (arith, read, below_at (entries D) at lists.0 within), within, subst (λ (x : ℕ). Has x (entries D)) (sym read) (has_at (entries D) at within))
