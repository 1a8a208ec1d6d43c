-- Keeping old blocks, and opening the gate.
use Rattle.std.proofs.Common.{◌≡◌, ◌⊎◌, inl, inr, ℕ, zero, suc, ◌+◌, ◌-◌, ◌*◌, ◌<◌, ◌≤◌, true, false, List, [], ◌∷◌, ◌++◌, length, take, drop, get_or, refl, sym, ◌∙◌, ap, subst, arith, length-drop, length-append, add-one, append_assoc}
use Rattle.std.specs.Prelude.{Some, ◌==◌, Bool, Result, is_ok}
use Rattle.chip_port.specs.Seen.{Seen}
use Rattle.chip_port.specs.Runs.{Ran}
use Rattle.chip_port.proofs.Runs.{ran_none, ran_write, ran_then, ran_most}
use Rattle.std.proofs.lemmas.Bool.{cases_order}
use Rattle.std.proofs.lemmas.Grind.{common_steps}
use Rattle.std.proofs.lemmas.List.{take-take, drop-drop, drop-take, take_at, append-nil, length-take-le}
use Rattle.chip_port.specs.PastLaws.{torn_put}
use Rattle.chip_port.specs.Rules.{put, Torn, HasCause, IfTold, Written}
use Rattle.chip_port.proofs.Apart.{drop_put, take_before, torn_front, torn_back, torn_get, range_apart}
use Rattle.undo_journal.specs.Steps.{directory_of}
use Rattle.undo_journal.specs.Home.{put_back, same_octets, magic, has_magic, is_open, home_in, home, block_of, kept, AreBlocks}
use Rattle.undo_journal.specs.States.{Has, EachOf, IsRecorded, IsOpened}
use Rattle.undo_journal.proofs.PutBack.{length_part, has_above}
use Rattle.undo_journal.proofs.Gates.{keeps_torn, kept_back, length-recorded, home_shut, put_gate, lists_spelled, from_rises, home_torn, opened_home}

-- what is written in front of the home leaves it
pub behind_shut : (r i : List ℕ) → has_magic r ≡ true → is_open r ≡ false → Torn 512 173824 r i → home i ≡ home r
behind_shut r i front shut t =
    home_shut i (ap (λ (l : List ℕ). same_octets l magic) (torn_front 512 173824 8 r i (omega arith) t) ∙ front) (ap (λ (n : ℕ). n == 165) (torn_get 512 173824 256 r i (omega arith) t) ∙ shut)
    ∙ ap (λ (l : List ℕ). Some l) (torn_back 512 173824 174336 r i (omega arith) t)
    ∙ sym (home_shut r front shut)

-- the open gate of a recorded journal
pub gate_raised : (blocks before r x : List ℕ) → AreBlocks blocks → IsRecorded blocks before r → x ≡ put r 256 (165 ∷ []) → IsOpened blocks before x
gate_raised blocks before r x are rec is =
    let torn : Torn 256 1 r x = subst (λ (l : List ℕ). Torn 256 1 r l) (sym is) (torn_put r 256 1 (165 ∷ []) (omega (arith, rec.keeps.size)) (omega arith)) in
    let gate = put_gate x r 165 rec.keeps.size is in
    record {
      keeps = keeps_torn blocks (kept blocks before) r x torn rec.keeps;
      opened = ap (λ (n : ℕ). n == 165) gate.2;
      home = ap (λ (l : List ℕ). put_back blocks (kept blocks before) l) (gate.0 ∙ rec.home) ∙ kept_back blocks before are (length-recorded blocks before r rec);
    }

-- a range before the octets that are put
pub region_before : (a n to : ℕ) (octets r : List ℕ) → a + n ≤ to → to ≤ length r → take n (drop a (put r to octets)) ≡ take n (drop a r)
region_before a n to octets r le in_r = sym (drop-take a n (put r to octets)) ∙ ap (λ (l : List ℕ). drop a l) (take_before (a + n) to octets r le in_r) ∙ drop-take a n r

-- a range that ends with them
pub region_next : (a n to m : ℕ) (octets r : List ℕ) → to ≡ a + n → m ≡ n + length octets → to + length octets ≤ length r → take m (drop a (put r to octets)) ≡ take n (drop a r) ++ octets
region_next a n to m octets r is whole le =
    let y = drop a r in
    let there : to - a ≡ n = omega arith in
    let room : n ≤ length y = omega (arith, length-drop a r) in
    let len : length (take n y ++ octets) ≡ m = length-append (take n y) octets ∙ ap (λ (k : ℕ). k + length octets) (length-take-le n y room) ∙ sym whole in
    ap (λ (l : List ℕ). take m l) (drop_put a to octets r (omega arith) (omega arith) ∙ ap (λ (k : ℕ). put y k octets) there)
    ∙ take_at (take n y ++ octets) (drop (n + length octets) y) m len

kept_suc : (bs : List ℕ) (k : ℕ) (h : List ℕ) → k < length bs → kept (take (suc k) bs) h ≡ kept (take k bs) h ++ take 256 (drop (256 * get_or bs k 0) h)
kept_suc [] k h lt = absurd (omega arith)
kept_suc (b ∷ bs) zero h lt = append-nil (take 256 (drop (256 * b) h))
kept_suc (b ∷ bs) (suc k) h lt =
    ap (λ (l : List ℕ). take 256 (drop (256 * b) h) ++ l) (kept_suc bs k h (omega arith))
    ∙ sym (append_assoc (take 256 (drop (256 * b) h)) (kept (take k bs) h) (take 256 (drop (256 * get_or bs k 0) h)))

pub kept_more : (bs : List ℕ) (k : ℕ) (h : List ℕ) → k < length bs → kept (take (k + 1) bs) h ≡ kept (take k bs) h ++ take 256 (drop (256 * get_or bs k 0) h)
kept_more bs k h lt = rw add-one (kept_suc bs k h lt)

-- one block more is kept
pub kept_one : (r0 r r' bs : List ℕ) (k : ℕ) → length r ≡ 346624 → k < length bs → length bs ≤ 673 → get_or bs k 0 < 673 → drop 174336 r ≡ drop 174336 r0
    → r' ≡ put r (2048 + 256 * k) (take 256 (drop (174336 + 256 * get_or bs k 0) r)) → take (256 * k) (drop 2048 r) ≡ kept (take k bs) (drop 174336 r0)
    → take (256 * (k + 1)) (drop 2048 r') ≡ kept (take (k + 1) bs) (drop 174336 r0)
kept_one r0 r r' bs k size lt few below same now so_far =
    let b = get_or bs k 0 in
    let octets = take 256 (drop (174336 + 256 * b) r) in
    let len : length octets ≡ 256 = length_part 256 (174336 + 256 * b) r (omega arith) in
    let octets_are : octets ≡ take 256 (drop (256 * b) (drop 174336 r0)) = ap (λ (l : List ℕ). take 256 l) (sym (drop-drop (256 * b) 174336 r) ∙ ap (λ (l : List ℕ). drop (256 * b) l) same) in
    ap (λ (l : List ℕ). take (256 * (k + 1)) (drop 2048 l)) now
    ∙ region_next 2048 (256 * k) (2048 + 256 * k) (256 * (k + 1)) octets r refl (omega arith) (omega arith)
    ∙ ap (λ (l : List ℕ). l ++ octets) so_far
    ∙ ap (λ (l : List ℕ). kept (take k bs) (drop 174336 r0) ++ l) octets_are
    ∙ sym (kept_more bs k (drop 174336 r0) lt)

take_whole : (bs : List ℕ) (k : ℕ) → length bs ≤ k → take k bs ≡ bs
take_whole bs k le = grind (arith, common_steps)

-- all are kept, behind the closed gate
pub recorded_all : (r0 r bs : List ℕ) (k : ℕ) → AreBlocks bs → length r0 ≡ 346624 → has_magic r0 ≡ true → is_open r0 ≡ false → Torn 512 173824 r0 r → k ≡ length bs
    → take (2 + 2 * length bs) (drop 512 r) ≡ directory_of bs → take (256 * k) (drop 2048 r) ≡ kept (take k bs) (drop 174336 r0) → IsRecorded bs (home_in r0) r
recorded_all r0 r bs k are size front shut t all_of directory copies =
    let h = drop 174336 r0 in
    record {
      keeps = record {
        size = t.size ∙ size;
        front = ap (λ (l : List ℕ). same_octets l magic) (torn_front 512 173824 8 r0 r (omega arith) t) ∙ front;
        directory = lists_spelled bs (take 1536 (drop 512 r)) are (take-take (2 + 2 * length bs) 1536 (drop 512 r) (omega (arith, are.few)) ∙ directory);
        copies = ap (λ (m : ℕ). take (256 * m) (drop 2048 r)) (sym all_of) ∙ copies ∙ ap (λ (l : List ℕ). kept l h) (take_whole bs k (omega arith));
      };
      shut = ap (λ (n : ℕ). n == 165) (torn_get 512 173824 256 r0 r (omega arith) t) ∙ shut;
      home = torn_back 512 173824 174336 r0 r (omega arith) t;
    }

-- a home block is put in place
pub home_put : (r x : List ℕ) (block : ℕ) (octets : List ℕ) → block < 673 → length r ≡ 346624 → x ≡ put r (174336 + 256 * block) octets → home_in x ≡ put (home_in r) (256 * block) octets
home_put r x block octets below size is =
    let there : 174336 + 256 * block - 174336 ≡ 256 * block = omega arith in
    ap home_in is ∙ drop_put 174336 (174336 + 256 * block) octets r (omega arith) (omega arith) ∙ ap (λ (at : ℕ). put (home_in r) at octets) there

-- another home block than the one that is written
pub others_written : (block other : ℕ) (old new : List ℕ) → Torn (174336 + 256 * block) 256 old new → (other ≡ block → ⊥) → block_of (home_in new) other ≡ block_of (home_in old) other
others_written block other old new t apart = at new ∙ range_apart (174336 + 256 * block) 256 (174336 + 256 * other) 256 old new t (aside (cases_order other block)) ∙ sym (at old)
  where
    at : (l : List ℕ) → block_of (home_in l) other ≡ take 256 (drop (174336 + 256 * other) l)
    at l = ap (λ (x : List ℕ). take 256 x) (drop-drop (256 * other) 174336 l)

    aside : ((other ≡ block) ⊎ ((other < block) ⊎ (block < other))) → (174336 + 256 * other + 256 ≤ 174336 + 256 * block) ⊎ (174336 + 256 * block + 256 ≤ 174336 + 256 * other)
    aside (inl same) = absurd (apart same)
    aside (inr (inl below)) = inl (omega arith)
    aside (inr (inr above)) = inr (omega arith)

-- a kept block is below 673
pub kept_below : (blocks : List ℕ) (block : ℕ) → AreBlocks blocks → Has block blocks → block < 673
kept_below blocks block are has = (has_above 0 block blocks (from_rises 0 blocks are.rising (λ b bs e. omega arith)) has).1

-- a write to a kept home block leaves the gate open over the home before
pub home_written : {T E : Type 0} {blocks before octets : List ℕ} {a b : Seen} {result : Result T E} (block : ℕ) → AreBlocks blocks → Has block blocks → length octets ≡ 256 → a.told ≡ true
    → EachOf a.leaves (IsOpened blocks before) → HasCause a b result → IfTold a (Written (174336 + 256 * block) octets a b result) → Ran 1 (is_ok result) (IsOpened blocks before) a b
home_written {T} {E} {blocks} {before} {octets} {a} block are has size told all cause written =
    ran_write (ran_none (IsOpened blocks before) a told all) cause written
    (λ d i was torn. home_torn blocks (kept blocks before) before block d i are has (all d was) (subst (λ (n : ℕ). Torn (174336 + 256 * block) n d i) size torn))

-- what has the gate open over a home has that home
pub homes_of : {n : ℕ} {ok : Bool} {blocks before : List ℕ} {a b : Seen} → AreBlocks blocks → a.told ≡ true → EachOf a.leaves (IsOpened blocks before) → Ran n ok (IsOpened blocks before) a b → Ran n ok (λ i. home i ≡ Some before) a b
homes_of {n} {ok} {blocks} {before} {a} are told all run =
    ran_most (omega arith) (ran_then (ran_none (λ i. home i ≡ Some before) a told (λ i was. opened_home blocks (kept blocks before) before i are (all i was))) run (λ i o. opened_home blocks (kept blocks before) before i are o))
