-- Blocks that are compared one after the other.
use Rattle.std.proofs.Common.{◌≡◌, ◌⊎◌, inl, inr, ⊎_elim, ℕ, zero, suc, ◌+◌, ◌-◌, ◌*◌, ◌<◌, ◌≤◌, true, false, List, [], ◌∷◌, ◌++◌, length, take, drop, refl, sym, ◌∙◌, ap, subst, arith, append_assoc, length-append, length-drop, length-take}
use Rattle.std.specs.Prelude.{ltb, Result, Ok, Err, OnOk}
use Rattle.std.specs.List.{range_with_len}
use Rattle.std.proofs.Math.Seq.{take-add}
use Rattle.std.proofs.lemmas.Bool.{cases_order, cases_Bool}
use Rattle.std.proofs.lemmas.Bool.Decides.{nat_tests}
use Rattle.std.proofs.lemmas.List.{take-take, take_all, drop-take, drop-drop, take-append-drop, take-append-le, drop-append-le, length-take-le, append-nil, nil_from_length, take_at, drop_at}
use Rattle.small_card.proofs.ListLemmas.{same_yes, same_no, same_self}
use Rattle.chip_port.specs.Rules.{put}
use Rattle.chip_port.specs.PastLaws.{length-put}
use Rattle.chip_port.proofs.Apart.{drop_past}
use Rattle.undo_journal.specs.Home.{put_back, block_of, same_octets, rises}
use Rattle.undo_journal.specs.States.{Has}
use Rattle.undo_journal.proofs.PutBack.{From, put_same}
use Rattle.undo_journal.proofs.BlockByBlock.{others_back}
use Rattle.card_store.specs.Changed.{differing, changed}
use Rattle.card_store.specs.Comparing.{Between, AllDiffer, IsListed, IsCompared, Lists, Compared}
use Rattle.card_store.specs.declared.ends.StageError.{StageError}
use Rattle.card_store.specs.declared.changes.Changes.{Changes}

-- the first block isn't behind the last one
pub between_le : (first : ℕ) (bs : List ℕ) (end : ℕ) → Between first bs end → first ≤ end
between_le first [] end f = f
between_le first (b ∷ bs) end f = omega (arith, f.0, between_le (b + 1) bs end f.1)

pub between_more : (first : ℕ) (bs : List ℕ) (end more : ℕ) → Between first bs end → end ≤ more → Between first bs more
between_more first [] end more f le = omega (arith, f)
between_more first (b ∷ bs) end more f le = (f.0, between_more (b + 1) bs end more f.1 le)

pub between_push : (first : ℕ) (bs : List ℕ) (b : ℕ) → Between first bs b → Between first (bs ++ b ∷ []) (b + 1)
between_push first [] b f = (f, omega arith)
between_push first (c ∷ bs) b f = (f.0, between_push (c + 1) bs b f.1)

pub between_from : (first : ℕ) (bs : List ℕ) (end : ℕ) → Between first bs end → end ≤ 673 → From first bs
between_from first [] end f le = tt
between_from first (b ∷ bs) end f le = (f.0, omega (arith, between_le (b + 1) bs end f.1, le), between_from (b + 1) bs end f.1 le)

between_below : (first : ℕ) (bs : List ℕ) (end b : ℕ) → Between first bs end → Has b bs → (first ≤ b) × (b < end)
between_below first [] end b f has = absurd has
between_below first (c ∷ cs) end b f (inl e) = (omega (arith, f.0, e), omega (arith, between_le (c + 1) cs end f.1, e))
between_below first (c ∷ cs) end b f (inr has) = let r = between_below (c + 1) cs end b f.1 has in (omega (arith, f.0, r.0), r.1)

-- so many blocks that rise are few
pub between_few : (first : ℕ) (bs : List ℕ) (end : ℕ) → Between first bs end → first + length bs ≤ end
between_few first [] end f = omega (arith, f)
between_few first (b ∷ bs) end f = omega (arith, f.0, between_few (b + 1) bs end f.1)

-- putting back keeps the length
pub length-put_back : (n : ℕ) (blocks old h : List ℕ) → From n blocks → length h ≡ 172288 → 256 * length blocks ≤ length old → length (put_back blocks old h) ≡ 172288
length-put_back n [] old h f size room = size
length-put_back n (b ∷ bs) old h f size room =
    let len : length (take 256 old) ≡ 256 = length-take-le 256 old (omega (arith, room)) in
    length-put_back (b + 1) bs (drop 256 old) (put h (256 * b) (take 256 old)) f.2 (length-put h (256 * b) (take 256 old) (omega (arith, len, f.1, size)) ∙ size) (omega (arith, length-drop 256 old, room))

-- one block more is put back
pub put_back-push : (bs os : List ℕ) (b : ℕ) (block h : List ℕ) → length os ≡ 256 * length bs → length block ≡ 256 → put_back (bs ++ b ∷ []) (os ++ block) h ≡ put (put_back bs os h) (256 * b) block
put_back-push [] os b block h size len =
    let none : os ≡ [] = nil_from_length os size in
    let front : take 256 (os ++ block) ≡ block = ap (λ (l : List ℕ). take 256 (l ++ block)) none ∙ take_all 256 block (omega (arith, len)) in
    ap (λ (l : List ℕ). put h (256 * b) l) front
put_back-push (c ∷ cs) os b block h size len =
    let front : take 256 (os ++ block) ≡ take 256 os = take-append-le 256 os block (omega (arith, size)) in
    let rest : drop 256 (os ++ block) ≡ drop 256 os ++ block = drop-append-le 256 os block (omega (arith, size)) in
    ap (λ (l : List ℕ). put_back (cs ++ b ∷ []) (drop 256 (os ++ block)) (put h (256 * c) l)) front
    ∙ ap (λ (l : List ℕ). put_back (cs ++ b ∷ []) l (put h (256 * c) (take 256 os))) rest
    ∙ put_back-push cs (drop 256 os) b block (put h (256 * c) (take 256 os)) (omega (arith, length-drop 256 os, size)) len

-- one block more differs
pub differ_push : (bs os : List ℕ) (b : ℕ) (block h : List ℕ) → length os ≡ 256 * length bs → length block ≡ 256 → AllDiffer bs os h → (block ≡ block_of h b → ⊥) → AllDiffer (bs ++ b ∷ []) (os ++ block) h
differ_push [] os b block h size len d new =
    let none : os ≡ [] = nil_from_length os size in
    let front : take 256 (os ++ block) ≡ block = ap (λ (l : List ℕ). take 256 (l ++ block)) none ∙ take_all 256 block (omega (arith, len)) in
    ((λ same. new (sym front ∙ same)), tt)
differ_push (c ∷ cs) os b block h size len d new =
    let front : take 256 (os ++ block) ≡ take 256 os = take-append-le 256 os block (omega (arith, size)) in
    let rest : drop 256 (os ++ block) ≡ drop 256 os ++ block = drop-append-le 256 os block (omega (arith, size)) in
    ((λ same. d.0 (sym front ∙ same)), subst (λ (l : List ℕ). AllDiffer (cs ++ b ∷ []) l h) (sym rest) (differ_push cs (drop 256 os) b block h (omega (arith, length-drop 256 os, size)) len d.1 new))

-- putting octets and then those behind them is putting all of them
pub put-put : (h : List ℕ) (at : ℕ) (xs ys : List ℕ) → at + length xs + length ys ≤ length h → put (put h at xs) (at + length xs) ys ≡ put h at (xs ++ ys)
put-put h at xs ys le =
    let front = take at h ++ xs in
    let len : length front ≡ at + length xs = length-append (take at h) xs ∙ ap (λ (n : ℕ). n + length xs) (length-take-le at h (omega arith)) in
    let first : take (at + length xs) (put h at xs) ≡ front = take_at front (drop (at + length xs) h) (at + length xs) len in
    let last : drop (at + length xs + length ys) (put h at xs) ≡ drop (at + length xs + length ys) h = drop_past (at + length xs + length ys) at xs h (omega arith) (omega arith) in
    let there : at + length xs + length ys ≡ at + length (xs ++ ys) = omega (arith, length-append xs ys) in
    ap (λ (l : List ℕ). l ++ ys ++ drop (at + length xs + length ys) (put h at xs)) first
    ∙ ap (λ (l : List ℕ). front ++ ys ++ l) last
    ∙ ap (λ (l : List ℕ). l ++ drop (at + length xs + length ys) h) (append_assoc (take at h) xs ys)
    ∙ ap (λ (n : ℕ). take at h ++ (xs ++ ys) ++ drop n h) there

-- putting octets with what stands behind them is putting the octets
put_with : (h : List ℕ) (at n : ℕ) (piece : List ℕ) → length piece ≤ n → at + n ≤ length h → put h at (piece ++ drop (length piece) (take n (drop at h))) ≡ put h at piece
put_with h at n piece few le =
    let p = length piece in
    let tail = drop p (take n (drop at h)) in
    let X = drop (at + p) h in
    let there : tail ≡ take (n - p) X = (let e : n ≡ p + (n - p) = omega arith in ap (λ (m : ℕ). drop p (take m (drop at h))) e) ∙ drop-take p (n - p) (drop at h) ∙ ap (λ (l : List ℕ). take (n - p) l) (drop-drop p at h) in
    let len : length tail ≡ n - p = ap length there ∙ length-take-le (n - p) X (omega (arith, length-drop (at + p) h)) in
    let behind : drop (at + length (piece ++ tail)) h ≡ drop (n - p) X =
    (let e : at + length (piece ++ tail) ≡ n - p + (at + p) = omega (arith, length-append piece tail, len) in ap (λ (m : ℕ). drop m h) e) ∙ (let e : n - p + (at + p) ≡ at + p + (n - p) = omega arith in ap (λ (m : ℕ). drop m h) e) ∙ sym (drop-drop (n - p) (at + p) h) in
    ap (λ (l : List ℕ). take at h ++ (piece ++ tail) ++ l) behind
    ∙ ap (λ (l : List ℕ). l ++ drop (n - p) X) (sym (append_assoc (take at h) piece tail))
    ∙ append_assoc (take at h ++ piece) tail (drop (n - p) X)
    ∙ ap (λ (l : List ℕ). (take at h ++ piece) ++ l) (ap (λ (l : List ℕ). l ++ drop (n - p) X) there ∙ take-append-drop (n - p) X)

-- putting what stands there changes nothing
put_there : (h : List ℕ) (at : ℕ) (piece : List ℕ) → at + length piece ≤ length h → take (length piece) (drop at h) ≡ piece → put h at piece ≡ h
put_there h at piece le is = ap (λ (l : List ℕ). put h at l) (sym is) ∙ put_same h at (length piece) le

-- a block that wasn't compared yet stands as before
block_before : (c : Changes) (b : ℕ) (old new : List ℕ) → b < 673 → length old ≡ 172288 → IsCompared c b old new → block_of new b ≡ block_of old b
block_before c b old new lt size is =
    ap (λ (h : List ℕ). block_of h b) (sym is.makes)
    ∙ others_back 0 b c.blocks c.octets old (between_from 0 c.blocks b is.listed.blocks (omega (arith, lt))) (λ has. let r = between_below 0 c.blocks b b is.listed.blocks has in omega (arith, r.1)) size (omega (arith, is.listed.size))

length-compared : (c : Changes) (end : ℕ) (old new : List ℕ) → end ≤ 673 → length old ≡ 172288 → IsCompared c end old new → length new ≡ 172288
length-compared c end old new le size is = ap length (sym is.makes) ∙ length-put_back 0 c.blocks c.octets old (between_from 0 c.blocks end is.listed.blocks le) size (omega (arith, is.listed.size))

pub listed_more : (c : Changes) (end more : ℕ) → end ≤ more → IsListed c end → IsListed c more
listed_more c end more le is = record { blocks = between_more 0 c.blocks end more is.blocks le; size = is.size }

-- one block more is listed
pub listed_push : (c d : Changes) (b : ℕ) (block : List ℕ) → length block ≡ 256 → d.blocks ≡ c.blocks ++ b ∷ [] → d.octets ≡ c.octets ++ block → IsListed c b → IsListed d (b + 1)
listed_push c d b block len blocks octets is = record {
  blocks = subst (λ (l : List ℕ). Between 0 l (b + 1)) (sym blocks) (between_push 0 c.blocks b is.blocks);
  size = ap length octets ∙ length-append c.octets block ∙ omega (arith, len, is.size, ap length blocks, length-append c.blocks (b ∷ []));
}

-- more blocks were compared than changed
pub compared_more : (c : Changes) (end more : ℕ) (old new : List ℕ) → end ≤ more → IsCompared c end old new → IsCompared c more old new
compared_more c end more old new le is = record { listed = listed_more c end more le is.listed; makes = is.makes; differ = is.differ }

front_there : (h piece found : List ℕ) (b : ℕ) → length piece ≤ 256 → found ≡ block_of h b → take (length piece) found ≡ take (length piece) (drop (256 * b) h)
front_there h piece found b few is = ap (λ (l : List ℕ). take (length piece) l) is ∙ take-take (length piece) 256 (drop (256 * b) h) few

-- a block that stands already
pub compared_same : (c : Changes) (b : ℕ) (old new found piece : List ℕ) → b < 673 → length old ≡ 172288 → length piece ≤ 256 → found ≡ block_of old b → same_octets (take (length piece) found) piece ≡ true → IsCompared c b old new
    → IsCompared c (b + 1) old (put new (256 * b) piece)
compared_same c b old new found piece lt size few read equal is =
    let before = block_before c b old new lt size is in
    let len = length-compared c b old new (omega (arith, lt)) size is in
    let there : take (length piece) (drop (256 * b) new) ≡ piece = sym (front_there new piece found b few (read ∙ sym before)) ∙ same_yes _ _ equal in
    subst (λ (h : List ℕ). IsCompared c (b + 1) old h) (sym (put_there new (256 * b) piece (omega (arith, len, lt, few)) there)) (compared_more c b (b + 1) old new (omega arith) is)

-- a block that changes
pub compared_other : (c d : Changes) (b : ℕ) (old new found piece : List ℕ) → b < 673 → length old ≡ 172288 → length piece ≤ 256 → found ≡ block_of old b → same_octets (take (length piece) found) piece ≡ false
    → d.blocks ≡ c.blocks ++ b ∷ [] → d.octets ≡ c.octets ++ (piece ++ drop (length piece) found) → IsCompared c b old new → IsCompared d (b + 1) old (put new (256 * b) piece)
compared_other c d b old new found piece lt size few read other blocks octets is =
    let before = block_before c b old new lt size is in
    let len = length-compared c b old new (omega (arith, lt)) size is in
    let block = piece ++ drop (length piece) found in
    let found_len : length found ≡ 256 = ap length read ∙ length-take-le 256 (drop (256 * b) old) (omega (arith, length-drop (256 * b) old, size, lt)) in
    let block_len : length block ≡ 256 = length-append piece (drop (length piece) found) ∙ omega (arith, length-drop (length piece) found, found_len, few) in
    let found_new : found ≡ take 256 (drop (256 * b) new) = read ∙ sym before in
    let makes : put_back (c.blocks ++ b ∷ []) (c.octets ++ block) old ≡ put new (256 * b) piece =
    put_back-push c.blocks c.octets b block old is.listed.size block_len
    ∙ ap (λ (h : List ℕ). put h (256 * b) block) is.makes
    ∙ ap (λ (l : List ℕ). put new (256 * b) (piece ++ drop (length piece) l)) found_new
    ∙ put_with new (256 * b) 256 piece few (omega (arith, len, lt)) in
    let new_front : block ≡ block_of old b → ⊥ =
    (λ same. same_no _ _ other (ap (λ (l : List ℕ). take (length piece) l) (read ∙ sym same) ∙ take_at piece (drop (length piece) found) (length piece) refl)) in
    record {
      listed = listed_push c d b block block_len blocks octets is.listed;
      makes = ap (λ (l : List ℕ). put_back l d.octets old) blocks ∙ ap (λ (l : List ℕ). put_back (c.blocks ++ b ∷ []) l old) octets ∙ makes;
      differ = subst (λ (l : List ℕ). AllDiffer l d.octets old) (sym blocks) (subst (λ (l : List ℕ). AllDiffer (c.blocks ++ b ∷ []) l old) (sym octets) (differ_push c.blocks c.octets b block old is.listed.size block_len is.differ new_front));
    }

above_from : (n b : ℕ) (bs : List ℕ) → From n bs → Has b bs → n ≤ b
above_from n b [] f has = absurd has
above_from n b (c ∷ cs) f (inl e) = omega (arith, f.0, e)
above_from n b (c ∷ cs) f (inr has) = omega (arith, f.0, above_from (c + 1) b cs f.2 has)

-- what is put stands there
part_put : (h : List ℕ) (at : ℕ) (block : List ℕ) (n : ℕ) → length block ≡ n → at + n ≤ length h → take n (drop at (put h at block)) ≡ block
part_put h at block n len fits =
    let rest : drop at (put h at block) ≡ block ++ drop (at + length block) h =
    ap (λ (l : List ℕ). drop at l) (append_assoc (take at h) block (drop (at + length block) h)) ∙ drop_at (take at h) (block ++ drop (at + length block) h) at (length-take-le at h (omega arith)) in
    ap (λ (l : List ℕ). take n l) rest ∙ take_at block (drop (at + length block) h) n len

-- what is listed reads otherwise than before
listed_differs : (n b : ℕ) (blocks octets h was : List ℕ) → From n blocks → length h ≡ 172288 → 256 * length blocks ≤ length octets → AllDiffer blocks octets was → Has b blocks → block_of (put_back blocks octets h) b ≡ block_of was b → ⊥
listed_differs n b [] octets h was f size room d has same = absurd has
listed_differs n b (c ∷ cs) octets h was f size room d (inl e) same =
    let len : length (take 256 octets) ≡ 256 = length-take-le 256 octets (omega (arith, room)) in
    let fits : 256 * c + 256 ≤ length h = omega (arith, size, f.1) in
    let h' = put h (256 * c) (take 256 octets) in
    let alone : Has c cs → ⊥ = (λ has. let above = above_from (c + 1) c cs f.2 has in omega (arith, above)) in
    let now : block_of (put_back cs (drop 256 octets) h') c ≡ take 256 octets =
    others_back (c + 1) c cs (drop 256 octets) h' f.2 alone (length-put h (256 * c) (take 256 octets) (omega (arith, len, fits)) ∙ size) (omega (arith, length-drop 256 octets, room))
    ∙ part_put h (256 * c) (take 256 octets) 256 len fits in
    d.0 (sym now ∙ ap (λ (k : ℕ). block_of (put_back cs (drop 256 octets) h') k) (sym e) ∙ same ∙ ap (λ (k : ℕ). block_of was k) e)
listed_differs n b (c ∷ cs) octets h was f size room d (inr has) same =
    let len : length (take 256 octets) ≡ 256 = length-take-le 256 octets (omega (arith, room)) in
    let fits : 256 * c + 256 ≤ length h = omega (arith, size, f.1) in
    listed_differs (c + 1) b cs (drop 256 octets) (put h (256 * c) (take 256 octets)) was f.2 (length-put h (256 * c) (take 256 octets) (omega (arith, len, fits)) ∙ size) (omega (arith, length-drop 256 octets, room)) d.1 has same

no_same : (xs ys : List ℕ) → (xs ≡ ys → ⊥) → same_octets xs ys ≡ false
no_same xs ys other = elim (cases_Bool (same_octets xs ys)) [ inl yes_same ↦ absurd (other (same_yes xs ys yes_same)) | inr not_same ↦ not_same ]

-- the blocks that differ are those of a list, where each of the list differs and no other does
differing_is : (k n : ℕ) (bs old new : List ℕ) → Between k bs (k + n) → ((b : ℕ) → Has b bs → block_of new b ≡ block_of old b → ⊥) → ((b : ℕ) → (Has b bs → ⊥) → k ≤ b → b < k + n → block_of new b ≡ block_of old b) → differing (range_with_len k n) old new ≡ bs
differing_is k zero [] old new f differs stays = refl
differing_is k zero (b ∷ bs) old new f differs stays = absurd (omega (arith, f.0, between_le (b + 1) bs (k + 0) f.1))
differing_is k (suc n) [] old new f differs stays =
    let head : same_octets (block_of old k) (block_of new k) ≡ true = same_self _ _ (sym (stays k (λ has. has) (omega arith) (omega arith))) in
    rw head (differing_is (k + 1) n [] old new (omega arith) (λ b has. absurd has) (λ b no le lt. stays b no (omega arith) (omega arith)))
differing_is k (suc n) (b ∷ bs) old new f differs stays =
    let end : k + suc n ≡ k + 1 + n = omega arith in
    let rest : Between (b + 1) bs (k + 1 + n) = subst (λ (m : ℕ). Between (b + 1) bs m) end f.1 in
    elim (cases_order k b) [
      | inl here ↦
          let head : same_octets (block_of old k) (block_of new k) ≡ false = no_same _ _ (λ e. differs b (inl refl) (ap (λ (m : ℕ). block_of new m) (sym here) ∙ sym e ∙ ap (λ (m : ℕ). block_of old m) here)) in
          let more = differing_is (k + 1) n bs old new (subst (λ (m : ℕ). Between (m + 1) bs (k + 1 + n)) (sym here) rest)
          (λ c has. differs c (inr has))
          (λ c no le lt. stays c (⊎_elim (λ e. omega (arith, e, here, le)) no) (omega arith) (omega arith)) in
          rw head (ap (λ (m : ℕ). m ∷ differing (range_with_len (k + 1) n) old new) here ∙ ap (λ (l : List ℕ). b ∷ l) more)
      | inr (inl below) ↦
          let apart : Has k (b ∷ bs) → ⊥ = (λ has. let r = between_below k (b ∷ bs) (k + suc n) k f has in let s = between_below b (b ∷ bs) (k + suc n) k (omega arith, f.1) has in omega (arith, s.0, below)) in
          let head : same_octets (block_of old k) (block_of new k) ≡ true = same_self _ _ (sym (stays k apart (omega arith) (omega arith))) in
          rw head (differing_is (k + 1) n (b ∷ bs) old new (omega (arith, below), rest) differs (λ c no le lt. stays c no (omega arith) (omega arith)))
      | inr (inr above) ↦ absurd (omega (arith, f.0, above))
    ]

-- so the blocks of a comparison are those that change
pub compared_all : (c : Changes) (old new : List ℕ) → length old ≡ 172288 → IsCompared c 673 old new → c.blocks ≡ changed old (put_back c.blocks c.octets old)
unfolding changed
compared_all c old new size is =
    let f = between_from 0 c.blocks 673 is.listed.blocks (omega arith) in
    sym (differing_is 0 673 c.blocks old (put_back c.blocks c.octets old) is.listed.blocks
    (λ b has. listed_differs 0 b c.blocks c.octets old old f size (omega (arith, is.listed.size)) is.differ has)
    (λ b no le lt. others_back 0 b c.blocks c.octets old f no size (omega (arith, is.listed.size))))

-- the start: nothing was compared
pub listed_none : (c : Changes) → c.blocks ≡ [] → c.octets ≡ [] → IsListed c 0
listed_none c blocks octets = record {
  blocks = subst (λ (l : List ℕ). Between 0 l 0) (sym blocks) (omega arith);
  size = ap length octets ∙ ap (λ (l : List ℕ). 256 * length l) (sym blocks);
}

pub compared_none : (c : Changes) (h : List ℕ) → c.blocks ≡ [] → c.octets ≡ [] → IsCompared c 0 h h
compared_none c h blocks octets = record {
  listed = listed_none c blocks octets;
  makes = ap (λ (l : List ℕ). put_back l c.octets h) blocks;
  differ = subst (λ (l : List ℕ). AllDiffer l c.octets h) (sym blocks) tt;
}

-- blocks between two numbers rise
pub between_rises : (first : ℕ) (bs : List ℕ) (end : ℕ) → Between first bs end → end ≤ 673 → rises bs ≡ true
between_rises first [] end f le = refl
between_rises first (b ∷ []) end f le = let lt : b + 1 ≤ end = f.1 in grind (arith, nat_tests)
between_rises first (b ∷ c ∷ bs) end f le =
    let up : ltb b c ≡ true = (let lt : b + 1 ≤ c = f.1.0 in grind (arith, nat_tests)) in
    rw (up, between_rises (b + 1) (c ∷ bs) end f.1 le) refl

-- a block that was read, as it was added
pub block_compared : (r : Result (Unit {0}) StageError) (c d : Changes) (b : ℕ) (found piece old : List ℕ) (told : Type 0) → b < 673 → length piece ≤ 256
    → (same_octets (take (length piece) found) piece ≡ true → OnOk r (d ≡ c))
    → (same_octets (take (length piece) found) piece ≡ false → OnOk r (d.blocks ≡ c.blocks ++ b ∷ []))
    → (same_octets (take (length piece) found) piece ≡ false → OnOk r (d.octets ≡ c.octets ++ (piece ++ drop (length piece) found)))
    → (told → found ≡ block_of old b) → OnOk r (told → Compared b (b + 1) piece c d old)
block_compared (Ok x) c d b found piece old told lt few same blocks octets read = λ t new size is. elim (cases_Bool (same_octets (take (length piece) found) piece)) [
  | inl yes_same ↦ subst (λ (e : Changes). IsCompared e (b + 1) old (put new (256 * b) piece)) (sym (same yes_same)) (compared_same c b old new found piece lt size few (read t) yes_same is)
  | inr not_same ↦ compared_other c d b old new found piece lt size few (read t) not_same (blocks not_same) (octets not_same) is
]
block_compared (Err e) c d b found piece old told lt few same blocks octets read = tt

pub block_listed : (r : Result (Unit {0}) StageError) (c d : Changes) (b : ℕ) (found piece : List ℕ) → length found ≡ 256 → length piece ≤ 256
    → (same_octets (take (length piece) found) piece ≡ true → OnOk r (d ≡ c))
    → (same_octets (take (length piece) found) piece ≡ false → OnOk r (d.blocks ≡ c.blocks ++ b ∷ []))
    → (same_octets (take (length piece) found) piece ≡ false → OnOk r (d.octets ≡ c.octets ++ (piece ++ drop (length piece) found)))
    → OnOk r (Lists b (b + 1) c d)
block_listed (Ok x) c d b found piece len few same blocks octets = λ is. elim (cases_Bool (same_octets (take (length piece) found) piece)) [
  | inl yes_same ↦ subst (λ (e : Changes). IsListed e (b + 1)) (sym (same yes_same)) (listed_more c b (b + 1) (omega arith) is)
  | inr not_same ↦ listed_push c d b (piece ++ drop (length piece) found) (length-append piece (drop (length piece) found) ∙ omega (arith, length-drop (length piece) found, len, few)) (blocks not_same) (octets not_same) is
]
block_listed (Err e) c d b found piece len few same blocks octets = tt

put_none : (h : List ℕ) (at : ℕ) → put h at [] ≡ h
put_none h at = ap (λ (l : List ℕ). l ++ drop (at + 0) h) (append-nil (take at h)) ∙ (let e : at + 0 ≡ at = omega arith in ap (λ (n : ℕ). take at h ++ drop n h) e) ∙ take-append-drop at h

-- before the first piece
pub compared_start : (c : Changes) (first : ℕ) (octets old : List ℕ) → Compared first (first + 0) (take (256 * 0) octets) c c old
compared_start c first octets old = λ new size is.
    let same : first ≡ first + 0 = omega arith in
    subst (λ (h : List ℕ). IsCompared c (first + 0) old h) (sym (put_none new (256 * first))) (subst (λ (n : ℕ). IsCompared c n old new) same is)

-- a piece more
pub compared_step : (c d e : Changes) (first at b : ℕ) (octets piece old : List ℕ) → 256 * first + length octets ≤ 172288 → 256 * at < length octets → b ≡ first + at → piece ≡ take 256 (drop (256 * at) octets)
    → Compared first (first + at) (take (256 * at) octets) c d old → Compared b (b + 1) piece d e old → Compared first (first + (at + 1)) (take (256 * (at + 1)) octets) c e old
compared_step c d e first at b octets piece old inside lt here is_piece before step = λ new size is.
    let X = take (256 * at) octets in
    let x_len : length X ≡ 256 * at = length-take-le (256 * at) octets (omega arith) in
    let p_len : length piece ≤ length octets - 256 * at = omega (arith, ap length is_piece, length-take 256 (drop (256 * at) octets), length-drop (256 * at) octets) in
    let len = length-compared c first old new (omega arith) size is in
    let one : IsCompared d b old (put new (256 * first) X) = subst (λ (n : ℕ). IsCompared d n old (put new (256 * first) X)) (sym here) (before new size is) in
    let two = step (put new (256 * first) X) size one in
    let there : 256 * b ≡ 256 * first + length X = omega (arith, here, x_len) in
    let next : 256 * (at + 1) ≡ 256 * at + 256 = omega arith in
    let joined : X ++ piece ≡ take (256 * (at + 1)) octets = ap (λ (l : List ℕ). X ++ l) is_piece ∙ sym (take-add (256 * at) 256 octets) ∙ ap (λ (n : ℕ). take n octets) (sym next) in
    let home : put (put new (256 * first) X) (256 * b) piece ≡ put new (256 * first) (take (256 * (at + 1)) octets) =
    ap (λ (n : ℕ). put (put new (256 * first) X) n piece) there ∙ put-put new (256 * first) X piece (omega (arith, len, x_len, p_len)) ∙ ap (λ (l : List ℕ). put new (256 * first) l) joined in
    let end : b + 1 ≡ first + (at + 1) = omega (arith, here) in
    subst (λ (n : ℕ). IsCompared e n old (put new (256 * first) (take (256 * (at + 1)) octets))) end (subst (λ (h : List ℕ). IsCompared e (b + 1) old h) home two)

-- all pieces
pub compared_end : (c d : Changes) (first at end : ℕ) (octets old : List ℕ) → length octets ≤ 256 * at → first + at ≤ end → Compared first (first + at) (take (256 * at) octets) c d old → Compared first end octets c d old
compared_end c d first at end octets old done le before = λ new size is.
    subst (λ (l : List ℕ). IsCompared d end old (put new (256 * first) l)) (take_all (256 * at) octets done) (compared_more d (first + at) end old (put new (256 * first) (take (256 * at) octets)) le (before new size is))
