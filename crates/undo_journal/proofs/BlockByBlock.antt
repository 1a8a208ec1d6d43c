-- What putting back gives, block by block: at each number of the directory its old block, and at every other number the home block.
use Rattle.std.proofs.Common.{◌≡◌, inl, inr, ℕ, zero, suc, ◌+◌, ◌*◌, ◌<◌, ◌≤◌, get_or, List, [], ◌∷◌, length, take, drop, refl, sym, ◌∙◌, ap, arith, length-drop, length-take}
use Rattle.std.proofs.lemmas.Bool.{cases_order}
use Rattle.std.proofs.lemmas.List.{drop-drop, length-take-le}
use Rattle.chip_port.specs.Rules.{put}
use Rattle.chip_port.proofs.Apart.{drop_past}
use Rattle.chip_port.specs.PastLaws.{length-put}
use Rattle.undo_journal.specs.Home.{put_back, kept, home_in, block_of, AreBlocks}
use Rattle.undo_journal.specs.States.{Has, IsOpened}
use Rattle.undo_journal.proofs.PutBack.{From, has_above}
use Rattle.undo_journal.proofs.Gates.{from_rises}
use Rattle.undo_journal.proofs.Keeping.{region_before, region_next}

-- a block apart from the one that is put
put_apart : (b c : ℕ) (octets h : List ℕ) → (b ≡ c → ⊥) → length octets ≡ 256 → 256 * c + 256 ≤ length h → block_of (put h (256 * c) octets) b ≡ block_of h b
put_apart b c octets h apart len le = elim (cases_order b c) [
  | inl same ↦ absurd (apart same)
  | inr (inl below) ↦ region_before (256 * b) 256 (256 * c) octets h (omega (arith, below)) (omega arith)
  | inr (inr above) ↦ ap (λ (l : List ℕ). take 256 l) (drop_past (256 * b) (256 * c) octets h (omega (arith, len, above)) (omega (arith, len)))
]

-- a number that isn't listed
pub others_back : (n block : ℕ) (blocks old h : List ℕ) → From n blocks → (Has block blocks → ⊥) → length h ≡ 172288 → 256 * length blocks ≤ length old → block_of (put_back blocks old h) block ≡ block_of h block
others_back n block [] old h f apart size room = refl
others_back n block (c ∷ cs) old h f apart size room =
    let len : length (take 256 old) ≡ 256 = length-take-le 256 old (omega (arith, room)) in
    let fits : 256 * c + 256 ≤ length h = omega (arith, size, f.1) in
    others_back (c + 1) block cs (drop 256 old) (put h (256 * c) (take 256 old)) f.2 (λ has. apart (inr has)) (length-put h (256 * c) (take 256 old) (omega (arith, len, fits)) ∙ size) (omega (arith, length-drop 256 old, room))
    ∙ put_apart block c (take 256 old) h (λ same. apart (inl same)) len fits

listed_back : (n k : ℕ) (blocks old h : List ℕ) → From n blocks → k < length blocks → length h ≡ 172288 → 256 * length blocks ≤ length old → block_of (put_back blocks old h) (get_or blocks k 0) ≡ block_of old k
listed_back n k [] old h f lt size room = absurd (omega arith)
listed_back n zero (c ∷ cs) old h f lt size room =
    let len : length (take 256 old) ≡ 256 = length-take-le 256 old (omega (arith, room)) in
    let fits : 256 * c + 256 ≤ length h = omega (arith, size, f.1) in
    let alone : Has c cs → ⊥ = (λ has. let above = has_above (c + 1) c cs f.2 has in omega (arith, above.0)) in
    others_back (c + 1) c cs (drop 256 old) (put h (256 * c) (take 256 old)) f.2 alone (length-put h (256 * c) (take 256 old) (omega (arith, len, fits)) ∙ size) (omega (arith, length-drop 256 old, room))
    ∙ region_next (256 * c) 0 (256 * c) 256 (take 256 old) h (omega arith) (omega (arith, len)) (omega (arith, len, fits))
listed_back n (suc k) (c ∷ cs) old h f lt size room =
    let len : length (take 256 old) ≡ 256 = length-take-le 256 old (omega (arith, room)) in
    let fits : 256 * c + 256 ≤ length h = omega (arith, size, f.1) in
    listed_back (c + 1) k cs (drop 256 old) (put h (256 * c) (take 256 old)) f.2 (omega arith) (length-put h (256 * c) (take 256 old) (omega (arith, len, fits)) ∙ size) (omega (arith, length-drop 256 old, room))
    ∙ ap (λ (l : List ℕ). take 256 l) (drop-drop (256 * k) 256 old ∙ (let turn : 256 + 256 * k ≡ 256 * suc k = omega arith in ap (λ (m : ℕ). drop m old) turn))

-- the home block of a number that the directory lists is its old block
pub put_back-listed : (blocks old h : List ℕ) (k : ℕ) → AreBlocks blocks → k < length blocks → length h ≡ 172288 → 256 * length blocks ≤ length old → block_of (put_back blocks old h) (get_or blocks k 0) ≡ block_of old k
put_back-listed blocks old h k are lt size room = listed_back 0 k blocks old h (from_rises 0 blocks are.rising (λ b bs e. omega arith)) lt size room

-- and every other home block stays
pub put_back-others : (blocks old h : List ℕ) (block : ℕ) → AreBlocks blocks → (Has block blocks → ⊥) → length h ≡ 172288 → 256 * length blocks ≤ length old → block_of (put_back blocks old h) block ≡ block_of h block
put_back-others blocks old h block are apart size room = others_back 0 block blocks old h (from_rises 0 blocks are.rising (λ b bs e. omega arith)) apart size room

-- a home block that was not kept is as before
pub others_stay : (blocks before image : List ℕ) (block : ℕ) → AreBlocks blocks → IsOpened blocks before image → (Has block blocks → ⊥) → block_of (home_in image) block ≡ block_of before block
others_stay blocks before image block are opened apart =
    let old = kept blocks before in
    let size : length (home_in image) ≡ 172288 = omega (arith, length-drop 174336 image, opened.keeps.size) in
    let room : 256 * length blocks ≤ length old = omega (arith, ap length opened.keeps.copies, length-take (256 * length blocks) (drop 2048 image), length-drop 2048 image, opened.keeps.size, are.few) in
    sym (put_back-others blocks old (home_in image) block are apart size room) ∙ ap (λ (h : List ℕ). block_of h block) opened.home
