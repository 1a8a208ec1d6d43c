-- What recovery finds, and how far it has come.
use Rattle.std.proofs.Common.{◌≡◌, ℕ, suc, ◌+◌, ◌-◌, ◌*◌, ◌<◌, ◌≤◌, true, false, List, ◌∷◌, length, take, drop, get_or, refl, sym, ◌∙◌, ap, subst, arith, length-drop, length-take, add-one}
use Rattle.std.specs.Prelude.{Some, None}
use Rattle.std.proofs.lemmas.List.{take-take, drop-drop, drop-take}
use Rattle.std.proofs.Math.Seq.{drop-cons}
use Rattle.chip_port.specs.Seen.{Seen}
use Rattle.chip_port.specs.Rules.{put, Sound}
use Rattle.chip_port.proofs.Apart.{drop_put}
use Rattle.std.proofs.Math.ListN.{drop_of_length-le}
use Rattle.undo_journal.specs.Home.{entries, put_back, has_magic, is_open, directory_in, home_in, home, is_well_formed, AreBlocks}
use Rattle.undo_journal.specs.States.{Lists, EachOf, IsOpenOver}
use Rattle.undo_journal.specs.Steps.{IsFound}
use Rattle.undo_journal.proofs.Listing.{well_formed_lists}
use Rattle.undo_journal.proofs.Gates.{opened_home}

-- the old block of an entry, as the chip has it
copy_at : (r old : List ℕ) (from m e : ℕ) → e < m → take (256 * m) (drop from r) ≡ old → take 256 (drop (from + 256 * e) r) ≡ take 256 (drop (256 * e) old)
copy_at r old from m e lt is =
    let n = 256 * (m - e) in
    let whole : 256 * m ≡ 256 * e + n = omega arith in
    sym (
    ap (λ (l : List ℕ). take 256 (drop (256 * e) l)) (sym is ∙ ap (λ (k : ℕ). take k (drop from r)) whole)
    ∙ ap (λ (l : List ℕ). take 256 l) (drop-take (256 * e) n (drop from r))
    ∙ take-take 256 n (drop (256 * e) (drop from r)) (omega arith)
    ∙ ap (λ (l : List ℕ). take 256 l) (drop-drop (256 * e) from r)
    )

-- one block more is put back
pub put_back_one : (bs old r r' before : List ℕ) (e b : ℕ) → e < length bs → b ≡ get_or bs e 0 → b < 673 → length r ≡ 346624 → take (256 * length bs) (drop 2048 r) ≡ old
    → r' ≡ put r (174336 + 256 * b) (take 256 (drop (2048 + 256 * e) r)) → put_back (drop e bs) (drop (256 * e) old) (drop 174336 r) ≡ before → put_back (drop (e + 1) bs) (drop (256 * (e + 1)) old) (drop 174336 r') ≡ before
put_back_one bs old r r' before e b lt is below size copies now so_far =
    let at = 174336 + 256 * b in
    let block = take 256 (drop (2048 + 256 * e) r) in
    let first : drop e bs ≡ b ∷ drop (e + 1) bs = drop-cons bs e 0 lt ∙ ap (λ (x : ℕ). x ∷ drop (suc e) bs) (sym is) ∙ rw add-one refl in
    let copy : block ≡ take 256 (drop (256 * e) old) = copy_at r old 2048 (length bs) e lt copies in
    let behind : drop 256 (drop (256 * e) old) ≡ drop (256 * (e + 1)) old = drop-drop 256 (256 * e) old ∙ (let k : 256 * e + 256 ≡ 256 * (e + 1) = omega arith in ap (λ (m : ℕ). drop m old) k) in
    let there : at - 174336 ≡ 256 * b = omega arith in
    let home' : drop 174336 r' ≡ put (drop 174336 r) (256 * b) (take 256 (drop (256 * e) old)) =
    ap (λ (l : List ℕ). drop 174336 l) now
    ∙ drop_put 174336 at block r (omega arith) (omega arith)
    ∙ ap (λ (m : ℕ). put (drop 174336 r) m block) there
    ∙ ap (λ (l : List ℕ). put (drop 174336 r) (256 * b) l) copy in
    ap (λ (l : List ℕ). put_back (drop (e + 1) bs) (drop (256 * (e + 1)) old) l) home'
    ∙ ap (λ (l : List ℕ). put_back (drop (e + 1) bs) l (put (drop 174336 r) (256 * b) (take 256 (drop (256 * e) old)))) (sym behind)
    ∙ ap (λ (l : List ℕ). put_back l (drop (256 * e) old) (drop 174336 r)) (sym first)
    ∙ so_far

-- all are put back
pub put_back_all : (bs old h before : List ℕ) (e : ℕ) → length bs ≤ e → put_back (drop e bs) (drop (256 * e) old) h ≡ before → h ≡ before
put_back_all bs old h before e le is = ap (λ (l : List ℕ). put_back l (drop (256 * e) old) h) (sym (drop_of_length-le bs le)) ∙ is

-- how long the directory is
length-directory_part : (d : List ℕ) → length d ≡ 346624 → length (take 1536 (drop 512 d)) ≡ 1536
length-directory_part d size = omega (arith, length-take 1536 (drop 512 d), length-drop 512 d)

-- the old blocks of a directory, and the home that they give
abbrev pub copies_of : List ℕ → List ℕ → List ℕ
copies_of directory image = take (256 * length (entries directory)) (drop 2048 image)

abbrev pub home_before : List ℕ → List ℕ → List ℕ
home_before directory image = put_back (entries directory) (copies_of directory image) (home_in image)

-- an image whose gate is open, with a directory that is well formed
found_image : (d D : List ℕ) → length d ≡ 346624 → has_magic d ≡ true → is_open d ≡ true → D ≡ directory_in d → is_well_formed D ≡ true → AreBlocks (entries D) × IsOpenOver (entries D) (copies_of D d) (home_before D d) d
found_image d D size front opened is fit =
    let lists = well_formed_lists D (ap length is ∙ length-directory_part d size) fit in
    (lists.0, record { keeps = record { size = size; front = front; directory = subst (λ (l : List ℕ). Lists (entries D) l) is lists.1; copies = refl }; opened = opened; home = refl })

-- what recovery finds behind an open gate with a directory that is well formed
pub found_home : (D : List ℕ) (a b : Seen) → IsFound a → Sound 346624 a → D ≡ directory_in a.reads → is_well_formed D ≡ true → ((i : List ℕ) → b.leaves i → a.leaves i)
    → AreBlocks (entries D) × EachOf b.leaves (IsOpenOver (entries D) (copies_of D a.reads) (home_before D a.reads)) × (home a.reads ≡ Some (home_before D a.reads))
found_home D a b f sound is fit fewer =
    let image = found_image a.reads D (sound.sized a.reads sound.reads_now) f.front f.opened is fit in (
      image.0,
      λ i now. subst (λ (l : List ℕ). IsOpenOver (entries D) (copies_of D a.reads) (home_before D a.reads) l) (sym (f.settled i (fewer i now))) image.1,
      opened_home (entries D) (copies_of D a.reads) (home_before D a.reads) a.reads image.0 image.1,
    )

-- what is no card
pub foreign_magic : (d : List ℕ) → has_magic d ≡ false → home d ≡ None
unfolding home
foreign_magic d front = simp front

pub foreign_directory : (d D : List ℕ) → has_magic d ≡ true → is_open d ≡ true → D ≡ take 1536 (drop 512 d) → is_well_formed D ≡ false → home d ≡ None
unfolding home
foreign_directory d D front opened is fit =
    let wf : is_well_formed (take 1536 (drop 512 d)) ≡ false = ap is_well_formed (sym is) ∙ fit in
    simp (front, opened, wf)
