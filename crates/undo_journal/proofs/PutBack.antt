-- What is put back.
use Rattle.std.proofs.Common.{◌≡◌, ◌⊎◌, inl, inr, ℕ, ◌+◌, ◌-◌, ◌*◌, ◌<◌, ◌≤◌, List, [], ◌∷◌, ◌++◌, length, take, drop, refl, sym, ◌∙◌, ap, subst, arith, append_assoc, length-drop}
use Rattle.std.proofs.lemmas.Grind.{common_steps}
use Rattle.std.proofs.lemmas.List.{take-append-drop, drop-drop, take_at, drop_at, length-take-le}
use Rattle.chip_port.specs.Rules.{put, Torn}
use Rattle.chip_port.specs.PastLaws.{length-put}
use Rattle.chip_port.proofs.Apart.{take_before, drop_put, take_put, drop_past}
use Rattle.undo_journal.specs.Home.{put_back, kept}
use Rattle.undo_journal.specs.States.{Has}

-- the blocks rise from this number on, and are below 673
abbrev pub From : ℕ → List ℕ → Type 0
From n [] = Unit {0}
From n (b ∷ bs) = (n ≤ b) × (b < 673) × From (b + 1) bs

pub length_part : (n at : ℕ) (x : List ℕ) → at + n ≤ length x → length (take n (drop at x)) ≡ n
length_part n at x le = grind (arith, common_steps)

-- putting what is there changes nothing
pub put_same : (home : List ℕ) (at n : ℕ) → at + n ≤ length home → put home at (take n (drop at home)) ≡ home
put_same home at n le =
    let len : length (take n (drop at home)) ≡ n = grind (arith, common_steps) in
    append_assoc (take at home) (take n (drop at home)) (drop (at + length (take n (drop at home))) home)
    ∙ ap (λ (l : List ℕ). take at home ++ l) (ap (λ (k : ℕ). take n (drop at home) ++ drop (at + k) home) len ∙ ap (λ (l : List ℕ). take n (drop at home) ++ l) (sym (drop-drop n at home)) ∙ take-append-drop n (drop at home))
    ∙ take-append-drop at home

-- what a put covers doesn't count
pub put_torn : (at : ℕ) (octets a b : List ℕ) → Torn at (length octets) a b → put b at octets ≡ put a at octets
put_torn at octets a b t = ap (λ (l : List ℕ). l ++ octets ++ drop (at + length octets) b) t.before ∙ ap (λ (l : List ℕ). take at a ++ octets ++ l) t.after

pub has_above : (n b : ℕ) (blocks : List ℕ) → From n blocks → Has b blocks → (n ≤ b) × (b < 673)
has_above n b [] f h = absurd h
has_above n b (c ∷ cs) f (inl e) = (omega (arith, f.0, e), omega (arith, f.1, e))
has_above n b (c ∷ cs) f (inr h) = let r = has_above (c + 1) b cs f.2 h in (omega (arith, f.0, r.0), r.1)

-- a range that a put doesn't touch
torn_put_apart : (at n to : ℕ) (octets a b : List ℕ) → at + n ≤ to ⊎ (to + length octets ≤ at) → to + length octets ≤ length a → Torn at n a b → Torn at n (put a to octets) (put b to octets)
torn_put_apart at n to octets a b (inl below) le t = record {
  before = take_before at to octets b (omega arith) (omega (arith, t.size)) ∙ t.before ∙ sym (take_before at to octets a (omega arith) (omega arith));
  after = drop_put (at + n) to octets b below (omega (arith, t.size)) ∙ ap (λ (l : List ℕ). put l (to - (at + n)) octets) t.after ∙ sym (drop_put (at + n) to octets a below (omega arith));
  size = length-put b to octets (omega (arith, t.size)) ∙ t.size ∙ sym (length-put a to octets le);
}
torn_put_apart at n to octets a b (inr above) le t = record {
  before = take_put at to octets b above (omega (arith, t.size)) ∙ ap (λ (l : List ℕ). put l to octets) t.before ∙ sym (take_put at to octets a above le);
  after = drop_past (at + n) to octets b (omega arith) (omega (arith, t.size)) ∙ t.after ∙ sym (drop_past (at + n) to octets a (omega arith) le);
  size = length-put b to octets (omega (arith, t.size)) ∙ t.size ∙ sym (length-put a to octets le);
}

-- the old blocks of a home put it back
pub put_back_kept : (n : ℕ) (blocks home more : List ℕ) → From n blocks → length home ≡ 172288 → put_back blocks (kept blocks home ++ more) home ≡ home
put_back_kept n [] home more f size = refl
put_back_kept n (b ∷ bs) home more f size =
    let X = take 256 (drop (256 * b) home) in
    let K = kept bs home in
    let len : length X ≡ 256 = length_part 256 (256 * b) home (omega (arith, f.1, size)) in
    let e1 : take 256 ((X ++ K) ++ more) ≡ X = ap (λ (l : List ℕ). take 256 l) (append_assoc X K more) ∙ take_at X (K ++ more) 256 len in
    let e2 : drop 256 ((X ++ K) ++ more) ≡ K ++ more = ap (λ (l : List ℕ). drop 256 l) (append_assoc X K more) ∙ drop_at X (K ++ more) 256 len in
    ap (λ (o : List ℕ). put_back bs o (put home (256 * b) (take 256 ((X ++ K) ++ more)))) e2
    ∙ ap (λ (x : List ℕ). put_back bs (K ++ more) (put home (256 * b) x)) e1
    ∙ ap (λ (h : List ℕ). put_back bs (K ++ more) h) (put_same home (256 * b) 256 (omega (arith, f.1, size)))
    ∙ put_back_kept (b + 1) bs home more f.2 size

-- a kept block may hold anything
pub put_back_torn : (n block : ℕ) (blocks old a b : List ℕ) → From n blocks → Has block blocks → length a ≡ 172288 → 256 * length blocks ≤ length old → Torn (256 * block) 256 a b → put_back blocks old b ≡ put_back blocks old a
put_back_torn n block [] old a b f has size room t = absurd has
put_back_torn n block (c ∷ cs) old a b f (inl e) size room t =
    let len : length (take 256 old) ≡ 256 = length-take-le 256 old (omega (arith, room)) in
    ap (λ (h : List ℕ). put_back cs (drop 256 old) h) (put_torn (256 * c) (take 256 old) a b (subst (λ (k : ℕ). Torn (256 * c) k a b) (sym len) (subst (λ (k : ℕ). Torn (256 * k) 256 a b) e t)))
put_back_torn n block (c ∷ cs) old a b f (inr has) size room t =
    let len : length (take 256 old) ≡ 256 = length-take-le 256 old (omega (arith, room)) in
    let above = has_above (c + 1) block cs f.2 has in
    let fits : 256 * c + length (take 256 old) ≤ length a = omega (arith, len, size, f.1) in
    put_back_torn (c + 1) block cs (drop 256 old) (put a (256 * c) (take 256 old)) (put b (256 * c) (take 256 old)) f.2 has (length-put a (256 * c) (take 256 old) fits ∙ size)
    (omega (arith, length-drop 256 old, room))
    (torn_put_apart (256 * block) 256 (256 * c) (take 256 old) a b (inr (omega (arith, len, above.0))) fits t)
