-- What lies apart from a write is as before.
use Rattle.std.proofs.Common.{◌≡◌, ◌⊎◌, inl, inr, ℕ, ◌+◌, ◌-◌, ◌<◌, ◌≤◌, List, ◌++◌, length, take, drop, get_or, sym, ◌∙◌, ap, arith, length-append}
use Rattle.std.proofs.lemmas.Grind.{common_steps}
use Rattle.std.proofs.lemmas.List.{take-take, drop-drop, drop-take, get_or-take, get_or-drop, take-append-le, drop-append-le, length-take-le}
use Rattle.std.proofs.lemmas.Slice.{drop-append-drop}
use Rattle.std.proofs.Math.Seq.{take-append-add}
use Rattle.chip_port.specs.Rules.{put, Torn}

-- in front of a torn range
pub torn_front : (at n k : ℕ) (d i : List ℕ) → k ≤ at → Torn at n d i → take k i ≡ take k d
torn_front at n k d i le t = sym (take-take k at i le) ∙ ap (λ (l : List ℕ). take k l) t.before ∙ take-take k at d le

-- behind it
pub torn_back : (at n k : ℕ) (d i : List ℕ) → at + n ≤ k → Torn at n d i → drop k i ≡ drop k d
torn_back at n k d i le t = on i ∙ ap (λ (l : List ℕ). drop (k - (at + n)) l) t.after ∙ sym (on d)
  where
    on : (l : List ℕ) → drop k l ≡ drop (k - (at + n)) (drop (at + n) l)
    on l = let e : k ≡ at + n + (k - (at + n)) = omega arith in ap (λ (m : ℕ). drop m l) e ∙ sym (drop-drop (k - (at + n)) (at + n) l)

pub torn_middle : (at n from k : ℕ) (d i : List ℕ) → from + k ≤ at → Torn at n d i → take k (drop from i) ≡ take k (drop from d)
torn_middle at n from k d i le t = sym (drop-take from k i) ∙ ap (λ (l : List ℕ). drop from l) (torn_front at n (from + k) d i le t) ∙ drop-take from k d

pub torn_get : (at n k : ℕ) (d i : List ℕ) → k < at → Torn at n d i → get_or i k 0 ≡ get_or d k 0
torn_get at n k d i lt t = sym (get_or-take at i k 0 lt) ∙ ap (λ (l : List ℕ). get_or l k 0) t.before ∙ get_or-take at d k 0 lt

-- an octet apart from a torn range
pub octet_apart : (at n i : ℕ) (old new : List ℕ) → Torn at n old new → (i < at) ⊎ (at + n ≤ i) → get_or new i 0 ≡ get_or old i 0
octet_apart at n i old new t (inl below) = torn_get at n i old new below t
octet_apart at n i old new t (inr above) = sym (behind new) ∙ ap (λ (l : List ℕ). get_or l (i - (at + n)) 0) t.after ∙ behind old
  where
    behind : (l : List ℕ) → get_or (drop (at + n) l) (i - (at + n)) 0 ≡ get_or l i 0
    behind l = let e : at + n + (i - (at + n)) ≡ i = omega arith in get_or-drop (at + n) l (i - (at + n)) 0 ∙ ap (λ (m : ℕ). get_or l m 0) e

-- a range apart from a torn range
pub range_apart : (at n from k : ℕ) (old new : List ℕ) → Torn at n old new → (from + k ≤ at) ⊎ (at + n ≤ from) → take k (drop from new) ≡ take k (drop from old)
range_apart at n from k old new t (inl below) = torn_middle at n from k old new below t
range_apart at n from k old new t (inr above) = ap (λ (l : List ℕ). take k l) (torn_back at n from old new above t)

-- in front of octets that are put
pub take_before : (k to : ℕ) (octets x : List ℕ) → k ≤ to → to ≤ length x → take k (put x to octets) ≡ take k x
take_before k to octets x le in_x =
    let len : length (take to x) ≡ to = length-take-le to x in_x in
    take-append-le k (take to x ++ octets) (drop (to + length octets) x) (omega (arith, length-append (take to x) octets))
    ∙ take-append-le k (take to x) octets (omega arith) ∙ take-take k to x le

-- behind them
pub drop_past : (k to : ℕ) (octets x : List ℕ) → to + length octets ≤ k → to + length octets ≤ length x → drop k (put x to octets) ≡ drop k x
drop_past k to octets x le in_x = drop-append-drop (to + length octets) x (take to x ++ octets) k le (grind (arith, common_steps))

-- they stay where the front goes
pub drop_put : (k to : ℕ) (octets x : List ℕ) → k ≤ to → to ≤ length x → drop k (put x to octets) ≡ put (drop k x) (to - k) octets
drop_put k to octets x le in_x =
    let len : length (take to x) ≡ to = length-take-le to x in_x in
    let D = drop (to + length octets) x in
    let is : to ≡ k + (to - k) = omega arith in
    let past : k + (to - k + length octets) ≡ to + length octets = omega arith in
    drop-append-le k (take to x ++ octets) D (omega (arith, length-append (take to x) octets))
    ∙ ap (λ (l : List ℕ). l ++ D) (drop-append-le k (take to x) octets (omega arith) ∙ ap (λ (l : List ℕ). l ++ octets) (ap (λ (m : ℕ). drop k (take m x)) is ∙ drop-take k (to - k) x))
    ∙ ap (λ (l : List ℕ). take (to - k) (drop k x) ++ octets ++ l) (sym (drop-drop (to - k + length octets) k x ∙ ap (λ (m : ℕ). drop m x) past))

-- they stay where the end goes
pub take_put : (k to : ℕ) (octets x : List ℕ) → to + length octets ≤ k → to + length octets ≤ length x → take k (put x to octets) ≡ put (take k x) to octets
take_put k to octets x le in_x =
    let len : length (take to x) ≡ to = length-take-le to x (omega arith) in
    let X = take to x ++ octets in
    let D = drop (to + length octets) x in
    let n = k - (to + length octets) in
    let size : length X ≡ to + length octets = length-append (take to x) octets ∙ ap (λ (m : ℕ). m + length octets) len in
    let is : k ≡ length X + n = omega arith in
    let is_too : to + length octets + n ≡ k = omega arith in
    ap (λ (m : ℕ). take m (X ++ D)) is ∙ take-append-add X D n
    ∙ ap (λ (l : List ℕ). l ++ octets ++ take n D) (sym (take-take to k x (omega arith)))
    ∙ ap (λ (l : List ℕ). take to (take k x) ++ octets ++ l) (sym (drop-take (to + length octets) n x) ∙ ap (λ (m : ℕ). drop (to + length octets) (take m x)) is_too)
