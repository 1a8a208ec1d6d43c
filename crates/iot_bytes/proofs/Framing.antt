-- A frame that was read in two fills.
use Rattle.std.proofs.Common.{◌≡◌, ℕ, ◌+◌, ◌<◌, ◌≤◌, List, ◌++◌, length, get_or, take, drop, Option, Some, inr, arith, ap, sym, ◌∙◌, refl, append_assoc}
use Rattle.std.specs.Int.{w32, to_be_bytes, from_be_bytes}
use Rattle.std.proofs.lemmas.List.{take-append-drop, length-take-le, drop-drop, length-drop}
use Rattle.std.proofs.lemmas.Nat.{be_bytes_4}
use Rattle.iot_bytes.specs.Frames.{frame, announced, IsLeftShort, IsInside}
use Rattle.iot_bytes.specs.declared.frame.TheConstants.{FRAME_LIMIT}

abbrev pub IsBytes : List ℕ → Type 0
IsBytes bytes = (i : ℕ) → get_or bytes i 0 < 256

-- the four octets of the length, and then so many octets, are a frame
pub frame_whole : (bytes head f : List ℕ) (n : ℕ) (left : Option (List ℕ)) → IsBytes head → 4 ≤ length bytes → head ≡ take 4 bytes → n ≡ from_be_bytes w32 head → n ≤ FRAME_LIMIT → length f ≡ n
    → f ≡ take (length f) (drop 4 bytes) → left ≡ Some (drop (length f) (drop 4 bytes))
    → (length f ≤ FRAME_LIMIT) × (rest : List ℕ) × (bytes ≡ frame f ++ rest) × (left ≡ Some rest)
frame_whole bytes head f n left fits long first number small len body after =
    let four : length head ≡ 4 = ap length first ∙ length-take-le 4 bytes long in
    let spelled : to_be_bytes w32 (length f) ≡ head = ap (to_be_bytes w32) (len ∙ number) ∙ be_bytes_4 head _ four fits refl in
    let rest = drop (length f) (drop 4 bytes) in
    let back : f ++ rest ≡ drop 4 bytes = ap (λ (x : List ℕ). x ++ rest) body ∙ take-append-drop (length f) (drop 4 bytes) in
    let whole : frame f ++ rest ≡ bytes =
    append_assoc (to_be_bytes w32 (length f)) f rest ∙ ap (λ (x : List ℕ). x ++ (f ++ rest)) (spelled ∙ first) ∙ ap (λ (x : List ℕ). take 4 bytes ++ x) back ∙ take-append-drop 4 bytes in
    (omega arith, rest, sym whole, after)

-- what was taken behind the length lies inside the frame
pub left_inside : (bytes : List ℕ) (left : Option (List ℕ)) (most : ℕ) → 4 ≤ length bytes → announced bytes ≤ FRAME_LIMIT → most ≡ announced bytes → IsLeftShort (drop 4 bytes) left most → IsInside bytes left
left_inside bytes left most long small same (taken, le, few, is) =
    inr (small, (4 + taken, omega (arith, le, length-drop 4 bytes), omega (arith, few, same), is ∙ ap (λ (r : List ℕ). Some r) (drop-drop taken 4 bytes)))
