-- How the octets decide the end of a frame.
use Rattle.std.proofs.Common.{◌≡◌, ℕ, ◌+◌, ◌<◌, ◌≤◌, inl, inr, List, [], ◌∷◌, ◌++◌, length, take, drop, Option, Some, arith, ap, sym, ◌∙◌, refl, length-append, if◌then◌else◌, ◌==◌, nat_lt}
use Rattle.std.specs.List.{All, flat_map}
use Rattle.std.proofs.lemmas.List.{append_cancel_left, drop-drop}
use Rattle.std.proofs.lemmas.List.Elements.{All-head, All-tail}
use Rattle.std.proofs.lemmas.Nat.{from_be_bytes-to_be_bytes_4}
use Rattle.std.proofs.Math.Seq.{take-append_seam, drop-append_seam}
use Rattle.std.proofs.lemmas.Bool.Decides.{nat_tests}
use Rattle.iot_bytes.specs.Frames.{frame, announced, FrameGives, IsFrameDecided}
use Rattle.iot_bytes.specs.declared.frame.FrameEnd.{FrameEnd}
use Rattle.iot_bytes.specs.declared.frame.FrameEnd.TheVariants.{Frame, End, Torn, TooLong, ReadFault, NoMemory}
use Rattle.iot_bytes.specs.declared.frame.TheConstants.{FRAME_LIMIT}

-- the head of a frame says its length
pub announced-frame : (f rest : List ℕ) → length f ≤ FRAME_LIMIT → announced (frame f ++ rest) ≡ length f
announced-frame f rest small = from_be_bytes-to_be_bytes_4 (length f) (omega arith)

-- lists of one length at the front of one list are one list
pub fronts_are_one : (a b x y : List ℕ) → length a ≡ length b → a ++ x ≡ b ++ y → (a ≡ b) × (x ≡ y)
fronts_are_one a b x y len same =
    let front : a ≡ b = sym (take-append_seam a x) ∙ ap (take (length a)) same ∙ ap (λ (n : ℕ). take n (b ++ y)) len ∙ take-append_seam b y in
    (front, append_cancel_left b x y (ap (λ (l : List ℕ). l ++ x) (sym front) ∙ same))

-- octets begin with one frame at most
pub frames_split : (a b x y : List ℕ) → length a ≤ FRAME_LIMIT → length b ≤ FRAME_LIMIT → frame a ++ x ≡ frame b ++ y → (a ≡ b) × (x ≡ y)
frames_split a b x y few less same =
    let len : length a ≡ length b = sym (announced-frame a x few) ∙ ap announced same ∙ announced-frame b y less in
    let body : a ++ x ≡ b ++ y = ap (drop 4) same in
    fronts_are_one a b x y len body

-- octets are the frames of one list at most
pub frames_are_one : (fs gs : List (List ℕ)) → All (λ f. length f ≤ FRAME_LIMIT) fs → All (λ g. length g ≤ FRAME_LIMIT) gs → flat_map frame fs ≡ flat_map frame gs → fs ≡ gs
frames_are_one [] [] few less same = refl
frames_are_one [] (g ∷ gs) few less same = cc
frames_are_one (f ∷ fs) [] few less same = cc
frames_are_one (f ∷ fs) (g ∷ gs) few less same =
    let first = frames_split f g (flat_map frame fs) (flat_map frame gs) (All-head (λ (x : List ℕ). length x ≤ FRAME_LIMIT) f fs few) (All-head (λ (x : List ℕ). length x ≤ FRAME_LIMIT) g gs less) same in
    let others = frames_are_one fs gs (All-tail (λ (x : List ℕ). length x ≤ FRAME_LIMIT) f fs few) (All-tail (λ (x : List ℕ). length x ≤ FRAME_LIMIT) g gs less) first.1 in
    cc (first.0, others)

-- the end at so many octets, which announce so many and go on with those
unfoldable decided : ℕ → ℕ → List ℕ → FrameEnd
decided count length_said body =
    if count == 0 then End
    else if nat_lt count 4 then Torn
    else if nat_lt FRAME_LIMIT length_said then TooLong length_said
    else if nat_lt count (4 + length_said) then Torn
    else Frame body

decided_at : List ℕ → FrameEnd
decided_at bytes = decided (length bytes) (announced bytes) (take (announced bytes) (drop 4 bytes))

-- what an end leaves
abbrev left_by : FrameEnd → List ℕ → List ℕ
left_by (Frame f) bytes = drop (4 + length f) bytes
left_by End bytes = []
left_by Torn bytes = []
left_by (TooLong n) bytes = drop 4 bytes
left_by ReadFault bytes = []
left_by NoMemory bytes = []

decided-frame : (count n : ℕ) (body : List ℕ) → 4 + n ≤ count → n ≤ FRAME_LIMIT → decided count n body ≡ Frame body
unfolding decided
decided-frame count n body long small = grind (arith, nat_tests)

decided-torn_head : (count n : ℕ) (body : List ℕ) → 0 < count → count < 4 → decided count n body ≡ Torn
unfolding decided
decided-torn_head count n body some few = grind (arith, nat_tests)

decided-torn_body : (count n : ℕ) (body : List ℕ) → 0 < count → n ≤ FRAME_LIMIT → count < 4 + n → decided count n body ≡ Torn
unfolding decided
decided-torn_body count n body some small few = grind (arith, nat_tests)

decided-too_long : (count n : ℕ) (body : List ℕ) → 4 ≤ count → FRAME_LIMIT < n → decided count n body ≡ TooLong n
unfolding decided
decided-too_long count n body long big = grind (arith, nat_tests)

-- an end that is neither a fault nor want of memory is the one that the octets decide
end_is_decided : (bytes : List ℕ) (e : FrameEnd) (left : Option (List ℕ)) → IsFrameDecided e → FrameGives bytes e left → (decided_at bytes ≡ e) × (left ≡ Some (left_by e bytes))
unfolding decided decided_at
end_is_decided bytes (Frame f) left sure (few, rest, same, is) =
    let said : announced bytes ≡ length f = ap announced same ∙ announced-frame f rest few in
    let after : drop 4 bytes ≡ f ++ rest = ap (drop 4) same in
    let body : take (announced bytes) (drop 4 bytes) ≡ f = ap (λ (n : ℕ). take n (drop 4 bytes)) said ∙ ap (take (length f)) after ∙ take-append_seam f rest in
    let long : 4 + length f ≤ length bytes = rw same (omega (arith, length-append f rest)) in
    let end : decided_at bytes ≡ Frame (take (announced bytes) (drop 4 bytes)) = decided-frame (length bytes) (announced bytes) (take (announced bytes) (drop 4 bytes)) (omega arith) (omega arith) in
    let gone : drop (4 + length f) bytes ≡ rest = sym (drop-drop (length f) 4 bytes) ∙ ap (drop (length f)) after ∙ drop-append_seam f rest in
    (end ∙ ap Frame body, is ∙ ap Some (sym gone))
end_is_decided bytes End left sure (same, is) = (ap decided_at same, is)
end_is_decided bytes Torn left sure ((some, inl few), is) = (decided-torn_head (length bytes) (announced bytes) (take (announced bytes) (drop 4 bytes)) some few, is)
end_is_decided bytes Torn left sure ((some, inr (small, few)), is) = (decided-torn_body (length bytes) (announced bytes) (take (announced bytes) (drop 4 bytes)) some small few, is)
end_is_decided bytes (TooLong n) left sure (big, long, said, is) =
    (decided-too_long (length bytes) (announced bytes) (take (announced bytes) (drop 4 bytes)) long (omega arith) ∙ ap TooLong (sym said), is)
end_is_decided bytes ReadFault left never h = absurd never
end_is_decided bytes NoMemory left never h = absurd never

-- two ends that the octets decide are one, with one rest
pub frame_end_is_one : (bytes : List ℕ) (a b : FrameEnd) (left other : Option (List ℕ)) → IsFrameDecided a → IsFrameDecided b → FrameGives bytes a left → FrameGives bytes b other → (a ≡ b) × (left ≡ other)
frame_end_is_one bytes a b left other first second gives answers =
    let one = end_is_decided bytes a left first gives in
    let two = end_is_decided bytes b other second answers in
    let same : a ≡ b = sym one.0 ∙ two.0 in
    (same, one.1 ∙ ap (λ (e : FrameEnd). Some (left_by e bytes)) same ∙ sym two.1)
