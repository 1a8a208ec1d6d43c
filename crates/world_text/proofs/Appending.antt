-- Appending a text part by part.
use Rattle.std.proofs.Common.{◌≡◌, ℕ, min, List, ◌++◌, take, length, OnOk, OnErr, Ok, Err, Result, ap, sym, ◌∙◌, arith, append_assoc}
use Rattle.std.proofs.lemmas.List.{take_all, take-take, take-append-le, length-take}

-- what was there is in front of what was appended
pub before : (old xs out : List ℕ) → out ≡ old ++ xs → take (length old) out ≡ old
before old xs out e = ap (λ z. take (length old) z) e ∙ take-append-le (length old) old xs (omega arith) ∙ take_all (length old) old (omega arith)

-- what was there stays in front
pub still_before : (old out now : List ℕ) → take (length old) out ≡ old → take (length out) now ≡ out → take (length old) now ≡ old
still_before old out now was kept =
    let size : length old ≡ min (length old) (length out) = ap length (sym was) ∙ length-take (length old) out in
    sym (take-take (length old) (length out) now (omega (arith, size))) ∙ ap (λ z. take (length old) z) kept ∙ was

-- a text behind another one
pub behind : {T E : Type 0} (r : Result T E) (old label out xs now : List ℕ) → out ≡ old ++ label → OnOk r (now ≡ out ++ xs) → OnOk r (now ≡ old ++ (label ++ xs))
behind (Ok t) old label out xs now e put = put ∙ ap (λ z. z ++ xs) e ∙ append_assoc old label xs
behind (Err f) old label out xs now e put = tt

-- where the second of two texts wasn't appended whole
pub failed_behind : {T E : Type 0} (r : Result T E) (old label out now : List ℕ) → out ≡ old ++ label → OnErr r (take (length out) now ≡ out) → OnErr r (take (length old) now ≡ old)
failed_behind (Ok t) old label out now e kept = tt
failed_behind (Err f) old label out now e kept = still_before old out now (before old label out e) kept

pub on_error : {T E P : Type 0} (r : Result T E) → P → OnErr r P
on_error (Ok t) p = tt
on_error (Err f) p = p
