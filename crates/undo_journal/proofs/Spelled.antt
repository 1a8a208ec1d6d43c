use Rattle.std.proofs.Common.{◌≡◌, ℕ, ◌+◌, ◌*◌, ◌/◌, ◌%◌, List, [], ◌∷◌, ◌++◌, length, take, set, get_or, ◌<◌, ◌≤◌, refl, sym, ◌∙◌, ap, arith}
use Rattle.std.proofs.lemmas.Grind.{common_steps}
use Rattle.std.proofs.lemmas.List.{take_more}
use Rattle.undo_journal.specs.Steps.{spelled, directory_of}

pub length-spelled : (ns : List ℕ) → length (spelled ns) ≡ 2 * length ns
length-spelled [] = refl
length-spelled (n ∷ ns) = omega (arith, length-spelled ns)

pub length-directory : (ns : List ℕ) → length (directory_of ns) ≡ 2 + 2 * length ns
length-directory ns = omega (arith, length-spelled (length ns ∷ ns))

pub spelled-push : (ns : List ℕ) (n : ℕ) → spelled (ns ++ n ∷ []) ≡ spelled ns ++ n / 256 ∷ n % 256 ∷ []
spelled-push [] n = refl
spelled-push (m ∷ ns) n = ap (λ (l : List ℕ). m / 256 ∷ m % 256 ∷ l) (spelled-push ns n)

take_set_two : (out : List ℕ) (n hi lo : ℕ) → n + 2 ≤ length out → take (n + 2) (set (set out n hi) (n + 1) lo) ≡ take n out ++ hi ∷ lo ∷ []
take_set_two out n hi lo le = grind (arith, common_steps)

pub spelled_one : (out blocks : List ℕ) (e hi lo : ℕ) → e < length blocks → 2 + 2 * length blocks ≤ length out → take (2 + 2 * e) out ≡ spelled (length blocks ∷ take e blocks)
    → hi ≡ get_or blocks e 0 / 256 → lo ≡ get_or blocks e 0 % 256 → take (2 + 2 * (e + 1)) (set (set out (2 + 2 * e) hi) (3 + 2 * e) lo) ≡ spelled (length blocks ∷ take (e + 1) blocks)
spelled_one out blocks e hi lo lt room so_far ishi islo =
    let at : 2 + 2 * (e + 1) ≡ 2 + 2 * e + 2 = omega arith in
    let next : 3 + 2 * e ≡ 2 + 2 * e + 1 = omega arith in
    ap (λ (k : ℕ). take k (set (set out (2 + 2 * e) hi) (3 + 2 * e) lo)) at ∙ ap (λ (k : ℕ). take (2 + 2 * e + 2) (set (set out (2 + 2 * e) hi) k lo)) next
    ∙ take_set_two out (2 + 2 * e) hi lo (omega arith)
    ∙ ap (λ (l : List ℕ). l ++ hi ∷ lo ∷ []) so_far
    ∙ ap (λ (x : ℕ). spelled (length blocks ∷ take e blocks) ++ x ∷ lo ∷ []) ishi
    ∙ ap (λ (x : ℕ). spelled (length blocks ∷ take e blocks) ++ get_or blocks e 0 / 256 ∷ x ∷ []) islo
    ∙ sym (spelled-push (length blocks ∷ take e blocks) (get_or blocks e 0))
    ∙ ap (λ (l : List ℕ). spelled (length blocks ∷ l)) (sym (take_more blocks e 0 lt))
