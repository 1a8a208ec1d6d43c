-- Tokens between spaces.
use Rattle.std.proofs.Common.{◌≡◌, ◌≢◌, ℕ, Bool, cond, not, List, [], ◌∷◌, ◌++◌, length, ap, ◌∙◌, refl}
use Rattle.std.specs.List.{before_first}
use Rattle.std.proofs.lemmas.Bool.{ne_eqb}
use Rattle.std.proofs.lemmas.List.Sums.{take_while-cons}
use Rattle.std.proofs.Math.Seq.{drop-append_seam}
use Rattle.iot_bytes.specs.Tokens.{is_space, NoSpace, token_at}

-- an octet that is no space goes on with the token
before_first-step : (octet : ℕ) (rest : List ℕ) → octet ≢ 32 → before_first is_space (octet ∷ rest) ≡ octet ∷ before_first is_space rest
before_first-step octet rest ne =
    take_while-cons (λ (b : ℕ). not (is_space b)) octet rest ∙ ap (λ (b : Bool). cond (not b) (octet ∷ before_first is_space rest) []) (ne_eqb octet 32 ne)

-- a token ends before a space
before_first-space : (token rest : List ℕ) → NoSpace token → before_first is_space (token ++ 32 ∷ rest) ≡ token
before_first-space [] rest h = refl
before_first-space (octet ∷ token) rest h = before_first-step octet (token ++ 32 ∷ rest) h.0 ∙ ap (λ (l : List ℕ). octet ∷ l) (before_first-space token rest h.1)

-- a token ends with the octets
before_first-all : (token : List ℕ) → NoSpace token → before_first is_space token ≡ token
before_first-all [] h = refl
before_first-all (octet ∷ token) h = before_first-step octet token h.0 ∙ ap (λ (l : List ℕ). octet ∷ l) (before_first-all token h.1)

-- a token stands where it was put
pub token_stands : (front token rest : List ℕ) → NoSpace token → (token_at (front ++ (token ++ 32 ∷ rest)) (length front) ≡ token) × (token_at (front ++ token) (length front) ≡ token)
token_stands front token rest h = (
  ap (before_first is_space) (drop-append_seam front (token ++ 32 ∷ rest)) ∙ before_first-space token rest h,
  ap (before_first is_space) (drop-append_seam front token) ∙ before_first-all token h,
)
