-- Tokens of a line, which a space (the octet 20) ends.
use Rattle.std.specs.Prelude.{◌≡◌, ◌≢◌, ◌==◌, ℕ, ◌+◌, ◌<◌, ◌≤◌, Bool, List, drop, length}
use Rattle.std.specs.List.{AllByRecursion, before_first, slice_range}

-- the octet is a space
abbrev pub is_space : ℕ → Bool
is_space octet = octet == 32

-- no octet of the token is a space
abbrev pub NoSpace : List ℕ → Type 0
NoSpace token = AllByRecursion (λ b. b ≢ 32) token

-- the token that begins at a place: what stands before the next space, or up to the line's end
abbrev pub token_at : List ℕ → ℕ → List ℕ
token_at line at = before_first is_space (drop at line)

-- the bounds of the token that begins at a place before the line's end
pub record IsToken (line : List ℕ) (at start end : ℕ) : Type 0 where
  pub inside : at < length line
  pub begins : start ≡ at
  pub ends : end ≡ at + length (token_at line at)
  pub within : end ≤ length line
  pub octets : slice_range line start end ≡ token_at line at
