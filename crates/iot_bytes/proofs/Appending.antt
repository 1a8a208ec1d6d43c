-- Appending piece by piece.
use Rattle.std.proofs.Common.{◌≡◌, ℕ, List, ◌++◌, sym, append_assoc}

-- a list and two more
pub apart : (xs ys zs : List ℕ) → xs ++ (ys ++ zs) ≡ (xs ++ ys) ++ zs
apart xs ys zs = sym (append_assoc xs ys zs)

-- what a writer's proof cites
pub ruleset appended = (apart)
