-- What two writes, each synced, and an answer do: the statement of an example of a run.
use Rattle.std.specs.Prelude.{◌≡◌, ℕ, Bool, List, [], ◌∷◌, drop}
use Rattle.chip_port.specs.Seen.{Seen}
use Rattle.chip_port.specs.Rules.{put}
use Rattle.chip_port.specs.Runs.{Closed}

-- one of the images that could be left at the start, but for the first two octets
abbrev pub KeepsRest : Seen → List ℕ → Type 0
KeepsRest old image = (before : List ℕ) × old.leaves before × (drop 2 image ≡ drop 2 before)

-- the content at the start with 1 and 3 as its first octets
abbrev pub HasBoth : Seen → List ℕ → Type 0
HasBoth old image = image ≡ put (put old.reads 0 (1 ∷ 2 ∷ [])) 1 (3 ∷ [])

-- at most 5 calls; a cut on the way leaves all but the first two octets, and a cut after the answer leaves both writes
abbrev pub Stores : Bool → Seen → Seen → Type 0
Stores ok old new = Closed 5 ok (KeepsRest old) (HasBoth old) old new
