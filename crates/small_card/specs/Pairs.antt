-- Tests of the pairs of a list: each two of its elements may stand in one list, the first before the
-- second.
use Rattle.std.specs.Prelude.{◌==◌, ◌&&◌, not, nat_lt, Bool, true, List, [], ◌∷◌}
use Rattle.std.specs.List.{list_all}
use Rattle.small_card.specs.Lists.{same}
use Rattle.small_card.specs.declared.types.Profile.{Profile}
use Rattle.small_card.specs.declared.types.EimEntry.{EimEntry}
use Rattle.small_card.specs.declared.types.EimLine.{EimLine}
use Rattle.small_card.specs.declared.types.PackageResult.{PackageResult}

-- Each element and each later one pass the test.
unfoldable pub each_pair : {X : Type 0} → (X → X → Bool) → List X → Bool
each_pair test [] = true
each_pair test (x ∷ xs) = list_all (test x) xs && each_pair test xs

-- The ICCIDs are distinct, and not both profiles are enabled.
abbrev pub are_profiles_apart : Profile → Profile → Bool
are_profiles_apart p q = not (same p.iccid q.iccid) && not (p.enabled && q.enabled)

-- The identifiers are distinct, and so are the associations.
abbrev pub are_lines_apart : EimLine → EimLine → Bool
are_lines_apart d e = not (same d.id e.id) && not (d.association == e.association)

-- The same of two entries.
abbrev pub are_entries_apart : EimEntry → EimEntry → Bool
are_entries_apart d e = not (same d.id e.id) && not (d.association == e.association)

-- The first result's number is below the second's.
abbrev pub are_rising : PackageResult → PackageResult → Bool
are_rising r s = nat_lt r.seq s.seq
