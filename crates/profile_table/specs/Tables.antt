-- Which lists of profiles are tables.
use Rattle.std.specs.Prelude.{◌≤◌, List, length}
use Rattle.small_card.specs.Lists.{EveryPair}
use Rattle.small_card.specs.Ranges.{AreApart}
use Rattle.small_card.specs.declared.limits.TheConstants.{MOST_PROFILES}
use Rattle.small_card.specs.declared.types.Profile.{Profile}

-- A table has at most 16 profiles, with distinct ICCIDs and at most one enabled.
pub record MayStand (ps : List Profile) : Type 0 where
  pub few : length ps ≤ MOST_PROFILES
  pub apart : EveryPair AreApart ps
