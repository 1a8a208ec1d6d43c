-- The operations on profiles, row by row; the first row that applies counts.
use Rattle.std.specs.Prelude.{ℕ, ◌==◌, ◌&&◌, Bool, false, not, List, map, find, option_map, if◌then◌else◌, Option, Some, None}
use Rattle.std.specs.List.{list_any}
use Rattle.small_card.specs.Lists.{same, without, before_first}
use Rattle.small_card.specs.declared.types.Profile.{Profile}
use Rattle.small_card.specs.declared.types.Psmo.{Psmo}
use Rattle.small_card.specs.declared.types.Psmo.TheVariants as psmo
use Rattle.small_card.specs.declared.types.Item.{Item}
use Rattle.small_card.specs.declared.types.Item.TheVariants as item

-- The profile has this ICCID.
abbrev pub is_iccid : List ℕ → Profile → Bool
is_iccid iccid p = same iccid p.iccid

-- The profile is in the table.
unfoldable pub has_profile : List ℕ → List Profile → Bool
has_profile iccid ps = list_any (is_iccid iccid) ps

-- The profile is in the table and enabled.
unfoldable pub is_enabled : List ℕ → List Profile → Bool
is_enabled iccid ps = list_any (λ p. is_iccid iccid p && p.enabled) ps

-- The profile that is enabled, if any.
unfoldable pub enabled_of : List Profile → Option (List ℕ)
enabled_of ps = option_map (λ p. p.iccid) (find (λ p. p.enabled) ps)

-- The profile is enabled or disabled, and all else of it stays.
abbrev pub with_state : Bool → Profile → Profile
with_state on p = record p { enabled = on }

-- This profile alone is enabled.
unfoldable pub enabled_alone : List ℕ → List Profile → List Profile
enabled_alone iccid ps = map (λ p. with_state (is_iccid iccid p) p) ps

-- No profile is enabled.
unfoldable pub none_enabled : List Profile → List Profile
none_enabled ps = map (λ p. with_state false p) ps

-- The profile leaves the list.
unfoldable pub without_profile : List ℕ → List Profile → List Profile
without_profile iccid ps = without (is_iccid iccid) ps

-- An operation of a package that was executed, and its item.
abbrev pub Done : Type 0
Done = Psmo × Item

-- It is an enable with the rollback flag that was done, and its target isn't the former profile.
unfoldable pub is_arming : List ℕ → Psmo → Item → Bool
is_arming former (psmo.Enable iccid rollback) (item.Enable code) = rollback && code == 0 && not (same former iccid)
is_arming former op it = false

-- It is a delete of the former profile that was done.
unfoldable pub is_deletion : List ℕ → Psmo → Item → Bool
is_deletion former (psmo.Delete iccid) (item.Delete code) = code == 0 && same former iccid
is_deletion former op it = false

-- Some operation done arms the former profile, and none before it deleted that profile (oldest first).
unfoldable pub arms_profile : List ℕ → List Done → Bool
arms_profile former done = list_any (λ d. is_arming former d.0 d.1) (before_first (λ d. is_deletion former d.0 d.1) done)

-- A profile was enabled as the package began, and the operations done armed it.
unfoldable pub arms : Option (List ℕ) → List Done → Bool
arms None done = false
arms (Some former) done = arms_profile former done

-- This package has armed the profile: it is the former one, and the operations done armed it.
unfoldable pub has_armed : Option (List ℕ) → List Done → List ℕ → Bool
has_armed None done iccid = false
has_armed (Some former) done iccid = same former iccid && arms_profile former done

-- What an operation leaves, and its item: `former` was enabled as the package began, `done` came so far.
unfoldable pub do_psmo : Option (List ℕ) → List Done → List Profile → Psmo → List Profile × Item
do_psmo former done ps (psmo.Enable iccid rollback) =
    if not (has_profile iccid ps) then (ps, item.Enable 1)
    else if is_enabled iccid ps then (ps, item.Enable 2)
    else (enabled_alone iccid ps, item.Enable 0)
do_psmo former done ps (psmo.Disable iccid) =
    if not (has_profile iccid ps) then (ps, item.Disable 1)
    else if not (is_enabled iccid ps) then (ps, item.Disable 2)
    else (none_enabled ps, item.Disable 0)
do_psmo former done ps (psmo.Delete iccid) =
    if not (has_profile iccid ps) then (ps, item.Delete 1)
    else if is_enabled iccid ps then (ps, item.Delete 2)
    else if has_armed former done iccid then (ps, item.Delete 3)
    else (without_profile iccid ps, item.Delete 0)
do_psmo former done ps psmo.List = (ps, item.Profiles ps)
