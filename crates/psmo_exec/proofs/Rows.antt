-- The table's operations are rows of the package's, whatever was done before.
use Rattle.std.proofs.Common.{◌≡◌, ℕ, Bool, true, false, not, ◌&&◌, cond, List, [], refl, ap, sym, Option, Some, None}
use Rattle.small_card.specs.Lists.{same}
use Rattle.small_card.specs.Profiles.{Done, has_profile, is_enabled, arms, has_armed, do_psmo, without_profile}
use Rattle.small_card.specs.declared.types.Profile.{Profile}
use Rattle.small_card.specs.declared.types.Psmo.TheVariants as psmo
use Rattle.small_card.specs.declared.types.Item.{Item}
use Rattle.small_card.specs.declared.types.Item.TheVariants as item
use Rattle.psmo_exec.specs.Flags.{is_kept}

pub enable_row : (former : Option (List ℕ)) (done : List Done) (ps : List Profile) (iccid : List ℕ) (rollback : Bool) → do_psmo None [] ps (psmo.Enable iccid false) ≡ do_psmo former done ps (psmo.Enable iccid rollback)
unfolding do_psmo
enable_row former done ps iccid rollback = refl

pub disable_row : (former : Option (List ℕ)) (done : List Done) (ps : List Profile) (iccid : List ℕ) → do_psmo None [] ps (psmo.Disable iccid) ≡ do_psmo former done ps (psmo.Disable iccid)
unfolding do_psmo
disable_row former done ps iccid = refl

pub list_row : (former : Option (List ℕ)) (done : List Done) (ps : List Profile) → do_psmo None [] ps psmo.List ≡ do_psmo former done ps psmo.List
unfolding do_psmo
list_row former done ps = refl

-- an armed profile that could be deleted is left, with code 3
pub kept_row : (former : Option (List ℕ)) (done : List Done) (ps : List Profile) (iccid : List ℕ) → has_profile iccid ps ≡ true → is_enabled iccid ps ≡ false → has_armed former done iccid ≡ true → (ps, item.Delete 3) ≡ do_psmo former done ps (psmo.Delete iccid)
unfolding do_psmo
kept_row former done ps iccid there off armed = rw (there, off, armed) refl

pub unarmed_row : (former : Option (List ℕ)) (done : List Done) (ps : List Profile) (iccid : List ℕ) → has_armed former done iccid ≡ false → do_psmo None [] ps (psmo.Delete iccid) ≡ do_psmo former done ps (psmo.Delete iccid)
unfolding do_psmo has_armed
unarmed_row former done ps iccid e = ap (λ b. cond {A = List Profile × Item} (not (has_profile iccid ps)) (ps, item.Delete 1) (cond {A = List Profile × Item} (is_enabled iccid ps) (ps, item.Delete 2) (cond {A = List Profile × Item} b (ps, item.Delete 3) (without_profile iccid ps, item.Delete 0)))) (sym e)

pub absent_row : (former : Option (List ℕ)) (done : List Done) (ps : List Profile) (iccid : List ℕ) → has_profile iccid ps ≡ false → do_psmo None [] ps (psmo.Delete iccid) ≡ do_psmo former done ps (psmo.Delete iccid)
unfolding do_psmo
absent_row former done ps iccid e = rw e refl

pub enabled_row : (former : Option (List ℕ)) (done : List Done) (ps : List Profile) (iccid : List ℕ) → is_enabled iccid ps ≡ true → do_psmo None [] ps (psmo.Delete iccid) ≡ do_psmo former done ps (psmo.Delete iccid)
unfolding do_psmo
enabled_row former done ps iccid e = rw e refl

-- the flag tells what the definition looks back for
pub kept_flag : (former : Option (List ℕ)) (done : List Done) (armed : Bool) (iccid : List ℕ) → arms former done ≡ armed → has_armed former done iccid ≡ is_kept former armed iccid
unfolding has_armed is_kept arms
kept_flag None done armed iccid e = refl
kept_flag (Some former) done armed iccid e = ap (λ b. same former iccid && b) e
