-- A package: its operations in order, its result, and the profile that it arms.
use Rattle.std.specs.Prelude.{ℕ, ◌+◌, ◌==◌, Bool, true, false, List, [], ◌∷◌, ◌++◌, map, if◌then◌else◌, Option, Some, None}
use Rattle.small_card.specs.Cards.{SmallCard, EimList, Results}
use Rattle.small_card.specs.Profiles.{Done, enabled_of, arms, do_psmo}
use Rattle.small_card.specs.EimOperations.{with_counter, do_eco}
use Rattle.small_card.specs.declared.types.Profile.{Profile}
use Rattle.small_card.specs.declared.types.Psmo.{Psmo}
use Rattle.small_card.specs.declared.types.Eco.{Eco}
use Rattle.small_card.specs.declared.types.Item.{Item}
use Rattle.small_card.specs.declared.types.Item.TheVariants as item
use Rattle.small_card.specs.declared.types.Body.{Body}
use Rattle.small_card.specs.declared.types.Body.TheVariants.{Psmos, Ecos}
use Rattle.small_card.specs.declared.types.Package.{Package}
use Rattle.small_card.specs.declared.types.PackageResult.{PackageResult}
use Rattle.small_card.specs.declared.types.Armed.{Armed}

-- An operation is done where its code is 0, where it is a list, or where it left no eIM.
unfoldable pub is_done : Item → Bool
is_done (item.Enable code) = code == 0
is_done (item.Disable code) = code == 0
is_done (item.Delete code) = code == 0
is_done (item.Profiles ps) = true
is_done (item.Add code association) = code == 0
is_done (item.Update code) = code == 0
is_done (item.Dropped code) = if code == 0 then true else code == 2
is_done (item.Eims es) = true

-- The operations are executed in order and stop after the first that isn't done; `done` came before.
unfoldable pub run_psmos : Option (List ℕ) → List Done → List Profile → List Psmo → List Profile × List Done
run_psmos former done ps [] = (ps, done)
run_psmos former done ps (op ∷ ops) =
    let one = do_psmo former done ps op in
    let now = done ++ (op, one.1) ∷ [] in
    let more = run_psmos former now one.0 ops in
    if is_done one.1 then more else (one.0, now)

-- The operations on eIMs are executed in order and stop after the first that isn't done.
unfoldable pub run_ecos : List Item → EimList → List Eco → EimList × List Item
run_ecos done ms [] = (ms, done)
run_ecos done ms (op ∷ ops) =
    let one = do_eco ms op in
    let now = done ++ one.1 ∷ [] in
    let more = run_ecos now one.0 ops in
    if is_done one.1 then more else (one.0, now)

-- What a package's operations leave of the card, their items, and the profile that they armed.
pub record Executed : Type 0 where
  pub profiles : List Profile
  pub eims : EimList
  pub items : List Item
  pub armed : Option (List ℕ)

-- A body is executed on the card's profiles or on its eIMs; what was done stays.
unfoldable pub execute : List Profile → EimList → Body → Executed
execute ps ms (Psmos ops) =
    let former = enabled_of ps in
    let end = run_psmos former [] ps ops in
    record { profiles = end.0; eims = ms; items = map (λ d. d.1) end.1; armed = if arms former end.1 then former else None }
execute ps ms (Ecos ops) =
    let end = run_ecos [] ms ops in
    record { profiles = ps; eims = end.0; items = end.1; armed = None }

-- The entry's counter becomes the package's, then the operations are executed.
unfoldable pub executed : SmallCard → Package → Executed
executed c p = execute c.profiles (record c.eims { entries = with_counter p.eim p.counter c.eims.entries }) p.body

-- The result gets the next sequence number and one item for each executed operation.
unfoldable pub result_of : SmallCard → Package → PackageResult
result_of c p = record {
  seq = c.results.next;
  eim = p.eim;
  association = p.association;
  counter = p.counter;
  items = (executed c p).items;
  rolled = false;
}

-- The result goes last, and the next sequence number rises.
unfoldable pub with_result : PackageResult → Results → Results
with_result r rs = record { pending = rs.pending ++ r ∷ []; next = rs.next + 1 }

-- A profile that was armed goes with the number of the package's result.
abbrev pub armed_with : ℕ → Option (List ℕ) → Option Armed
armed_with seq None = None
armed_with seq (Some former) = Some (record { former = former; seq = seq })

-- The rollback that a package permits: to the profile that it armed, with its result's number.
unfoldable pub armed_by : SmallCard → Package → Option Armed
armed_by c p = armed_with c.results.next (executed c p).armed
