-- The texts of a trace that are made of card values. Numbers are decimal, octets hexadecimal.
use Rattle.std.specs.Prelude.{ℕ, ◌==◌, Bool, if◌then◌else◌, List, [], ◌++◌, length, codes}
use Rattle.std.specs.List.{flat_map}
use Rattle.std.specs.Fmt.{decimal}
use Rattle.iot_bytes.specs.Hexes.{hex}
use Rattle.small_card.specs.declared.types.Profile.{Profile}
use Rattle.small_card.specs.declared.types.EimEntry.{EimEntry}
use Rattle.small_card.specs.declared.types.Item.{Item}
use Rattle.small_card.specs.declared.types.Item.TheVariants as item
use Rattle.small_card.specs.declared.types.PackageResult.{PackageResult}
use Rattle.small_card.specs.declared.types.Refused.{Refused}
use Rattle.small_card.specs.declared.codes.TheConstants.{DONE}
use Rattle.small_card.specs.declared.codes.load.TheConstants.{REPLAY}

-- an eIM that was added has its association behind the code
abbrev pub add_text : ℕ → ℕ → List ℕ
add_text code association = if code == DONE then codes "add=0:" ++ decimal association else codes "add=" ++ decimal code

-- an item: its operation, and its code or how many entries were listed
unfoldable pub item_text : Item → List ℕ
item_text (item.Enable code) = codes "enable=" ++ decimal code
item_text (item.Disable code) = codes "disable=" ++ decimal code
item_text (item.Delete code) = codes "delete=" ++ decimal code
item_text (item.Profiles rows) = codes "profiles=" ++ decimal (length rows)
item_text (item.Add code association) = add_text code association
item_text (item.Update code) = codes "update=" ++ decimal code
item_text (item.Dropped code) = codes "drop=" ++ decimal code
item_text (item.Eims rows) = codes "eims=" ++ decimal (length rows)

-- an item after a space
unfoldable pub item_entry : Item → List ℕ
item_entry i = codes " " ++ item_text i

-- the items of a result
unfoldable pub items_text : List Item → List ℕ
items_text items = flat_map item_entry items

-- the two counters of a replay
abbrev pub counters_text : Refused → List ℕ
counters_text r = if r.code == REPLAY then codes " kept " ++ decimal r.kept ++ codes " received " ++ decimal r.received else []

-- a refusal: its code, and for a replay the two counters
unfoldable pub refused_text : Refused → List ℕ
refused_text r = codes "refused " ++ decimal r.code ++ counters_text r

-- an enabled profile has a plus before its ICCID, a disabled one a minus
abbrev pub sign_text : Bool → List ℕ
sign_text enabled = if enabled then codes " +" else codes " -"

-- a profile after a space
unfoldable pub profile_entry : Profile → List ℕ
profile_entry p = sign_text p.enabled ++ hex p.iccid

-- what names a package: its eIM, the association and the counter
unfoldable pub package_text : List ℕ → ℕ → ℕ → List ℕ
package_text id association counter = id ++ codes "/" ++ decimal association ++ codes "/" ++ decimal counter

-- an eIM, with the counter of its last package
unfoldable pub eim_entry : EimEntry → List ℕ
eim_entry e = codes " " ++ package_text e.id e.association e.counter

-- a result that was rolled back is marked
abbrev pub mark_text : Bool → List ℕ
mark_text rolled = if rolled then codes "r" else []

-- a pending result: its sequence number, and the package that it is of
unfoldable pub pending_entry : PackageResult → List ℕ
pending_entry r = codes " " ++ decimal r.seq ++ codes "/" ++ package_text r.eim r.association r.counter ++ mark_text r.rolled

unfoldable pub profiles_text : List Profile → List ℕ
profiles_text profiles = codes "profiles" ++ flat_map profile_entry profiles

unfoldable pub eims_text : List EimEntry → List ℕ
eims_text eims = codes " eims" ++ flat_map eim_entry eims

unfoldable pub pending_text : List PackageResult → List ℕ
pending_text pending = codes " pending" ++ flat_map pending_entry pending

-- a card: its profiles, its eIMs and its pending results, each in their order
unfoldable pub card_text : List Profile → List EimEntry → List PackageResult → List ℕ
card_text profiles eims pending = profiles_text profiles ++ eims_text eims ++ pending_text pending

-- a record of a manager: association, counter and sequence number
unfoldable pub record_entry : PackageResult → List ℕ
record_entry r = codes " " ++ decimal r.association ++ codes "/" ++ decimal r.counter ++ codes "/" ++ decimal r.seq ++ mark_text r.rolled

-- the records of a manager, in the order in which they first came
unfoldable pub kept_text : List PackageResult → List ℕ
kept_text records = codes "kept" ++ flat_map record_entry records
