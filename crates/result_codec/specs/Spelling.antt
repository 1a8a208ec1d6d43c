-- The one spelling of each result and of the lists in it, and of a refusal, element by element.
use Rattle.std.specs.Prelude.{ℕ, ◌==◌, List, [], ◌++◌, if◌then◌else◌}
use Rattle.std.specs.List.{flat_map}
use Rattle.sgp_der.specs.Element.{element}
use Rattle.sgp_der.specs.Number.{uint}
use Rattle.sgp_fields.specs.Values.{flag_content}
use Rattle.sgp_fields.specs.Fields.{mark}
use Rattle.sgp_fields.specs.Alone.{number_alone}
use Rattle.small_card.specs.declared.types.Profile.{Profile}
use Rattle.small_card.specs.declared.types.EimLine.{EimLine}
use Rattle.small_card.specs.declared.types.Item.{Item}
use Rattle.small_card.specs.declared.types.Item.TheVariants as done
use Rattle.small_card.specs.declared.types.PackageResult.{PackageResult}
use Rattle.small_card.specs.declared.types.Refused.{Refused}

-- what stands in a profile: its ICCID, whether it is enabled, and its nickname
unfoldable pub profile_content : Profile → List ℕ
profile_content p = element 0x80 p.iccid ++ element 0x81 (flag_content p.enabled) ++ element 0x82 p.nickname

-- a profile as one element
unfoldable pub profile : Profile → List ℕ
profile p = element 0x30 (profile_content p)

-- what stands in a line of the eIM list: the identifier, the address, the association, and the
-- counter that is kept
unfoldable pub eim_line_content : EimLine → List ℕ
eim_line_content e =
    element 0x80 e.id ++ element 0x81 e.address ++ element 0x82 (uint e.association)
    ++ element 0x83 (uint e.counter)

-- a line of the eIM list as one element
unfoldable pub eim_line : EimLine → List ℕ
eim_line e = element 0x30 (eim_line_content e)

-- one profile behind the other
abbrev pub profiles : List Profile → List ℕ
profiles ps = flat_map profile ps

-- one line behind the other
abbrev pub eim_lines : List EimLine → List ℕ
eim_lines es = flat_map eim_line es

-- the association of an add is there exactly where its code is 0
abbrev pub new_association : ℕ → ℕ → List ℕ
new_association code association = if code == 0 then element 0x81 (uint association) else []

-- what stands in the item of an add
unfoldable pub add_content : ℕ → ℕ → List ℕ
add_content code association = element 0x80 (uint code) ++ new_association code association

-- what came of an operation
unfoldable pub item : Item → List ℕ
item (done.Enable code) = element 0xa0 (number_alone code)
item (done.Disable code) = element 0xa1 (number_alone code)
item (done.Delete code) = element 0xa2 (number_alone code)
item (done.Profiles ps) = element 0xa3 (profiles ps)
item (done.Add code association) = element 0xa8 (add_content code association)
item (done.Update code) = element 0xa9 (number_alone code)
item (done.Dropped code) = element 0xaa (number_alone code)
item (done.Eims es) = element 0xab (eim_lines es)

-- one item behind the other
abbrev pub items : List Item → List ℕ
items is = flat_map item is

-- what stands in a result: its number, the eIM, the association and the package's counter, the
-- items, and the mark of a rollback
unfoldable pub result_content : PackageResult → List ℕ
result_content r =
    element 0x80 (uint r.seq) ++ element 0x81 r.eim ++ element 0x82 (uint r.association)
    ++ element 0x83 (uint r.counter) ++ element 0xa4 (items r.items) ++ mark 0x85 r.rolled

-- a result as one element
unfoldable pub result : PackageResult → List ℕ
result r = element 0x30 (result_content r)

-- what stands in a refusal: the code, the counter that is kept and the one that was received
unfoldable pub refusal : Refused → List ℕ
refusal r = element 0x80 (uint r.code) ++ element 0x81 (uint r.kept) ++ element 0x82 (uint r.received)
