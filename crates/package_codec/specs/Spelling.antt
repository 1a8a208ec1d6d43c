-- The one spelling of each signed package, element by element.
use Rattle.std.specs.Prelude.{ℕ, Bool, List, [], ◌++◌, Option}
use Rattle.std.specs.List.{flat_map}
use Rattle.sgp_der.specs.Element.{element}
use Rattle.sgp_der.specs.Number.{uint}
use Rattle.sgp_fields.specs.Config.{config_content}
use Rattle.sgp_fields.specs.Fields.{mark, octets, optional}
use Rattle.small_card.specs.declared.types.Psmo.{Psmo}
use Rattle.small_card.specs.declared.types.Psmo.TheVariants as psmo_op
use Rattle.small_card.specs.declared.types.Eco.{Eco}
use Rattle.small_card.specs.declared.types.Eco.TheVariants as eco_op
use Rattle.small_card.specs.declared.types.Body.{Body}
use Rattle.small_card.specs.declared.types.Body.TheVariants.{Psmos, Ecos}
use Rattle.small_card.specs.declared.types.Package.{Package}
use Rattle.small_card.specs.declared.types.Signed.{Signed}

-- what stands in an operation that names a profile alone
unfoldable pub iccid_content : List ℕ → List ℕ
iccid_content iccid = element 0x80 iccid

-- what stands in an enable: the profile, and the mark that a rollback may take it back
unfoldable pub enable_content : List ℕ → Bool → List ℕ
enable_content iccid rollback = element 0x80 iccid ++ mark 0x81 rollback

-- an operation on profiles
unfoldable pub psmo : Psmo → List ℕ
psmo (psmo_op.Enable iccid rollback) = element 0xa0 (enable_content iccid rollback)
psmo (psmo_op.Disable iccid) = element 0xa1 (iccid_content iccid)
psmo (psmo_op.Delete iccid) = element 0xa2 (iccid_content iccid)
psmo psmo_op.List = element 0x83 []

-- what stands in an operation that names an eIM alone
unfoldable pub id_content : List ℕ → List ℕ
id_content id = element 0x80 id

-- what stands in an update: the eIM, and its new address and key where they are there
unfoldable pub update_content : List ℕ → Option (List ℕ) → Option (List ℕ) → List ℕ
update_content id address key =
    element 0x80 id ++ optional octets 0x81 address ++ optional octets 0x82 key

-- an operation on eIMs
unfoldable pub eco : Eco → List ℕ
eco (eco_op.Add id address key) = element 0xa8 (config_content id address key)
eco (eco_op.Update id address key) = element 0xa9 (update_content id address key)
eco (eco_op.Delete id) = element 0xaa (id_content id)
eco eco_op.List = element 0x8b []

-- the operations of a package, all of one kind
unfoldable pub body : Body → List ℕ
body (Psmos ops) = element 0xa4 (flat_map psmo ops)
body (Ecos ops) = element 0xa5 (flat_map eco ops)

-- what a package is about: its eIM, its card, the association, the counter, and its operations
unfoldable pub package_fields : Package → List ℕ
package_fields p =
    element 0x80 p.eim ++ element 0x81 p.eid ++ element 0x82 (uint p.association)
    ++ element 0x83 (uint p.counter) ++ body p.body

-- a package as one element
unfoldable pub inner_package : Package → List ℕ
inner_package p = element 0x30 (package_fields p)

-- what stands in a signed package: the package and its signature
unfoldable pub signed_content : Signed → List ℕ
signed_content s = inner_package s.«package» ++ element 0x86 s.signature

-- a package with its signature
unfoldable pub signed : Signed → List ℕ
signed s = element 0x30 (signed_content s)
