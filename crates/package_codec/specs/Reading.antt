-- Reading signed packages from left to right.
use Rattle.std.specs.Prelude.{ℕ, ◌==◌, nat_le, List, length, Option, Some, None, if◌then◌else◌}
use Rattle.sgp_der.specs.Fields.{◌>>=◌, field_at, only_at, ended}
use Rattle.sgp_values.specs.Reading.{iccid_of, eid_of, eim_id_of, address_of, key_of}
use Rattle.sgp_fields.specs.Config.{config_of}
use Rattle.sgp_fields.specs.Elements.{whole_at}
use Rattle.sgp_fields.specs.Values.{only_if, number_of}
use Rattle.sgp_fields.specs.Fields.{value_at, last_at, last_mark_at, optional_at}
use Rattle.sgp_fields.specs.Lists.{list_at, some_of}
use Rattle.small_card.specs.Ranges.{greatest_counter}
use Rattle.small_card.specs.declared.types.Psmo.{Psmo}
use Rattle.small_card.specs.declared.types.Psmo.TheVariants as psmo_op
use Rattle.small_card.specs.declared.types.Eco.{Eco}
use Rattle.small_card.specs.declared.types.Eco.TheVariants as eco_op
use Rattle.small_card.specs.declared.types.Body.{Body}
use Rattle.small_card.specs.declared.types.Body.TheVariants.{Psmos, Ecos}
use Rattle.small_card.specs.declared.types.Package.{Package}
use Rattle.small_card.specs.declared.types.Signed.{Signed}

unfoldable pub enable_of : List ℕ → Option Psmo
enable_of content = do
  iccid ← value_at iccid_of 0x80 content
  rollback ← last_mark_at 0x81 iccid.1
  Some (psmo_op.Enable iccid.0 rollback)

unfoldable pub disable_of : List ℕ → Option Psmo
disable_of content = do
  iccid ← last_at iccid_of 0x80 content
  Some (psmo_op.Disable iccid)

unfoldable pub delete_of : List ℕ → Option Psmo
delete_of content = do
  iccid ← last_at iccid_of 0x80 content
  Some (psmo_op.Delete iccid)

unfoldable pub list_profiles_of : List ℕ → Option Psmo
list_profiles_of content = do
  end ← ended content
  Some psmo_op.List

-- the operation on profiles that a tag and a content are
unfoldable pub psmo_of : ℕ → List ℕ → Option Psmo
psmo_of tag content =
    if tag == 0xa0 then enable_of content
    else if tag == 0xa1 then disable_of content
    else if tag == 0xa2 then delete_of content
    else if tag == 0x83 then list_profiles_of content
    else None

unfoldable pub add_of : List ℕ → Option Eco
add_of content = do
  c ← config_of content
  Some (eco_op.Add c.id c.address c.key)

unfoldable pub update_of : List ℕ → Option Eco
update_of content = do
  id ← value_at eim_id_of 0x80 content
  address ← optional_at address_of 0x81 id.1
  key ← optional_at key_of 0x82 address.1
  end ← ended key.1
  Some (eco_op.Update id.0 address.0 key.0)

unfoldable pub drop_of : List ℕ → Option Eco
drop_of content = do
  id ← last_at eim_id_of 0x80 content
  Some (eco_op.Delete id)

unfoldable pub list_eims_of : List ℕ → Option Eco
list_eims_of content = do
  end ← ended content
  Some eco_op.List

-- the operation on eIMs that a tag and a content are
unfoldable pub eco_of : ℕ → List ℕ → Option Eco
eco_of tag content =
    if tag == 0xa8 then add_of content
    else if tag == 0xa9 then update_of content
    else if tag == 0xaa then drop_of content
    else if tag == 0x8b then list_eims_of content
    else None

unfoldable pub psmos_of : List ℕ → Option Body
psmos_of content = do
  ops ← list_at psmo_of 8 content
  some ← some_of ops
  Some (Psmos some)

unfoldable pub ecos_of : List ℕ → Option Body
ecos_of content = do
  ops ← list_at eco_of 8 content
  some ← some_of ops
  Some (Ecos some)

-- the operations that a tag and a content are
unfoldable pub body_of : ℕ → List ℕ → Option Body
body_of tag content =
    if tag == 0xa4 then psmos_of content
    else if tag == 0xa5 then ecos_of content
    else None

-- the operations that the bytes spell
unfoldable pub body_at : List ℕ → Option Body
body_at bytes = whole_at body_of bytes

-- the package whose fields the content is
unfoldable pub package_of : List ℕ → Option Package
package_of content = do
  eim ← value_at eim_id_of 0x80 content
  eid ← value_at eid_of 0x81 eim.1
  association ← value_at (number_of 1 4294967295) 0x82 eid.1
  counter ← value_at (number_of 1 greatest_counter) 0x83 association.1
  operations ← body_at counter.1
  Some (record {
    eim = eim.0;
    eid = eid.0;
    association = association.0;
    counter = counter.0;
    body = operations;
  })

-- the signed package whose fields the content is
unfoldable pub signed_of : List ℕ → Option Signed
signed_of content = do
  inner ← field_at 0x30 content
  made ← package_of inner.content
  sign ← only_at 0x86 inner.rest
  signature ← only_if (nat_le (length sign) 128) sign
  Some (record { «package» = made; signature = signature })

-- the signed package that the bytes spell
unfoldable pub signed_at : List ℕ → Option Signed
signed_at bytes = last_at signed_of 0x30 bytes
