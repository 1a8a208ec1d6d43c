-- The configuration of an eIM: its identifier, its address and its key.
use Rattle.std.specs.Prelude.{ℕ, List, ◌++◌, Option, Some}
use Rattle.sgp_der.specs.Element.{element}
use Rattle.sgp_der.specs.Fields.{◌>>=◌}
use Rattle.sgp_values.specs.Ranges.{IsEimId, IsAddress, IsKey}
use Rattle.sgp_values.specs.Reading.{eim_id_of, address_of, key_of}
use Rattle.sgp_fields.specs.Fields.{value_at, last_at}
use Rattle.sgp_fields.specs.declared.config.EimConfig.{EimConfig}

-- its fields
unfoldable pub config_content : List ℕ → List ℕ → List ℕ → List ℕ
config_content id address key = element 0x80 id ++ element 0x81 address ++ element 0x82 key

-- the configuration whose fields the content is
unfoldable pub config_of : List ℕ → Option EimConfig
config_of content = do
  id ← value_at eim_id_of 0x80 content
  address ← value_at address_of 0x81 id.1
  key ← last_at key_of 0x82 address.1
  Some (record { id = id.0; address = address.0; key = key })

-- each field is in its range
pub record IsConfig (c : EimConfig) : Type 0 where
  pub id : IsEimId c.id
  pub address : IsAddress c.address
  pub key : IsKey c.key
