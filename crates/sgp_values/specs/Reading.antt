-- The value that octets are, if they are in its range. Readers of encodings cite these.
use Rattle.std.specs.Prelude.{ℕ, Bool, ◌&&◌, ◌==◌, nat_le, List, length, Option, Some, None, if◌then◌else◌}
use Rattle.std.specs.List.{list_all}
use Rattle.std.specs.Str.{is_utf8}
use Rattle.sgp_values.specs.Ranges.{is_octet, is_name_octet, is_address_octet}

-- ten octets
abbrev pub is_iccid : List ℕ → Bool
is_iccid octets = length octets == 10 && list_all is_octet octets

-- the ICCID that these octets are
unfoldable pub iccid_of : List ℕ → Option (List ℕ)
iccid_of octets = if is_iccid octets then Some octets else None

-- sixteen octets
abbrev pub is_eid : List ℕ → Bool
is_eid octets = length octets == 16 && list_all is_octet octets

-- the EID that these octets are
unfoldable pub eid_of : List ℕ → Option (List ℕ)
eid_of octets = if is_eid octets then Some octets else None

-- 1 to 128 octets of the alphabet of names
abbrev pub is_eim_id : List ℕ → Bool
is_eim_id octets = nat_le 1 (length octets) && nat_le (length octets) 128 && list_all is_name_octet octets

-- the identifier of an eIM that these octets are
unfoldable pub eim_id_of : List ℕ → Option (List ℕ)
eim_id_of octets = if is_eim_id octets then Some octets else None

-- at most 128 octets of the alphabet of addresses
abbrev pub is_address : List ℕ → Bool
is_address octets = nat_le (length octets) 128 && list_all is_address_octet octets

-- the address that these octets are
unfoldable pub address_of : List ℕ → Option (List ℕ)
address_of octets = if is_address octets then Some octets else None

-- at most 128 octets
abbrev pub is_key : List ℕ → Bool
is_key octets = nat_le (length octets) 128 && list_all is_octet octets

-- the key that these octets are
unfoldable pub key_of : List ℕ → Option (List ℕ)
key_of octets = if is_key octets then Some octets else None

-- at most 64 octets of UTF-8
abbrev pub is_nickname : List ℕ → Bool
is_nickname octets = nat_le (length octets) 64 && is_utf8 octets

-- the nickname that these octets are
unfoldable pub nickname_of : List ℕ → Option (List ℕ)
nickname_of octets = if is_nickname octets then Some octets else None
