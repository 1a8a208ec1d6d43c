-- The sequence number of the result in a slot, from the slot's first octets.
use Rattle.std.specs.Prelude.{ℕ, ◌-◌, ◌==◌, List, Option, Some, None, if◌then◌else◌}
use Rattle.sgp_der.specs.Fields.{◌>>=◌}
use Rattle.sgp_fields.specs.Fields.{value_at}
use Rattle.sgp_fields.specs.Values.{number_of}
use Rattle.home_codec.specs.Fixed.{octet_at, octets_at, word_at}

-- the number in the first field of an element
unfoldable pub seq_at : List ℕ → Option ℕ
seq_at bytes = do
  tag ← octet_at bytes
  first ← octet_at tag.1
  len ← octets_at (first.0 - 128) first.1
  seq ← value_at (number_of 1 4294967295) 0x80 len.1
  Some seq.0

-- the number of the result that a slot begins with, or none where it is free
unfoldable pub number_at : List ℕ → Option ℕ
number_at bytes = do
  len ← word_at bytes
  if len.0 == 0 then None else seq_at len.1
