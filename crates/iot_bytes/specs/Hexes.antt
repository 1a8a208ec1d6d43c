-- Octets as hexadecimal digits, two an octet, the high four bits first.
use Rattle.std.specs.Prelude.{◌≡◌, ℕ, ◌%◌, List, length, Result, Ok, Err}
use Rattle.std.specs.List.{AllPass}
use Rattle.hex.specs.Hex.{encode_lower, decode_of, is_hex_digit}
use Rattle.iot_bytes.specs.declared.memory.ReadError.{ReadError}
use Rattle.iot_bytes.specs.declared.memory.ReadError.TheVariants.{Malformed, NoMemory}

-- the digits of these octets, in lower case
abbrev pub hex : List ℕ → List ℕ
hex octets = encode_lower octets

-- the token is an even number of hexadecimal digits, in either case
abbrev pub IsHex : List ℕ → Type 0
IsHex token = (length token % 2 ≡ 0) × AllPass is_hex_digit token

-- reading answers the octets that the digits spell, and refuses exactly what isn't an even number of digits
abbrev pub ReadsHex : List ℕ → Result (List ℕ) ReadError → Type 0
ReadsHex token (Ok octets) = IsHex token × (decode_of token ≡ Ok octets)
ReadsHex token (Err Malformed) = ¬ IsHex token
ReadsHex token (Err NoMemory) = Unit {0}
