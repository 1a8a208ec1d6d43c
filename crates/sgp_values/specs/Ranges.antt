-- Which octets each value of variable length may have.
use Rattle.std.specs.Prelude.{ℕ, IsUtf8, ◌≤◌, Bool, ◌||◌, ◌&&◌, ◌==◌, not, nat_le, List, length}
use Rattle.std.specs.List.{AllPass}

-- a number below 256
abbrev pub is_octet : ℕ → Bool
is_octet b = nat_le b 255

-- a letter, a digit, '.', '-' or '_'
abbrev pub is_name_octet : ℕ → Bool
is_name_octet b = (nat_le 97 b && nat_le b 122) || (nat_le 65 b && nat_le b 90) || (nat_le 48 b && nat_le b 57) || b == 46 || b == 45 || b == 95

-- 21 to 7E, but not '#'
abbrev pub is_address_octet : ℕ → Bool
is_address_octet b = nat_le 33 b && nat_le b 126 && not (b == 35)

-- 1 to 128 octets, each a letter, a digit, '.', '-' or '_'
pub record IsEimId (octets : List ℕ) : Type 0 where
  pub some : 1 ≤ length octets
  pub few : length octets ≤ 128
  pub each : AllPass is_name_octet octets

-- 0 to 128 octets, each 21 to 7E, but not '#'
pub record IsAddress (octets : List ℕ) : Type 0 where
  pub few : length octets ≤ 128
  pub each : AllPass is_address_octet octets

-- 0 to 128 octets
pub record IsKey (octets : List ℕ) : Type 0 where
  pub few : length octets ≤ 128
  pub each : AllPass is_octet octets

-- 0 to 64 octets of UTF-8
pub record IsNickname (octets : List ℕ) : Type 0 where
  pub few : length octets ≤ 64
  pub utf8 : IsUtf8 octets
