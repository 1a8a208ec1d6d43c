-- What one word spells.
use Rattle.std.specs.Prelude.{ℕ, ◌==◌, ◌^◌, ◌&&◌, nat_lt, nat_le, Bool, true, false, List, [], ◌∷◌, Option, Some, None, Result, Ok, Err, if◌then◌else◌, codes}
use Rattle.std.specs.Fmt.{decimal}
use Rattle.std.specs.Str.Parse.{digits_value}
use Rattle.hex.specs.Hex.{decode_of}
use Rattle.hex.specs.declared.error.FromHexError.{FromHexError}
use Rattle.sgp_der.specs.Fields.{◌>>=◌}
use Rattle.sgp_fields.specs.Values.{only_if}
use Rattle.sgp_values.specs.Reading.{iccid_of, eid_of, address_of, key_of, nickname_of}
use Rattle.small_card.specs.Lists.{same}
use Rattle.small_card.specs.declared.types.Profile.{Profile}
use Rattle.chip_port.specs.declared.chip.Tear.{Tear}
use Rattle.chip_port.specs.declared.chip.Tear.TheVariants.{Old, New, Half, Junk}
use Rattle.iot_schedule.specs.declared.types.Pick.{Pick}
use Rattle.iot_schedule.specs.declared.types.Pick.TheVariants.{At, Last}

-- what stands before the first octet that is the mark, or all where there is none
unfoldable pub before : ℕ → List ℕ → List ℕ
before mark [] = []
before mark (b ∷ bs) = if b == mark then [] else b ∷ before mark bs

-- what stands behind the first octet that is the mark, if there is one
unfoldable pub behind : ℕ → List ℕ → Option (List ℕ)
behind mark [] = None
behind mark (b ∷ bs) = if b == mark then Some bs else behind mark bs

-- what stands behind the mark that the text begins with
abbrev pub marked : ℕ → List ℕ → Option (List ℕ)
marked mark [] = None
marked mark (b ∷ bs) = if b == mark then Some bs else None

abbrev pub octets_of : Result (List ℕ) FromHexError → Option (List ℕ)
octets_of (Ok octets) = Some octets
octets_of (Err e) = None

-- the octets that an even number of hexadecimal digits spells, in either case
unfoldable pub hex_of : List ℕ → Option (List ℕ)
hex_of token = octets_of (decode_of token)

-- the number whose decimal the word is: digits without a needless leading zero
unfoldable pub decimal_of : List ℕ → Option ℕ
decimal_of token =
    let n = digits_value 10 token in
    only_if (nat_lt n (2 ^ 64) && same token (decimal n)) n

-- a number from the least to the greatest
unfoldable pub number_of : ℕ → ℕ → List ℕ → Option ℕ
number_of least greatest token = do
  n ← decimal_of token
  only_if (nat_le least n && nat_le n greatest) n

-- an EID: 32 hexadecimal digits
unfoldable pub eid_word : List ℕ → Option (List ℕ)
eid_word token = do
  octets ← hex_of token
  eid_of octets

-- an ICCID: 20 hexadecimal digits
unfoldable pub iccid_word : List ℕ → Option (List ℕ)
iccid_word token = do
  octets ← hex_of token
  iccid_of octets

-- an address behind '@'
unfoldable pub address_word : List ℕ → Option (List ℕ)
address_word token = do
  text ← marked 64 token
  address_of text

-- a key's octets, as hexadecimal digits
unfoldable pub key_digits : List ℕ → Option (List ℕ)
key_digits digits = do
  octets ← hex_of digits
  key_of octets

-- a key behind '#'
unfoldable pub key_word : List ℕ → Option (List ℕ)
key_word token = do
  digits ← marked 35 token
  key_digits digits

-- '+' for an enabled profile, '-' for a disabled one
abbrev pub sign_of : ℕ → Option Bool
sign_of sign = if sign == 43 then Some true else if sign == 45 then Some false else None

-- a nickname's octets, as hexadecimal digits
unfoldable pub nickname_digits : List ℕ → Option (List ℕ)
nickname_digits digits = do
  octets ← hex_of digits
  nickname_of octets

-- a profile: its sign, its ICCID, '%', and its nickname
unfoldable pub profile_word : List ℕ → Option Profile
profile_word [] = None
profile_word (sign ∷ text) = do
  enabled ← sign_of sign
  iccid ← iccid_word (before 37 text)
  digits ← behind 37 text
  nickname ← nickname_digits digits
  Some (record { iccid = iccid; enabled = enabled; nickname = nickname })

-- a message: the newest one, or the one of this number
unfoldable pub pick_word : List ℕ → Option Pick
pick_word token =
    if same token (codes "last") then Some Last
    else do
      n ← number_of 0 4294967295 token
      Some (At n)

-- the octets of a package: '-' for none, or at least two hexadecimal digits
unfoldable pub bytes_word : List ℕ → Option (List ℕ)
bytes_word [] = None
bytes_word (b ∷ bs) = if same (b ∷ bs) (codes "-") then Some [] else hex_of (b ∷ bs)

-- one of two words, the first of them for true
unfoldable pub choice_of : List ℕ → List ℕ → List ℕ → Option Bool
choice_of first second token = if same token first then Some true else if same token second then Some false else None

-- what a planned cut leaves
unfoldable pub tear_word : List ℕ → Option Tear
tear_word token =
    if same token (codes "old") then Some Old
    else if same token (codes "new") then Some New
    else if same token (codes "half") then Some Half
    else if same token (codes "junk") then Some Junk
    else None
