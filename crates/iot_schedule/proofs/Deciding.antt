-- What reading numbers and digits answers, as the words of the grammar say it.
use Rattle.std.proofs.Common.{◌≡◌, ℕ, ◌^◌, ◌<◌, Bool, true, false, List, Option, Some, None, Result, Ok, Err, refl, sym, ap, ◌∙◌}
use Rattle.std.specs.Prelude.{◌&&◌, nat_lt}
use Rattle.std.specs.Fmt.{decimal}
use Rattle.std.specs.Str.Parse.{digits_value}
use Rattle.std.proofs.lemmas.Bool.{and_parts, ltb-true, lt-ltb}
use Rattle.hex.specs.Hex.{decode_of}
use Rattle.hex.specs.declared.error.FromHexError.{FromHexError}
use Rattle.iot_bytes.specs.Decimals.{ReadsDecimal}
use Rattle.iot_bytes.specs.Hexes.{IsHex, ReadsHex}
use Rattle.iot_bytes.specs.declared.memory.ReadError.{ReadError}
use Rattle.iot_bytes.specs.declared.memory.ReadError.TheVariants.{Malformed, NoMemory}
use Rattle.iot_bytes.proofs.HexText.{IsHex-decodes}
use Rattle.iot_bytes.proofs.Numerals.{decimal_is_digits}
use Rattle.sgp_der.specs.Fields.{Gives}
use Rattle.sgp_fields.specs.Values.{only_if}
use Rattle.small_card.specs.Lists.{same}
use Rattle.small_card.proofs.ListLemmas.{same_self, same_yes}
use Rattle.iot_schedule.specs.Tokens.{octets_of, hex_of, decimal_of, choice_of}

refused : (token : List ℕ) (d : Result (List ℕ) FromHexError) → decode_of token ≡ d → ¬ IsHex token → octets_of d ≡ None
refused token (Ok octets) is never = absurd (never (IsHex-decodes token octets is))
refused token (Err e) is never = refl

-- what reads as digits is what they spell
pub hex_read : (token : List ℕ) (answer : Result (List ℕ) ReadError) → ReadsHex token answer → Gives answer (hex_of token)
unfolding hex_of
hex_read token (Ok octets) (good, is) = ap octets_of is
hex_read token (Err Malformed) never = refused token (decode_of token) refl never
hex_read token (Err NoMemory) any = tt

only_where : {A : Type 0} (test : Bool) (x : A) → (test ≡ true → ⊥) → None ≡ only_if test x
only_where true x never = absurd (never refl)
only_where false x never = refl

-- a number's decimal spells that number
pub decimal_again : (n : ℕ) → n < 2 ^ 64 → decimal_of (decimal n) ≡ Some n
unfolding decimal_of
decimal_again n small =
    let value : digits_value 10 (decimal n) ≡ n = ((decimal_is_digits (decimal n) n small).0 (small, refl)).value in
    rw value (rw (lt-ltb n (2 ^ 64) small) (rw (same_self (decimal n) (decimal n) refl) refl))

-- what reads as a number is the one whose decimal the word is
pub decimal_read : (token : List ℕ) (answer : Option ℕ) → ReadsDecimal token answer → answer ≡ decimal_of token
unfolding decimal_of
decimal_read token (Some n) (small, spelled) = sym (ap decimal_of spelled ∙ decimal_again n small)
decimal_read token None none =
    only_where (nat_lt (digits_value 10 token) (2 ^ 64) && same token (decimal (digits_value 10 token))) (digits_value 10 token) (λ test.
    let parts = and_parts (nat_lt (digits_value 10 token) (2 ^ 64)) (same token (decimal (digits_value 10 token))) test in
    none (digits_value 10 token) (ltb-true (digits_value 10 token) (2 ^ 64) parts.0, same_yes token (decimal (digits_value 10 token)) parts.1))

-- which of two words one is
pub choice_first : (token first second : List ℕ) → true ≡ same token first → Some true ≡ choice_of first second token
unfolding choice_of
choice_first token first second e = rw (← e) refl

pub choice_second : (token first second : List ℕ) → false ≡ same token first → true ≡ same token second → Some false ≡ choice_of first second token
unfolding choice_of
choice_second token first second d e = rw (← d) (rw (← e) refl)

pub choice_neither : (token first second : List ℕ) → false ≡ same token first → false ≡ same token second → None ≡ choice_of first second token
unfolding choice_of
choice_neither token first second d e = rw (← d) (rw (← e) refl)

pub ruleset chosen = (choice_first, choice_second, choice_neither)
