-- Hexadecimal digits read as the octets that they spell.
use Rattle.std.proofs.Common.{◌≡◌, ◌≢◌, ℕ, ◌⊎◌, inl, inr, List, Result, Ok, Err, ap, sym, ◌∙◌, refl}
use Rattle.hex.specs.Hex.{IsBytes, decode_of}
use Rattle.hex.specs.declared.error.FromHexError.{FromHexError}
use Rattle.hex.specs.declared.error.FromHexError.TheVariants.{OutOfMemory}
use Rattle.hex.proofs.HexLemmas.{decode_of-ok, decode_of-digits, decode_of-same, decode_of-encode_lower}
use Rattle.iot_bytes.specs.Hexes.{hex, IsHex, ReadsHex}
use Rattle.iot_bytes.specs.declared.memory.ReadError.{ReadError}
use Rattle.iot_bytes.specs.declared.memory.ReadError.TheVariants.{Malformed, NoMemory}

-- what decodes is an even number of digits
pub IsHex-decodes : (token octets : List ℕ) → decode_of token ≡ Ok octets → IsHex token
IsHex-decodes token octets h =
    let ok = decode_of-ok token octets h in
    (ok.0, ok.1)

-- what doesn't decode is none
pub not_hex : (token : List ℕ) (e : FromHexError) → decode_of token ≡ Err e → ¬ IsHex token
not_hex token e h (even, digits) =
    let good = decode_of-digits token even digits in
    let both : Err e ≡ Ok good.0 = sym h ∙ good.1 in
    cc both

-- a refusal that isn't want of memory is of no digits
pub refused : (token : List ℕ) (e : FromHexError) (refusal : ReadError) → (e ≡ OutOfMemory) ⊎ (decode_of token ≡ Err e) → (refusal ≡ Malformed → e ≢ OutOfMemory) → ReadsHex token (Err refusal)
refused token e Malformed (inl none) honest = absurd (honest refl none)
refused token e Malformed (inr bad) honest = not_hex token e bad
refused token e NoMemory why honest = tt

-- reading the digits of octets answers those octets, or wants memory
pub hex_comes_back : (octets : List ℕ) (answer : Result (List ℕ) ReadError) → IsBytes octets → ReadsHex (hex octets) answer → (answer ≡ Ok octets) ⊎ (answer ≡ Err NoMemory)
hex_comes_back octets (Ok read) fits (good, h) = inl (ap Ok (decode_of-same (hex octets) read octets h (decode_of-encode_lower octets fits)))
hex_comes_back octets (Err Malformed) fits h = absurd (h (IsHex-decodes (hex octets) octets (decode_of-encode_lower octets fits)))
hex_comes_back octets (Err NoMemory) fits h = inr refl
