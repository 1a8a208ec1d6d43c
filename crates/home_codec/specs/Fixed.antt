-- Fields of fixed size: how they are spelled, and how they are read from the left.
use Rattle.std.specs.Prelude.{◌≡◌, ℕ, zero, suc, Bool, ◌-◌, ◌*◌, ◌==◌, nat_le, List, [], ◌∷◌, ◌++◌, length, take, drop, replicate, Option, Some, None, Result, MatchResult, if◌then◌else◌}
use Rattle.std.specs.List.{list_all, flat_map}
use Rattle.std.specs.Int.{w32, w64, to_be_bytes, from_be_bytes}
use Rattle.sgp_der.specs.Fields.{◌>>=◌}
use Rattle.iot_bytes.specs.declared.memory.ReadError.{ReadError}
use Rattle.iot_bytes.specs.declared.memory.ReadError.TheVariants.{Malformed, NoMemory}
use Rattle.sgp_fields.specs.Values.{only_if}

-- so many zeros
unfoldable pub zeros : ℕ → List ℕ
zeros n = replicate n 0

-- a number in four octets, big-endian
unfoldable pub word : ℕ → List ℕ
word n = to_be_bytes w32 n

-- a number in eight octets, big-endian
unfoldable pub long : ℕ → List ℕ
long n = to_be_bytes w64 n

-- the length of a text, and the text in a field of n octets with zeros behind it
unfoldable pub text : ℕ → List ℕ → List ℕ
text n octets = length octets ∷ octets ++ zeros (n - length octets)

-- the entries in the first slots, and zeros in the others
unfoldable pub slots : {X : Type 0} → (X → List ℕ) → ℕ → ℕ → List X → List ℕ
slots spell size all xs = flat_map spell xs ++ zeros (size * (all - length xs))

-- one octet, and what follows
abbrev pub octet_at : List ℕ → Option (ℕ × List ℕ)
octet_at [] = None
octet_at (b ∷ bs) = Some (b, bs)

-- the first n octets, and what follows
unfoldable pub octets_at : ℕ → List ℕ → Option (List ℕ × List ℕ)
octets_at n bytes = if nat_le n (length bytes) then Some (take n bytes, drop n bytes) else None

-- the value of a field of n octets, and what follows
unfoldable pub fixed_at : {X : Type 0} → (List ℕ → Option X) → ℕ → List ℕ → Option (X × List ℕ)
fixed_at of n bytes = do
  field ← octets_at n bytes
  x ← of field.0
  Some (x, field.1)

-- the octets are zeros
abbrev pub is_blank : List ℕ → Bool
is_blank octets = list_all (λ b. b == 0) octets

-- what follows n zeros
unfoldable pub blank_at : ℕ → List ℕ → Option (List ℕ)
blank_at n bytes = do
  field ← octets_at n bytes
  only_if (is_blank field.0) field.1

unfoldable pub word_at : List ℕ → Option (ℕ × List ℕ)
word_at bytes = do
  field ← octets_at 4 bytes
  Some (from_be_bytes w32 field.0, field.1)

unfoldable pub long_at : List ℕ → Option (ℕ × List ℕ)
long_at bytes = do
  field ← octets_at 8 bytes
  Some (from_be_bytes w64 field.0, field.1)

-- the text of this length at the front of a field
abbrev pub text_in : {X : Type 0} → (List ℕ → Option X) → ℕ → List ℕ → Option X
text_in of len field = if is_blank (drop len field) then of (take len field) else None

-- a text with its length, in a field of n octets, and what follows
unfoldable pub text_at : {X : Type 0} → (List ℕ → Option X) → ℕ → List ℕ → Option (X × List ℕ)
text_at of n bytes = do
  len ← octet_at bytes
  field ← octets_at n len.1
  few ← only_if (nat_le len.0 n) len.0
  x ← text_in of few field.0
  Some (x, field.1)

-- so many entries, and what follows
unfoldable pub many_at : {X : Type 0} → (List ℕ → Option (X × List ℕ)) → ℕ → List ℕ
    → Option (List X × List ℕ)
many_at entry zero bytes = Some ([], bytes)
many_at entry (suc n) bytes = do
  x ← entry bytes
  xs ← many_at entry n x.1
  Some (x.0 ∷ xs.0, xs.1)

-- so many entries in the first of all slots, zeros in the others, and what follows
unfoldable pub slots_at : {X : Type 0} → (List ℕ → Option (X × List ℕ)) → ℕ → ℕ → ℕ → List ℕ
    → Option (List X × List ℕ)
slots_at entry size all n bytes = do
  few ← only_if (nat_le n all) n
  xs ← many_at entry few bytes
  rest ← blank_at (size * (all - n)) xs.1
  Some (xs.0, rest)

-- entries before those that were read
abbrev pub joined : {X : Type 0} → List X → Option (List X × List ℕ) → Option (List X × List ℕ)
joined xs None = None
joined xs (Some r) = Some (xs ++ r.0, r.1)

-- a field was read, and this is left; or the octets don't begin with such a field
abbrev pub Reads : {X : Type 0} → Result X ReadError → Option (X × List ℕ) → List ℕ → Type 0
Reads result read rest =
    MatchResult result (λ x. read ≡ Some (x, rest)) (λ e. (e ≡ Malformed) × (read ≡ None))

-- an error says that nothing was read, unless memory ran out
abbrev pub Fails : {X : Type 0} → ReadError → Option X → Type 0
Fails Malformed read = read ≡ None
Fails NoMemory read = Unit {0}
