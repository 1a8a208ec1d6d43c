-- That the octets of each value are below 256.
use Rattle.std.specs.Prelude.{◌≡◌, ℕ, ◌+◌, ◌/◌, ◌%◌, ◌<◌, Bool, true, List, [], ◌∷◌, length, IsUtf8}
use Rattle.std.specs.List.{AllPass, list_all}
use Rattle.std.specs.Str.{chars}
use Rattle.std.proofs.Common.{◌∙◌, get_or, arith, refl, subst, ⊎_elim, inl, inr, le-ltb, lt-ltb}
use Rattle.std.proofs.Math.Utf8.{scalar, scalars, encode, encodes, scalar_cases}
use Rattle.std.proofs.lemmas.Bool.{and_parts, and_from, cases_lt, cond-true, cond-false, leb-true}
use Rattle.std.proofs.lemmas.Bool.Decides.{nat_tests}
use Rattle.std.proofs.lemmas.List.{get_or_past}
use Rattle.std.proofs.lemmas.List.Elements.{All-get_or, All-from_get_or}
use Rattle.std.proofs.lemmas.List.Folds.{list_all-append}
use Rattle.std.proofs.lemmas.List.Sums.{AllPass-from_list_all}
use Rattle.std.proofs.lemmas.Str.{encodes-chars, scalars-chars}
use Rattle.sgp_values.specs.Iccids.{IsIccid}
use Rattle.sgp_values.specs.Eids.{IsEid}
use Rattle.sgp_values.specs.Ranges.{is_octet, is_name_octet, is_address_octet, IsEimId, IsAddress, IsKey, IsNickname}

is_octet-from_lt : (n : ℕ) → n < 256 → is_octet n ≡ true
is_octet-from_lt n h = grind (arith, nat_tests)

-- numbers that are below 256 at each place are octets
pub AllPass-from_bounds : (octets : List ℕ) → ((i : ℕ) → get_or octets i 0 < 256) → AllPass is_octet octets
AllPass-from_bounds octets h = All-from_get_or (λ n. is_octet n ≡ true) octets 0 (λ i _. is_octet-from_lt (get_or octets i 0) (h i))

-- octets are below 256 at each place
pub bounds_from_AllPass : (octets : List ℕ) → AllPass is_octet octets → (i : ℕ) → get_or octets i 0 < 256
bounds_from_AllPass octets h i = elim (cases_lt i (length octets)) [
  | inl inside ↦ omega (arith, leb-true (get_or octets i 0) 255 (All-get_or (λ n. is_octet n ≡ true) octets i 0 inside h))
  | inr past ↦ omega (arith, get_or_past octets i 0 past)
]

each_passes : (p : ℕ → Bool) → ((n : ℕ) → p n ≡ true → is_octet n ≡ true) → (octets : List ℕ) → AllPass p octets → AllPass is_octet octets
each_passes p implies octets h = λ k d inside. implies _ (h k d inside)

is_octet-from_name : (n : ℕ) → is_name_octet n ≡ true → is_octet n ≡ true
is_octet-from_name n h = grind (arith, nat_tests)

is_octet-from_address : (n : ℕ) → is_address_octet n ≡ true → is_octet n ≡ true
is_octet-from_address n h = grind (arith, nat_tests)

one_octet : (a : ℕ) → a < 256 → list_all is_octet (a ∷ []) ≡ true
one_octet a h = and_from (is_octet a) true (is_octet-from_lt a h) refl

more_octets : (a : ℕ) (octets : List ℕ) → a < 256 → list_all is_octet octets ≡ true → list_all is_octet (a ∷ octets) ≡ true
more_octets a octets h rest = and_from (is_octet a) (list_all is_octet octets) (is_octet-from_lt a h) rest

scalar_below : (c : ℕ) → scalar c ≡ true → c < 1114112
scalar_below c h = ⊎_elim (λ low. omega arith) (λ high. high.1) (scalar_cases c h)

two_octets : (a b : ℕ) → a < 256 → b < 256 → list_all is_octet (a ∷ b ∷ []) ≡ true
two_octets a b h k = more_octets a (b ∷ []) h (one_octet b k)

three_octets : (a b c : ℕ) → a < 256 → b < 256 → c < 256 → list_all is_octet (a ∷ b ∷ c ∷ []) ≡ true
three_octets a b c h k l = more_octets a (b ∷ c ∷ []) h (two_octets b c k l)

four_octets : (a b c d : ℕ) → a < 256 → b < 256 → c < 256 → d < 256 → list_all is_octet (a ∷ b ∷ c ∷ d ∷ []) ≡ true
four_octets a b c d h k l m = more_octets a (b ∷ c ∷ d ∷ []) h (three_octets b c d k l m)

-- the one to four octets of a character are octets
encode_octets : (c : ℕ) → c < 1114112 → list_all is_octet (encode c) ≡ true
unfolding encode
encode_octets c h = elim (cases_lt c 128) [
  | inl one ↦ let e : encode c ≡ c ∷ [] = cond-true _ _ _ (lt-ltb c 128 one) in
      rw e (one_octet c (omega arith))
  | inr above ↦ elim (cases_lt c 2048) [
    | inl two ↦ let e : encode c ≡ (192 + c / 64) ∷ (128 + c % 64) ∷ [] = cond-false _ _ _ (le-ltb c 128 above) ∙ cond-true _ _ _ (lt-ltb c 2048 two) in
        rw e (two_octets (192 + c / 64) (128 + c % 64) (omega arith) (omega arith))
    | inr above2 ↦ elim (cases_lt c 65536) [
      | inl three ↦ let e : encode c ≡ (224 + c / 4096) ∷ (128 + (c / 64) % 64) ∷ (128 + c % 64) ∷ [] =
          cond-false _ _ _ (le-ltb c 128 above) ∙ cond-false _ _ _ (le-ltb c 2048 above2) ∙ cond-true _ _ _ (lt-ltb c 65536 three) in
          rw e (three_octets (224 + c / 4096) (128 + (c / 64) % 64) (128 + c % 64) (omega arith) (omega arith) (omega arith))
      | inr above3 ↦ let e : encode c ≡ (240 + c / 262144) ∷ (128 + (c / 4096) % 64) ∷ (128 + (c / 64) % 64) ∷ (128 + c % 64) ∷ [] =
          cond-false _ _ _ (le-ltb c 128 above) ∙ cond-false _ _ _ (le-ltb c 2048 above2) ∙ cond-false _ _ _ (le-ltb c 65536 above3) in
          rw e (four_octets (240 + c / 262144) (128 + (c / 4096) % 64) (128 + (c / 64) % 64) (128 + c % 64) (omega arith) (omega arith) (omega arith) (omega arith))
    ]
  ]
]

encodes_octets : (cs : List ℕ) → scalars cs ≡ true → list_all is_octet (encodes cs) ≡ true
encodes_octets [] h = refl
encodes_octets (c ∷ cs) h =
    let parts = and_parts (scalar c) (scalars cs) h in
    rw (list_all-append is_octet (encode c) (encodes cs))
    (and_from (list_all is_octet (encode c)) (list_all is_octet (encodes cs)) (encode_octets c (scalar_below c parts.0)) (encodes_octets cs parts.1))

-- UTF-8 is octets
pub utf8_octets : (octets : List ℕ) → IsUtf8 octets → AllPass is_octet octets
utf8_octets octets h =
    subst (AllPass is_octet) (encodes-chars octets h)
    (AllPass-from_list_all is_octet (encodes (chars octets)) (encodes_octets (chars octets) (scalars-chars octets h)))

pub iccid_octets : (octets : List ℕ) → IsIccid octets → AllPass is_octet octets
iccid_octets octets h = h.each

pub eid_octets : (octets : List ℕ) → IsEid octets → AllPass is_octet octets
eid_octets octets h = h.each

pub eim_id_octets : (octets : List ℕ) → IsEimId octets → AllPass is_octet octets
eim_id_octets octets h = each_passes is_name_octet is_octet-from_name octets h.each

pub address_octets : (octets : List ℕ) → IsAddress octets → AllPass is_octet octets
address_octets octets h = each_passes is_address_octet is_octet-from_address octets h.each

pub key_octets : (octets : List ℕ) → IsKey octets → AllPass is_octet octets
key_octets octets h = h.each

pub nickname_octets : (octets : List ℕ) → IsNickname octets → AllPass is_octet octets
nickname_octets octets h = utf8_octets octets h.utf8
