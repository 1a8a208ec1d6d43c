-- One element: a tag octet, the shortest length, and the content (X.690, at most three length octets).
use Rattle.std.specs.Prelude.{◌≡◌, ◌≢◌, ℕ, ◌/◌, ◌%◌, ◌≤◌, nat_lt, List, [], ◌∷◌, ◌++◌, length, if◌then◌else◌}
use Rattle.sgp_der.specs.declared.form.TheConstants.{MOST_CONTENT}

-- the octets of a length: alone below 128, else after 81, 82 or 83, the highest first
unfoldable pub len_octets : ℕ → List ℕ
len_octets n =
    if nat_lt n 128 then n ∷ []
    else if nat_lt n 256 then 129 ∷ n ∷ []
    else if nat_lt n 65536 then 130 ∷ n / 256 ∷ n % 256 ∷ []
    else 131 ∷ n / 65536 ∷ n / 256 % 256 ∷ n % 256 ∷ []

-- the low five bits aren't all set
abbrev pub IsTag : ℕ → Type 0
IsTag tag = tag % 32 ≢ 31

-- the octets of the element: its tag, the length of its content, its content
unfoldable pub element : ℕ → List ℕ → List ℕ
element tag content = tag ∷ (len_octets (length content) ++ content)

-- the bytes are one element of this tag and content
pub record Tlv (bytes : List ℕ) (tag : ℕ) (content : List ℕ) : Type 0 where
  pub octets : bytes ≡ element tag content
  pub low : IsTag tag
  pub few : length content ≤ MOST_CONTENT

-- the bytes begin with one element of this tag and content, and `rest` follows
pub record Begins (bytes : List ℕ) (tag : ℕ) (content rest : List ℕ) : Type 0 where
  pub octets : bytes ≡ element tag content ++ rest
  pub low : IsTag tag
  pub few : length content ≤ MOST_CONTENT

-- two elements, and what follows each, are the same
pub record SameElement (a b : ℕ) (c d x y : List ℕ) : Type 0 where
  pub tag : a ≡ b
  pub content : c ≡ d
  pub rest : x ≡ y
