-- What modems show and count, and what telling and detaching make of it.
use Rattle.std.specs.Prelude.{◌≡◌, ℕ, ◌+◌, ◌-◌, ◌^◌, min, map, Option, Some, None, List, take, drop, ◌++◌, Bool, true, false, if◌then◌else◌, slice_get}
use Rattle.std.specs.Str.{bytes_eq}

-- the profile that a modem shows, by its ICCID, and how often it was refreshed
abbrev pub Seen : Type 0
Seen = Option (List ℕ) × ℕ

-- what each modem of a list shows and counts
abbrev pub seen : {M : Type 0} → (M → Option (List ℕ)) → (M → ℕ) → List M → List Seen
seen shown count modems = map (λ m. (shown m, count m)) modems

-- whether what is shown is what is enabled now
abbrev pub is_shown : Option (List ℕ) → Option (List ℕ) → Bool
is_shown None None = true
is_shown (Some a) (Some b) = bytes_eq a b
is_shown None (Some b) = false
is_shown (Some a) None = false

-- a modem that shows something else is refreshed: it shows this, and its count is one higher, or stays the last u64
abbrev pub told_one : Option (List ℕ) → Seen → Seen
told_one now modem = if is_shown modem.0 now then modem else (now, min (modem.1 + 1) (2 ^ 64 - 1))

-- each modem of a list is told
abbrev pub told : Option (List ℕ) → List Seen → List Seen
told now modems = map (told_one now) modems

-- the list without the entry at a place
abbrev pub without : {A : Type 0} → ℕ → List A → List A
without at xs = take at xs ++ drop (at + 1) xs

-- a modem that shows what is enabled now is the very same afterwards
abbrev pub KeepsShowing : {M : Type 0} → (M → Option (List ℕ)) → Option (List ℕ) → List M → List M → Type 0
KeepsShowing {M} shown now before after = (place : ℕ) (modem : M) → slice_get before place ≡ Some modem → is_shown (shown modem) now ≡ true → slice_get after place ≡ Some modem
