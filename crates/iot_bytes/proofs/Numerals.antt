-- A number's decimal is one text, and reads as that number.
use Rattle.std.proofs.Common.{◌≡◌, ℕ, ◌^◌, ◌<◌, ◌↔◌, inl, inr, List, [], ◌∷◌, length, get_or, Option, Some, None, Result, Ok, arith, ap, sym, ◌∙◌, refl}
use Rattle.std.specs.Fmt.{decimal}
use Rattle.std.specs.Str.{IsUtf8}
use Rattle.std.specs.Str.Parse.{AllDigits, digits_value, ParsesUnsigned}
use Rattle.std.proofs.lemmas.Fmt.{decimal_is_IsNumeral, decimal_digit, decimal_injective, decimal-digits_value, first_decimal, parse-decimal, IsAscii-decimal}
use Rattle.std.proofs.lemmas.Str.{IsUtf8-from_ascii}
use Rattle.std.proofs.lemmas.Str.Parse.{IsNumeralModel, numerals_by_value, tells_digits}
use Rattle.std.proofs.lemmas.Bool.{cases_lt}
use Rattle.std.proofs.lemmas.List.{nil_from_length}
use Rattle.iot_bytes.specs.Decimals.{IsDecimal, ReadsDecimal, HasDecimalForm}

-- what isn't text is no decimal
pub decimal_is_text : (token : List ℕ) → ¬ IsUtf8 token → (n : ℕ) → ¬ IsDecimal token n
decimal_is_text token h n (small, same) = h (rw same (IsUtf8-from_ascii (decimal n) (IsAscii-decimal n small)))

-- parsing a decimal gives its number
pub decimal_parses : {E : Type 0} (token text : List ℕ) (answer : Result ℕ E) → text ≡ token → ParsesUnsigned 64 10 text answer → (n : ℕ) → IsDecimal token n → answer ≡ Ok n
decimal_parses token text answer same h n (small, spelled) = parse-decimal 64 n text answer small small (same ∙ spelled) h

-- reading the decimal of a number answers that number
pub decimal_comes_back : (n : ℕ) (answer : Option ℕ) → n < 2 ^ 64 → ReadsDecimal (decimal n) answer → answer ≡ Some n
decimal_comes_back n None small h = absurd (h n (small, refl))
decimal_comes_back n (Some m) small (fits, same) = ap Some (decimal_injective m n fits small (sym same))

-- the first digit of a decimal is zero only at zero
lead_of_decimal : (n : ℕ) → n < 2 ^ 64 → get_or (decimal n) 0 0 ≡ 48 → length (decimal n) ≡ 1
lead_of_decimal n small zero_first =
    elim (cases_lt 0 n) [
      | inl some ↦ absurd (omega (arith, first_decimal n some small))
      | inr none ↦ ap length (decimal_digit n (omega arith))
    ]

digits_model : IsNumeralModel (AllDigits 10) (digits_value 10)
digits_model = numerals_by_value (AllDigits 10) tells_digits

-- a length of one behind the first octet leaves none
alone : (token rest : List ℕ) → token ≡ 48 ∷ rest → length token ≡ 1 → rest ≡ []
alone token rest same one = nil_from_length rest (omega (arith, ap length same))

-- where nothing follows a leading zero, a token that begins with it has one octet
lead_alone : (token : List ℕ) → ((rest : List ℕ) → token ≡ 48 ∷ rest → rest ≡ []) → get_or token 0 0 ≡ 48 → length token ≡ 1
lead_alone [] lead zero_first = absurd (omega arith)
lead_alone (octet ∷ rest) lead zero_first =
    let none : rest ≡ [] = lead rest (ap (λ (b : ℕ). b ∷ rest) zero_first) in
    ap (λ (l : List ℕ). length (octet ∷ l)) none

form_of_decimal : (n : ℕ) → n < 2 ^ 64 → HasDecimalForm (decimal n) n
form_of_decimal n small =
    let numeral = decimal_is_IsNumeral n small in
    record { some = numeral.0.0; digits = numeral.0.1; lead = λ rest same. alone (decimal n) rest same (lead_of_decimal n small (ap (λ (l : List ℕ). get_or l 0 0) same)); value = numeral.1 }

decimal_of_form : (token : List ℕ) (n : ℕ) → n < 2 ^ 64 → HasDecimalForm token n → token ≡ decimal n
decimal_of_form token n small form =
    let value : digits_value 10 token ≡ n = form.value in
    sym (decimal-digits_value digits_model token form.digits form.some (lead_alone token form.lead) (omega arith)) ∙ ap decimal value

-- a decimal is digits with the number's value and without a needless zero, and such digits are its decimal
pub decimal_is_digits : (token : List ℕ) (n : ℕ) → n < 2 ^ 64 → IsDecimal token n ↔ HasDecimalForm token n
decimal_is_digits token n small = (λ d. rw d.1 (form_of_decimal n small), λ form. (small, decimal_of_form token n small form))
