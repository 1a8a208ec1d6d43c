-- The lines that the generator makes are in the grammar.
use Rattle.std.proofs.Common.{◌≡◌, ◌≢◌, ℕ, zero, suc, ◌≤◌, true, false, Bool, List, [], ◌∷◌, ◌++◌, length, Some, None, refl, ap, sym, ◌∙◌, length-append, arith, rules}
use Rattle.std.specs.Prelude.{codes, ◌==◌, ◌%◌, nat_lt, nat_le, if◌then◌else◌}
use Rattle.std.specs.Fmt.{decimal}
use Rattle.std.proofs.lemmas.Bool.{ne_eqb}
use Rattle.std.proofs.lemmas.List.Sums.{AllPass-from_list_all}
use Rattle.std.proofs.lemmas.Fmt.{decimal_digit}
use Rattle.hex.specs.Hex.{encode_with}
use Rattle.sgp_values.specs.Ranges.{IsEimId, is_octet, is_name_octet, is_address_octet}
use Rattle.sgp_values.specs.Iccids.{IsIccid}
use Rattle.small_card.specs.declared.types.Profile.{Profile}
use Rattle.small_card.specs.declared.types.Psmo.{Psmo}
use Rattle.small_card.specs.declared.types.Psmo.TheVariants as psmo
use Rattle.small_card.specs.declared.types.Body.TheVariants.{Psmos}
use Rattle.small_card.specs.Ranges.{IsBody, IsPsmo, IsProfile, AreApart}
use Rattle.chip_port.specs.declared.chip.Tear.{Tear}
use Rattle.chip_port.specs.declared.chip.Tear.TheVariants.{Old, New, Half, Junk}
use Rattle.iot_schedule.specs.declared.types.Device.{Device}
use Rattle.iot_schedule.specs.declared.types.Pick.TheVariants.{Last}
use Rattle.iot_schedule.specs.declared.types.Line.{Line}
use Rattle.iot_schedule.specs.declared.types.Line.TheVariants as line
use Rattle.iot_schedule.specs.Words.{spaced}
use Rattle.iot_schedule.specs.Devices.{device_at}
use Rattle.iot_schedule.specs.Steps.{step_at}
use Rattle.iot_schedule.specs.Ranges.{IsDevice, IsStep}
use Rattle.iot_schedule.specs.Spelling.{step_text, step_words, device_text, device_words, body_words, psmo_text, profile_text}
use Rattle.iot_schedule.specs.Making.{next_state, drawn, aimed_text, cut_text, first_kinds, other_kinds, made_text, head_text, line_text, state_before, made_line}
use Rattle.iot_schedule.proofs.Relining.{step_again, device_again}
use Rattle.schedule_forms.specs.Grammar.{IsStepLine, AreInGrammar}
use Rattle.schedule_forms.specs.Schedules.{made_lines}
use Rattle.schedule_forms.proofs.Fitting.{fit_push}

reads : (text : List ℕ) (l : Line) → IsStep l → step_text l ≡ text → IsStepLine text
reads text l fits spelled = λ none. let e : Some l ≡ None = sym (step_again l fits) ∙ ap step_at spelled ∙ none in absurd cc

-- whatever a test says
either : {X : Type 0} (P : X → Type 0) (test : Bool) (x y : X) → P x → P y → P (if test then x else y)
either P true x y p q = p
either P false x y p q = q

-- the ICCID of the profile with this last octet
iccid : ℕ → List ℕ
iccid n = 152 ∷ 68 ∷ 0 ∷ 0 ∷ 0 ∷ 0 ∷ 0 ∷ 0 ∷ 0 ∷ n ∷ []

one_iccid : IsIccid (iccid 1)
unfolding iccid
one_iccid = record { len = refl; each = AllPass-from_list_all is_octet (iccid 1) refl }

two_iccid : IsIccid (iccid 2)
unfolding iccid
two_iccid = record { len = refl; each = AllPass-from_list_all is_octet (iccid 2) refl }

three_iccid : IsIccid (iccid 3)
unfolding iccid
three_iccid = record { len = refl; each = AllPass-from_list_all is_octet (iccid 3) refl }

e1 : IsEimId (codes "e1")
e1 = record { some = omega arith; few = omega arith; each = AllPass-from_list_all is_name_octet (codes "e1") refl }

one_op : (p : Psmo) → IsPsmo p → IsStep (line.Order (codes "e1") (Psmos (p ∷ [])))
unfolding IsStep IsBody
one_op p fits = (e1, (record { some = omega arith; few = omega arith }, (fits, tt)))

order_of : Psmo → Line
order_of p = line.Order (codes "e1") (Psmos (p ∷ []))

-- an order about one of three profiles
aimed_in : (label : List ℕ) (op : List ℕ → Psmo) (x : ℕ) → ((i : List ℕ) → IsIccid i → IsPsmo (op i)) → step_text (order_of (op (iccid 1))) ≡ label ++ codes "98440000000000000001" → step_text (order_of (op (iccid 2))) ≡ label ++ codes "98440000000000000002"
    → step_text (order_of (op (iccid 3))) ≡ label ++ codes "98440000000000000003" → IsStepLine (aimed_text label x)
unfolding aimed_text order_of
aimed_in label op x fits one two three =
    let y = next_state x in
    let P = λ (z : List ℕ). IsStepLine (label ++ z) in
    either P (drawn y % 3 == 0) _ _ (reads _ _ (one_op _ (fits (iccid 1) one_iccid)) one)
    (either P (drawn y % 3 == 1) _ _ (reads _ _ (one_op _ (fits (iccid 2) two_iccid)) two) (reads _ _ (one_op _ (fits (iccid 3) three_iccid)) three))

enable_flagged_in : (x : ℕ) → IsStepLine (aimed_text (codes "order e1 enable!:") x)
unfolding step_text step_words body_words psmo_text spaced encode_with IsPsmo iccid order_of
enable_flagged_in x = aimed_in (codes "order e1 enable!:") (λ i. psmo.Enable i true) x (λ i fits. fits) refl refl refl

enable_in : (x : ℕ) → IsStepLine (aimed_text (codes "order e1 enable:") x)
unfolding step_text step_words body_words psmo_text spaced encode_with IsPsmo iccid order_of
enable_in x = aimed_in (codes "order e1 enable:") (λ i. psmo.Enable i false) x (λ i fits. fits) refl refl refl

disable_in : (x : ℕ) → IsStepLine (aimed_text (codes "order e1 disable:") x)
unfolding step_text step_words body_words psmo_text spaced encode_with IsPsmo iccid order_of
disable_in x = aimed_in (codes "order e1 disable:") (λ i. psmo.Disable i) x (λ i fits. fits) refl refl refl

-- a cut: a number of calls, and one of four tears
cut_of : (calls : ℕ) (tear : Tear) (text : List ℕ) → calls ≤ 4294967295 → step_text (line.Cut calls tear) ≡ text → IsStepLine text
unfolding IsStep
cut_of calls tear text few same = reads text (line.Cut calls tear) few same

cut_in : (x : ℕ) → IsStepLine (cut_text x)
unfolding cut_text step_text step_words spaced
cut_in x =
    let calls = drawn (next_state x) % 32 in
    let few : calls ≤ 4294967295 = omega arith in
    let y = next_state (next_state x) in
    let P = λ (z : List ℕ). IsStepLine (codes "cut " ++ (decimal calls ++ z)) in
    either P (drawn y % 4 == 0) _ _ (cut_of calls Old _ few refl)
    (either P (drawn y % 4 == 1) _ _ (cut_of calls New _ few refl) (either P (drawn y % 4 == 2) _ _ (cut_of calls Half _ few refl) (cut_of calls Junk _ few refl)))

first_in : (kind x : ℕ) → IsStepLine (first_kinds kind x)
unfolding first_kinds step_text step_words body_words psmo_text spaced IsStep IsPsmo
first_in kind x =
    either IsStepLine (kind == 0) _ _ (enable_flagged_in x)
    (either IsStepLine (kind == 1) _ _ (enable_in x)
    (either IsStepLine (kind == 2) _ _ (disable_in x)
    (either IsStepLine (kind == 3) _ _ (reads _ (line.Order (codes "e1") (Psmos (psmo.List ∷ []))) (one_op psmo.List tt) refl)
    (either IsStepLine (kind == 4) _ _ (reads _ (line.Poll (codes "e1")) e1 refl)
    (either IsStepLine (kind == 5) _ _ (reads _ (line.Up Last) tt refl)
    (either IsStepLine (kind == 6) _ _ (reads _ (line.Up Last) tt refl) (reads _ (line.Down Last true) tt refl)))))))

other_in : (kind x : ℕ) → IsStepLine (other_kinds kind x)
unfolding other_kinds step_text step_words spaced IsStep
other_in kind x =
    either IsStepLine (kind == 8) _ _ (reads _ (line.Down Last true) tt refl)
    (either IsStepLine (kind == 9) _ _ (reads _ line.Push tt refl)
    (either IsStepLine (kind == 10) _ _ (reads _ (line.Probe false) tt refl)
    (either IsStepLine (kind == 11) _ _ (reads _ (line.Probe true) tt refl)
    (either IsStepLine (kind == 12) _ _ (cut_in x)
    (either IsStepLine (kind == 13) _ _ (reads _ line.Boot tt refl)
    (either IsStepLine (kind == 14) _ _ (reads _ line.Show tt refl) (reads _ (line.Skip (codes "e1")) e1 refl)))))))

made_in : (x : ℕ) → IsStepLine (made_text x)
unfolding made_text
made_in x =
    let kind = drawn x % 16 in
    either IsStepLine (nat_lt kind 8) _ _ (first_in kind x) (other_in kind x)

bind_text : step_text (line.Bind (codes "e1") 1 0) ≡ codes "bind e1 1 0"
unfolding step_text step_words spaced
bind_text =
    ap (λ (d : List ℕ). codes "bind e1 " ++ (d ++ (32 ∷ (decimal 0 ++ [])))) (decimal_digit 1 (omega arith))
    ∙ ap (λ (d : List ℕ). codes "bind e1 1 " ++ (d ++ [])) (decimal_digit 0 (omega arith))

head_in : (number : ℕ) → number ≢ 1 → IsStepLine (head_text number)
unfolding head_text step_text step_words spaced IsStep encode_with
head_in number not_first =
    rw (ne_eqb number 1 not_first)
    (either IsStepLine (number == 2) _ _ (reads _ (line.Eim (codes "e1")) e1 refl)
    (either IsStepLine (number == 3) _ _
    (reads _ (line.Initial (codes "e1") [] []) (e1, record { few = omega arith; each = AllPass-from_list_all is_address_octet [] refl }, record { few = omega arith; each = AllPass-from_list_all is_octet [] refl }) refl)
    (reads _ (line.Bind (codes "e1") 1 0) (e1, record { some = omega arith; fits = omega arith }, omega arith) bind_text)))

-- a line behind the first one
pub step_in : (start number : ℕ) → number ≢ 1 → IsStepLine (made_line start number)
unfolding made_line line_text
step_in start number not_first = either IsStepLine (nat_le number 4) _ _ (head_in number not_first) (made_in (next_state (state_before start number)))

profile : ℕ → Profile
profile n = record { iccid = iccid n; enabled = false; nickname = [] }

the_device : Device
the_device = record { eid = 0 ∷ 1 ∷ 2 ∷ 3 ∷ 4 ∷ 5 ∷ 6 ∷ 7 ∷ 8 ∷ 9 ∷ 10 ∷ 11 ∷ 12 ∷ 13 ∷ 14 ∷ 15 ∷ []; profiles = profile 1 ∷ profile 2 ∷ profile 3 ∷ [] }

profile_fits : (n : ℕ) → IsIccid (iccid n) → IsProfile (profile n)
unfolding profile
profile_fits n fits = record { iccid = fits; nickname = record { few = omega arith; utf8 = search rules } }

apart : (n m : ℕ) → n ≢ m → AreApart (profile n) (profile m)
unfolding profile iccid
apart n m not_same = record { iccids = λ same. not_same (cc); enabled = λ on off. absurd cc }

device_fits : IsDevice the_device
unfolding the_device
device_fits = record {
  eid = record { len = refl; each = AllPass-from_list_all is_octet the_device.eid refl };
  profiles = record {
    few = omega arith;
    each = (profile_fits 1 one_iccid, (profile_fits 2 two_iccid, (profile_fits 3 three_iccid, tt)));
    apart = ((apart 1 2 (λ no. absurd cc), (apart 1 3 (λ no. absurd cc), tt)), ((apart 2 3 (λ no. absurd cc), tt), (tt, tt)));
  };
}

-- the first line
pub device_in : (start : ℕ) → device_at (made_line start 1) ≢ None
unfolding made_line line_text head_text device_text device_words profile_text spaced encode_with the_device profile iccid
device_in start = λ none.
    let spelled : device_text the_device ≡ made_line start 1 = refl in
    let e : Some the_device ≡ None = sym (device_again the_device device_fits) ∙ ap device_at spelled ∙ none in
    absurd cc

some_made : (start n : ℕ) → made_lines start (suc n) ≢ []
unfolding made_lines
some_made start n = λ none. omega (arith, ap length none, length-append (made_lines start n) (made_line start (suc n) ∷ []))

pub made_in_grammar : (start n : ℕ) → AreInGrammar (made_lines start n)
unfolding made_lines
made_in_grammar start zero = tt
made_in_grammar start (suc zero) = fit_push [] (made_line start 1) tt (λ none. device_in start) (λ some. absurd (some refl))
made_in_grammar start (suc (suc n)) =
    fit_push (made_lines start (suc n)) (made_line start (suc (suc n))) (made_in_grammar start (suc n))
    (λ none. absurd (some_made start n none)) (λ some. step_in start (suc (suc n)) (λ no. absurd cc))
