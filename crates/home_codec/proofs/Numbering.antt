-- What a slot holds has the number that its first octets tell.
use Rattle.std.proofs.Common.{◌≡◌, ℕ, ◌-◌, ◌/◌, ◌%◌, ◌≤◌, ◌<◌, Bool, true, false, List, [], ◌∷◌, ◌++◌, length, take, drop, Option, Some, None, refl, sym, ap, ◌∙◌, arith, append_assoc, length-append}
use Rattle.std.specs.Prelude.{◌==◌, nat_lt, IfSome, option_map, if◌then◌else◌}
use Rattle.std.proofs.Math.Seq.{take-append_seam}
use Rattle.std.proofs.lemmas.Bool.{ne_eqb, ltb-true}
use Rattle.std.proofs.lemmas.List.{take-append-drop, take-append-le}
use Rattle.sgp_der.specs.Element.{element, len_octets}
use Rattle.sgp_der.specs.Number.{uint}
use Rattle.sgp_der.proofs.Elements.{length-element}
use Rattle.sgp_der.proofs.Values.{uint_few}
use Rattle.sgp_fields.proofs.Numbers.{card_number_codec}
use Rattle.sgp_fields.proofs.Steps.{value_again}
use Rattle.small_card.specs.Ranges.{IsResult, IsNumber}
use Rattle.small_card.specs.declared.types.PackageResult.{PackageResult}
use Rattle.result_codec.specs.Spelling.{result, result_content}
use Rattle.result_codec.proofs.ResultCodec.{result_few, number_first}
use Rattle.sgp_der.proofs.Lengths.{len_few}
use Rattle.home_codec.specs.Fixed.{word}
use Rattle.home_codec.specs.Layout.{kept_front, slot_front}
use Rattle.home_codec.specs.Homes.{Begins}
use Rattle.home_codec.specs.Numbers.{seq_at, number_at}
use Rattle.home_codec.proofs.FixedFields.{octets_again, word_field, length-word}
use Rattle.home_codec.proofs.ResultSlots.{begun, result_some}

-- the octets of a length: how many follow the first is told by it
record HasForm (octets : List ℕ) : Type 0 where
  first : ℕ
  more : List ℕ
  is : octets ≡ first ∷ more
  count : length more ≡ first - 128
  few : length more ≤ 3

form_by : (a b c : Bool) (n : ℕ) → (a ≡ true → n < 128) → HasForm (if a then n ∷ [] else if b then 129 ∷ n ∷ [] else if c then 130 ∷ n / 256 ∷ n % 256 ∷ [] else 131 ∷ n / 65536 ∷ n / 256 % 256 ∷ n % 256 ∷ [])
form_by true b c n low = record { first = n; more = []; is = refl; count = omega (arith, low refl); few = omega arith }
form_by false true c n low = record { first = 129; more = n ∷ []; is = refl; count = refl; few = omega arith }
form_by false false true n low = record { first = 130; more = n / 256 ∷ n % 256 ∷ []; is = refl; count = refl; few = omega arith }
form_by false false false n low = record { first = 131; more = n / 65536 ∷ n / 256 % 256 ∷ n % 256 ∷ []; is = refl; count = refl; few = omega arith }

len_form : (n : ℕ) → HasForm (len_octets n)
unfolding len_octets
len_form n = form_by (nat_lt n 128) (nat_lt n 256) (nat_lt n 65536) n (ltb-true n 128)

seq_again : (n seq : ℕ) (rest : List ℕ) → IsNumber seq → seq_at (48 ∷ (len_octets n ++ (element 128 (uint seq) ++ rest))) ≡ Some seq
unfolding seq_at
seq_again n seq rest fits =
    let f = len_form n in
    let behind = element 128 (uint seq) ++ rest in
    let few : length (uint seq) ≤ 9 = uint_few seq (omega (arith, fits.fits)) in
    rw f.is
    (rw (octets_again (f.first - 128) f.more behind f.count)
    (rw (value_again card_number_codec 128 seq rest (omega arith) (omega (arith, few)) fits) refl))

-- what stands in front of octets that follow
front_is : (part front behind more : List ℕ) → length part ≤ length front → front ++ behind ≡ part ++ more → front ≡ part ++ drop (length part) front
front_is part front behind more le is =
    let first : take (length part) front ≡ part = sym (take-append-le (length part) front behind le) ∙ ap (take (length part)) is ∙ take-append_seam part more in
    sym (take-append-drop (length part) front) ∙ ap (λ (l : List ℕ). l ++ drop (length part) front) first

-- the first octets of a result: its tag and length, and its number
seq_front : PackageResult → List ℕ
seq_front r = 48 ∷ (len_octets (length (result_content r)) ++ element 128 (uint r.seq))

outer : (content : List ℕ) → element 48 content ≡ 48 ∷ (len_octets (length content) ++ content)
unfolding element
outer content = refl

-- what stands behind the number
behind_seq : PackageResult → List ℕ
behind_seq r = (number_first r).0

content_begins : (r : PackageResult) → result_content r ≡ element 128 (uint r.seq) ++ behind_seq r
unfolding behind_seq
content_begins r = (number_first r).1

result_begins : (r : PackageResult) → result r ≡ seq_front r ++ behind_seq r
unfolding result seq_front
result_begins r =
    let len = len_octets (length (result_content r)) in
    outer (result_content r) ∙ ap (λ (l : List ℕ). 48 ∷ (len ++ l)) (content_begins r) ∙ ap (λ (l : List ℕ). 48 ∷ l) (sym (append_assoc len (element 128 (uint r.seq)) (behind_seq r)))

length-seq_front : (r : PackageResult) → IsResult r → length (seq_front r) ≤ 28
unfolding seq_front
length-seq_front r h =
    let len = len_octets (length (result_content r)) in
    omega (
      arith,
      length-append len (element 128 (uint r.seq)),
      len_few (length (result_content r)),
      length-element 128 (uint r.seq),
      len_few (length (uint r.seq)),
      uint_few r.seq (omega (arith, h.seq.fits)),
    )

-- the number of a result that a slot begins with
kept_number : (r : PackageResult) (rest : List ℕ) → IsResult r → number_at ((word (length (result r)) ++ seq_front r) ++ rest) ≡ Some r.seq
unfolding number_at seq_front
kept_number r rest fits =
    let len = length (result r) in
    let some : (len == 0) ≡ false = ne_eqb len 0 (λ e. omega (arith, result_some r)) in
    let head = len_octets (length (result_content r)) in
    let number = element 128 (uint r.seq) in
    let grouped : (word len ++ (48 ∷ (head ++ number))) ++ rest ≡ word len ++ (48 ∷ (head ++ (number ++ rest))) = simp append_assoc in
    ap number_at grouped
    ∙ rw (word_field.again len (48 ∷ (head ++ (number ++ rest))) (omega (arith, result_few r fits)))
    (rw some (seq_again (length (result_content r)) r.seq rest fits.seq))

free_number : (rest : List ℕ) → number_at (word 0 ++ rest) ≡ None
unfolding number_at
free_number rest = rw (word_field.again 0 rest (omega arith)) refl

-- what a slot holds has the number that its first octets tell
pub number_holds : (front : List ℕ) → 32 ≤ length front → (place : Option PackageResult) (behind : List ℕ) → IfSome place IsResult → Begins (slot_front place) (front ++ behind) → number_at front ≡ option_map (λ (r : PackageResult). r.seq) place
unfolding slot_front kept_front word
number_holds front room None behind fits begins =
    let is = begun (word 0) (front ++ behind) begins in
    ap number_at (front_is (word 0) front behind (drop 4 (front ++ behind)) (omega (arith, room, length-word 0)) is) ∙ free_number (drop 4 front)
number_holds front room (Some r) behind fits begins =
    let whole = word (length (result r)) ++ result r in
    let is = begun whole (front ++ behind) begins in
    let part = word (length (result r)) ++ seq_front r in
    let more = behind_seq r ++ drop (length whole) (front ++ behind) in
    let grouped : whole ++ drop (length whole) (front ++ behind) ≡ part ++ more =
    ap (λ (l : List ℕ). (word (length (result r)) ++ l) ++ drop (length whole) (front ++ behind)) (result_begins r) ∙ simp append_assoc in
    let few : length part ≤ length front = omega (arith, length-append (word (length (result r))) (seq_front r), length-word (length (result r)), length-seq_front r fits, room) in
    ap number_at (front_is part front behind more few (is ∙ grouped)) ∙ kept_number r (drop (length part) front) fits
