-- What spells a signed package in range is octets.
use Rattle.std.proofs.Common.{ℕ, ◌≤◌, ◌<◌, Bool, true, false, zero, suc, List, [], ◌∷◌, ◌++◌, length, arith, Option, None, Some}
use Rattle.std.specs.Prelude.{◌/◌, ◌%◌, ◌^◌, get_or, nat_lt, IfSome}
use Rattle.std.specs.List.{AllPass, AllByRecursion, flat_map}
use Rattle.std.specs.Int.Digits.{digits_of}
use Rattle.std.proofs.lemmas.Bool.{cond_both, ltb-true}
use Rattle.std.proofs.lemmas.List.{length-append}
use Rattle.std.proofs.lemmas.Int.Digits.{all_below_base_digits_of}
use Rattle.sgp_der.specs.Element.{element, len_octets}
use Rattle.sgp_der.specs.Number.{with_sign, uint}
use Rattle.sgp_der.proofs.Elements.{element_few}
use Rattle.sgp_der.proofs.Values.{uint_few}
use Rattle.sgp_fields.specs.Config.{config_content}
use Rattle.sgp_fields.specs.Fields.{mark, optional, octets}
use Rattle.sgp_values.specs.Iccids.{IsIccid}
use Rattle.sgp_values.specs.Ranges.{is_octet, IsEimId, IsAddress, IsKey}
use Rattle.sgp_values.proofs.Octets.{AllPass-from_bounds, bounds_from_AllPass, iccid_octets, eid_octets, eim_id_octets, address_octets, key_octets}
use Rattle.small_card.specs.Lists.{Every}
use Rattle.small_card.specs.Ranges.{IsPsmo, IsEco, IsBody, IsPackage, IsSigned}
use Rattle.small_card.specs.declared.types.Body.{Body}
use Rattle.small_card.specs.declared.types.Body.TheVariants.{Psmos, Ecos}
use Rattle.small_card.specs.declared.types.Eco.{Eco}
use Rattle.small_card.specs.declared.types.Eco.TheVariants as eco_op
use Rattle.small_card.specs.declared.types.Package.{Package}
use Rattle.small_card.specs.declared.types.Psmo.{Psmo}
use Rattle.small_card.specs.declared.types.Psmo.TheVariants as psmo_op
use Rattle.small_card.specs.declared.types.Signed.{Signed}
use Rattle.small_card.proofs.ListLemmas.{every_mono, every_append}
use Rattle.package_codec.specs.Spelling.{iccid_content, enable_content, psmo, id_content, update_content, eco, body, package_fields, inner_package, signed_content, signed}
use Rattle.package_codec.proofs.Bodies.{psmos_few, ecos_few}
use Rattle.package_codec.proofs.Packages.{signed_few}

-- each is below 256
abbrev pub AreOctets : List ℕ → Type 0
AreOctets xs = Every (λ b. b < 256) xs

from_bounds : (xs : List ℕ) → ((i : ℕ) → get_or xs i 0 < 256) → AreOctets xs
from_bounds [] f = tt
from_bounds (x ∷ xs) f = (f 0, from_bounds xs (λ i. f (suc i)))

bounds : (xs : List ℕ) → AreOctets xs → (i : ℕ) → get_or xs i 0 < 256
bounds [] h i = omega arith
bounds (x ∷ xs) h zero = h.0
bounds (x ∷ xs) h (suc i) = bounds xs h.1 i

passing : (xs : List ℕ) → AllPass is_octet xs → AreOctets xs
passing xs h = from_bounds xs (bounds_from_AllPass xs h)

pub pass : (xs : List ℕ) → AreOctets xs → AllPass is_octet xs
pass xs h = AllPass-from_bounds xs (bounds xs h)

both : (xs ys : List ℕ) → AreOctets xs → AreOctets ys → AreOctets (xs ++ ys)
both xs ys h k = every_append (λ b. b < 256) xs ys h k

len_fits : (n : ℕ) → n < 16777216 → AreOctets (len_octets n)
unfolding len_octets
len_fits n l =
    cond_both (nat_lt n 128) (n ∷ []) _ AreOctets (λ e. (omega (arith, ltb-true n 128 e), tt))
    (λ _. cond_both (nat_lt n 256) (129 ∷ n ∷ []) _ AreOctets (λ e. (omega arith, (ltb-true n 256 e, tt)))
    (λ _. cond_both (nat_lt n 65536) (130 ∷ n / 256 ∷ n % 256 ∷ []) (131 ∷ n / 65536 ∷ n / 256 % 256 ∷ n % 256 ∷ []) AreOctets
    (λ e. let k : n < 65536 = ltb-true n 65536 e in (omega arith, (omega (arith, k), (omega arith, tt))))
    (λ _. (omega arith, (omega (arith, l), (omega arith, (omega arith, tt)))))))

one : (tag : ℕ) (content : List ℕ) → tag < 256 → length content < 16777216 → AreOctets content → AreOctets (element tag content)
unfolding element
one tag content t l h = (t, both (len_octets (length content)) content (len_fits (length content) l) h)

recursion : (xs : List ℕ) → AllByRecursion (λ d. d < 256) xs → AreOctets xs
recursion [] h = tt
recursion (x ∷ xs) h = (h.0, recursion xs h.1)

sign_fits : (xs : List ℕ) → AreOctets xs → AreOctets (with_sign xs)
sign_fits [] h = (omega arith, tt)
sign_fits (x ∷ xs) h = cond_both (nat_lt x 128) (x ∷ xs) (0 ∷ x ∷ xs) AreOctets (λ _. h) (λ _. (omega arith, h))

uint_fits : (n : ℕ) → AreOctets (uint n)
unfolding uint
uint_fits n = sign_fits (digits_of 256 n) (recursion (digits_of 256 n) (all_below_base_digits_of 256 n (omega arith)))

number_fits : (tag n : ℕ) → tag < 256 → n < 2 ^ 64 → AreOctets (element tag (uint n))
number_fits tag n t l = one tag (uint n) t (let k = uint_few n l in omega (arith, k)) (uint_fits n)

iccid_fits : (tag : ℕ) (i : List ℕ) → tag < 256 → IsIccid i → AreOctets (element tag i)
iccid_fits tag i t h = one tag i t (let k = h.len in omega (arith, k)) (passing i (iccid_octets i h))

id_fits : (tag : ℕ) (i : List ℕ) → tag < 256 → IsEimId i → AreOctets (element tag i)
id_fits tag i t h = one tag i t (let k = h.few in omega (arith, k)) (passing i (eim_id_octets i h))

address_fits : (tag : ℕ) (i : List ℕ) → tag < 256 → IsAddress i → AreOctets (element tag i)
address_fits tag i t h = one tag i t (let k = h.few in omega (arith, k)) (passing i (address_octets i h))

key_fits : (tag : ℕ) (i : List ℕ) → tag < 256 → IsKey i → AreOctets (element tag i)
key_fits tag i t h = one tag i t (let k = h.few in omega (arith, k)) (passing i (key_octets i h))

mark_fits : (tag : ℕ) (b : Bool) → tag < 256 → AreOctets (mark tag b)
mark_fits tag true t = one tag [] t (omega arith) tt
mark_fits tag false t = tt

-- an element round one is short where that is
around : (tag : ℕ) (content : List ℕ) (most : ℕ) → tag < 256 → length content ≤ most → most < 16777216 → AreOctets content → AreOctets (element tag content)
around tag content most t l m h = one tag content t (omega (arith, l, m)) h

empty : (tag : ℕ) → tag < 256 → AreOctets (element tag [])
empty tag t = one tag [] t (omega arith) tt

iccid_few : (i : List ℕ) → IsIccid i → length (element 0x80 i) ≤ 15
iccid_few i h = let k = h.len in let n = element_few 0x80 i in omega (arith, k, n)

mark_few : (b : Bool) → length (mark 0x81 b) ≤ 5
mark_few true = element_few 0x81 []
mark_few false = omega arith

psmo_fits : (op : Psmo) → IsPsmo op → AreOctets (psmo op)
unfolding psmo IsPsmo iccid_content enable_content
psmo_fits (psmo_op.Enable i b) h =
    around 0xa0 (element 0x80 i ++ mark 0x81 b) 20 (omega arith)
    (let n = iccid_few i h in let m = mark_few b in let a = length-append (element 0x80 i) (mark 0x81 b) in omega (arith, n, m, a)) (omega arith)
    (both (element 0x80 i) (mark 0x81 b) (iccid_fits 0x80 i (omega arith) h) (mark_fits 0x81 b (omega arith)))
psmo_fits (psmo_op.Disable i) h = around 0xa1 (element 0x80 i) 15 (omega arith) (iccid_few i h) (omega arith) (iccid_fits 0x80 i (omega arith) h)
psmo_fits (psmo_op.Delete i) h = around 0xa2 (element 0x80 i) 15 (omega arith) (iccid_few i h) (omega arith) (iccid_fits 0x80 i (omega arith) h)
psmo_fits psmo_op.List h = empty 0x83 (omega arith)

text_few : (tag : ℕ) (x : List ℕ) → length x ≤ 128 → length (element tag x) ≤ 133
text_few tag x l = let n = element_few tag x in omega (arith, n, l)

-- three texts after each other
three : (x y z : List ℕ) → length x ≤ 133 → length y ≤ 133 → length z ≤ 133 → length (x ++ y ++ z) ≤ 399
three x y z a b c = let m = length-append (x ++ y) z in let n = length-append x y in omega (arith, a, b, c, m, n)

address_left : (a : Option (List ℕ)) → IfSome a (λ x. IsAddress x) → (length (optional octets 0x81 a) ≤ 133) × AreOctets (optional octets 0x81 a)
address_left None h = (omega arith, tt)
address_left (Some x) h = (text_few 0x81 x h.few, address_fits 0x81 x (omega arith) h)

key_left : (a : Option (List ℕ)) → IfSome a (λ x. IsKey x) → (length (optional octets 0x82 a) ≤ 133) × AreOctets (optional octets 0x82 a)
key_left None h = (omega arith, tt)
key_left (Some x) h = (text_few 0x82 x h.few, key_fits 0x82 x (omega arith) h)

eco_fits : (op : Eco) → IsEco op → AreOctets (eco op)
unfolding eco IsEco config_content id_content update_content
eco_fits (eco_op.Add i a k) h =
    around 0xa8 (element 0x80 i ++ element 0x81 a ++ element 0x82 k) 399 (omega arith)
    (three (element 0x80 i) (element 0x81 a) (element 0x82 k) (text_few 0x80 i h.0.few) (text_few 0x81 a h.1.few) (text_few 0x82 k h.2.few)) (omega arith)
    (both (element 0x80 i ++ element 0x81 a) (element 0x82 k) (both (element 0x80 i) (element 0x81 a) (id_fits 0x80 i (omega arith) h.0) (address_fits 0x81 a (omega arith) h.1)) (key_fits 0x82 k (omega arith) h.2))
eco_fits (eco_op.Update i a k) h =
    let x = address_left a h.1 in
    let y = key_left k h.2 in
    around 0xa9 (element 0x80 i ++ optional octets 0x81 a ++ optional octets 0x82 k) 399 (omega arith)
    (three (element 0x80 i) (optional octets 0x81 a) (optional octets 0x82 k) (text_few 0x80 i h.0.few) x.0 y.0) (omega arith)
    (both (element 0x80 i ++ optional octets 0x81 a) (optional octets 0x82 k) (both (element 0x80 i) (optional octets 0x81 a) (id_fits 0x80 i (omega arith) h.0) x.1) y.1)
eco_fits (eco_op.Delete i) h = around 0xaa (element 0x80 i) 133 (omega arith) (text_few 0x80 i h.few) (omega arith) (id_fits 0x80 i (omega arith) h)
eco_fits eco_op.List h = empty 0x8b (omega arith)

flat_fits : {X : Type 0} (f : X → List ℕ) (xs : List X) → Every (λ x. AreOctets (f x)) xs → AreOctets (flat_map f xs)
flat_fits f [] h = tt
flat_fits f (x ∷ xs) h = both (f x) (flat_map f xs) h.0 (flat_fits f xs h.1)

body_fits : (b : Body) → IsBody b → AreOctets (body b)
unfolding body IsBody
body_fits (Psmos ops) h = around 0xa4 (flat_map psmo ops) 240 (omega arith) (psmos_few ops h) (omega arith) (flat_fits psmo ops (every_mono IsPsmo (λ op. AreOctets (psmo op)) psmo_fits ops h.1))
body_fits (Ecos ops) h = around 0xa5 (flat_map eco ops) 3176 (omega arith) (ecos_few ops h) (omega arith) (flat_fits eco ops (every_mono IsEco (λ op. AreOctets (eco op)) eco_fits ops h.1))

fields_fit : (p : Package) → IsPackage p → AreOctets (package_fields p)
unfolding package_fields
fields_fit p h =
    let eim : List ℕ = element 0x80 p.eim in
    let eid : List ℕ = element 0x81 p.eid in
    let association : List ℕ = element 0x82 (uint p.association) in
    let counter : List ℕ = element 0x83 (uint p.counter) in
    both (eim ++ eid ++ association ++ counter) (body p.body)
    (both (eim ++ eid ++ association) counter
    (both (eim ++ eid) association
    (both eim eid (id_fits 0x80 p.eim (omega arith) h.eim)
    (one 0x81 p.eid (omega arith) (let k = h.eid.len in omega (arith, k)) (passing p.eid (eid_octets p.eid h.eid))))
    (number_fits 0x82 p.association (omega arith) (let k = h.association.fits in omega (arith, k))))
    (number_fits 0x83 p.counter (omega arith) (let k = h.counter.fits in omega (arith, k))))
    (body_fits p.body h.body)

-- what stands in an element is shorter than that
inside : (tag : ℕ) (content : List ℕ) (most : ℕ) → length (element tag content) ≤ most → length content ≤ most
unfolding element
inside tag content most l = let n = length-append (len_octets (length content)) content in omega (arith, l, n)

left_few : (xs ys : List ℕ) (most : ℕ) → length (xs ++ ys) ≤ most → length xs ≤ most
left_few xs ys most l = let n = length-append xs ys in omega (arith, l, n)

pub signed_octets : (s : Signed) → IsSigned s → AllPass is_octet (signed s)
unfolding signed signed_content inner_package
signed_octets s h =
    let inner : List ℕ = element 0x30 (package_fields s.«package») in
    let tail : List ℕ = element 0x86 s.signature in
    let whole : length (element 0x30 (inner ++ tail)) ≤ 3485 = signed_few s h in
    let content : length (inner ++ tail) ≤ 3485 = inside 0x30 (inner ++ tail) 3485 whole in
    let fields : length (package_fields s.«package») ≤ 3485 = inside 0x30 (package_fields s.«package») 3485 (left_few inner tail 3485 content) in
    pass (element 0x30 (inner ++ tail))
    (around 0x30 (inner ++ tail) 3485 (omega arith) content (omega arith)
    (both inner tail (around 0x30 (package_fields s.«package») 3485 (omega arith) fields (omega arith) (fields_fit s.«package» h.«package»))
    (one 0x86 s.signature (omega arith) (let k = h.signature.few in omega (arith, k)) (passing s.signature h.signature.each))))
