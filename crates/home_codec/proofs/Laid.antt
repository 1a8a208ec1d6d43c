-- A home in which one part is written over what stood there.
use Rattle.std.proofs.Common.{◌≡◌, ℕ, zero, suc, ◌+◌, ◌-◌, ◌*◌, ◌≤◌, ◌<◌, List, [], ◌∷◌, ◌++◌, length, take, drop, Option, refl, sym, ap, subst, ◌∙◌, arith, append_assoc, length-append}
use Rattle.std.specs.Prelude.{slice_set}
use Rattle.std.proofs.Math.Seq.{take-append_seam, take-append-add, drop-append_seam, drop-append-add}
use Rattle.std.proofs.lemmas.List.{take-append-drop, take-append-le, length-take-le, length-drop, drop-drop}
use Rattle.std.proofs.Math.Nat.{mul-le-mul_left}
use Rattle.small_card.specs.Cards.{FullCard}
use Rattle.small_card.specs.Lists.{Every}
use Rattle.small_card.specs.Valid.{IsValid}
use Rattle.small_card.specs.declared.types.PackageResult.{PackageResult}
use Rattle.home_codec.specs.Layout.{slot_front}
use Rattle.home_codec.specs.Ordering.{somes, in_order}
use Rattle.home_codec.specs.Homes.{Begins, AreSlots, IsHomeOf, fields}
use Rattle.home_codec.specs.Laying.{laid, slot_begin, HasPlaces, HasPending}
use Rattle.home_codec.proofs.ResultSlots.{StandIn, slots_from, slots_to, fronts_few, places_in_range}
use Rattle.home_codec.proofs.Written.{length-home, length-fields}

pub length-laid : (octets : List ℕ) (at : ℕ) (part : List ℕ) → at + length part ≤ length octets → length (laid octets at part) ≡ length octets
length-laid octets at part le =
    omega (
      arith,
      length-append (take at octets ++ part) (drop (at + length part) octets),
      length-append (take at octets) part,
      length-take-le at octets (omega (arith, le)),
      length-drop (at + length part) octets,
    )

-- what stands in front is as before
pub take-laid : (n : ℕ) (octets : List ℕ) (at : ℕ) (part : List ℕ) → n ≤ at → at ≤ length octets → take n (laid octets at part) ≡ take n octets
take-laid n octets at part le within =
    let end = part ++ drop (at + length part) octets in
    let grouped : laid octets at part ≡ take at octets ++ end = append_assoc (take at octets) part (drop (at + length part) octets) in
    let count : length (take at octets) ≡ at = length-take-le at octets within in
    let back : take n octets ≡ take n (take at octets ++ drop at octets) = ap (take n) (sym (take-append-drop at octets)) in
    ap (take n) grouped ∙ take-append-le n (take at octets) end (omega (arith, count)) ∙ sym (take-append-le n (take at octets) (drop at octets) (omega (arith, count))) ∙ sym back

-- behind so many octets the part stands at its place there
pub drop-laid : (n : ℕ) (octets : List ℕ) (at : ℕ) (part : List ℕ) → n ≤ length octets → drop n (laid octets (n + at) part) ≡ laid (drop n octets) at part
drop-laid n octets at part le =
    let front = take n octets in
    let rest = drop n octets in
    let count : length front ≡ n = length-take-le n octets le in
    let whole : front ++ rest ≡ octets = take-append-drop n octets in
    let taken : take (n + at) octets ≡ front ++ take at rest =
    ap (take (n + at)) (sym whole) ∙ ap (λ (k : ℕ). take (k + at) (front ++ rest)) (sym count) ∙ take-append-add front rest at in
    let behind : drop (n + at + length part) octets ≡ drop (at + length part) rest =
    ap (λ (k : ℕ). drop k octets) (omega arith) ∙ ap (drop (n + (at + length part))) (sym whole) ∙ ap (λ (k : ℕ). drop (k + (at + length part)) (front ++ rest)) (sym count) ∙ drop-append-add front rest (at + length part) in
    let grouped : (front ++ take at rest) ++ part ++ drop (at + length part) rest ≡ front ++ laid rest at part = simp append_assoc in
    ap (λ (l : List ℕ). drop n (l ++ part ++ drop (n + at + length part) octets)) taken
    ∙ ap (λ (l : List ℕ). drop n ((front ++ take at rest) ++ part ++ l)) behind
    ∙ ap (drop n) grouped
    ∙ ap (λ (k : ℕ). drop k (front ++ laid rest at part)) (sym count)
    ∙ drop-append_seam front (laid rest at part)

-- behind the part all is as before
drop-over : (n : ℕ) (octets part : List ℕ) → length part ≤ n → drop n (part ++ drop (length part) octets) ≡ drop n octets
drop-over n octets part le =
    let k = n - length part in
    let is : length part + k ≡ n = omega arith in
    ap (λ (m : ℕ). drop m (part ++ drop (length part) octets)) (sym is) ∙ drop-append-add part (drop (length part) octets) k ∙ drop-drop k (length part) octets ∙ ap (λ (m : ℕ). drop m octets) (omega (arith, is))

-- a part at the front
laid_first : (octets part : List ℕ) → laid octets 0 part ≡ part ++ drop (length part) octets
laid_first octets part = let none : 0 + length part ≡ length part = omega arith in ap (λ (n : ℕ). part ++ drop n octets) none

-- a slot begins otherwise, and the other slots stand as before
pub stand_set : (size : ℕ) (places : List (Option PackageResult)) (area : List ℕ) (slot : ℕ) (place : Option PackageResult) → slot < length places → length (slot_front place) ≤ size → length area ≡ size * length places
    → Every (λ p. length (slot_front p) ≤ size) places → StandIn size places area → StandIn size (slice_set places slot place) (laid area (size * slot) (slot_front place))
stand_set size [] area slot place lt few len all stand = absurd (omega (arith, lt))
stand_set size (p ∷ ps) area zero place lt few len all stand =
    let front = slot_front place in
    let none : size * 0 ≡ 0 = omega arith in
    let is : laid area (size * 0) front ≡ front ++ drop (length front) area = ap (λ (n : ℕ). laid area n front) none ∙ laid_first area front in
    let begins : Begins front (laid area (size * 0) front) = ap (take (length front)) is ∙ take-append_seam front (drop (length front) area) in
    let behind : drop size (laid area (size * 0) front) ≡ drop size area = ap (drop size) is ∙ drop-over size area front few in
    (begins, subst (λ (l : List ℕ). StandIn size ps l) (sym behind) stand.1)
stand_set size (p ∷ ps) area (suc k) place lt few len all stand =
    let front = slot_front place in
    let room : length area ≡ size + size * length ps = omega (arith, len) in
    let at : size * suc k ≡ size + size * k = omega arith in
    let le : size * k ≤ size * length ps = mul-le-mul_left size (omega (arith, lt)) in
    let is : laid area (size * suc k) front ≡ laid area (size + size * k) front = ap (λ (n : ℕ). laid area n front) at in
    let before : take (length (slot_front p)) (laid area (size + size * k) front) ≡ take (length (slot_front p)) area = take-laid (length (slot_front p)) area (size + size * k) front (omega (arith, all.0)) (omega (arith, room, le)) in
    let behind : drop size (laid area (size + size * k) front) ≡ laid (drop size area) (size * k) front = drop-laid size area (size * k) front (omega (arith, room)) in
    let others = stand_set size ps (drop size area) k place (omega (arith, lt)) few (omega (arith, length-drop size area, room)) all.1 stand.1 in
    (ap (take (length (slot_front p))) is ∙ before ∙ stand.0, subst (λ (l : List ℕ). StandIn size (slice_set ps k place) l) (sym (ap (drop size) is ∙ behind)) others)

few_set : (places : List (Option PackageResult)) (slot : ℕ) (place : Option PackageResult) → length (slot_front place) ≤ 18313 → Every (λ p. length (slot_front p) ≤ 18313) places → Every (λ p. length (slot_front p) ≤ 18313) (slice_set places slot place)
few_set [] slot place le all = tt
few_set (p ∷ ps) zero place le all = (le, all.1)
few_set (p ∷ ps) (suc k) place le all = (all.0, few_set ps k place le all.1)

wider : (places : List (Option PackageResult)) → Every (λ p. length (slot_front p) ≤ 18313) places → Every (λ p. length (slot_front p) ≤ 20736) places
wider [] all = tt
wider (p ∷ ps) all = (omega (arith, all.0), wider ps all.1)

length-slot_set : (places : List (Option PackageResult)) (slot : ℕ) (place : Option PackageResult) → length (slice_set places slot place) ≡ length places
length-slot_set [] slot place = refl
length-slot_set (p ∷ ps) zero place = refl
length-slot_set (p ∷ ps) (suc k) place = ap suc (length-slot_set ps k place)

-- a slot of a home begins with another result, or is free
pub places_set : (places : List (Option PackageResult)) (home : List ℕ) (slot : ℕ) (place : Option PackageResult) → HasPlaces places home → slot < 8 → length (slot_front place) ≤ 18313
    → HasPlaces (slice_set places slot place) (laid home (slot_begin slot) (slot_front place))
places_set places home slot place h lt few =
    let front = slot_front place in
    let few_slots : slot ≤ 7 = omega arith in
    let le : 20736 * slot ≤ 20736 * 7 = mul-le-mul_left 20736 few_slots in
    let area : length (drop 6400 home) ≡ 20736 * length places = omega (arith, length-drop 6400 home, h.size, h.all) in
    let behind : drop 6400 (laid home (slot_begin slot) front) ≡ laid (drop 6400 home) (20736 * slot) front = drop-laid 6400 home (20736 * slot) front (omega (arith, h.size)) in
    let others = stand_set 20736 places (drop 6400 home) slot place (omega (arith, h.all)) (omega (arith, few)) area (wider places h.few) (slots_to places (drop 6400 home) h.stand) in
    record {
      all = length-slot_set places slot place ∙ h.all;
      size = length-laid home (slot_begin slot) front (omega (arith, h.size, le, few)) ∙ h.size;
      few = few_set places slot place few h.few;
      stand = subst (λ (l : List ℕ). AreSlots (slice_set places slot place) l) (sym behind) (slots_from (slice_set places slot place) (laid (drop 6400 home) (20736 * slot) front) others);
    }

-- the fields of another card
pub places_fields : (places : List (Option PackageResult)) (home octets : List ℕ) → HasPlaces places home → length octets ≡ 6400 → HasPlaces places (laid home 0 octets)
places_fields places home octets h len =
    let behind : drop 6400 (laid home 0 octets) ≡ drop 6400 home = ap (drop 6400) (laid_first home octets) ∙ drop-over 6400 home octets (omega (arith, len)) in
    record {
      all = h.all;
      size = length-laid home 0 octets (omega (arith, len, h.size)) ∙ h.size;
      few = h.few;
      stand = subst (λ (l : List ℕ). AreSlots places l) (sym behind) h.stand;
    }

-- a home has the places of its results
pub home_places : (f : FullCard) (home : List ℕ) → IsHomeOf f home → HasPending f home
home_places f home h =
    let r = h.fields.results in
    let area : drop 6400 home ≡ h.fields.area = ap (drop 6400) h.fields.parts ∙ ap (λ (n : ℕ). drop n (fields f ++ h.fields.area)) (sym (length-fields f h.valid)) ∙ drop-append_seam (fields f) h.fields.area in
    record {
      places = r.places;
      stand = record {
        all = r.all;
        size = length-home f home h;
        few = fronts_few r.places (places_in_range f h.valid r.places r.each);
        stand = subst (λ (l : List ℕ). AreSlots r.places l) (sym area) r.stand;
      };
      each = r.each;
    }

-- the fields of a card and the places of its results make its home
pub places_home : (f : FullCard) (places : List (Option PackageResult)) (home : List ℕ) → IsValid f → take 6400 home ≡ fields f → HasPlaces places home → in_order (somes places) ≡ f.card.results.pending → IsHomeOf f home
places_home f places home valid front h each = record {
  fields = record {
    area = drop 6400 home;
    parts = sym (take-append-drop 6400 home) ∙ ap (λ (l : List ℕ). l ++ drop 6400 home) front;
    results = record { places = places; all = h.all; size = omega (arith, length-drop 6400 home, h.size); stand = h.stand; each = each };
  };
  valid = valid;
}
