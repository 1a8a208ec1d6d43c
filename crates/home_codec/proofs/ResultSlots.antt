-- The slots of results that are read stand so, and what stands so is read again.
use Rattle.std.proofs.Common.{◌≡◌, ℕ, zero, suc, ◌+◌, ◌*◌, ◌≤◌, true, false, List, [], ◌∷◌, ◌++◌, length, take, drop, Option, Some, None, refl, sym, ap, subst, ◌∙◌, arith, append_assoc, length-append, inl, inr}
use Rattle.std.specs.Prelude.{◌==◌, nat_le, IfSome}
use Rattle.std.proofs.Math.Seq.{take-append_seam, drop-append_seam, take-append-add}
use Rattle.std.proofs.lemmas.List.{take-append-drop, take-append-le, length-take-le, length-drop}
use Rattle.std.proofs.lemmas.Bool.{eqb-true, ne_eqb, leb-true, le-leb}
use Rattle.sgp_der.proofs.Elements.{length-element}
use Rattle.sgp_der.proofs.Fields.{on_some, IsBytes-left}
use Rattle.sgp_fields.proofs.Steps.{on_end, on_front}
use Rattle.sgp_fields.proofs.ValueCodecs.{chosen}
use Rattle.small_card.specs.Lists.{Every}
use Rattle.small_card.specs.Cards.{FullCard}
use Rattle.small_card.specs.Ranges.{IsResult}
use Rattle.small_card.specs.Valid.{IsValid}
use Rattle.result_store.proofs.Testing.{valid_ranges}
use Rattle.small_card.specs.declared.types.PackageResult.{PackageResult}
use Rattle.result_codec.specs.Spelling.{result}
use Rattle.result_codec.specs.Reading.{result_at}
use Rattle.result_codec.proofs.ResultCodec.{result_codec, result_few}
use Rattle.std.proofs.lemmas.Option.{same_Some}
use Rattle.iot_bytes.proofs.Framing.{IsBytes}
use Rattle.home_codec.specs.Fixed.{word, fixed_at, many_at}
use Rattle.home_codec.specs.Layout.{kept_front, slot_front}
use Rattle.home_codec.specs.Ordering.{somes, in_order}
use Rattle.home_codec.specs.Homes.{Begins, AreSlots, HasResults}
use Rattle.home_codec.specs.Reading.{held_in, slot_of, results_at}
use Rattle.home_codec.proofs.FixedFields.{on_octets, octets_again, word_field, length-word}
use Rattle.home_codec.proofs.Sorting.{every_in_order, in_order_every, every_somes, somes_every, length-in_order, length-somes}

-- a slot holds a result in range, or nothing
abbrev pub IsPlace : Option PackageResult → Type 0
IsPlace place = IfSome place IsResult

-- how a slot begins, and that its result is in range
pub record Holds (slot : List ℕ) (place : Option PackageResult) : Type 0 where
  pub front : Begins (slot_front place) slot
  pub fits : IsPlace place

free_holds : (slot rest : List ℕ) → slot ≡ word 0 ++ rest → Holds slot None
unfolding slot_front
free_holds slot rest is = record { front = ap (take (length (word 0))) is ∙ take-append_seam (word 0) rest; fits = tt }

kept_holds : (slot behind : List ℕ) (len : ℕ) (r : PackageResult) → slot ≡ word len ++ behind → len ≤ length behind → take len behind ≡ result r → IsResult r → Holds slot (Some r)
unfolding slot_front kept_front
kept_holds slot behind len r is room first fits =
    let count : length (result r) ≡ len = ap length (sym first) ∙ length-take-le len behind room in
    let size : length (word len ++ result r) ≡ length (word len) + len = length-append (word len) (result r) ∙ ap (λ (n : ℕ). length (word len) + n) count in
    let front : take (length (word len ++ result r)) slot ≡ word len ++ result r =
    ap (λ (n : ℕ). take n slot) size ∙ ap (take (length (word len) + len)) is ∙ take-append-add (word len) behind len ∙ ap (λ (l : List ℕ). word len ++ l) first in
    record { front = subst (λ (n : ℕ). Begins (word n ++ result r) slot) (sym count) front; fits = fits }

slot_takes : (slot : List ℕ) (place : Option PackageResult) → IsBytes slot → 18313 ≤ length slot → slot_of slot ≡ Some place → Holds slot place
unfolding slot_of held_in
slot_takes slot place fits room e =
    on_front word_field slot _ place fits e (λ len behind a e1.
    let size : length slot ≡ 4 + length behind = ap length a.parts ∙ length-append (word len) behind ∙ ap (λ (n : ℕ). n + length behind) (length-word len) in
    elim (chosen (len == 0) _ _ _ e1) [
      | inl h ↦
          let none : None ≡ place = same_Some None place h.1 in
          subst (λ (p : Option PackageResult). Holds slot p) none (free_holds slot behind (a.parts ∙ ap (λ (n : ℕ). word n ++ behind) (eqb-true len 0 h.0)))
      | inr h ↦
          elim (chosen (nat_le len 18309) _ _ _ h.1) [
            | inl k ↦
                on_some (result_at (take len behind)) _ place k.1 (λ r b e2.
                let within : IsBytes (take len behind) = IsBytes-left (take len behind) (drop len behind) (subst (λ (l : List ℕ). IsBytes l) (sym (take-append-drop len behind)) a.others) in
                let t = result_codec.takes (take len behind) r within b in
                let some : Some r ≡ place = same_Some (Some r) place e2 in
                subst (λ (p : Option PackageResult). Holds slot p) some (kept_holds slot behind len r a.parts (omega (arith, leb-true len 18309 k.0)) t.0 t.1))
            | inr k ↦ absurd cc
          ]
    ])

pub result_some : (r : PackageResult) → 1 ≤ length (result r)
unfolding result
result_some r = omega (arith, length-element 48 (Rattle.result_codec.specs.Spelling.result_content r))

pub begun : (front slot : List ℕ) → Begins front slot → slot ≡ front ++ drop (length front) slot
begun front slot h = sym (take-append-drop (length front) slot) ∙ ap (λ (l : List ℕ). l ++ drop (length front) slot) h

kept_again : (r : PackageResult) (rest : List ℕ) → IsResult r → slot_of ((word (length (result r)) ++ result r) ++ rest) ≡ Some (Some r)
unfolding slot_of held_in
kept_again r rest fits =
    let len = length (result r) in
    let some : (len == 0) ≡ false = ne_eqb len 0 (λ e. omega (arith, result_some r)) in
    let few : nat_le len 18309 ≡ true = le-leb len 18309 (result_few r fits) in
    rw (append_assoc (word len) (result r) rest)
    (rw (word_field.again len (result r ++ rest) (omega (arith, result_few r fits)))
    (rw some (rw few (rw (take-append_seam (result r) rest) (rw (result_codec.again r fits) refl)))))

free_again : (rest : List ℕ) → slot_of (word 0 ++ rest) ≡ Some None
unfolding slot_of held_in
free_again rest = rw (word_field.again 0 rest (omega arith)) refl

slot_again : (slot : List ℕ) (place : Option PackageResult) → Holds slot place → slot_of slot ≡ Some place
unfolding slot_front kept_front
slot_again slot None h = ap slot_of (begun (word 0) slot h.front) ∙ free_again _
slot_again slot (Some r) h = ap slot_of (begun (word (length (result r)) ++ result r) slot h.front) ∙ kept_again r _ h.fits

-- slots of a size, in the words of the home's slots
abbrev pub StandIn : ℕ → List (Option PackageResult) → List ℕ → Type 0
StandIn size [] area = area ≡ []
StandIn size (place ∷ places) area = Begins (slot_front place) area × StandIn size places (drop size area)

pub record ArePlaces (size n : ℕ) (area : List ℕ) (places : List (Option PackageResult)) : Type 0 where
  pub stand : StandIn size places area
  pub count : length places ≡ n
  pub room : length area ≡ size * n
  pub each : Every IsPlace places

wider : (front slot rest : List ℕ) → length front ≤ length slot → Begins front slot → Begins front (slot ++ rest)
wider front slot rest le h = take-append-le (length front) slot rest le ∙ h

front_few : (place : Option PackageResult) → IsPlace place → length (slot_front place) ≤ 18313
unfolding slot_front kept_front
front_few None h = omega (arith, length-word 0)
front_few (Some r) h = omega (arith, length-append (word (length (result r))) (result r), length-word (length (result r)), result_few r h)

places_take : (size n : ℕ) (area : List ℕ) (places : List (Option PackageResult)) → 18313 ≤ size → IsBytes area → many_at (fixed_at slot_of size) n area ≡ Some (places, []) → ArePlaces size n area places
unfolding many_at fixed_at
places_take size zero area places room fits e =
    let Read : Type 0 = List (Option PackageResult) × List ℕ in
    let made : Read = ([], area) in
    let same : made ≡ (places, []) = same_Some made (places, []) e in
    let none : [] ≡ places = ap (λ (p : Read). p.0) same in
    let empty : area ≡ [] = ap (λ (p : Read). p.1) same in
    subst (λ (ps : List (Option PackageResult)). ArePlaces size zero area ps) none (record { stand = empty; count = refl; room = omega (arith, ap length empty); each = tt })
places_take size (suc n) area places room fits e =
    let Read : Type 0 = List (Option PackageResult) × List ℕ in
    on_some (fixed_at slot_of size area) _ (places, []) e (λ p a e1.
    on_octets size area _ p fits a (λ front rest s a1.
    on_some (slot_of front) _ p a1 (λ place b a2.
    let split : (place, rest) ≡ p = same_Some _ _ a2 in
    let read_rest : many_at (fixed_at slot_of size) n p.1 ≡ many_at (fixed_at slot_of size) n rest = ap (λ (q : Option PackageResult × List ℕ). many_at (fixed_at slot_of size) n q.1) (sym split) in
    on_some (many_at (fixed_at slot_of size) n p.1) _ (places, []) e1 (λ q c e2.
    let made : Read = (p.0 ∷ q.0, q.1) in
    let same : made ≡ (places, []) = same_Some made (places, []) e2 in
    let end : q.1 ≡ [] = ap (λ (x : Read). x.1) same in
    let whole : place ∷ q.0 ≡ places = ap (λ (x : Option PackageResult). x ∷ q.0) (ap (λ (x : Option PackageResult × List ℕ). x.0) split) ∙ ap (λ (x : Read). x.0) same in
    let ended_read : q ≡ (q.0, []) = ap (λ (l : List ℕ). let x : Read = (q.0, l) in x) end in
    let more = places_take size n rest q.0 room s.others (sym read_rest ∙ c ∙ ap (λ (x : Read). Some x) ended_read) in
    let h = slot_takes front place s.within (omega (arith, s.len)) b in
    let begins : Begins (slot_front place) area = subst (λ (l : List ℕ). Begins (slot_front place) l) (sym s.parts) (wider (slot_front place) front rest (omega (arith, s.len, front_few place h.fits)) h.front) in
    let behind : drop size area ≡ rest = ap (drop size) s.parts ∙ ap (λ (k : ℕ). drop k (front ++ rest)) (sym s.len) ∙ drop-append_seam front rest in
    subst (λ (ps : List (Option PackageResult)). ArePlaces size (suc n) area ps) whole (record {
      stand = (begins, subst (λ (l : List ℕ). StandIn size q.0 l) (sym behind) more.stand);
      count = omega (arith, more.count);
      room = omega (arith, ap length s.parts, length-append front rest, s.len, more.room);
      each = (h.fits, more.each);
    })))))

places_again : (size : ℕ) (area : List ℕ) (places : List (Option PackageResult)) → 18313 ≤ size → length area ≡ size * length places → StandIn size places area → Every IsPlace places → many_at (fixed_at slot_of size) (length places) area ≡ Some (places, [])
unfolding many_at fixed_at
places_again size area [] room len stand each = ap (λ (l : List ℕ). let x : List (Option PackageResult) × List ℕ = ([], l) in Some x) stand
places_again size area (place ∷ places) room len stand each =
    let le : size ≤ length area = omega (arith, len) in
    let front = take size area in
    let rest = drop size area in
    let whole : front ++ rest ≡ area = take-append-drop size area in
    let count : length front ≡ size = length-take-le size area le in
    let begins : Begins (slot_front place) front =
    sym (take-append-le (length (slot_front place)) front rest (omega (arith, count, front_few place each.0))) ∙ ap (take (length (slot_front place))) whole ∙ stand.0 in
    let more = places_again size rest places room (omega (arith, length-drop size area, len)) stand.1 each.1 in
    ap (many_at (fixed_at slot_of size) (suc (length places))) (sym whole)
    ∙ rw (octets_again size front rest count) (rw (slot_again front place (record { front = begins; fits = each.0 })) (rw more refl))

pub slots_from : (places : List (Option PackageResult)) (area : List ℕ) → StandIn 20736 places area → AreSlots places area
slots_from [] area h = h
slots_from (p ∷ ps) area h = (h.0, slots_from ps (drop 20736 area) h.1)

pub slots_to : (places : List (Option PackageResult)) (area : List ℕ) → AreSlots places area → StandIn 20736 places area
slots_to [] area h = h
slots_to (p ∷ ps) area h = (h.0, slots_to ps (drop 20736 area) h.1)

-- the results of the slots
pub record AreRead (pending : List PackageResult) (area : List ℕ) : Type 0 where
  pub results : HasResults pending area
  pub few : length pending ≤ 8
  pub each : Every IsResult pending

pub results_take : (area : List ℕ) (pending : List PackageResult) → IsBytes area → results_at area ≡ Some pending → AreRead pending area
unfolding results_at
results_take area pending fits e =
    let Read : Type 0 = List (Option PackageResult) × List ℕ in
    on_some (many_at (fixed_at slot_of 20736) 8 area) _ pending e (λ p a e1.
    on_end p.1 _ pending e1 (λ none e2.
    let same : in_order (somes p.0) ≡ pending = same_Some _ _ e2 in
    let ended_read : p ≡ (p.0, []) = ap (λ (l : List ℕ). let x : Read = (p.0, l) in x) none in
    let t = places_take 20736 8 area p.0 (omega arith) fits (a ∙ ap (λ (x : Read). Some x) ended_read) in
    subst (λ (rs : List PackageResult). AreRead rs area) same (record {
      results = record { places = p.0; all = t.count; size = t.room; stand = slots_from p.0 area t.stand; each = refl };
      few = omega (arith, length-in_order (somes p.0), length-somes p.0, t.count);
      each = every_in_order IsResult (somes p.0) (every_somes IsResult p.0 t.each);
    })))

pub results_again : (area : List ℕ) (pending : List PackageResult) → HasResults pending area → Every IsResult pending → results_at area ≡ Some pending
unfolding results_at
results_again area pending h each =
    let ps = h.places in
    let fits : Every IsPlace ps = somes_every IsResult ps (in_order_every IsResult (somes ps) (subst (λ (rs : List PackageResult). Every IsResult rs) (sym h.each) each)) in
    let read : many_at (fixed_at slot_of 20736) 8 area ≡ Some (ps, []) =
    ap (λ (n : ℕ). many_at (fixed_at slot_of 20736) n area) (sym h.all) ∙ places_again 20736 area ps (omega arith) (h.size ∙ ap (λ (n : ℕ). 20736 * n) (sym h.all)) (slots_to ps area h.stand) fits in
    rw read (ap (λ (rs : List PackageResult). Some rs) h.each)

pub fronts_few : (places : List (Option PackageResult)) → Every IsPlace places → Every (λ p. length (slot_front p) ≤ 18313) places
fronts_few [] each = tt
fronts_few (p ∷ ps) each = (front_few p each.0, fronts_few ps each.1)

-- the places of a valid card's results are in range
pub places_in_range : (f : FullCard) → IsValid f → (places : List (Option PackageResult)) → in_order (somes places) ≡ f.card.results.pending → Every IsPlace places
places_in_range f valid places each =
    let fits : Every IsResult f.card.results.pending = valid_ranges f.card.results valid.card.results in
    somes_every IsResult places (in_order_every IsResult (somes places) (subst (λ (rs : List PackageResult). Every IsResult rs) (sym each) fits))
