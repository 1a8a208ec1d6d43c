-- What stands in the slots of a home, and the numbers there.
use Rattle.std.proofs.Common.{◌≡◌, ◌⊎◌, inl, inr, ℕ, zero, suc, ◌+◌, ◌*◌, ◌<◌, Bool, true, false, List, [], ◌∷◌, ◌++◌, length, take, drop, get_or, set, refl, sym, ◌∙◌, ap, subst, arith, length-append}
use Rattle.std.specs.Prelude.{◌≢◌, nat_le, Option, Some, None, IfSome, option_map, slice_get, if◌then◌else◌}
use Rattle.std.proofs.lemmas.List.{take-append-drop, get_or-set_same, get_or-set_other, drop_at, length-take-le, length-drop, drop-drop, take_all}
use Rattle.std.proofs.lemmas.Bool.{cases_eq}
use Rattle.std.proofs.lemmas.Option.{same_Some}
use Rattle.chip_port.specs.Seen.{Seen}
use Rattle.undo_journal.specs.Home.{home_in}
use Rattle.small_card.specs.Cards.{FullCard}
use Rattle.small_card.specs.Lists.{Every, EveryPair}
use Rattle.small_card.specs.Ranges.{IsResult, IsBefore}
use Rattle.small_card.specs.declared.types.PackageResult.{PackageResult}
use Rattle.home_codec.specs.Homes.{Begins, AreSlots, fields}
use Rattle.home_codec.specs.Layout.{slot_front}
use Rattle.home_codec.specs.Numbers as numbers
use Rattle.home_codec.specs.Ordering.{somes, insert, in_order_on}
use Rattle.home_codec.proofs.Numbering.{number_holds}
use Rattle.home_codec.proofs.Parts.{pending_fit}
use Rattle.home_codec.proofs.Sorting.{in_order_every, somes_every, insert_every}
use Rattle.card_store.specs.Comparing.{HasFront}
use Rattle.card_store.specs.Seats.{AreApart, TellsNumbers, places_of}
use Rattle.card_store.specs.Slots.{number_in, numbers_of, StandIn, KeepsSlots, HomesKeepSlots}
use Rattle.card_store.specs.Standing.{IsSettled}
use Rattle.card_store.proofs.Cards.{settled_idle}

-- the octets of one slot
slot_begins : (places : List (Option PackageResult)) (area : List ℕ) (slot : ℕ) → slot < length places → AreSlots places area → Begins (slot_front (get_or places slot None)) (drop (20736 * slot) area)
slot_begins [] area slot lt stand = absurd (omega (arith, lt))
slot_begins (p ∷ ps) area zero lt stand = stand.0
slot_begins (p ∷ ps) area (suc slot) lt stand =
    let at : drop (20736 * slot) (drop 20736 area) ≡ drop (20736 * suc slot) area = drop-drop (20736 * slot) 20736 area ∙ ap (λ (n : ℕ). drop n area) (omega arith) in
    subst (λ (l : List ℕ). Begins (slot_front (get_or ps slot None)) l) at (slot_begins ps (drop 20736 area) slot (omega (arith, lt)) stand.1)

slot_range : (places : List (Option PackageResult)) (slot : ℕ) → Every (λ place. IfSome place IsResult) places → IfSome (get_or places slot None) IsResult
slot_range [] slot each = tt
slot_range (p ∷ ps) zero each = each.0
slot_range (p ∷ ps) (suc slot) each = slot_range ps slot each.1

number_of : (places : List (Option PackageResult)) (slot : ℕ) → number_in (numbers_of places) slot ≡ option_map (λ (r : PackageResult). r.seq) (get_or places slot None)
number_of [] slot = refl
number_of (p ∷ ps) zero = refl
number_of (p ∷ ps) (suc slot) = number_of ps slot

-- the front of a slot tells its number
pub number_told : (places : List (Option PackageResult)) (home : List ℕ) (slot : ℕ) → slot < 8 → StandIn places home → number_in (numbers_of places) slot ≡ numbers.number_at (take 32 (drop (6400 + 20736 * slot) home))
number_told places home slot lt h =
    let octets = drop (6400 + 20736 * slot) home in
    let at : drop (20736 * slot) (drop 6400 home) ≡ octets = drop-drop (20736 * slot) 6400 home in
    let begins = subst (λ (l : List ℕ). Begins (slot_front (get_or places slot None)) l) at (slot_begins places (drop 6400 home) slot (omega (arith, lt, h.all)) h.stand) in
    let size : length (take 32 octets) ≡ 32 = length-take-le 32 octets (omega (arith, length-drop (6400 + 20736 * slot) home, h.size, lt)) in
    number_of places slot
    ∙ sym (number_holds (take 32 octets) (omega (arith, size)) (get_or places slot None) (drop 32 octets) (slot_range places slot h.ranges) (subst (λ (l : List ℕ). Begins (slot_front (get_or places slot None)) l) (sym (take-append-drop 32 octets)) begins))

-- what was read of a slot tells its number
pub number_read : (places : List (Option PackageResult)) (image front : List ℕ) (number : Option ℕ) (slot : ℕ) → slot < 8 → front ≡ take 32 (drop (174336 + 256 * (25 + 81 * slot)) image) → StandIn places (home_in image)
    → ((place : Option PackageResult) (behind : List ℕ) → IfSome place IsResult → Begins (slot_front place) (front ++ behind) → number ≡ option_map (λ (r : PackageResult). r.seq) place)
    → number ≡ number_in (numbers_of places) slot
number_read places image front number slot lt is h tells =
    let octets = drop (6400 + 20736 * slot) (home_in image) in
    let there : drop (174336 + 256 * (25 + 81 * slot)) image ≡ octets = ap (λ (n : ℕ). drop n image) (omega arith) ∙ sym (drop-drop (6400 + 20736 * slot) 174336 image) in
    let at : drop (20736 * slot) (drop 6400 (home_in image)) ≡ octets = drop-drop (20736 * slot) 6400 (home_in image) in
    let begins = subst (λ (l : List ℕ). Begins (slot_front (get_or places slot None)) l) at (slot_begins places (drop 6400 (home_in image)) slot (omega (arith, lt, h.all)) h.stand) in
    let whole : front ++ drop 32 octets ≡ octets = ap (λ (l : List ℕ). l ++ drop 32 octets) (is ∙ ap (take 32) there) ∙ take-append-drop 32 octets in
    tells (get_or places slot None) (drop 32 octets) (slot_range places slot h.ranges) (subst (λ (l : List ℕ). Begins (slot_front (get_or places slot None)) l) (sym whole) begins) ∙ sym (number_of places slot)

-- one number more was read
pub number_set : (numbers known : List (Option ℕ)) (slot : ℕ) (number : Option ℕ) → slot < length numbers → ((t : ℕ) → t < slot → number_in numbers t ≡ number_in known t) → number ≡ number_in known slot
    → (t : ℕ) → t < slot + 1 → number_in (set numbers slot number) t ≡ number_in known t
number_set numbers known slot number within old is t lt = by_case (cases_eq t slot)
  where
    by_case : (t ≡ slot) ⊎ (t ≡ slot → ⊥) → number_in (set numbers slot number) t ≡ number_in known t
    by_case (inl e) = ap (number_in (set numbers slot number)) e ∙ get_or-set_same numbers slot number None within ∙ is ∙ ap (number_in known) (sym e)
    by_case (inr e) = get_or-set_other numbers slot t number None e ∙ old t (omega (arith, lt, e))

-- lists with the same number in each slot
pub same_at : (xs ys : List (Option ℕ)) → length xs ≡ length ys → ((slot : ℕ) → slot < length xs → number_in xs slot ≡ number_in ys slot) → xs ≡ ys
same_at [] [] len each = refl
same_at [] (y ∷ ys) len each = absurd (omega (arith, len))
same_at (x ∷ xs) [] len each = absurd (omega (arith, len))
same_at (x ∷ xs) (y ∷ ys) len each =
    ap (λ (o : Option ℕ). o ∷ xs) (each 0 (omega arith)) ∙ ap (λ (l : List (Option ℕ)). y ∷ l) (same_at xs ys (omega (arith, len)) (λ slot lt. each (suc slot) (omega (arith, lt))))

pub length-numbers : (places : List (Option PackageResult)) → length (numbers_of places) ≡ length places
length-numbers [] = refl
length-numbers (p ∷ ps) = ap suc (length-numbers ps)

-- a home has one number in each slot
pub same_numbers : (before after : List (Option PackageResult)) (home : List ℕ) → StandIn before home → StandIn after home → numbers_of before ≡ numbers_of after
same_numbers before after home a b =
    same_at (numbers_of before) (numbers_of after) (length-numbers before ∙ a.all ∙ sym b.all ∙ sym (length-numbers after))
    (λ slot lt. let less : slot < 8 = omega (arith, lt, length-numbers before, a.all) in number_told before home slot less a ∙ sym (number_told after home slot less b))

-- results in rising numbers, in whatever order they stood, are apart
abbrev Apart : PackageResult → PackageResult → Type 0
Apart r s = r.seq ≢ s.seq

insert_apart : (s : PackageResult) (rs : List PackageResult) → EveryPair Apart (insert s rs) → Every (Apart s) rs × EveryPair Apart rs
insert_apart s [] h = (tt, tt)
insert_apart s (r ∷ rs) h = by_value (insert_apart s rs) (nat_le s.seq r.seq) h
  where
    by_value : (EveryPair Apart (insert s rs) → Every (Apart s) rs × EveryPair Apart rs) → (b : Bool) → EveryPair Apart (if b then s ∷ r ∷ rs else r ∷ insert s rs) → Every (Apart s) (r ∷ rs) × EveryPair Apart (r ∷ rs)
    by_value rest true e = (e.0, e.1)
    by_value rest false e =
        let first = insert_every (Apart r) s rs e.0 in
        let k = rest e.1 in
        (((λ f. first.0 (sym f)), k.0), (first.1, k.1))

pub record OnApart (rs ss : List PackageResult) : Type 0 where
  pub former : EveryPair Apart rs
  pub later : EveryPair Apart ss
  pub both : Every (λ s. Every (Apart s) rs) ss

on_apart : (rs ss : List PackageResult) → EveryPair Apart (in_order_on rs ss) → OnApart rs ss
on_apart rs [] h = record { former = h; later = tt; both = tt }
on_apart rs (s ∷ ss) h =
    let k = on_apart (insert s rs) ss h in
    let first = insert_apart s rs k.former in
    record { former = first.1; later = (with_first ss k.both, k.later); both = (first.0, without_first ss k.both) }
  where
    with_first : (ts : List PackageResult) → Every (λ t. Every (Apart t) (insert s rs)) ts → Every (Apart s) ts
    with_first [] each = tt
    with_first (t ∷ ts) each = ((λ f. (insert_every (Apart t) s rs each.0).0 (sym f)), with_first ts each.1)

    without_first : (ts : List PackageResult) → Every (λ t. Every (Apart t) (insert s rs)) ts → Every (λ t. Every (Apart t) rs) ts
    without_first [] each = tt
    without_first (t ∷ ts) each = ((insert_every (Apart t) s rs each.0).1, without_first ts each.1)

rising_apart : (rs : List PackageResult) → EveryPair IsBefore rs → EveryPair Apart rs
rising_apart [] h = tt
rising_apart (r ∷ rs) h = (each rs h.0, rising_apart rs h.1)
  where
    each : (ss : List PackageResult) → Every (IsBefore r) ss → Every (Apart r) ss
    each [] e = tt
    each (s ∷ ss) e = ((λ f. omega (arith, e.0, f)), each ss e.1)

not_in : (r : PackageResult) (places : List (Option PackageResult)) (slot n : ℕ) → r.seq ≡ n → Every (Apart r) (somes places) → number_in (numbers_of places) slot ≡ Some n → ⊥
not_in r [] slot n is each e = cc e
not_in r (None ∷ ps) zero n is each e = cc e
not_in r (None ∷ ps) (suc slot) n is each e = not_in r ps slot n is each e
not_in r (Some p ∷ ps) zero n is each e = each.0 (is ∙ sym (same_Some p.seq n e))
not_in r (Some p ∷ ps) (suc slot) n is each e = not_in r ps slot n is each.1 e

none_apart : (ps : List (Option PackageResult)) → AreApart (numbers_of ps) → (slot other n : ℕ) → number_in (numbers_of (None ∷ ps)) slot ≡ Some n → number_in (numbers_of (None ∷ ps)) other ≡ Some n → slot ≡ other
none_apart ps rest zero other n a b = absurd (cc a)
none_apart ps rest (suc slot) zero n a b = absurd (cc b)
none_apart ps rest (suc slot) (suc other) n a b = ap suc (rest slot other n a b)

some_apart : (p : PackageResult) (ps : List (Option PackageResult)) → Every (Apart p) (somes ps) → AreApart (numbers_of ps) → (slot other n : ℕ) → number_in (numbers_of (Some p ∷ ps)) slot ≡ Some n → number_in (numbers_of (Some p ∷ ps)) other ≡ Some n → slot ≡ other
some_apart p ps first rest zero zero n a b = refl
some_apart p ps first rest zero (suc other) n a b = absurd (not_in p ps other n (same_Some p.seq n a) first b)
some_apart p ps first rest (suc slot) zero n a b = absurd (not_in p ps slot n (same_Some p.seq n b) first a)
some_apart p ps first rest (suc slot) (suc other) n a b = ap suc (rest slot other n a b)

places_apart : (places : List (Option PackageResult)) → EveryPair Apart (somes places) → AreApart (numbers_of places)
places_apart [] h = λ slot other n a b. absurd (cc a)
places_apart (None ∷ ps) h = none_apart ps (places_apart ps h)
places_apart (Some p ∷ ps) h = some_apart p ps h.0 (places_apart ps h.1)

-- what stands in the slots of a settled chip
pub record SettledSlots (home : List ℕ) : Type 0 where
  pub places : List (Option PackageResult)
  pub stand : StandIn places home
  pub apart : AreApart (numbers_of places)

pub settled_slots : (c : FullCard) (s : Seen) → length (home_in s.reads) ≡ 172288 → IsSettled c s → SettledSlots (home_in s.reads)
settled_slots c s size settled =
    let has = (settled_idle c s settled).1 in
    let r = has.results in
    let valid = settled.stands.valid.card.results in
    let pending = c.card.results.pending in
    let len : length (fields c) ≡ 6400 = omega (arith, size, ap length has.parts, length-append (fields c) has.area, r.size) in
    let area : has.area ≡ drop 6400 (home_in s.reads) = sym (ap (drop 6400) has.parts ∙ drop_at (fields c) has.area 6400 len) in
    record {
      places = r.places;
      stand = record {
        all = r.all;
        ranges = somes_every IsResult r.places (in_order_every IsResult (somes r.places) (subst (λ (l : List PackageResult). Every IsResult l) (sym r.each) (pending_fit c.card.results.next pending valid.each)));
        size = size;
        stand = subst (λ (l : List ℕ). AreSlots r.places l) area r.stand;
      };
      apart = places_apart r.places (on_apart [] (somes r.places) (subst (λ (l : List PackageResult). EveryPair Apart l) (sym r.each) (rising_apart pending valid.rising))).later;
    }

-- the new home keeps the slots of the old one
pub homes_keep : (c : FullCard) (s : Seen) (numbers : List (Option ℕ)) (places : List (Option PackageResult)) (new : List ℕ) → length (home_in s.reads) ≡ 172288 → IsSettled c s → TellsNumbers numbers (home_in s.reads)
    → (AreApart numbers → KeepsSlots numbers (numbers_of places)) → StandIn places new → HomesKeepSlots (home_in s.reads) new
homes_keep c s numbers places new size settled told kept stand = λ before after b a.
    let known = settled_slots c s size settled in
    let apart : AreApart numbers = subst AreApart (sym (told known.places known.stand)) known.apart in
    subst (λ (l : List (Option ℕ)). KeepsSlots l (numbers_of after)) (told before b) (subst (λ (l : List (Option ℕ)). KeepsSlots numbers l) (same_numbers places after new stand a) (kept apart))

-- the results of seats are in range
get_range : (rs : List PackageResult) (i : ℕ) → Every IsResult rs → IfSome (slice_get rs i) IsResult
get_range [] i each = tt
get_range (r ∷ rs) zero each = each.0
get_range (r ∷ rs) (suc i) each = get_range rs i each.1

pub places_range : (pending : List PackageResult) (seats : List (Option ℕ)) → Every IsResult pending → Every (λ place. IfSome place IsResult) (places_of pending seats)
places_range pending [] each = tt
places_range pending (None ∷ ss) each = (tt, places_range pending ss each)
places_range pending (Some i ∷ ss) each = (get_range pending i each, places_range pending ss each)

-- the slots of a new home
pub front_stands : (f : FullCard) (places : List (Option PackageResult)) (home : List ℕ) → length places ≡ 8 → Every (λ place. IfSome place IsResult) places → HasFront f places 8 home → StandIn places home
front_stands f places home all ranges has = record {
  all = all;
  ranges = ranges;
  size = omega (arith, ap length has.parts, length-append (fields f) has.area, has.fields_len, has.size);
  stand = subst (λ (l : List ℕ). AreSlots places l) (sym (ap (drop 6400) has.parts ∙ drop_at (fields f) has.area 6400 has.fields_len))
      (subst (λ (ps : List (Option PackageResult)). AreSlots ps has.area) (take_all 8 places (omega (arith, all)))
      (subst (λ (l : List ℕ). AreSlots (take 8 places) l) (take_all (20736 * 8) has.area (omega (arith, has.size))) has.stand));
}
