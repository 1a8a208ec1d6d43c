-- The fields and the slots of a home, put one after the other.
use Rattle.std.proofs.Common.{◌≡◌, ℕ, ◌+◌, ◌*◌, ◌<◌, ◌≤◌, List, [], ◌∷◌, ◌++◌, length, take, drop, refl, sym, ◌∙◌, ap, subst, arith, append_assoc, length-drop, length-take, get_or}
use Rattle.std.specs.Prelude.{Option, None}
use Rattle.std.proofs.Math.Seq.{take-add, take-append-add, drop-append-add}
use Rattle.std.proofs.lemmas.List.{take_all, take-take, take-append-le, drop-append-le, drop_all, take_at, drop_at, take_more, length-take-le}
use Rattle.chip_port.specs.Rules.{put}
use Rattle.chip_port.specs.PastLaws.{length-put}
use Rattle.chip_port.proofs.Apart.{take_before}
use Rattle.small_card.specs.Cards.{FullCard}
use Rattle.small_card.specs.declared.types.PackageResult.{PackageResult}
use Rattle.home_codec.specs.Layout.{slot_front}
use Rattle.home_codec.specs.Homes.{Begins, AreSlots, HasFields, fields}
use Rattle.home_codec.specs.Ordering.{somes, in_order}
use Rattle.card_store.specs.Comparing.{HasFront, Fronted, IsCompared, Compared, IsFound, place_in}
use Rattle.card_store.specs.declared.changes.Changes.{Changes}
use Rattle.card_store.proofs.Compared.{compared_none, compared_all}

-- the fields are put at the front
pub fields_put : (f : FullCard) (places : List (Option PackageResult)) (h : List ℕ) → length (fields f) ≡ 6400 → length h ≡ 172288 → HasFront f places 0 (put h 0 (fields f))
fields_put f places h len size = record {
  fields_len = len;
  area = drop (0 + length (fields f)) h;
  parts = refl;
  size = omega (arith, length-drop (0 + length (fields f)) h, len, size);
  stand = refl;
}

-- a slot more at the end
slots_push : (ps : List (Option PackageResult)) (p : Option PackageResult) (xs slot : List ℕ) → length xs ≡ 20736 * length ps → AreSlots ps xs → Begins (slot_front p) slot → length slot ≡ 20736 → AreSlots (ps ++ p ∷ []) (xs ++ slot)
slots_push [] p xs slot size stand begins len =
    subst (λ (l : List ℕ). AreSlots (p ∷ []) (l ++ slot)) (sym stand) (begins, drop_all 20736 slot (omega (arith, len)))
slots_push (q ∷ qs) p xs slot size stand begins len = (
  take-append-le (length (slot_front q)) xs slot (within (slot_front q) xs stand.0) ∙ stand.0,
  subst (λ (l : List ℕ). AreSlots (qs ++ p ∷ []) l) (sym (drop-append-le 20736 xs slot (omega arith))) (slots_push qs p (drop 20736 xs) slot (omega (arith, length-drop 20736 xs)) stand.1 begins len),
)
  where
    within : (front xs : List ℕ) → take (length front) xs ≡ front → length front ≤ length xs
    within front xs is = omega (arith, ap length is, length-take (length front) xs)

-- behind a front the place is counted from its end
put_behind : (xs ys zs : List ℕ) (k : ℕ) → put (xs ++ ys) (length xs + k) zs ≡ xs ++ put ys k zs
put_behind xs ys zs k =
    let past : length xs + k + length zs ≡ length xs + (k + length zs) = omega arith in
    ap (λ (l : List ℕ). l ++ zs ++ drop (length xs + k + length zs) (xs ++ ys)) (take-append-add xs ys k)
    ∙ ap (λ (l : List ℕ). (xs ++ take k ys) ++ zs ++ l) (ap (λ (n : ℕ). drop n (xs ++ ys)) past ∙ drop-append-add xs ys (k + length zs))
    ∙ ap (λ (l : List ℕ). l ++ drop (k + length zs) ys) (append_assoc xs (take k ys) zs)
    ∙ append_assoc xs (take k ys ++ zs) (drop (k + length zs) ys)

-- a place at a list's front
take_place : (places : List (Option PackageResult)) (n : ℕ) (p : Option PackageResult) → n < length places → get_or places n None ≡ p → take (n + 1) places ≡ take n places ++ p ∷ []
take_place places n p lt is = take_more places n None lt ∙ ap (λ (x : Option PackageResult). take n places ++ x ∷ []) is

slot_begins : (front slot area : List ℕ) (at : ℕ) → slot ≡ take 20736 (drop at (put area at front)) → length front ≤ 18313 → at + 20736 ≤ length area → take (length front) slot ≡ front
slot_begins front slot area at is few room =
    let there : drop at (put area at front) ≡ front ++ drop (at + length front) area =
    ap (λ (l : List ℕ). drop at l) (append_assoc (take at area) front (drop (at + length front) area)) ∙ drop_at (take at area) (front ++ drop (at + length front) area) at (length-take-le at area (omega arith)) in
    ap (λ (l : List ℕ). take (length front) l) (is ∙ ap (λ (l : List ℕ). take 20736 l) there)
    ∙ take-take (length front) 20736 (front ++ drop (at + length front) area) (omega arith)
    ∙ take_at front (drop (at + length front) area) (length front) refl

-- a slot's front is put
pub slot_put : (f : FullCard) (places : List (Option PackageResult)) (n : ℕ) (p : Option PackageResult) (front h : List ℕ) → n < 8 → length places ≡ 8 → get_or places n None ≡ p → front ≡ slot_front p → length front ≤ 18313
    → HasFront f places n h → HasFront f places (n + 1) (put h (6400 + 20736 * n) front)
slot_put f places n p front h lt all is spelled few has =
    let len = has.fields_len in
    let at = 20736 * n in
    let area = put has.area at front in
    let room : at + 20736 ≤ length has.area = omega (arith, has.size, lt) in
    let size : length area ≡ 20736 * 8 = length-put has.area at front (omega (arith, room, few)) ∙ has.size in
    let slot = take 20736 (drop at area) in
    let slot_len : length slot ≡ 20736 = length-take-le 20736 (drop at area) (omega (arith, length-drop at area, size, lt)) in
    let begins : take (length (slot_front p)) slot ≡ slot_front p = subst (λ (l : List ℕ). take (length l) slot ≡ l) spelled (slot_begins front slot has.area at refl few room) in
    let before : take at area ≡ take at has.area = take_before at at front has.area (omega arith) (omega (arith, room)) in
    let next : 20736 * (n + 1) ≡ at + 20736 = omega arith in
    record {
      fields_len = len;
      area = area;
      parts = ap (λ (l : List ℕ). put l (6400 + at) front) has.parts ∙ ap (λ (k : ℕ). put (fields f ++ has.area) (k + at) front) (sym len) ∙ put_behind (fields f) has.area front at;
      size = size;
      stand = subst (λ (ps : List (Option PackageResult)). AreSlots ps (take (20736 * (n + 1)) area)) (sym (take_place places n p (omega arith) is))
          (subst (λ (l : List ℕ). AreSlots (take n places ++ p ∷ []) l) (sym (ap (λ (k : ℕ). take k area) next ∙ take-add at 20736 area ∙ ap (λ (l : List ℕ). l ++ slot) before))
          (slots_push (take n places) p (take at has.area) slot (length-take-le at has.area (omega (arith, room)) ∙ ap (λ (k : ℕ). 20736 * k) (sym (length-take-le n places (omega (arith, all, lt))))) has.stand begins slot_len));
    }

-- all slots
pub front_fields : (f : FullCard) (places : List (Option PackageResult)) (h : List ℕ) → length places ≡ 8 → in_order (somes places) ≡ f.card.results.pending → HasFront f places 8 h → HasFields f h
front_fields f places h all each has = record {
  area = has.area;
  parts = has.parts;
  results = record {
    places = places;
    all = all;
    size = has.size;
    stand = subst (λ (ps : List (Option PackageResult)). AreSlots ps has.area) (take_all 8 places (omega (arith, all)))
        (subst (λ (l : List ℕ). AreSlots (take 8 places) l) (take_all (20736 * 8) has.area (omega (arith, has.size))) has.stand);
    each = each;
  };
}

-- the fields were compared
pub fields_compared : (f : FullCard) (places : List (Option PackageResult)) (c d : Changes) (octets old : List ℕ) → octets ≡ fields f → length octets ≡ 6400 → length old ≡ 172288 → c.blocks ≡ [] → c.octets ≡ []
    → Compared 0 25 octets c d old → Fronted f places 0 d old
fields_compared f places c d octets old is len size blocks none compared =
    let len' : length (fields f) ≡ 6400 = ap length (sym is) ∙ len in
    record {
      home = put old 0 (fields f);
      compared = subst (λ (l : List ℕ). IsCompared d 25 old (put old 0 l)) is (compared old size (compared_none c old blocks none));
      front = fields_put f places old len' size;
    }

-- a slot was compared
pub slot_compared : (f : FullCard) (places : List (Option PackageResult)) (n : ℕ) (p : Option PackageResult) (c d : Changes) (front old : List ℕ) → n < 8 → length places ≡ 8 → place_in places n ≡ p → front ≡ slot_front p → length front ≤ 18313
    → length old ≡ 172288 → Compared (25 + 81 * n) (25 + 81 * (n + 1)) front c d old → Fronted f places n c old → Fronted f places (n + 1) d old
slot_compared f places n p c d front old lt all is spelled few size compared h =
    let at : 256 * (25 + 81 * n) ≡ 6400 + 20736 * n = omega arith in
    record {
      home = put h.home (6400 + 20736 * n) front;
      compared = subst (λ (k : ℕ). IsCompared d (25 + 81 * (n + 1)) old (put h.home k front)) at (compared h.home size h.compared);
      front = slot_put f places n p front h.home lt all is spelled few h.front;
    }

-- all were compared
pub all_compared : (f : FullCard) (places : List (Option PackageResult)) (c : Changes) (old : List ℕ) → length places ≡ 8 → in_order (somes places) ≡ f.card.results.pending → length old ≡ 172288 → Fronted f places 8 c old → IsFound f c old
all_compared f places c old all each size h = record {
  fields = subst (λ (l : List ℕ). HasFields f l) (sym h.compared.makes) (front_fields f places h.home all each h.front);
  each = compared_all c old h.home size h.compared;
}

-- the length of the home
pub home_len : (image : List ℕ) → length image ≡ 346624 → length (drop 174336 image) ≡ 172288
home_len image size = omega (arith, length-drop 174336 image, size)
