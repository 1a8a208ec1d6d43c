-- The home as it is written has the card's fields.
use Rattle.std.proofs.Common.{◌≡◌, ℕ, zero, suc, ◌+◌, ◌-◌, ◌*◌, ◌≤◌, List, [], ◌∷◌, ◌++◌, length, take, drop, replicate, Option, Some, None, refl, sym, ap, subst, ◌∙◌, arith, append_assoc, length-append}
use Rattle.std.specs.Prelude.{map, Result, Ok, Err, IfOk, IfSome}
use Rattle.std.specs.List.{flat_map}
use Rattle.std.specs.Option.{option_copied}
use denote.Bor.{Bor}
use Rattle.std.proofs.Math.Seq.{take-append_seam}
use Rattle.std.proofs.lemmas.List.{length-replicate, drop_at}
use Rattle.small_card.specs.Lists.{Every}
use Rattle.small_card.specs.Cards.{FullCard}
use Rattle.small_card.specs.Ranges.{IsResult, IsProfile}
use Rattle.small_card.specs.Valid.{IsValid}
use Rattle.small_card.specs.declared.types.Profile.{Profile}
use Rattle.small_card.specs.declared.types.EimEntry.{EimEntry}
use Rattle.small_card.specs.declared.types.PackageResult.{PackageResult}
use Rattle.small_card.specs.declared.types.Armed.{Armed}
use Rattle.result_codec.specs.Spelling.{result}
use Rattle.result_codec.proofs.ResultCodec.{result_few}
use Rattle.home_codec.specs.declared.head.Head.{Head}
use Rattle.home_codec.specs.Fixed.{zeros, word, long, text, slots}
use Rattle.home_codec.specs.Layout.{head, head_of, armed_field, version, state, profile_slot, eim_slot, kept_front, slot_front, result_slot}
use Rattle.home_codec.specs.Ordering.{in_order}
use Rattle.home_codec.specs.Homes.{Begins, HasResults, HasFields, IsHomeOf, fields, home_of}
use Rattle.home_codec.proofs.FixedFields.{length-zeros, length-word, length-long}
use Rattle.home_codec.proofs.Sections.{IsHead, IsArmedField, IsEimSlot}
use Rattle.home_codec.proofs.Sorting.{rising_in_order, somes_first}
use Rattle.home_codec.proofs.ResultSlots.{StandIn, slots_from}
use Rattle.home_codec.proofs.Parts.{entries_fit, pending_fit, valid_head}

pub zeros_add : (a b : ℕ) → zeros (a + b) ≡ zeros a ++ zeros b
unfolding zeros
zeros_add zero b = let e : zero + b ≡ b = omega arith in ap (λ (n : ℕ). replicate n 0) e
zeros_add (suc a) b =
    let e : suc a + b ≡ suc (a + b) = omega arith in
    ap (λ (n : ℕ). replicate n 0) e ∙ ap (λ (l : List ℕ). 0 ∷ l) (zeros_add a b)

zero_word : word 0 ≡ zeros 4
unfolding word zeros
zero_word = refl

length-text : (n : ℕ) (x : List ℕ) → length x ≤ n → length (text n x) ≡ n + 1
unfolding text
length-text n x few = omega (arith, length-append x (zeros (n - length x)), length-zeros (n - length x))

length-armed : (o : Option Armed) → IsArmedField o → length (armed_field o) ≡ 15
unfolding armed_field
length-armed None h = omega (arith, length-zeros 14)
length-armed (Some a) h = omega (arith, length-append a.former (word a.seq), h.0.len, length-word a.seq)

length-head : (h : Head) → IsHead h → length (head h) ≡ 256
unfolding head
length-head h fits =
    let end = zeros 214 in
    let armed = armed_field h.armed in
    omega (
      arith,
      length-append (version ∷ h.eid) (h.profiles ∷ h.eims ∷ word h.association ++ (word h.seq ++ (armed ++ end))),
      length-append (word h.association) (word h.seq ++ (armed ++ end)),
      length-append (word h.seq) (armed ++ end),
      length-append armed end,
      length-word h.association,
      length-word h.seq,
      length-armed h.armed fits.armed,
      length-zeros 214,
      fits.eid.len,
    )

length-profile_slot : (p : Profile) → IsProfile p → length (profile_slot p) ≡ 128
unfolding profile_slot
length-profile_slot p h = omega (arith, length-append p.iccid (state p ∷ text 64 p.nickname ++ zeros 52), length-append (text 64 p.nickname) (zeros 52), length-text 64 p.nickname h.nickname.few, length-zeros 52, h.iccid.len)

length-eim_slot : (e : EimEntry) → IsEimSlot e → length (eim_slot e) ≡ 512
unfolding eim_slot
length-eim_slot e h =
    let end = zeros 113 in
    omega (
      arith,
      length-append (text 128 e.id) (text 128 e.address ++ (text 128 e.key ++ (long e.counter ++ (word e.association ++ end)))),
      length-append (text 128 e.address) (text 128 e.key ++ (long e.counter ++ (word e.association ++ end))),
      length-append (text 128 e.key) (long e.counter ++ (word e.association ++ end)),
      length-append (long e.counter) (word e.association ++ end),
      length-append (word e.association) end,
      length-text 128 e.id h.id.few,
      length-text 128 e.address h.address.few,
      length-text 128 e.key h.key.few,
      length-long e.counter,
      length-word e.association,
      length-zeros 113,
    )

pub length-kept_front : (r : PackageResult) → length (kept_front r) ≡ 4 + length (result r)
unfolding kept_front
length-kept_front r = omega (arith, length-append (word (length (result r))) (result r), length-word (length (result r)))

length-result_slot : (r : PackageResult) → IsResult r → length (result_slot r) ≡ 20736
unfolding result_slot
length-result_slot r h =
    let end = zeros (20732 - length (result r)) in
    omega (arith, length-append (kept_front r) end, length-kept_front r, length-zeros (20732 - length (result r)), result_few r h)

-- a slot begins with at most 18,313 octets that are looked at
pub length-slot_front : (place : Option PackageResult) → IfSome place IsResult → length (slot_front place) ≤ 18313
unfolding slot_front
length-slot_front None h = omega (arith, length-word 0)
length-slot_front (Some r) h = omega (arith, length-kept_front r, result_few r h)

length-flat : {X : Type 0} (spell : X → List ℕ) (Fits : X → Type 0) (size : ℕ) → ((x : X) → Fits x → length (spell x) ≡ size) → (xs : List X) → Every Fits xs → length (flat_map spell xs) ≡ size * length xs
length-flat spell Fits size len [] each = omega arith
length-flat spell Fits size len (x ∷ xs) each = omega (arith, length-append (spell x) (flat_map spell xs), len x each.0, length-flat spell Fits size len xs each.1)

products : (size n k : ℕ) → size * n + size * k ≡ size * (n + k)
products size n k = omega arith

length-slots : {X : Type 0} (spell : X → List ℕ) (Fits : X → Type 0) (size all : ℕ) → ((x : X) → Fits x → length (spell x) ≡ size) → (xs : List X) → length xs ≤ all → Every Fits xs → length (slots spell size all xs) ≡ size * all
unfolding slots
length-slots spell Fits size all len xs few each =
    let n = length xs in
    let back : n + (all - n) ≡ all = omega arith in
    let whole : size * n + size * (all - n) ≡ size * all = products size n (all - n) ∙ ap (λ (m : ℕ). size * m) back in
    omega (arith, length-append (flat_map spell xs) (zeros (size * (all - n))), length-zeros (size * (all - n)), length-flat spell Fits size len xs each, whole)

zeros_front : (n : ℕ) → 4 ≤ n → zeros n ≡ word 0 ++ zeros (n - 4)
zeros_front n le =
    let is : n ≡ 4 + (n - 4) = omega arith in
    ap zeros is ∙ zeros_add 4 (n - 4) ∙ ap (λ (l : List ℕ). l ++ zeros (n - 4)) (sym zero_word)

no_zeros : (n : ℕ) → n ≡ 0 → zeros n ≡ []
unfolding zeros
no_zeros n is = ap (λ (k : ℕ). replicate k 0) is

-- the slots behind the results are free
free_stand : (size m : ℕ) → 4 ≤ size → StandIn size (replicate m None) (zeros (size * m))
unfolding slot_front
free_stand size zero room = no_zeros (size * zero) (omega arith)
free_stand size (suc m) room =
    let split : size * suc m ≡ size + size * m = omega arith in
    let whole : zeros (size * suc m) ≡ zeros size ++ zeros (size * m) = ap zeros split ∙ zeros_add size (size * m) in
    let front = zeros_front (size * suc m) (omega (arith, split)) in (
      ap (take (length (word 0))) front ∙ take-append_seam (word 0) (zeros (size * suc m - 4)),
      subst (λ (l : List ℕ). StandIn size (replicate m None) l) (sym (ap (drop size) whole ∙ drop_at (zeros size) (zeros (size * m)) size (length-zeros size))) (free_stand size m room),
    )

slot_begins : (r : PackageResult) (rest : List ℕ) → Begins (slot_front (Some r)) (result_slot r ++ rest)
unfolding slot_front result_slot
slot_begins r rest =
    let end = zeros (20732 - length (result r)) in
    let grouped : (kept_front r ++ end) ++ rest ≡ kept_front r ++ (end ++ rest) = append_assoc (kept_front r) end rest in
    ap (take (length (kept_front r))) grouped ∙ take-append_seam (kept_front r) (end ++ rest)

-- the results stand in the first slots, and the other slots are free
written_stand : (size m : ℕ) (rs : List PackageResult) → 4 ≤ size → ((r : PackageResult) → IsResult r → length (result_slot r) ≡ size) → Every IsResult rs
    → StandIn size (map (λ r. Some r) rs ++ replicate m None) (flat_map result_slot rs ++ zeros (size * m))
written_stand size m [] room len each = free_stand size m room
written_stand size m (r ∷ rs) room len each =
    let rest = flat_map result_slot rs ++ zeros (size * m) in
    let grouped : (result_slot r ++ flat_map result_slot rs) ++ zeros (size * m) ≡ result_slot r ++ rest = append_assoc (result_slot r) (flat_map result_slot rs) (zeros (size * m)) in (
      subst (λ (l : List ℕ). Begins (slot_front (Some r)) l) (sym grouped) (slot_begins r rest),
      subst (λ (l : List ℕ). StandIn size (map (λ r. Some r) rs ++ replicate m None) l) (sym (ap (drop size) grouped ∙ drop_at (result_slot r) rest size (len r each.0))) (written_stand size m rs room len each.1),
    )

length-places : (rs : List PackageResult) (m : ℕ) → length (map (λ r. Some r) rs ++ replicate m None) ≡ length rs + m
length-places [] m = length-replicate m None ∙ omega arith
length-places (r ∷ rs) m = omega (arith, length-places rs m)

written_results : (f : FullCard) → IsValid f → HasResults f.card.results.pending (slots result_slot 20736 8 f.card.results.pending)
unfolding slots
written_results f valid =
    let rs = f.card.results.pending in
    let results = valid.card.results in
    let each = pending_fit f.card.results.next rs results.each in
    record {
      places = map (λ r. Some r) rs ++ replicate (8 - length rs) None;
      all = omega (arith, length-places rs (8 - length rs), results.few);
      size = omega (arith, length-append (flat_map result_slot rs) (zeros (20736 * (8 - length rs))), length-zeros (20736 * (8 - length rs)), length-flat result_slot IsResult 20736 length-result_slot rs each, results.few);
      stand = slots_from (map (λ r. Some r) rs ++ replicate (8 - length rs) None) _ (written_stand 20736 (8 - length rs) rs (omega arith) length-result_slot each);
      each = ap in_order (somes_first rs (8 - length rs)) ∙ rising_in_order rs results.rising;
    }

-- the home as it is written has the card's fields
pub written_fields : (f : FullCard) → IsValid f → HasFields f (home_of f)
written_fields f valid = record { area = slots result_slot 20736 8 f.card.results.pending; parts = refl; results = written_results f valid }

-- the length of the fields
pub length-fields : (f : FullCard) → IsValid f → length (fields f) ≡ 6400
length-fields f valid =
    let ps = f.card.profiles in
    let ms = f.card.eims in
    let P = slots profile_slot 128 16 ps in
    let E = slots eim_slot 512 8 ms.entries in
    omega (
      arith,
      length-append (head (head_of f)) (P ++ E),
      length-append P E,
      length-head (head_of f) (valid_head f valid),
      length-slots profile_slot IsProfile 128 16 length-profile_slot ps valid.card.profiles.few valid.card.profiles.each,
      length-slots eim_slot IsEimSlot 512 8 length-eim_slot ms.entries valid.card.eims.few (entries_fit ms.next ms.entries valid.card.eims.next.fits valid.card.eims.each),
    )

-- the length of a home
pub length-home : (f : FullCard) (home : List ℕ) → IsHomeOf f home → length home ≡ 172288
length-home f home h =
    omega (arith, ap length h.fields.parts, length-append (fields f) h.fields.area, length-fields f h.valid, h.fields.results.size)

-- the home as it is written is the card's
pub written_home : (f : FullCard) → IsValid f → IsHomeOf f (home_of f)
written_home f valid = record { fields = written_fields f valid; valid = valid }

-- what holds of what was written, where there was memory for it
pub on_written : {E : Type 0} (P : List ℕ → Type 0) (octets : List ℕ) (r : Result (List ℕ) E) → P octets → IfOk r (λ written. written ≡ octets) → IfOk r P
on_written P octets (Ok written) h is = subst P (sym is) h
on_written P octets (Err e) h is = tt

-- what a lent result is in range of
pub results_copied : (place : Option (Bor PackageResult)) → IfSome place (λ kept. IsResult kept.now) → IfSome (option_copied place) IsResult
results_copied None h = tt
results_copied (Some kept) h = h
