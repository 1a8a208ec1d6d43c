-- The tests of a card's parts say that the card is valid, where the parts are in their ranges.
use Rattle.std.proofs.Common.{◌≡◌, ℕ, ◌≤◌, ◌<◌, Bool, true, false, not, ◌&&◌, List, [], ◌∷◌, length, Option, Some, None, refl, sym, subst, arith, inl, inr}
use Rattle.std.specs.Prelude.{nat_le, ◌↔◌}
use Rattle.std.specs.List.{list_all, list_any}
use Rattle.std.proofs.lemmas.Bool.{eqb-true, and_parts, and_from, or_cases, false_from_ne_true, leb-true, le-leb}
use Rattle.sgp_values.specs.Iccids.{IsIccid}
use Rattle.small_card.specs.Lists.{Every}
use Rattle.small_card.specs.Cards.{SmallCard, FullCard, EimList, Results}
use Rattle.small_card.specs.Pairs.{each_pair, are_profiles_apart}
use Rattle.small_card.specs.Profiles.{is_iccid, has_profile}
use Rattle.small_card.specs.Ranges.{IsProfile, IsTable, IsResult, greatest_counter}
use Rattle.small_card.specs.Units.{has_seq}
use Rattle.small_card.specs.Valid.{IsEntry, IsPending, IsValidCard, is_unmarked, IsArmed, IsValid}
use Rattle.small_card.specs.declared.types.Profile.{Profile}
use Rattle.small_card.specs.declared.types.EimEntry.{EimEntry}
use Rattle.small_card.specs.declared.types.PackageResult.{PackageResult}
use Rattle.small_card.specs.declared.types.Armed.{Armed}
use Rattle.small_card.proofs.ListLemmas.{same_yes}
use Rattle.small_card.proofs.PairTests.{each_again, pairs_take, pairs_again, profile_pairs}
use Rattle.profile_table.specs.Tables.{MayStand}
use Rattle.eim_table.specs.Entries.{IsEims, IsInRange, are_eims}
use Rattle.eim_table.proofs.Keeping.{valid_eims, eims_valid}
use Rattle.eim_table.proofs.Keeping.{valid_ranges as eims_ranges, tested_exactly as eims_exactly}
use Rattle.result_store.specs.Stores.{IsStore, is_store}
use Rattle.result_store.proofs.Keeping.{valid_store}
use Rattle.result_store.proofs.Testing.{store_valid}
use Rattle.result_store.proofs.Testing.{tested_exactly as store_exactly}
use Rattle.home_codec.specs.Layout.{head_of}
use Rattle.home_codec.specs.Reading.{is_counted, is_armed, fits_together}
use Rattle.home_codec.proofs.Sections.{IsHead, IsArmedField, IsEimSlot}

counted_take : (e : EimEntry) → is_counted e ≡ true → e.counter ≤ greatest_counter
counted_take e test = leb-true e.counter greatest_counter test

in_range : (es : List EimEntry) → Every IsEimSlot es → list_all is_counted es ≡ true → Every IsInRange es
in_range [] fits e = tt
in_range (x ∷ xs) fits e =
    let k = and_parts (is_counted x) (list_all is_counted xs) e in
    (record { id = fits.0.id; address = fits.0.address; key = fits.0.key; counter = counted_take x k.0 }, in_range xs fits.1 k.1)

counted_again : (es : List EimEntry) → Every IsInRange es → list_all is_counted es ≡ true
counted_again es h = each_again is_counted IsInRange (λ e r. le-leb e.counter greatest_counter r.counter) es h

pub entries_fit : (next : ℕ) (es : List EimEntry) → next ≤ 4294967295 → Every (IsEntry next) es → Every IsEimSlot es
entries_fit next [] few h = tt
entries_fit next (x ∷ xs) few h =
    (record { id = h.0.id; address = h.0.address; key = h.0.key; counter = omega (arith, h.0.counter); association = omega (arith, h.0.given) }, entries_fit next xs few h.1)

pub pending_fit : (next : ℕ) (rs : List PackageResult) → Every (IsPending next) rs → Every IsResult rs
pending_fit next [] h = tt
pending_fit next (r ∷ rs) h = (h.0.result, pending_fit next rs h.1)

-- a profile of a table has an ICCID
former_fits : (former : List ℕ) (ps : List Profile) → Every IsProfile ps → has_profile former ps ≡ true → IsIccid former
unfolding has_profile
former_fits former [] each e = absurd cc
former_fits former (p ∷ ps) each e =
    elim (or_cases (is_iccid former p) (list_any (is_iccid former) ps) e) [
      | inl h ↦ subst (λ (l : List ℕ). IsIccid l) (sym (same_yes former p.iccid h)) each.0.iccid
      | inr h ↦ former_fits former ps each.1 h
    ]

-- a pending result has a number below the next
seq_fits : (seq next : ℕ) (rs : List PackageResult) → Every (IsPending next) rs → is_unmarked seq rs ≡ true → seq < next
seq_fits seq next [] each e = absurd cc
seq_fits seq next (r ∷ rs) each e =
    elim (or_cases (has_seq seq r && not r.rolled) (is_unmarked seq rs) e) [
      | inl h ↦ let is : r.seq ≡ seq = eqb-true r.seq seq (and_parts (has_seq seq r) (not r.rolled) h).0 in omega (arith, each.0.given)
      | inr h ↦ seq_fits seq next rs each.1 h
    ]

armed_fits : (c : SmallCard) (o : Option Armed) → IsValidCard c → ((a : Armed) → o ≡ Some a → IsArmed c a) → IsArmedField o
armed_fits c None valid h = tt
armed_fits c (Some a) valid h =
    let k = h a refl in
    (former_fits a.former c.profiles valid.profiles.each k.former, omega (arith, seq_fits a.seq c.results.next c.results.pending valid.results.each k.result, k.room))

pub valid_head : (f : FullCard) → IsValid f → IsHead (head_of f)
valid_head f h = record { eid = h.card.eid; association = h.card.eims.next.fits; seq = h.card.results.next.fits; armed = armed_fits f.card f.armed h.card h.armed }

armed_test : (c : SmallCard) (o : Option Armed) → ((a : Armed) → o ≡ Some a → IsArmed c a) → is_armed c.profiles c.results o ≡ true
armed_test c None h = refl
armed_test c (Some a) h = let k = h a refl in and_from _ _ (and_from _ _ k.former k.result) (le-leb c.results.next 4294967294 k.room)

armed_told : (c : SmallCard) (o : Option Armed) → is_armed c.profiles c.results o ≡ true → (a : Armed) → o ≡ Some a → IsArmed c a
armed_told c o e a is =
    let test : is_armed c.profiles c.results (Some a) ≡ true = subst (λ (p : Option Armed). is_armed c.profiles c.results p ≡ true) is e in
    let k = and_parts (has_profile a.former c.profiles && is_unmarked a.seq c.results.pending) (nat_le c.results.next 4294967294) test in
    let l = and_parts (has_profile a.former c.profiles) (is_unmarked a.seq c.results.pending) k.0 in
    record { former = l.0; result = l.1; room = leb-true c.results.next 4294967294 k.1 }

-- the parts of a valid card fit together
pub valid_fits : (f : FullCard) → IsValid f → fits_together f ≡ true
unfolding fits_together
valid_fits f h =
    let ms = h.card.eims in
    let rs = h.card.results in
    and_from _ _ (pairs_again profile_pairs f.card.profiles h.card.profiles.apart)
    (and_from _ _
    (and_from _ _
    (and_from _ _ ((eims_exactly f.card.eims ms.next.fits).1 (valid_eims f.card.eims ms)) ((store_exactly f.card.results rs.next.fits).1 (valid_store f.card.results rs)))
    (counted_again f.card.eims.entries (eims_ranges f.card.eims ms)))
    (armed_test f.card f.armed h.armed))

-- the parts of a card are in their ranges
pub record AreInRange (f : FullCard) : Type 0 where
  pub head : IsHead (head_of f)
  pub profiles_few : length f.card.profiles ≤ 16
  pub profiles : Every IsProfile f.card.profiles
  pub eims_few : length f.card.eims.entries ≤ 8
  pub eims : Every IsEimSlot f.card.eims.entries
  pub pending_few : length f.card.results.pending ≤ 8
  pub pending : Every IsResult f.card.results.pending

-- the tests on the eIMs, the results and what is armed
pub record AreTested (ms : EimList) (rs : Results) (test : Bool) : Type 0 where
  pub eims : IsEims ms
  pub store : IsStore rs
  pub counted : list_all is_counted ms.entries ≡ true
  pub armed : test ≡ true

pub tested : (ms : EimList) (rs : Results) (armed : Bool) → ms.next ≤ 4294967295 → rs.next ≤ 4294967295 → (are_eims ms && is_store rs && list_all is_counted ms.entries && armed) ≡ true → AreTested ms rs armed
tested ms rs armed given numbered e =
    let k = and_parts (are_eims ms && is_store rs && list_all is_counted ms.entries) armed e in
    let l = and_parts (are_eims ms && is_store rs) (list_all is_counted ms.entries) k.0 in
    let m = and_parts (are_eims ms) (is_store rs) l.0 in
    record { eims = (eims_exactly ms given).0 m.0; store = (store_exactly rs numbered).0 m.1; counted = l.1; armed = k.1 }

-- a card whose parts are in range and fit together is valid
pub fits_valid : (f : FullCard) → AreInRange f → fits_together f ≡ true → IsValid f
unfolding fits_together
fits_valid f r e =
    let ms = f.card.eims in
    let rs = f.card.results in
    let armed = is_armed f.card.profiles rs f.armed in
    let k = and_parts (each_pair are_profiles_apart f.card.profiles) (are_eims ms && is_store rs && list_all is_counted ms.entries && armed) e in
    let t = tested ms rs armed r.head.association r.head.seq k.1 in
    record {
      card = record {
        eid = r.head.eid;
        profiles = record { few = r.profiles_few; each = r.profiles; apart = pairs_take profile_pairs f.card.profiles k.0 };
        eims = eims_valid ms t.eims (in_range ms.entries r.eims t.counted);
        results = store_valid rs t.store r.pending;
      };
      armed = armed_told f.card f.armed t.armed;
    }

-- profiles that are in no table aren't apart
pub no_table : (ps : List Profile) → length ps ≤ 16 → (MayStand ps → ⊥) → each_pair are_profiles_apart ps ≡ false
no_table ps few h = false_from_ne_true _ (λ e. h (record { few = few; apart = pairs_take profile_pairs ps e }))

pub table_apart : (ps : List Profile) → IsTable ps → each_pair are_profiles_apart ps ≡ true
table_apart ps h = pairs_again profile_pairs ps h.apart

-- two tests of one fact are the same
same_tests : {P : Type 0} (a b : Bool) → (a ≡ true) ↔ P → (b ≡ true) ↔ P → a ≡ b
same_tests true b f g = sym (g.1 (f.0 refl))
same_tests false true f g = f.1 (g.0 refl)
same_tests false false f g = refl

pub same_eims : (test : Bool) (ms : EimList) → ms.next ≤ 4294967295 → (test ≡ true) ↔ IsEims ms → test ≡ are_eims ms
same_eims test ms fits is = same_tests test (are_eims ms) is (eims_exactly ms fits)

pub same_store : (test : Bool) (rs : Results) → rs.next ≤ 4294967295 → (test ≡ true) ↔ IsStore rs → test ≡ is_store rs
same_store test rs fits is = same_tests test (is_store rs) is (store_exactly rs fits)
