-- What is done to a table's entries leaves a table.
use Rattle.std.proofs.Common.{◌≡◌, ℕ, ◌+◌, ◌≤◌, ◌<◌, true, false, not, List, [], ◌∷◌, ◌++◌, length, map, arith, refl, ap, subst, sym, ◌∙◌, Option, None, Some}
use Rattle.std.specs.Prelude.{nat_le, ◌==◌, ◌↔◌, position, remove}
use Rattle.std.proofs.lemmas.Bool.{cond_both, true≢false, leb-true, eqb-true}
use Rattle.std.proofs.lemmas.List.{length-append, length-map}
use Rattle.small_card.specs.Lists.{Every, EveryPair, without}
use Rattle.small_card.specs.Cards.{EimList}
use Rattle.small_card.specs.EimOperations.{is_eim, has_eim, without_eim, with_fields, updated, counted, with_counter, added, last_association, do_eco}
use Rattle.small_card.specs.Valid.{IsEntry, AreEntriesApart, AreEims}
use Rattle.small_card.specs.Numbered.{IsGiven}
use Rattle.small_card.specs.declared.limits.TheConstants.{MOST_EIMS}
use Rattle.small_card.specs.declared.types.EimEntry.{EimEntry}
use Rattle.small_card.specs.declared.types.Eco.TheVariants as eco
use Rattle.small_card.specs.declared.types.Item.{Item}
use Rattle.small_card.specs.declared.types.Item.TheVariants as item
use Rattle.small_card.proofs.ListLemmas.{same_yes, same_no, pair_mono, removed_place, no_place, every_mono, every_both, every_push, every_filter, every_map, pair_push, pair_filter, pair_map, length_filter, none_every}
use Rattle.small_card.proofs.PairTests.{entry_pairs}
use Rattle.small_card.proofs.NumberTests.{given_later, numbered_exactly}
use Rattle.eim_table.specs.Entries.{IsEims, IsInRange, are_eims}

pub valid_eims : (ms : EimList) → AreEims ms → IsEims ms
valid_eims ms h = record {
  few = h.few;
  each = every_mono (IsEntry ms.next) (λ e. IsGiven ms.next e.association) (λ e n. record { some = n.some; given = n.given }) ms.entries h.each;
  pairs = h.apart;
  next = h.next;
}

pub valid_ranges : (ms : EimList) → AreEims ms → Every IsInRange ms.entries
valid_ranges ms h = every_mono (IsEntry ms.next) IsInRange (λ e n. record { id = n.id; address = n.address; key = n.key; counter = n.counter }) ms.entries h.each

pub eims_valid : (ms : EimList) → IsEims ms → Every IsInRange ms.entries → AreEims ms
eims_valid ms h r = record {
  few = h.few;
  each = every_both (λ e. IsGiven ms.next e.association) IsInRange (IsEntry ms.next)
      (λ e g n. record { id = n.id; address = n.address; key = n.key; counter = n.counter; some = g.some; given = g.given }) ms.entries h.each r;
  apart = h.pairs;
  next = h.next;
}

-- the test says exactly whether the entries may stand in a table
pub tested_exactly : (ms : EimList) → ms.next ≤ 4294967295 → (are_eims ms ≡ true) ↔ IsEims ms
unfolding are_eims
tested_exactly ms fits = numbered_exactly entry_pairs MOST_EIMS (λ e. e.association) ms.next ms.entries fits

new_apart : (new e : EimEntry) → is_eim new.id e ≡ false → IsGiven new.association e.association → AreEntriesApart e new
new_apart new e h k = record {
  ids = λ same_id. same_no new.id e.id h (sym same_id);
  associations = λ same_one. omega (arith, k.given, same_one);
}

-- an entry of a new eIM with the next number goes last
pub more_eims : (new : EimEntry) (es : List EimEntry) (next : ℕ) → new.association ≡ next → has_eim new.id es ≡ false → length es < 8 → next < 4294967295 → IsEims (record { entries = es; next = next }) → IsEims (record { entries = es ++ new ∷ []; next = next + 1 })
unfolding has_eim
more_eims new es next e fresh few room h = record {
  few = let l : length (es ++ new ∷ []) ≡ length es + 1 = length-append es (new ∷ []) in omega (arith, few, l);
  each = every_push (λ e. IsGiven (next + 1) e.association) es new (every_mono (λ e. IsGiven next e.association) (λ e. IsGiven (next + 1) e.association) (λ e. given_later next e.association) es h.each)
      (record { some = omega (arith, e, h.next.some); given = omega (arith, e) });
  pairs = pair_push AreEntriesApart es new h.pairs
      (every_both (λ x. is_eim new.id x ≡ false) (λ e. IsGiven next e.association) (λ x. AreEntriesApart x new) (λ x f g. new_apart new x f (record { some = g.some; given = omega (arith, g.given, e) })) es (none_every (is_eim new.id) es fresh) h.each);
  next = record { some = omega arith; fits = omega (arith, room) };
}

pub updated_eims : (id : List ℕ) (address key : Option (List ℕ)) (es : List EimEntry) (next : ℕ) → IsEims (record { entries = es; next = next }) → IsEims (record { entries = updated id address key es; next = next })
unfolding updated
updated_eims id address key es next h = record {
  few = let l : length (map (with_fields id address key) es) ≡ length es = length-map es (with_fields id address key) in omega (arith, l, h.few);
  each = every_map (λ e. IsGiven next e.association) (λ e. IsGiven next e.association) (with_fields id address key) (λ e n. record { some = n.some; given = n.given }) es h.each;
  pairs = pair_map AreEntriesApart AreEntriesApart (with_fields id address key) (λ x y r. record { ids = r.ids; associations = r.associations }) es h.pairs;
  next = h.next;
}

pub updated_length : (id : List ℕ) (address key : Option (List ℕ)) (es : List EimEntry) → length (updated id address key es) ≡ length es
unfolding updated
updated_length id address key es = length-map es (with_fields id address key)

pub counted_eims : (id : List ℕ) (counter : ℕ) (es : List EimEntry) (next : ℕ) → IsEims (record { entries = es; next = next }) → IsEims (record { entries = with_counter id counter es; next = next })
unfolding with_counter
counted_eims id counter es next h = record {
  few = let l : length (map (counted id counter) es) ≡ length es = length-map es (counted id counter) in omega (arith, l, h.few);
  each = every_map (λ e. IsGiven next e.association) (λ e. IsGiven next e.association) (counted id counter) (λ e n. record { some = n.some; given = n.given }) es h.each;
  pairs = pair_map AreEntriesApart AreEntriesApart (counted id counter) (λ x y r. record { ids = r.ids; associations = r.associations }) es h.pairs;
  next = h.next;
}

pub counted_length : (id : List ℕ) (counter : ℕ) (es : List EimEntry) → length (with_counter id counter es) ≡ length es
unfolding with_counter
counted_length id counter es = length-map es (counted id counter)

pub deleted_eims : (id : List ℕ) (es : List EimEntry) (next : ℕ) → IsEims (record { entries = es; next = next }) → IsEims (record { entries = without_eim id es; next = next })
unfolding without_eim
deleted_eims id es next h = record {
  few = let l : length (without (is_eim id) es) ≤ length es = length_filter (λ e. not (is_eim id e)) es in omega (arith, l, h.few);
  each = every_filter (λ e. IsGiven next e.association) (λ e. not (is_eim id e)) es h.each;
  pairs = pair_filter AreEntriesApart (λ e. not (is_eim id e)) es h.pairs;
  next = h.next;
}

pub more_kept : (es left : List EimEntry) (next : ℕ) (new : EimEntry) → new.association ≡ next → has_eim new.id es ≡ false → length es < 8 → next < 4294967295 → left ≡ es ++ new ∷ [] → IsEims (record { entries = es; next = next }) → IsEims (record { entries = left; next = next + 1 })
more_kept es left next new e fresh few room is h = subst (λ xs. IsEims (record { entries = xs; next = next + 1 })) (sym is) (more_eims new es next e fresh few room h)

pub updated_kept : (es left : List EimEntry) (next : ℕ) (id : List ℕ) (address key : Option (List ℕ)) → left ≡ updated id address key es → IsEims (record { entries = es; next = next }) → IsEims (record { entries = left; next = next })
updated_kept es left next id address key is h = subst (λ xs. IsEims (record { entries = xs; next = next })) (sym is) (updated_eims id address key es next h)

pub counted_kept : (es left : List EimEntry) (next : ℕ) (id : List ℕ) (counter : ℕ) → left ≡ with_counter id counter es → IsEims (record { entries = es; next = next }) → IsEims (record { entries = left; next = next })
counted_kept es left next id counter is h = subst (λ xs. IsEims (record { entries = xs; next = next })) (sym is) (counted_eims id counter es next h)

pub deleted_kept : (es left : List EimEntry) (next : ℕ) (id : List ℕ) → left ≡ without_eim id es → IsEims (record { entries = es; next = next }) → IsEims (record { entries = left; next = next })
deleted_kept es left next id is h = subst (λ xs. IsEims (record { entries = xs; next = next })) (sym is) (deleted_eims id es next h)

-- of two entries that are apart, one at most is this eIM's
apart_test : (id : List ℕ) (d e : EimEntry) → AreEntriesApart d e → is_eim id d ≡ true → is_eim id e ≡ false
apart_test id d e h t = elim (is_eim id e) as (λ b. is_eim id e ≡ b → b ≡ false) [
  | true ↦ λ k. absurd (h.ids (sym (same_yes id d.id t) ∙ same_yes id e.id k))
  | false ↦ λ k. refl
] refl

pub removed_eim : (id : List ℕ) (es : List EimEntry) (at : ℕ) → EveryPair AreEntriesApart es → position (is_eim id) es ≡ Some at → remove es at ≡ without_eim id es
unfolding without_eim
removed_eim id es at h e = removed_place (is_eim id) es at (pair_mono AreEntriesApart (λ x y. is_eim id x ≡ true → is_eim id y ≡ false) (apart_test id) es h) e

pub no_eim : (id : List ℕ) (es : List EimEntry) → position (is_eim id) es ≡ None → without_eim id es ≡ es
unfolding without_eim
no_eim id es e = no_place (is_eim id) es e

-- where no refusal applies, the addition is done
pub add_done : (id address key : List ℕ) (es left : List EimEntry) (next : ℕ) → has_eim id es ≡ false → length es < 8 → next < 4294967295 → left ≡ es ++ record { id = id; address = address; key = key; counter = 0; association = next } ∷ [] → (record { entries = left; next = next + 1 }, item.Add 0 next) ≡ do_eco (record { entries = es; next = next }) (eco.Add id address key)
unfolding do_eco added last_association
add_done id address key es left next fresh few room is =
    let ms : EimList = record { entries = es; next = next } in
    let end : EimList × Item = (record { entries = left; next = next + 1 }, item.Add 0 next) in
    cond_both {A = EimList × Item} (has_eim id es) (ms, item.Add 1 0) _ (λ r. end ≡ r) (λ t. absurd (true≢false (sym t ∙ fresh))) (λ _.
    cond_both {A = EimList × Item} (nat_le 8 (length es)) (ms, item.Add 2 0) _ (λ r. end ≡ r) (λ t. absurd (omega (arith, leb-true 8 (length es) t, few))) (λ _.
    cond_both {A = EimList × Item} (next == 4294967295) (ms, item.Add 3 0) (added id address key ms, item.Add 0 next) (λ r. end ≡ r) (λ t. absurd (omega (arith, eqb-true next 4294967295 t, room))) (λ _.
    ap (λ (xs : List EimEntry). (record { entries = xs; next = next + 1 }, item.Add 0 next)) is)))

-- one entry whose association was given out
pub one_eims : (entry : EimEntry) (es : List EimEntry) (next : ℕ) → es ≡ entry ∷ [] → 1 ≤ entry.association → entry.association < next → next ≤ 4294967295 → IsEims (record { entries = es; next = next })
one_eims entry es next is some given fits = subst (λ xs. IsEims (record { entries = xs; next = next })) (sym is) (record {
  few = omega arith;
  each = (record { some = some; given = given }, tt);
  pairs = (tt, tt);
  next = record { some = omega (arith, some, given); fits = fits };
})
