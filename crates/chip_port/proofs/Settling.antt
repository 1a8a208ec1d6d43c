-- Copying what was written since the last sync makes two images one.
use Rattle.std.proofs.Common.{◌≡◌, ◌⊎◌, inl, inr, ℕ, ◌+◌, ◌-◌, ◌≤◌, ◌<◌, true, leb, subst, List, [], ◌∷◌, length, take, drop, get_or, refl, sym, ◌∙◌, ap, arith, replicate, reverse}
use Rattle.std.proofs.lemmas.Grind.{common_steps, same_number_lists}
use Rattle.std.proofs.lemmas.Bool.Decides.{nat_tests}
use Rattle.std.proofs.lemmas.List.{places, length-replicate, reverse-append, take_more}
use Rattle.std.proofs.lemmas.Bool.{cases_Bool}
use Rattle.chip_port.specs.declared.medium.Record.{Record}
use Rattle.chip_port.specs.declared.medium.Record.TheVariants.{Write, Sync, Answer, Cut, PowerCycle}
use Rattle.chip_port.specs.declared.medium.Survives.{Survives}
use Rattle.chip_port.specs.Rules.{put}
use Rattle.chip_port.specs.Past.{Images, images, fits, zeros}
use Rattle.chip_port.specs.PastLaws.{length-put, length-zeros, sized, fits_wrote}
use Rattle.chip_port.specs.Medium.{Agree, IsKept, IsSettled, all_fit, past_of}

-- an octet outside of a write is as before
get_or-put_outside : (image : List ℕ) (at : ℕ) (octets : List ℕ) (n i : ℕ) → at + n ≤ length image → length octets ≤ n → (i + 1 ≤ at) ⊎ (at + n ≤ i) → get_or (put image at octets) i 0 ≡ get_or image i 0
get_or-put_outside image at octets n i inside short (inl below) = grind (arith, places)
get_or-put_outside image at octets n i inside short (inr above) = grind (arith, places)

get_or-part : (xs : List ℕ) (at n i : ℕ) → at ≤ i → i < at + n → get_or (take n (drop at xs)) (i - at) 0 ≡ get_or xs i 0
get_or-part xs at n i from under = grind (arith, places)

-- an octet inside of a write is one of those written
get_or-put_inside : (image : List ℕ) (at : ℕ) (octets : List ℕ) (i : ℕ) → at + length octets ≤ length image → at ≤ i → i < at + length octets → get_or (put image at octets) i 0 ≡ get_or octets (i - at) 0
get_or-put_inside image at octets i inside above below = grind (arith, places)

agree_self : (size : ℕ) (records : List Record) (one : List ℕ) → all_fit size records ≡ true → length one ≡ size → Agree size records one one
agree_self size records one fit e = record { fit = fit; one_size = e; two_size = e; same = λ i settled. refl }

-- a write may change its range in either image
agree_write : (size at n kept : ℕ) (older : List Record) (one two os ps : List ℕ) → Agree size older one two → at + n ≤ size → length os ≤ n → length ps ≤ n
    → Agree size (Write at n kept ∷ older) (put one at os) (put two at ps)
agree_write size at n kept older one two os ps a inside short small = record {
  fit = let f = a.fit in grind (arith, nat_tests);
  one_size = length-put one at os (omega (arith, a.one_size)) ∙ a.one_size;
  two_size = length-put two at ps (omega (arith, a.two_size)) ∙ a.two_size;
  same = λ i settled. get_or-put_outside one at os n i (omega (arith, a.one_size)) short settled.0 ∙ a.same i settled.1 ∙ sym (get_or-put_outside two at ps n i (omega (arith, a.two_size)) small settled.0);
}

-- a write that leaves the one image
agree_other : (size at n kept : ℕ) (older : List Record) (one two ps : List ℕ) → Agree size older one two → at + n ≤ size → length ps ≤ n → Agree size (Write at n kept ∷ older) one (put two at ps)
agree_other size at n kept older one two ps a inside small = record {
  fit = let f = a.fit in grind (arith, nat_tests);
  one_size = a.one_size;
  two_size = length-put two at ps (omega (arith, a.two_size)) ∙ a.two_size;
  same = λ i settled. a.same i settled.1 ∙ sym (get_or-put_outside two at ps n i (omega (arith, a.two_size)) small settled.0);
}

pub write_fits : (size at n kept : ℕ) (older : List Record) → all_fit size (Write at n kept ∷ older) ≡ true → (at + n ≤ size) × (all_fit size older ≡ true)
write_fits size at n kept older f = (grind (arith, nat_tests), grind (arith, nat_tests))

-- after a range was copied the two agree there too
pub agree_copied : (size at n kept : ℕ) (older : List Record) (one two : List ℕ) → Agree size (Write at n kept ∷ older) one two → Agree size older (put one at (take n (drop at two))) two
agree_copied size at n kept older one two a =
    let f = write_fits size at n kept older a.fit in
    let e : length (take n (drop at two)) ≡ n = let t = a.two_size in grind (arith, common_steps) in
    let l : at + length (take n (drop at two)) ≤ length one = omega (arith, a.one_size) in
    record {
      fit = f.1;
      one_size = length-put one at (take n (drop at two)) l ∙ a.one_size;
      two_size = a.two_size;
      same = λ i settled. same_at i settled f.0 e l;
    }
  where
    same_at : (i : ℕ) → IsSettled i older → at + n ≤ size → length (take n (drop at two)) ≡ n → at + length (take n (drop at two)) ≤ length one
        → get_or (put one at (take n (drop at two))) i 0 ≡ get_or two i 0
    same_at i settled inside e l = elim (cases_Bool (leb (i + 1) at)) [
      | inl yes_below ↦
          let below : i + 1 ≤ at = grind (arith, nat_tests) in
          get_or-put_outside one at (take n (drop at two)) n i (omega (arith, a.one_size)) (omega (arith, e)) (inl below) ∙ a.same i (inl below, settled)
      | inr not_below ↦
          let from : at ≤ i = grind (arith, nat_tests) in
          elim (cases_Bool (leb (at + n) i)) [
            | inl yes_above ↦
                let above : at + n ≤ i = grind (arith, nat_tests) in
                get_or-put_outside one at (take n (drop at two)) n i (omega (arith, a.one_size)) (omega (arith, e)) (inr above) ∙ a.same i (inr above, settled)
            | inr not_above ↦
                let under : i < at + n = grind (arith, nat_tests) in
                get_or-put_inside one at (take n (drop at two)) i l from (omega (arith, e, under)) ∙ get_or-part two at n i from under
          ]
    ]

-- where nothing is unsynced the two are one
pub agree_none : (size : ℕ) (one two : List ℕ) → Agree size [] one two → one ≡ two
agree_none size one two a = same_number_lists one two (a.one_size ∙ sym a.two_size) (λ i h. a.same i tt)

pub agree_sync : (size : ℕ) (older : List Record) (one two : List ℕ) → Agree size (Sync ∷ older) one two → one ≡ two
agree_sync size older one two a = same_number_lists one two (a.one_size ∙ sym a.two_size) (λ i h. a.same i tt)

pub agree_power_cycle : (size : ℕ) (survives : Survives) (older : List Record) (one two : List ℕ) → Agree size (PowerCycle survives ∷ older) one two → one ≡ two
agree_power_cycle size survives older one two a = same_number_lists one two (a.one_size ∙ sym a.two_size) (λ i h. a.same i tt)

-- the last of the first few records comes first in the reverse
back_one : (records : List Record) (k : ℕ) (d r : Record) → k < length records → get_or records k d ≡ r → reverse (take (k + 1) records) ≡ r ∷ reverse (take k records)
back_one records k d r h is =
    ap (λ (l : List Record). reverse l) (take_more records k d h) ∙ reverse-append (take k records) (get_or records k d ∷ []) ∙ ap (λ (x : Record). x ∷ reverse (take k records)) is

pub stepped : (size : ℕ) (records : List Record) (left : ℕ) (d r : Record) (one two : List ℕ) → 0 < left → left ≤ length records → get_or records (left - 1) d ≡ r
    → Agree size (reverse (take left records)) one two → Agree size (r ∷ reverse (take (left - 1) records)) one two
stepped size records left d r one two pos le is a =
    let e : left ≡ left - 1 + 1 = omega arith in
    subst (λ (l : List Record). Agree size l one two) (back_one records (left - 1) d r (omega arith) is) (subst (λ (k : ℕ). Agree size (reverse (take k records)) one two) e a)

-- both further images agree with the content
pub record BothAgree (size : ℕ) (records : List Record) (i : Images) : Type 0 where
  pub synced : Agree size records i.synced i.content
  pub junk : Agree size records i.junk i.content

images_agree : (size : ℕ) (records : List Record) (octets : List ℕ) → fits size (past_of records octets) ≡ true → BothAgree size records (images size (past_of records octets))
images_agree size [] octets f = record { synced = agree_self size [] (zeros size) refl (length-zeros size); junk = agree_self size [] (zeros size) refl (length-zeros size) }
images_agree size (Write at n kept ∷ older) octets f =
    let os = drop (length octets - kept) octets in
    let rest = take (length octets - kept) octets in
    let w = fits_wrote size at n os (past_of older rest) f in
    let ih = images_agree size older rest w.rest in
    let i = images size (past_of older rest) in
    record {
      synced = agree_other size at n kept older i.synced i.content os ih.synced w.inside w.short;
      junk = agree_write size at n kept older i.junk i.content (replicate n 165) os ih.junk w.inside (omega (arith, length-replicate {A = ℕ} n 165)) w.short;
    }
images_agree size (Sync ∷ older) octets f =
    let ih = images_agree size older octets f in
    let s = agree_self size (Sync ∷ older) (images size (past_of older octets)).content ih.synced.fit ih.synced.two_size in
    record { synced = s; junk = s }
images_agree size (Answer cuts breaks ∷ older) octets f =
    let ih = images_agree size older octets f in
    record {
      synced = record { fit = ih.synced.fit; one_size = ih.synced.one_size; two_size = ih.synced.two_size; same = ih.synced.same };
      junk = record { fit = ih.junk.fit; one_size = ih.junk.one_size; two_size = ih.junk.two_size; same = ih.junk.same };
    }
images_agree size (Cut tear ∷ older) octets f =
    let ih = images_agree size older octets f in
    record {
      synced = record { fit = ih.synced.fit; one_size = ih.synced.one_size; two_size = ih.synced.two_size; same = ih.synced.same };
      junk = record { fit = ih.junk.fit; one_size = ih.junk.one_size; two_size = ih.junk.two_size; same = ih.junk.same };
    }
images_agree size (PowerCycle survives ∷ older) octets f =
    let ih = images_agree size older octets f in
    let z = sized size (past_of (PowerCycle survives ∷ older) octets) f in
    let s = agree_self size (PowerCycle survives ∷ older) (images size (past_of (PowerCycle survives ∷ older) octets)).content ih.synced.fit z.content in
    record { synced = s; junk = s }

pub kept_synced : (records : List Record) (octets c s j : List ℕ) → IsKept (past_of records octets) c s j → Agree 346624 records s c
kept_synced records octets c s j k = subst (λ (i : Images). Agree 346624 records i.synced i.content) k.images_are (images_agree 346624 records octets k.inside).synced

pub kept_junk : (records : List Record) (octets c s j : List ℕ) → IsKept (past_of records octets) c s j → Agree 346624 records j c
kept_junk records octets c s j k = subst (λ (i : Images). Agree 346624 records i.junk i.content) k.images_are (images_agree 346624 records octets k.inside).junk
