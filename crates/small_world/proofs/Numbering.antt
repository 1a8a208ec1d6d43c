-- The forms of results have numbers of their own, and the newest form has the greatest of its result.
use Rattle.std.proofs.Common.{◌≡◌, ◌≢◌, ◌⊎◌, inl, inr, ℕ, ◌+◌, ◌≤◌, ◌<◌, max, true, false, not, ◌&&◌, cond, List, [], ◌∷◌, ◌++◌, map, refl, ◌∙◌, ap, sym, subst, arith, Some}
use Rattle.std.specs.Prelude.{◌==◌}
use Rattle.std.specs.List.{filter, filter_map}
use Rattle.std.proofs.lemmas.Bool.{cond_both, cond-true, cond-false, eqb-true, eqb-false, eq-eqb, not-true, true≢false}
use Rattle.small_card.specs.Lists.{same, Every, greatest, without}
use Rattle.small_card.specs.Cards.{SmallCard, FullCard, Results}
use Rattle.small_card.specs.Histories.{History, card_of, former_of, full_of, with_unit, kept, load_counters, entry_counters, as_load}
use Rattle.small_card.specs.Legal.{May, IsLegal, IsLegalFrom}
use Rattle.small_card.specs.Packages.{result_of, with_result}
use Rattle.small_card.specs.Steps.{step_full}
use Rattle.small_card.specs.Units.{CardUnit, initial, load, rollback, remove, has_seq, with_mark, without_result, marked, loaded, rolled_back, after_unit}
use Rattle.small_card.specs.declared.types.Armed.{Armed}
use Rattle.small_card.specs.declared.types.Package.{Package}
use Rattle.small_card.specs.declared.types.PackageResult.{PackageResult}
use Rattle.small_card.proofs.Accepting.{passed}
use Rattle.small_card.proofs.ListLemmas.{same_self, every_mono, every_both, every_push, every_append, every_filter, every_passes, every_map}
use Rattle.small_card.proofs.Looking.{full_more}
use Rattle.small_card.proofs.Validity.{full_start, some_of}
use Rattle.small_world.specs.Has.{Has}
use Rattle.small_world.specs.Forms.{IsOne, remarked, renewed, newest_from, newest, forms_from, forms}
use Rattle.small_world.proofs.HasLemmas.{has_every, every_has, has_left, has_parts, has_map, has_mapped}

-- what holds of the newest forms ns and of all forms fs at this card, where `told` gives the counter of each pair
pub record Numbered (told : List ℕ → ℕ → ℕ) (f : FullCard) (ns fs : List PackageResult) : Type 0 where
  pub pending : Every (λ r. Has r ns) f.card.results.pending
  pub inside : Every (λ r. Has r fs) ns
  pub below : Every (λ r. r.seq < f.card.results.next) fs
  pub apart : (r s : PackageResult) → Has r fs → Has s fs → r.seq ≡ s.seq → r ≡ s
  pub lead : (r s : PackageResult) → Has r ns → Has s fs → IsOne r s → s.seq ≤ r.seq
  pub counted : Every (λ r. r.counter ≤ told r.eim r.association) fs

-- one more list of newest forms is inside
inside_more : (ns fs : List PackageResult) → Every (λ r. Has r (ns ++ fs)) ns
inside_more ns fs = every_has (λ r. Has r (ns ++ fs)) ns (λ r i. has_left r ns fs i)

-- a load
of_load : (r x : PackageResult) (ns fs : List PackageResult) → Every (λ s. Has s fs) ns → Has x ((r ∷ ns) ++ fs) → (r ≡ x) ⊎ Has x fs
of_load r x ns fs h k = elim (has_parts x (r ∷ ns) fs k) [
  | inl a ↦ elim a [ inl e ↦ inl e | inr i ↦ inr (has_every (λ s. Has s fs) ns x h i) ]
  | inr i ↦ inr i
]

-- a new result with a number and a counter above
pub record IsNew (told : List ℕ → ℕ → ℕ) (next : ℕ) (r : PackageResult) : Type 0 where
  pub seq : r.seq ≡ next
  pub above : told r.eim r.association < r.counter

-- no older form is of the new result
not_new : (told : List ℕ → ℕ → ℕ) (next : ℕ) (r x : PackageResult) → IsNew told next r → x.counter ≤ told x.eim x.association → IsOne r x → ⊥
not_new told next r x new le one =
    let k : told x.eim x.association ≡ told r.eim r.association = ap (λ i. told i x.association) (sym one.eim) ∙ ap (λ n. told r.eim n) (sym one.association) in
    omega (arith, new.above, le, k, one.counter)

one_back : (r s : PackageResult) → IsOne r s → IsOne s r
one_back r s h = record { eim = sym h.eim; association = sym h.association; counter = sym h.counter }

load_numbered : (told now : List ℕ → ℕ → ℕ) (f g : FullCard) (r : PackageResult) (ns fs : List PackageResult) → IsNew told f.card.results.next r
    → g.card.results.pending ≡ f.card.results.pending ++ r ∷ [] → g.card.results.next ≡ f.card.results.next + 1
    → ((id : List ℕ) (a : ℕ) → told id a ≤ now id a) → r.counter ≤ now r.eim r.association
    → Numbered told f ns fs → Numbered now g (r ∷ ns) ((r ∷ ns) ++ fs)
load_numbered told now f g r ns fs new pending next grows counted h = record {
  pending = subst (Every (λ x. Has x (r ∷ ns))) (sym pending) (every_push (λ x. Has x (r ∷ ns)) f.card.results.pending r (every_mono (λ x. Has x ns) (λ x. Has x (r ∷ ns)) (λ x i. inr i) f.card.results.pending h.pending) (inl refl));
  inside = inside_more (r ∷ ns) fs;
  below = every_has (λ x. x.seq < g.card.results.next) ((r ∷ ns) ++ fs) (λ x i. elim (of_load r x ns fs h.inside i) [
    | inl e ↦ let s : r.seq ≡ x.seq = ap (λ (y : PackageResult). y.seq) e in omega (arith, s, new.seq, next)
    | inr j ↦ let s : x.seq < f.card.results.next = has_every (λ y. y.seq < f.card.results.next) fs x h.below j in omega (arith, s, next)
  ]);
  apart = λ x y i j e. elim (of_load r x ns fs h.inside i) [
    | inl a ↦ elim (of_load r y ns fs h.inside j) [
      | inl b ↦ sym a ∙ b
      | inr q ↦ let k : y.seq < f.card.results.next = has_every (λ z. z.seq < f.card.results.next) fs y h.below q in let s : r.seq ≡ x.seq = ap (λ (z : PackageResult). z.seq) a in absurd (omega (arith, k, s, e, new.seq))
    ]
    | inr p ↦ elim (of_load r y ns fs h.inside j) [
      | inl b ↦ let k : x.seq < f.card.results.next = has_every (λ z. z.seq < f.card.results.next) fs x h.below p in let s : r.seq ≡ y.seq = ap (λ (z : PackageResult). z.seq) b in absurd (omega (arith, k, s, e, new.seq))
      | inr q ↦ h.apart x y p q e
    ]
  ];
  lead = λ x y i j one. elim (of_load r y ns fs h.inside j) [
    | inl b ↦ elim i [
      | inl a ↦ let s : y.seq ≡ x.seq = ap (λ (z : PackageResult). z.seq) (sym b ∙ a) in omega (arith, s)
      | inr p ↦
          let there : Has x fs = has_every (λ z. Has z fs) ns x h.inside p in
          absurd (not_new told f.card.results.next r x new (has_every (λ z. z.counter ≤ told z.eim z.association) fs x h.counted there) (subst (λ z. IsOne z x) (sym b) (one_back x y one)))
    ]
    | inr q ↦ elim i [
      | inl a ↦ absurd (not_new told f.card.results.next r y new (has_every (λ z. z.counter ≤ told z.eim z.association) fs y h.counted q) (subst (λ z. IsOne z y) (sym a) one))
      | inr p ↦ h.lead x y p q one
    ]
  ];
  counted = every_has (λ x. x.counter ≤ now x.eim x.association) ((r ∷ ns) ++ fs) (λ x i. elim (of_load r x ns fs h.inside i) [
    | inl e ↦ subst (λ (y : PackageResult). y.counter ≤ now y.eim y.association) e counted
    | inr j ↦ let s : x.counter ≤ told x.eim x.association = has_every (λ y. y.counter ≤ told y.eim y.association) fs x h.counted j in let k : told x.eim x.association ≤ now x.eim x.association = grows x.eim x.association in omega (arith, s, k)
  ]);
}

-- a rollback of this number
abbrev pub mark : ℕ → ℕ → PackageResult → PackageResult
mark seq next r = cond (has_seq seq r) (with_mark next r) r

-- a result is left as it is, or marked
pub record IsMarked (seq next : ℕ) (r x : PackageResult) : Type 0 where
  pub its : r.seq ≡ seq
  pub made : with_mark next r ≡ x

pub mark_cases : (seq next : ℕ) (r : PackageResult) → ((r.seq ≢ seq) × (mark seq next r ≡ r)) ⊎ IsMarked seq next r (mark seq next r)
mark_cases seq next r =
    elim (has_seq seq r) as (λ b. has_seq seq r ≡ b → ((r.seq ≢ seq) × (cond b (with_mark next r) r ≡ r)) ⊎ IsMarked seq next r (cond b (with_mark next r) r)) [
      | true ↦ λ e. inr (record { its = eqb-true r.seq seq e; made = refl })
      | false ↦ λ e. inl (eqb-false r.seq seq e, refl)
    ] refl

of_mark : (seq next : ℕ) (x : PackageResult) (ns fs : List PackageResult) → Every (λ s. Has s fs) ns → Has x (map (mark seq next) ns ++ fs) → Has x fs ⊎ ((r : PackageResult) × Has r ns × IsMarked seq next r x)
of_mark seq next x ns fs h k = elim (has_parts x (map (mark seq next) ns) fs k) [
  | inl a ↦
      let r = has_mapped (mark seq next) x ns a in
      elim (mark_cases seq next r.0) [
        | inl e ↦ inl (subst (λ z. Has z fs) (sym e.1 ∙ r.2) (has_every (λ s. Has s fs) ns r.0 h r.1))
        | inr m ↦ inr (r.0, r.1, record { its = m.its; made = m.made ∙ r.2 })
      ]
  | inr i ↦ inl i
]

marked_seq : (seq next : ℕ) (r x : PackageResult) → IsMarked seq next r x → x.seq ≡ next
marked_seq seq next r x m = sym (ap (λ (z : PackageResult). z.seq) m.made)

marked_one : (seq next : ℕ) (r x y : PackageResult) → IsMarked seq next r x → IsOne y x → IsOne y r
marked_one seq next r x y m one = record {
  eim = one.eim ∙ sym (ap (λ (z : PackageResult). z.eim) m.made);
  association = one.association ∙ sym (ap (λ (z : PackageResult). z.association) m.made);
  counter = one.counter ∙ sym (ap (λ (z : PackageResult). z.counter) m.made);
}

-- what is pending after a rollback is the newest
pub marked_pending : (seq next : ℕ) (ns ps : List PackageResult) → Every (λ r. Has r ns) ps → Every (λ r. Has r (map (mark seq next) ns)) (without (has_seq seq) ps ++ map (with_mark next) (filter (has_seq seq) ps))
marked_pending seq next ns ps h =
    let ms : List PackageResult = map (mark seq next) ns in
    every_append (λ r. Has r ms) (without (has_seq seq) ps) (map (with_mark next) (filter (has_seq seq) ps))
    (every_both (λ r. Has r ns) (λ r. not (has_seq seq r) ≡ true) (λ r. Has r ms)
    (λ r i e. subst (λ z. Has z ms) (cond-false (has_seq seq r) (with_mark next r) r (not-true _ e)) (has_map (mark seq next) r ns i))
    (without (has_seq seq) ps) (every_filter (λ r. Has r ns) (λ r. not (has_seq seq r)) ps h) (every_passes (λ r. not (has_seq seq r)) ps))
    (every_map (λ r. Has r ns × (has_seq seq r ≡ true)) (λ r. Has r ms) (with_mark next)
    (λ r p. subst (λ z. Has z ms) (cond-true (has_seq seq r) (with_mark next r) r p.1) (has_map (mark seq next) r ns p.0))
    (filter (has_seq seq) ps)
    (every_both (λ r. Has r ns) (λ r. has_seq seq r ≡ true) (λ r. Has r ns × (has_seq seq r ≡ true)) (λ r i e. (i, e)) (filter (has_seq seq) ps) (every_filter (λ r. Has r ns) (has_seq seq) ps h) (every_passes (has_seq seq) ps)))

roll_numbered : (told : List ℕ → ℕ → ℕ) (f g : FullCard) (seq : ℕ) (ns fs : List PackageResult)
    → g.card.results ≡ marked seq f.card.results
    → Numbered told f ns fs → Numbered told g (map (mark seq f.card.results.next) ns) (map (mark seq f.card.results.next) ns ++ fs)
unfolding marked
roll_numbered told f g seq ns fs results h =
    let next : ℕ = f.card.results.next in
    let ms : List PackageResult = map (mark seq next) ns in
    let risen : g.card.results.next ≡ next + 1 = ap (λ (rs : Results). rs.next) results in
    let old : (x : PackageResult) → Has x fs → x.seq < next = λ x i. has_every (λ y. y.seq < next) fs x h.below i in
    record {
      pending = subst (Every (λ r. Has r ms)) (sym (ap (λ (rs : Results). rs.pending) results)) (marked_pending seq next ns f.card.results.pending h.pending);
      inside = inside_more ms fs;
      below = every_has (λ x. x.seq < g.card.results.next) (ms ++ fs) (λ x i. elim (of_mark seq next x ns fs h.inside i) [
        | inl j ↦ let s : x.seq < next = old x j in omega (arith, s, risen)
        | inr j ↦ let s : x.seq ≡ next = marked_seq seq next j.0 x j.2 in omega (arith, s, risen)
      ]);
      apart = λ x y i j e. elim (of_mark seq next x ns fs h.inside i) [
        | inl p ↦ elim (of_mark seq next y ns fs h.inside j) [
          | inl q ↦ h.apart x y p q e
          | inr q ↦ let s : x.seq < next = old x p in let t : y.seq ≡ next = marked_seq seq next q.0 y q.2 in absurd (omega (arith, s, t, e))
        ]
        | inr p ↦ elim (of_mark seq next y ns fs h.inside j) [
          | inl q ↦ let s : y.seq < next = old y q in let t : x.seq ≡ next = marked_seq seq next p.0 x p.2 in absurd (omega (arith, s, t, e))
          | inr q ↦
              let z : p.0 ≡ q.0 = h.apart p.0 q.0 (has_every (λ s. Has s fs) ns p.0 h.inside p.1) (has_every (λ s. Has s fs) ns q.0 h.inside q.1) (p.2.its ∙ sym q.2.its) in
              sym p.2.made ∙ ap (with_mark next) z ∙ q.2.made
        ]
      ];
      lead = λ x y i j one.
          let r = has_mapped (mark seq next) x ns i in
          elim (mark_cases seq next r.0) [
            | inr m ↦
                let s : x.seq ≡ next = sym (ap (λ (z : PackageResult). z.seq) (m.made ∙ r.2)) in
                elim (of_mark seq next y ns fs h.inside j) [
                  | inl q ↦ let t : y.seq < next = old y q in omega (arith, s, t)
                  | inr q ↦ let t : y.seq ≡ next = marked_seq seq next q.0 y q.2 in omega (arith, s, t)
                ]
            | inl m ↦
                let is : r.0 ≡ x = sym m.1 ∙ r.2 in
                let ours : IsOne r.0 y = subst (λ z. IsOne z y) (sym is) one in
                let s : r.0.seq ≡ x.seq = ap (λ (z : PackageResult). z.seq) is in
                elim (of_mark seq next y ns fs h.inside j) [
                  | inl q ↦ let t : y.seq ≤ r.0.seq = h.lead r.0 y r.1 q ours in omega (arith, s, t)
                  | inr q ↦
                      let both : IsOne r.0 q.0 = marked_one seq next q.0 y r.0 q.2 ours in
                      let a : q.0.seq ≤ r.0.seq = h.lead r.0 q.0 r.1 (has_every (λ z. Has z fs) ns q.0 h.inside q.1) both in
                      let b : r.0.seq ≤ q.0.seq = h.lead q.0 r.0 q.1 (has_every (λ z. Has z fs) ns r.0 h.inside r.1) (one_back r.0 q.0 both) in
                      absurd (m.0 (let c : r.0.seq ≡ q.0.seq = omega (arith, a, b) in c ∙ q.2.its))
                ]
          ];
      counted = every_has (λ x. x.counter ≤ told x.eim x.association) (ms ++ fs) (λ x i. elim (of_mark seq next x ns fs h.inside i) [
        | inl j ↦ has_every (λ y. y.counter ≤ told y.eim y.association) fs x h.counted j
        | inr j ↦ subst (λ (y : PackageResult). y.counter ≤ told y.eim y.association) j.2.made (has_every (λ y. y.counter ≤ told y.eim y.association) fs j.0 h.counted (has_every (λ s. Has s fs) ns j.0 h.inside j.1))
      ]);
    }

-- a unit that leaves the results, or takes one away
rest_numbered : (told now : List ℕ → ℕ → ℕ) (f g : FullCard) (ns fs : List PackageResult)
    → Every (λ r. Has r ns) g.card.results.pending → g.card.results.next ≡ f.card.results.next
    → ((id : List ℕ) (a : ℕ) → told id a ≤ now id a)
    → Numbered told f ns fs → Numbered now g ns (ns ++ fs)
rest_numbered told now f g ns fs pending next grows h =
    let back : (x : PackageResult) → Has x (ns ++ fs) → Has x fs = λ x i. elim (has_parts x ns fs i) [ inl j ↦ has_every (λ s. Has s fs) ns x h.inside j | inr j ↦ j ] in
    record {
      pending = pending;
      inside = inside_more ns fs;
      below = every_has (λ x. x.seq < g.card.results.next) (ns ++ fs) (λ x i. let s : x.seq < f.card.results.next = has_every (λ y. y.seq < f.card.results.next) fs x h.below (back x i) in omega (arith, s, next));
      apart = λ x y i j e. h.apart x y (back x i) (back y j) e;
      lead = λ x y i j one. h.lead x y i (back y j) one;
      counted = every_has (λ x. x.counter ≤ now x.eim x.association) (ns ++ fs) (λ x i. let s : x.counter ≤ told x.eim x.association = has_every (λ y. y.counter ≤ told y.eim y.association) fs x h.counted (back x i) in let k : told x.eim x.association ≤ now x.eim x.association = grows x.eim x.association in omega (arith, s, k));
    }

-- the counter of a pair never falls
pub kept_grows : (h : History) (u : CardUnit) (id : List ℕ) (association : ℕ) → kept h id association ≤ kept (with_unit h u) id association
unfolding kept with_unit load_counters as_load
kept_grows h (initial i a k) id association = omega arith
kept_grows h (load p) id association =
    let older : List Package = filter (λ q. same id q.eim && q.association == association) (filter_map as_load h.units) in
    let base : ℕ = greatest (entry_counters id association h.start.card.eims.entries) in
    elim (same id p.eim && p.association == association) as (λ b. max base (greatest (map (λ q. q.counter) older)) ≤ max base (greatest (map (λ q. q.counter) (cond b (p ∷ older) older)))) [ true ↦ omega arith | false ↦ omega arith ]
kept_grows h rollback id association = omega arith
kept_grows h (remove seq) id association = omega arith

pub kept_new : (h : History) (p : Package) → p.counter ≤ kept (with_unit h (load p)) p.eim p.association
unfolding kept with_unit load_counters as_load
kept_new h p =
    let older : List Package = filter (λ q. same p.eim q.eim && q.association == p.association) (filter_map as_load h.units) in
    let base : ℕ = greatest (entry_counters p.eim p.association h.start.card.eims.entries) in
    cond_both (same p.eim p.eim && p.association == p.association) (p ∷ older) older (λ ps. p.counter ≤ max base (greatest (map (λ q. q.counter) ps)))
    (λ _. omega arith)
    (λ e. absurd (true≢false (sym (ap (λ b. b && p.association == p.association) (same_self p.eim p.eim refl) ∙ eq-eqb p.association p.association refl) ∙ e)))

-- the counters of a pair may have grown
grown_numbered : (h : History) (u : CardUnit) (f : FullCard) (ns fs : List PackageResult) → Numbered (kept h) f ns fs → Numbered (kept (with_unit h u)) f ns fs
grown_numbered h u f ns fs n = record {
  pending = n.pending;
  inside = n.inside;
  below = n.below;
  apart = n.apart;
  lead = n.lead;
  counted = every_mono (λ r. r.counter ≤ kept h r.eim r.association) (λ r. r.counter ≤ kept (with_unit h u) r.eim r.association) (λ r s. let k = kept_grows h u r.eim r.association in omega (arith, s, k)) fs n.counted;
}

roll_at : (told : List ℕ → ℕ → ℕ) (c : SmallCard) (a : Armed) (ns fs : List PackageResult)
    → Numbered told (record { card = c; armed = Some a }) ns fs
    → Numbered told (step_full (record { card = c; armed = Some a }) rollback) (renewed (record { card = c; armed = Some a }) rollback ns) (renewed (record { card = c; armed = Some a }) rollback ns ++ fs)
unfolding step_full after_unit rolled_back renewed remarked
roll_at told c a ns fs h = roll_numbered told (record { card = c; armed = Some a }) (step_full (record { card = c; armed = Some a }) rollback) a.seq ns fs refl h

unit_numbered : (h : History) (u : CardUnit) (ns fs : List PackageResult) → May h u → Numbered (kept h) (full_of h) ns fs
    → Numbered (kept (with_unit h u)) (step_full (full_of h) u) (renewed (full_of h) u ns) (renewed (full_of h) u ns ++ fs)
unfolding May step_full after_unit loaded with_result result_of without_result renewed full_of
unit_numbered h (initial i a k) ns fs m n = rest_numbered (kept h) (kept (with_unit h (initial i a k))) (full_of h) (step_full (full_of h) (initial i a k)) ns fs n.pending refl (kept_grows h (initial i a k)) n
unit_numbered h (load p) ns fs m n =
    load_numbered (kept h) (kept (with_unit h (load p))) (full_of h) (step_full (full_of h) (load p)) (result_of (card_of h) p) ns fs
    (record { seq = refl; above = (passed h p m.checks).above }) refl refl (kept_grows h (load p)) (kept_new h p) n
unit_numbered h rollback ns fs m n =
    let a = some_of (former_of h) m in
    let c : SmallCard = card_of h in
    let at : Numbered (kept h) (record { card = c; armed = Some a.0 }) ns fs = subst (λ o. Numbered (kept h) (record { card = c; armed = o }) ns fs) a.1 n in
    let done : Numbered (kept h) (step_full (full_of h) rollback) (renewed (full_of h) rollback ns) (renewed (full_of h) rollback ns ++ fs) =
    subst (λ o. let f : FullCard = record { card = c; armed = o } in Numbered (kept h) (step_full f rollback) (renewed f rollback ns) (renewed f rollback ns ++ fs)) (sym a.1) (roll_at (kept h) c a.0 ns fs at) in
    grown_numbered h rollback (step_full (full_of h) rollback) (renewed (full_of h) rollback ns) (renewed (full_of h) rollback ns ++ fs) done
unit_numbered h (remove seq) ns fs m n =
    rest_numbered (kept h) (kept (with_unit h (remove seq))) (full_of h) (step_full (full_of h) (remove seq)) ns fs
    (every_filter (λ r. Has r ns) (λ r. not (has_seq seq r)) (card_of h).results.pending n.pending) refl (kept_grows h (remove seq)) n

start_numbered : (start : FullCard) (told : List ℕ → ℕ → ℕ) → start.card.results.pending ≡ [] → Numbered told start [] []
start_numbered start told e = record {
  pending = subst (Every (λ r. Has r [])) (sym e) tt;
  inside = tt;
  below = tt;
  apart = λ r s i j k. absurd i;
  lead = λ r s i j k. absurd i;
  counted = tt;
}

numbered_from : (start : FullCard) (us : List CardUnit) → IsLegalFrom start us → start.card.results.pending ≡ []
    → Numbered (kept (record { start = start; units = us })) (full_of (record { start = start; units = us })) (newest_from start us) (forms_from start us)
unfolding IsLegalFrom newest_from forms_from with_unit
numbered_from start [] l e = subst (λ f. Numbered (kept (record { start = start; units = [] })) f [] []) (sym (full_start start)) (start_numbered start (kept (record { start = start; units = [] })) e)
numbered_from start (u ∷ us) l e =
    let h : History = record { start = start; units = us } in
    let ns : List PackageResult = renewed (full_of h) u (newest_from start us) in
    subst (λ f. Numbered (kept (with_unit h u)) f ns (ns ++ forms_from start us)) (sym (full_more h u))
    (unit_numbered h u (newest_from start us) (forms_from start us) l.1 (numbered_from start us l.0 e))

-- what holds of the forms of each legal history whose start has nothing pending
pub numbered : (h : History) → IsLegal h → h.start.card.results.pending ≡ [] → Numbered (kept h) (full_of h) (newest h) (forms h)
unfolding IsLegal newest forms
numbered h l e = numbered_from h.start h.units l e
