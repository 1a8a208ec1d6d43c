-- Each unit keeps each result pending or received, and what is received is recorded in its newest form.
use Rattle.std.proofs.Common.{◌≡◌, ◌≢◌, ◌⊎◌, inl, inr, ℕ, ◌≤◌, true, false, not, ◌&&◌, List, [], ◌∷◌, ◌++◌, map, refl, ◌∙◌, ap, sym, subst, arith, Some}
use Rattle.std.specs.List.{filter}
use Rattle.std.proofs.lemmas.Bool.{eqb-true, ne_eqb, and_parts}
use Rattle.small_card.specs.Lists.{Every, without}
use Rattle.small_card.specs.Cards.{SmallCard, FullCard}
use Rattle.small_card.specs.Histories.{History, card_of, former_of, full_of, with_unit, kept}
use Rattle.small_card.specs.Legal.{May, IsLegal}
use Rattle.small_card.specs.Packages.{result_of, with_result}
use Rattle.small_card.specs.Steps.{step_full}
use Rattle.small_card.specs.Units.{CardUnit, initial, load, rollback, remove, has_seq, with_mark, without_result, marked, loaded, rolled_back, after_unit}
use Rattle.small_card.specs.Valid.{IsValid, is_unmarked}
use Rattle.small_card.specs.declared.types.Armed.{Armed}
use Rattle.small_card.specs.declared.types.PackageResult.{PackageResult}
use Rattle.small_card.proofs.ListLemmas.{every_mono}
use Rattle.small_card.proofs.Looking.{full_more}
use Rattle.small_card.proofs.Validity.{legal_valid, some_of}
use Rattle.esipa_codec.specs.Eims.{EimState}
use Rattle.small_world.specs.Has.{Has}
use Rattle.small_world.specs.Forms.{remarked, renewed, newest, forms, newest_from, forms_from}
use Rattle.esipa_codec.specs.Records.{record_of}
use Rattle.small_world.specs.Lossless.{IsRecorded, NoneLost, Made}
use Rattle.small_world.proofs.HasLemmas.{has_every, every_has, has_left, has_right, has_map, has_mapped, has_filter, has_any}
use Rattle.small_world.proofs.Numbering.{Numbered, mark, mark_cases, numbered}
use Rattle.small_world.proofs.Records.{record_taken, record_top}

-- an eIM received the result
pub record IsReceived (ms : List EimState) (r : PackageResult) : Type 0 where
  pub at : EimState
  pub there : Has at ms
  pub received : Has r at.received

-- an eIM received a result of this number
pub record IsAcked (ms : List EimState) (seq : ℕ) : Type 0 where
  pub at : EimState
  pub there : Has at ms
  pub form : PackageResult
  pub received : Has form at.received
  pub number : form.seq ≡ seq

-- each newest form is pending or received
abbrev pub Kept : List EimState → List PackageResult → List PackageResult → Type 0
Kept ms ps ns = Every (λ r. Has r ps ⊎ IsReceived ms r) ns

-- what the eIMs received are forms, each of its eIM
abbrev pub Truthful : List PackageResult → List EimState → Type 0
Truthful fs ms = Every (λ m. Every (λ r. Has r fs × (r.eim ≡ m.id)) m.received) ms

-- a remove is of a number that an eIM received
abbrev pub IsSafe : List EimState → CardUnit → Type 0
IsSafe ms (initial id address key) = Unit {0}
IsSafe ms (load p) = Unit {0}
IsSafe ms rollback = Unit {0}
IsSafe ms (remove seq) = IsAcked ms seq

truth : (fs : List PackageResult) (ms : List EimState) (m : EimState) (r : PackageResult) → Truthful fs ms → Has m ms → Has r m.received → Has r fs × (r.eim ≡ m.id)
truth fs ms m r t i j = has_every (λ s. Has s fs × (s.eim ≡ m.id)) m.received r (has_every (λ n. Every (λ s. Has s fs × (s.eim ≡ n.id)) n.received) ms m t i) j

load_kept : (ms : List EimState) (ps ns : List PackageResult) (r : PackageResult) → Kept ms ps ns → Kept ms (ps ++ r ∷ []) (r ∷ ns)
load_kept ms ps ns r h = (
  inl (has_right r ps (r ∷ []) (inl refl)),
  every_mono (λ x. Has x ps ⊎ IsReceived ms x) (λ x. Has x (ps ++ r ∷ []) ⊎ IsReceived ms x) (λ x k. elim k [ inl i ↦ inl (has_left x ps (r ∷ []) i) | inr i ↦ inr i ]) ns h,
)

other_number : (seq : ℕ) (r : PackageResult) → r.seq ≢ seq → not (has_seq seq r) ≡ true
other_number seq r e = ap (λ b. not b) (ne_eqb r.seq seq e)

-- a rollback marks a pending result
roll_kept : (told : List ℕ → ℕ → ℕ) (f : FullCard) (ms : List EimState) (ns fs : List PackageResult) (seq : ℕ) → Numbered told f ns fs → is_unmarked seq f.card.results.pending ≡ true
    → Kept ms f.card.results.pending ns → Kept ms (marked seq f.card.results).pending (map (mark seq f.card.results.next) ns)
unfolding marked
roll_kept told f ms ns fs seq n armed h =
    let next : ℕ = f.card.results.next in
    let ps : List PackageResult = f.card.results.pending in
    let rest : List PackageResult = without (has_seq seq) ps in
    let marks : List PackageResult = map (with_mark next) (filter (has_seq seq) ps) in
    let one = has_any (λ r. has_seq seq r && not r.rolled) ps armed in
    let its : has_seq seq one.0 ≡ true = (and_parts (has_seq seq one.0) (not one.0.rolled) one.2).0 in
    let number : one.0.seq ≡ seq = eqb-true one.0.seq seq its in
    let known : Has one.0 fs = has_every (λ r. Has r fs) ns one.0 n.inside (has_every (λ r. Has r ns) ps one.0 n.pending one.1) in
    let there : Has (with_mark next one.0) marks = has_map (with_mark next) one.0 (filter (has_seq seq) ps) (has_filter (has_seq seq) one.0 ps one.1 its) in
    every_has (λ x. Has x (rest ++ marks) ⊎ IsReceived ms x) (map (mark seq next) ns) (λ x i.
    let r = has_mapped (mark seq next) x ns i in
    elim (mark_cases seq next r.0) [
      | inl m ↦ subst (λ y. Has y (rest ++ marks) ⊎ IsReceived ms y) (sym m.1 ∙ r.2)
          (elim (has_every (λ y. Has y ps ⊎ IsReceived ms y) ns r.0 h r.1) [
            | inl j ↦ inl (has_left r.0 rest marks (has_filter (λ y. not (has_seq seq y)) r.0 ps j (other_number seq r.0 m.0)))
            | inr j ↦ inr j
          ])
      | inr m ↦
          let same_one : one.0 ≡ r.0 = n.apart one.0 r.0 known (has_every (λ y. Has y fs) ns r.0 n.inside r.1) (number ∙ sym m.its) in
          inl (subst (λ y. Has y (rest ++ marks)) (ap (with_mark next) same_one ∙ m.made ∙ r.2) (has_right (with_mark next one.0) rest marks there))
    ])

-- a remove takes away what an eIM received
remove_kept : (told : List ℕ → ℕ → ℕ) (f : FullCard) (ms : List EimState) (ns fs : List PackageResult) (seq : ℕ) → Numbered told f ns fs → Truthful fs ms → IsAcked ms seq
    → Kept ms f.card.results.pending ns → Kept ms (without_result seq f.card.results).pending ns
unfolding without_result
remove_kept told f ms ns fs seq n t a h =
    let ps : List PackageResult = f.card.results.pending in
    every_has (λ x. Has x (without (has_seq seq) ps) ⊎ IsReceived ms x) ns (λ x i.
    elim (has_every (λ y. Has y ps ⊎ IsReceived ms y) ns x h i) [
      | inl j ↦
          elim (has_seq seq x) as (λ b. has_seq seq x ≡ b → Has x (without (has_seq seq) ps) ⊎ IsReceived ms x) [
            | true ↦ λ e.
                let is : a.form ≡ x = n.apart a.form x (truth fs ms a.at a.form t a.there a.received).0 (has_every (λ y. Has y fs) ns x n.inside i) (a.number ∙ sym (eqb-true x.seq seq e)) in
                inr (record { at = a.at; there = a.there; received = subst (λ y. Has y a.at.received) is a.received })
            | false ↦ λ e. inl (has_filter (λ y. not (has_seq seq y)) x ps j (ap (λ b. not b) e))
          ] refl
      | inr j ↦ inr j
    ])

roll_kept_at : (told : List ℕ → ℕ → ℕ) (c : SmallCard) (a : Armed) (ms : List EimState) (ns fs : List PackageResult) → Numbered told (record { card = c; armed = Some a }) ns fs → is_unmarked a.seq c.results.pending ≡ true
    → Kept ms c.results.pending ns → Kept ms (step_full (record { card = c; armed = Some a }) rollback).card.results.pending (renewed (record { card = c; armed = Some a }) rollback ns)
unfolding step_full after_unit rolled_back renewed remarked
roll_kept_at told c a ms ns fs n armed h = roll_kept told (record { card = c; armed = Some a }) ms ns fs a.seq n armed h

-- what each kind of unit keeps
unit_kept : (h : History) (u : CardUnit) (ms : List EimState) (ns fs : List PackageResult) → IsValid (full_of h) → May h u → Numbered (kept h) (full_of h) ns fs → Truthful fs ms → IsSafe ms u
    → Kept ms (card_of h).results.pending ns → Kept ms (step_full (full_of h) u).card.results.pending (renewed (full_of h) u ns)
unfolding May step_full after_unit loaded with_result renewed full_of
unit_kept h (initial i a k) ms ns fs v m n t s p = p
unit_kept h (load q) ms ns fs v m n t s p = load_kept ms (card_of h).results.pending ns (result_of (card_of h) q) p
unit_kept h rollback ms ns fs v m n t s p =
    let a = some_of (former_of h) m in
    let c : SmallCard = card_of h in
    subst (λ o. let f : FullCard = record { card = c; armed = o } in Kept ms (step_full f rollback).card.results.pending (renewed f rollback ns)) (sym a.1)
    (roll_kept_at (kept h) c a.0 ms ns fs (subst (λ o. Numbered (kept h) (record { card = c; armed = o }) ns fs) a.1 n) (v.armed a.0 a.1).result p)
unit_kept h (remove seq) ms ns fs v m n t s p = remove_kept (kept h) (full_of h) ms ns fs seq n t s p

-- one more unit keeps each result
pub more_kept : (h : History) (u : CardUnit) (ms : List EimState) → IsLegal h → h.start.card.results.pending ≡ [] → May h u → Truthful (forms h) ms → IsSafe ms u
    → Kept ms (card_of h).results.pending (newest h) → Kept ms (card_of (with_unit h u)).results.pending (newest (with_unit h u))
unfolding newest newest_from with_unit card_of full_of
more_kept h u ms l e m t s p =
    subst (λ (f : FullCard). Kept ms f.card.results.pending (renewed (full_of h) u (newest h))) (sym (full_more h u))
    (unit_kept h u ms (newest h) (forms h) (legal_valid h l) m (numbered h l e) t s p)

-- an older form stays a form
pub forms_more : (h : History) (u : CardUnit) (r : PackageResult) → Has r (forms h) → Has r (forms (with_unit h u))
unfolding forms forms_from with_unit
forms_more h u r i = has_right r (newest_from h.start (u ∷ h.units)) (forms_from h.start h.units) i

pub truthful_more : (h : History) (u : CardUnit) (ms : List EimState) → Truthful (forms h) ms → Truthful (forms (with_unit h u)) ms
truthful_more h u ms t =
    every_mono (λ m. Every (λ r. Has r (forms h) × (r.eim ≡ m.id)) m.received) (λ m. Every (λ r. Has r (forms (with_unit h u)) × (r.eim ≡ m.id)) m.received)
    (λ m k. every_mono (λ r. Has r (forms h) × (r.eim ≡ m.id)) (λ r. Has r (forms (with_unit h u)) × (r.eim ≡ m.id)) (λ r j. (forms_more h u r j.0, j.1)) m.received k) ms t

-- what is received in its newest form is recorded so
recorded : (h : History) (ms : List EimState) (r : PackageResult) → IsLegal h → h.start.card.results.pending ≡ [] → Truthful (forms h) ms → Has r (newest h) → IsReceived ms r → IsRecorded ms r
recorded h ms r l e t i k =
    let n = numbered h l e in
    let top = record_top r.association r.counter k.at.received r k.received refl refl in
    let taken = record_taken r.association r.counter k.at.received top.0 top.1 in
    let ours = truth (forms h) ms k.at r t k.there k.received in
    let its = truth (forms h) ms k.at top.0 t k.there taken.received in
    let le : top.0.seq ≤ r.seq = n.lead r top.0 i its.0 (record { eim = ours.1 ∙ sym its.1; association = sym taken.association_is; counter = sym taken.counter_is }) in
    let ge = top.2 in
    let is : top.0 ≡ r = n.apart top.0 r its.0 ours.0 (omega (arith, le, ge)) in
    record { at = k.at; there = k.there; its = sym ours.1; recorded = top.1 ∙ ap (λ (y : PackageResult). Some y) is }

-- no result is lost
pub none_lost : (h : History) (ms : List EimState) → IsLegal h → h.start.card.results.pending ≡ [] → Truthful (forms h) ms → Kept ms (card_of h).results.pending (newest h) → NoneLost h ms
unfolding NoneLost
none_lost h ms l e t k = every_has (λ r. Has r (card_of h).results.pending ⊎ IsRecorded ms r) (newest h) (λ r i.
    elim (has_every (λ x. Has x (card_of h).results.pending ⊎ IsReceived ms x) (newest h) r k i) [
      | inl j ↦ inl j
      | inr j ↦ inr (recorded h ms r l e t i j)
    ])

-- no record is made up
pub all_made : (h : History) (ms : List EimState) → Truthful (forms h) ms → Made h ms
unfolding Made
all_made h ms t = every_mono (λ m. Every (λ r. Has r (forms h) × (r.eim ≡ m.id)) m.received) (λ m. (association counter : ℕ) (r : PackageResult) → record_of association counter m.received ≡ Some r → Has r (forms h))
    (λ m k association counter r e. (has_every (λ x. Has x (forms h) × (x.eim ≡ m.id)) m.received r k (record_taken association counter m.received r e).received).0) ms t

-- what is pending is the newest
pub pending_newest : (h : History) → IsLegal h → h.start.card.results.pending ≡ [] → Every (λ r. Has r (newest h)) (card_of h).results.pending
unfolding full_of
pending_newest h l e = (numbered h l e).pending
