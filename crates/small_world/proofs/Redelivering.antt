-- A package that stands in the history is refused when it comes again.
use Rattle.std.proofs.Common.{◌≡◌, inl, inr, ℕ, ◌≤◌, ◌<◌, Bool, true, List, [], ◌∷◌, length, refl, ◌∙◌, ap, sym, subst, arith, Option, None, Some, Ok, Err}
use Rattle.std.specs.Prelude.{IsErr, nat_le, ◌&&◌, ◌==◌}
use Rattle.std.proofs.lemmas.Bool.{le-leb, and_parts}
use Rattle.small_card.specs.Cards.{SmallCard, FullCard}
use Rattle.small_card.specs.Checks.{has_association, eim_refusal, later_refusal}
use Rattle.small_card.specs.EimOperations.{is_eim, has_eim}
use Rattle.small_card.specs.Histories.{History, card_of, full_of, with_unit, kept}
use Rattle.small_card.specs.Legal.{May, IsLegal, IsLegalFrom}
use Rattle.small_card.specs.Lists.{same}
use Rattle.small_card.specs.Steps.{step_full}
use Rattle.small_card.specs.Units.{CardUnit, initial, load, rollback, remove, after_unit, loaded, rolled_back}
use Rattle.small_card.specs.declared.types.Armed.{Armed}
use Rattle.small_card.specs.declared.types.EimEntry.{EimEntry}
use Rattle.small_card.specs.declared.types.Package.{Package}
use Rattle.small_card.specs.declared.types.Signed.{Signed}
use Rattle.small_card.proofs.Accepting.{passed}
use Rattle.small_card.proofs.ListLemmas.{any_mono}
use Rattle.small_card.proofs.Looking.{full_more}
use Rattle.small_card.proofs.Validity.{full_start}
use Rattle.package_codec.specs.Checks.{most_octets, package_refusal, check_read, check}
use Rattle.package_codec.proofs.Replying.{accepted}
use Rattle.small_world.specs.Has.{Has}
use Rattle.small_world.specs.Taking.{Carries}
use Rattle.small_world.proofs.Numbering.{kept_grows, kept_new}

rolled_eid : (o : Option Armed) (c : SmallCard) → (rolled_back o c).eid ≡ c.eid
unfolding rolled_back
rolled_eid None c = refl
rolled_eid (Some a) c = refl

step_eid : (f : FullCard) (u : CardUnit) → (step_full f u).card.eid ≡ f.card.eid
unfolding step_full after_unit loaded
step_eid f (initial id address key) = refl
step_eid f (load p) = refl
step_eid f rollback = rolled_eid f.armed f.card
step_eid f (remove seq) = refl

-- no unit changes the card's EID
eid_stays : (start : FullCard) (us : List CardUnit) → (full_of (record { start = start; units = us })).card.eid ≡ start.card.eid
unfolding with_unit
eid_stays start [] = ap (λ (f : FullCard). f.card.eid) (full_start start)
eid_stays start (u ∷ us) =
    let h : History = record { start = start; units = us } in
    ap (λ (f : FullCard). f.card.eid) (full_more h u) ∙ step_eid (full_of h) u ∙ eid_stays start us

card_eid : (start : FullCard) (us : List CardUnit) → (card_of (record { start = start; units = us })).eid ≡ start.card.eid
unfolding full_of
card_eid start us = eid_stays start us

-- a load that was taken was for this card, and its counter is kept
pub record WasTaken (h : History) (p : Package) : Type 0 where
  pub eid : same p.eid h.start.card.eid ≡ true
  pub counter : p.counter ≤ kept h p.eim p.association

load_taken : (h : History) (p : Package) → May h (load p) → WasTaken (with_unit h (load p)) p
unfolding May with_unit
load_taken h p m = record {
  eid = subst (λ (e : List ℕ). same p.eid e ≡ true) (card_eid h.start h.units) (passed h p m.checks).eid;
  counter = kept_new h p;
}

taken_stays : (h : History) (u : CardUnit) (p : Package) → WasTaken h p → WasTaken (with_unit h u) p
unfolding with_unit
taken_stays h u p t = record {
  eid = t.eid;
  counter = let k = kept_grows h u p.eim p.association in let n = t.counter in omega (arith, k, n);
}

was_taken_from : (start : FullCard) (us : List CardUnit) (p : Package) → IsLegalFrom start us → Has (load p) us → WasTaken (record { start = start; units = us }) p
unfolding IsLegalFrom with_unit
was_taken_from start [] p l i = absurd i
was_taken_from start (u ∷ us) p l i =
    let h : History = record { start = start; units = us } in
    elim i [
      | inl e ↦ subst (λ (v : CardUnit). WasTaken (record { start = start; units = v ∷ us }) p) (sym e) (load_taken h p (subst (May h) e l.1))
      | inr j ↦ taken_stays h u p (was_taken_from start us p l.0 j)
    ]

pub was_taken : (h : History) (p : Package) → IsLegal h → Has (load p) h.units → WasTaken h p
unfolding IsLegal
was_taken h p l i = was_taken_from h.start h.units p l i

not_accepted : (h : History) (good : Bool) (bytes : List ℕ) (p q : Package) → WasTaken h p → Carries bytes p → check h good bytes ≡ Ok q → ⊥
not_accepted h good bytes p q t s e =
    let a = accepted h good bytes q e in
    let one : s.0 ≡ a.read.0 = cc in
    let is : q ≡ p = sym a.read.2 ∙ ap (λ (x : Signed). x.«package») (sym one) ∙ s.2 in
    let above : kept h p.eim p.association < p.counter = subst (λ (x : Package). kept h x.eim x.association < x.counter) is (passed h q a.values).above in
    let n = t.counter in
    omega (arith, above, n)

-- it is refused
pub refused_again : (h : History) (good : Bool) (bytes : List ℕ) (p : Package) → WasTaken h p → Carries bytes p → IsErr (check h good bytes)
refused_again h good bytes p t s =
    elim (check h good bytes) as (λ r. check h good bytes ≡ r → IsErr r) [
      | Ok q ↦ λ e. absurd (not_accepted h good bytes p q t s e)
      | Err f ↦ λ e. refl
    ] refl

known : (id : List ℕ) (association : ℕ) (es : List EimEntry) → has_association id association es ≡ true → has_eim id es ≡ true
unfolding has_association has_eim
known id association es e = any_mono (λ x. is_eim id x && x.association == association) (is_eim id) (λ x k. (and_parts (is_eim id x) (x.association == association) k).0) es e

-- as a replay where its eIM's entry has its association and the verdict is good
replay_refusal : (h : History) (p : Package) → WasTaken h p → has_association p.eim p.association (card_of h).eims.entries ≡ true
    → package_refusal h true p ≡ Some (record { code = 6; kept = kept h p.eim p.association; received = p.counter })
unfolding package_refusal eim_refusal later_refusal
replay_refusal h p t a =
    let eid : same p.eid (card_of h).eid ≡ true = subst (λ (e : List ℕ). same p.eid e ≡ true) (sym (card_eid h.start h.units)) t.eid in
    let low : nat_le p.counter (kept h p.eim p.association) ≡ true = le-leb p.counter (kept h p.eim p.association) t.counter in
    rw (known p.eim p.association (card_of h).eims.entries a, eid, a, low) refl

pub replayed : (h : History) (bytes : List ℕ) (p : Package) → WasTaken h p → Carries bytes p → length bytes ≤ most_octets → has_association p.eim p.association (card_of h).eims.entries ≡ true
    → check h true bytes ≡ Err (record { code = 6; kept = kept h p.eim p.association; received = p.counter })
unfolding check check_read
replayed h bytes p t s few a =
    rw (le-leb (length bytes) most_octets few, s.1, s.2, replay_refusal h p t a) refl
