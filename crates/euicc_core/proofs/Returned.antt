-- Settling where every image stood for some card.
use Rattle.std.proofs.Common.{◌≡◌, ⊎_elim, ℕ, ◌+◌, List, sym, ap, subst, ◌∙◌, arith, inl, inr}
use Rattle.std.specs.Prelude.{Option}
use Rattle.chip_port.specs.Seen.{Seen, Marks}
use Rattle.chip_port.specs.Rules.{Sound}
use Rattle.small_card.specs.Cards.{FullCard}
use Rattle.card_store.specs.Standing.{Stands}
use Rattle.card_store.proofs.Cards.{stands_for_one}
use Rattle.std.proofs.lemmas.Option.{same_Some}
use Rattle.euicc_core.specs.Settling.{WokeAs, WokeAsNone, IsUnwoken, IsUnlit, IsRelit, Cycles, Recognises, StandsForSome, IsBack, IsStillOff, Returns}
use Rattle.euicc_core.specs.declared.ends.SettleEnd.{SettleEnd}
use Rattle.euicc_core.specs.declared.ends.SettleEnd.TheVariants as settle_end

back : (held : Option FullCard) (a b : Seen) → Sound 346624 a → StandsForSome a → IsRelit held a b → IsBack held a b
back held a b sound some r =
    let former = some r.first r.woken.was in
    let same : former.0 ≡ r.card = stands_for_one former.0 r.card r.last (r.woken.stands former.0 former.1) r.stood in
    let as_card : (i : List ℕ) → Stands former.0 i → Stands r.card i = λ i s. subst (λ (f : FullCard). Stands f i) same s in
    record {
      card = r.card;
      lit = r.lit;
      woke = record { image = r.last; woke = r.woken.woke; stands = r.stood };
      settled = r.settled;
      stood = (r.first, r.woken.was, as_card r.first former.1);
      answers = r.answers;
      before = λ i now. ⊎_elim inl (λ more. ⊎_elim (λ at. inr (as_card i (at.1 former.0 former.1))) (λ at. absurd (omega (arith, at.0))) more) (r.adds a.marks.answers i now);
      since = λ i now. ⊎_elim (λ was. absurd (omega (arith, sound.none_above (a.marks.answers + 1) i was))) (λ more. ⊎_elim (λ at. absurd (omega (arith, at.0))) (λ at. at.1) more) (r.adds (a.marks.answers + 1) i now);
    }

unwoken_off : (n : ℕ) (a b : Seen) → IsUnwoken n a b → IsStillOff a b
unwoken_off n a b u = record {
  answers = ap (λ (m : Marks). m.answers) u.keeps.marks;
  leaves = λ i now. inl ((u.keeps.leaves i).1 now);
  before = λ i now. inl ((u.left a.marks.answers i).1 now);
}

unlit_off : (a b : Seen) → StandsForSome a → IsUnlit a b → IsStillOff a b
unlit_off a b some u =
    let former = some u.first u.woken.was in
    let woken : WokeAs (a.marks.answers + 1) former.0 b = record { image = u.last; woke = u.woken.woke; stands = u.woken.stands former.0 former.1 } in
    record {
      answers = u.answers;
      leaves = λ i now. inr (former.0, woken, u.leaves i now former.0 former.1);
      before = λ i now. ⊎_elim inl (λ at. inr (former.0, woken, at.1 former.0 former.1)) (u.adds a.marks.answers i now);
    }

never_none : (a b : Seen) → StandsForSome a → IsUnlit a b → WokeAsNone (a.marks.answers + 1) b → ⊥
never_none a b some u h =
    let former = some u.first u.woken.was in
    let same : u.last ≡ h.image = same_Some u.last h.image (sym u.woken.woke ∙ h.woke) in
    h.none former.0 (subst (λ (i : List ℕ). Stands former.0 i) same (u.woken.stands former.0 former.1))

pub recognised : (n : ℕ) (end : SettleEnd) (a b : Seen) → Cycles n end a b → Recognises end a b
recognised n (settle_end.Lit held) a b h = (h.card, h.lit, record { image = h.last; woke = h.woken.woke; stands = h.stood })
recognised n settle_end.Spent a b h = tt
recognised n settle_end.Unrecognised a b h = h.1
recognised n settle_end.NoMemory a b h = tt

-- how settling ends where every image stood for some card
pub returned : (n : ℕ) (end : SettleEnd) (a b : Seen) → Sound 346624 a → Cycles n end a b → StandsForSome a → Returns end a b
returned n (settle_end.Lit held) a b sound h some = back held a b sound some h
returned n settle_end.Spent a b sound h some = ⊎_elim (λ off. unwoken_off n a b off) (λ on. unlit_off a b some on) h
returned n settle_end.Unrecognised a b sound h some = never_none a b some h.0 h.1
returned n settle_end.NoMemory a b sound h some = unlit_off a b some h
