-- A package passes where nothing speaks against it, and only there.
use Rattle.std.proofs.Common.{◌≡◌, ℕ, Bool, true, false, not, List, refl, ◌∙◌, sym, subst, Option, None, Some}
use Rattle.std.specs.Prelude.{find, MatchOption}
use Rattle.std.proofs.lemmas.Bool.{true≢false}
use Rattle.small_card.specs.Cards.{EimList, Results}
use Rattle.small_card.specs.Lists.{same}
use Rattle.small_card.specs.EimOperations.{is_eim}
use Rattle.small_card.specs.declared.types.EimEntry.{EimEntry}
use Rattle.small_card.specs.declared.types.Refused.{Refused}
use Rattle.small_card.proofs.ListLemmas.{same_yes, same_self}
use Rattle.counter_check.specs.Loads.{Request, IsForEntry, Passes}

pub other_card : (i j : List ℕ) → true ≡ not (same i j) → i ≡ j → ⊥
other_card i j other e = let k = same_self i j e in absurd cc

pub own_card : (i j : List ℕ) → false ≡ not (same i j) → i ≡ j
own_card i j own =
    elim (same i j) as (λ b. same i j ≡ b → false ≡ not b → i ≡ j) [
      | true ↦ λ k e. same_yes i j k
      | false ↦ λ k e. absurd cc
    ] refl own

pub not_both : (b : Bool) → b ≡ true → b ≡ false → ⊥
not_both b e f = true≢false (sym e ∙ f)

pub no_entry : (request : Request) (eid : List ℕ) (eims : EimList) (store : Results) → find (is_eim request.load.eim) eims.entries ≡ None → Passes request eid eims store → ⊥
no_entry request eid eims store none p = let some = p.found in absurd cc

-- the checks against the entry are those that are left
pub from_entry : (o : Option Refused) (request : Request) (eid : List ℕ) (eims : EimList) (store : Results) (entry : EimEntry) → find (is_eim request.load.eim) eims.entries ≡ Some entry → request.good ≡ true
    → MatchOption o (IsForEntry request.load eid entry store) (λ _. IsForEntry request.load eid entry store → ⊥) → MatchOption o (Passes request eid eims store) (λ _. Passes request eid eims store → ⊥)
from_entry None request eid eims store entry found good fits = record { entry = entry; found = found; verdict = good; fits = fits }
from_entry (Some r) request eid eims store entry found good other = λ p.
    let f = p.found in
    let same : p.entry ≡ entry = cc in
    other (subst (λ (e : EimEntry). IsForEntry request.load eid e store) same p.fits)
