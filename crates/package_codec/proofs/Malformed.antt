-- A load is malformed exactly where its octets, not too many, spell no signed package in range.
use Rattle.std.proofs.Common.{◌≡◌, ◌≢◌, ℕ, ◌≤◌, Bool, true, false, not, cond, List, length, arith, refl, ◌∙◌, ap, Option, None, Some, Err}
use Rattle.std.specs.Prelude.{nat_le, ◌↔◌}
use Rattle.std.specs.Option.{option_or}
use Rattle.std.specs.List.{AllPass}
use Rattle.std.proofs.lemmas.Bool.{cond_both, le-leb}
use Rattle.sgp_values.specs.Ranges.{is_octet}
use Rattle.sgp_values.proofs.Octets.{bounds_from_AllPass}
use Rattle.small_card.specs.Cards.{SmallCard}
use Rattle.small_card.specs.Checks.{refused, has_association, has_room, eim_refusal, later_refusal}
use Rattle.small_card.specs.Histories.{History, card_of, kept}
use Rattle.small_card.specs.Lists.{same}
use Rattle.small_card.specs.EimOperations.{has_eim}
use Rattle.small_card.specs.Ranges.{IsSigned}
use Rattle.small_card.specs.declared.types.Package.{Package}
use Rattle.small_card.specs.declared.types.Refused.{Refused}
use Rattle.small_card.specs.declared.types.Signed.{Signed}
use Rattle.package_codec.specs.Checks.{most_octets, verdict_refusal, package_refusal, unless_refused, check_read, check, IsRefusedWith}
use Rattle.package_codec.specs.Reading.{signed_at}
use Rattle.package_codec.specs.Spelling.{signed}
use Rattle.package_codec.proofs.Packages.{signed_takes, signed_again}

-- a refusal over values has another code than a malformed package
abbrev IsOther : Option Refused → Type 0
IsOther None = Unit {0}
IsOther (Some r) = 2 ≤ r.code

either_other : (o p : Option Refused) → IsOther o → IsOther p → IsOther (option_or o p)
either_other None p h k = k
either_other (Some r) p h k = h

eim_other : (c : SmallCard) (p : Package) → IsOther (eim_refusal c p)
unfolding eim_refusal refused
eim_other c p = cond_both {A = Option Refused} (has_eim p.eim c.eims.entries) None (Some (refused 2)) IsOther (λ _. tt) (λ _. omega arith)

verdict_other : (good : Bool) → IsOther (verdict_refusal good)
unfolding refused
verdict_other true = tt
verdict_other false = omega arith

later_other : (c : SmallCard) (n : ℕ) (p : Package) → IsOther (later_refusal c n p)
unfolding later_refusal refused
later_other c n p =
    let replay : Refused = record { code = 6; kept = n; received = p.counter } in
    let room : Option Refused = cond (not (has_room c.results)) (Some (refused 7)) None in
    let counted : Option Refused = cond (nat_le p.counter n) (Some replay) room in
    let named : Option Refused = cond (not (has_association p.eim p.association c.eims.entries)) (Some (refused 5)) counted in
    cond_both {A = Option Refused} (not (same p.eid c.eid)) (Some (refused 4)) named IsOther (λ _. omega arith) (λ _.
    cond_both {A = Option Refused} (not (has_association p.eim p.association c.eims.entries)) (Some (refused 5)) counted IsOther (λ _. omega arith) (λ _.
    cond_both {A = Option Refused} (nat_le p.counter n) (Some replay) room IsOther (λ _. omega arith) (λ _.
    cond_both {A = Option Refused} (not (has_room c.results)) (Some (refused 7)) None IsOther (λ _. omega arith) (λ _. tt))))

package_other : (h : History) (good : Bool) (p : Package) → IsOther (package_refusal h good p)
unfolding package_refusal
package_other h good p =
    either_other (eim_refusal (card_of h) p) _ (eim_other (card_of h) p)
    (either_other (verdict_refusal good) (later_refusal (card_of h) (kept h p.eim p.association) p) (verdict_other good) (later_other (card_of h) (kept h p.eim p.association) p))

not_malformed : (o : Option Refused) (p : Package) → IsOther o → IsRefusedWith 1 (unless_refused o p) → ⊥
not_malformed None p h e = e
not_malformed (Some r) p h e = omega (arith, h, e)

check_short : (h : History) (good : Bool) (bytes : List ℕ) → length bytes ≤ most_octets → check h good bytes ≡ check_read h good (signed_at bytes)
unfolding check
check_short h good bytes short = ap (λ b. cond b (check_read h good (signed_at bytes)) (Err (refused 8))) (le-leb (length bytes) most_octets short)

read_malformed : (h : History) (good : Bool) (o : Option Signed) → IsRefusedWith 1 (check_read h good o) → o ≡ None
unfolding check_read
read_malformed h good None e = refl
read_malformed h good (Some s) e = absurd (not_malformed (package_refusal h good s.«package») s.«package» (package_other h good s.«package») e)

none_malformed : (h : History) (good : Bool) (o : Option Signed) → o ≡ None → IsRefusedWith 1 (check_read h good o)
unfolding check_read refused
none_malformed h good None e = refl
none_malformed h good (Some s) e = absurd cc

-- what isn't read isn't spelled, and what isn't spelled isn't read
none_spelled : (bytes : List ℕ) → signed_at bytes ≡ None → (s : Signed) → IsSigned s → bytes ≢ signed s
none_spelled bytes none s fits e = let read : signed_at bytes ≡ Some s = ap signed_at e ∙ signed_again s fits in absurd cc

none_read : (bytes : List ℕ) → AllPass is_octet bytes → ((s : Signed) → IsSigned s → bytes ≢ signed s) → signed_at bytes ≡ None
none_read bytes octets none =
    elim (signed_at bytes) as (λ o. signed_at bytes ≡ o → o ≡ None) [
      | None ↦ λ e. refl
      | Some s ↦ λ e. let k = signed_takes bytes s (bounds_from_AllPass bytes octets) e in absurd (none s k.0 k.1)
    ] refl

pub malformed_exactly : (h : History) (good : Bool) (bytes : List ℕ) → AllPass is_octet bytes → length bytes ≤ most_octets → IsRefusedWith 1 (check h good bytes) ↔ ((s : Signed) → IsSigned s → bytes ≢ signed s)
malformed_exactly h good bytes octets short = (
  λ e. none_spelled bytes (read_malformed h good (signed_at bytes) (rw (check_short h good bytes short) at e)),
  λ none. rw (check_short h good bytes short) (none_malformed h good (signed_at bytes) (none_read bytes octets none)),
)
