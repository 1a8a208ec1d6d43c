-- A load is accepted exactly where all checks pass.
use Rattle.std.proofs.Common.{◌≡◌, ℕ, ◌≤◌, Bool, true, false, cond, List, length, refl, ◌∙◌, ap, sym, subst, Option, None, Some, Ok, Err}
use Rattle.std.specs.Prelude.{nat_le}
use Rattle.std.specs.List.{AllPass}
use Rattle.std.specs.Option.{option_or}
use Rattle.std.proofs.lemmas.Bool.{leb-true, le-leb}
use Rattle.sgp_values.specs.Ranges.{is_octet}
use Rattle.sgp_values.proofs.Octets.{bounds_from_AllPass}
use Rattle.small_card.specs.Checks.{refused, eim_refusal, later_refusal, value_refusal}
use Rattle.small_card.specs.Histories.{History, card_of, kept}
use Rattle.small_card.specs.declared.types.Package.{Package}
use Rattle.small_card.specs.declared.types.Refused.{Refused}
use Rattle.small_card.specs.declared.types.Signed.{Signed}
use Rattle.package_codec.specs.Checks.{most_octets, verdict_refusal, package_refusal, unless_refused, check_read, check}
use Rattle.package_codec.specs.Reading.{signed_at}
use Rattle.package_codec.proofs.Packages.{signed_takes, signed_again}
use Rattle.package_codec.proofs.Replying.{accepted, neither}
use Rattle.counter_check.specs.Loads.{IsAcceptable}

-- what is accepted has a good verdict and isn't too long
record IsPassed (good : Bool) (bytes : List ℕ) : Type 0 where
  short : length bytes ≤ most_octets
  verdict : good ≡ true

good_passes : (good : Bool) (o p : Option Refused) (q r : Package) → unless_refused (option_or o (option_or (verdict_refusal good) p)) q ≡ Ok r → good ≡ true
good_passes true o p q r e = refl
good_passes false None p q r e = absurd cc
good_passes false (Some why) p q r e = absurd cc

read_passes : (h : History) (good : Bool) (o : Option Signed) (p : Package) → check_read h good o ≡ Ok p → good ≡ true
unfolding check_read package_refusal
read_passes h good None p e = absurd cc
read_passes h good (Some s) p e = good_passes good (eim_refusal (card_of h) s.«package») _ s.«package» p e

passed : (h : History) (good : Bool) (bytes : List ℕ) (p : Package) → check h good bytes ≡ Ok p → IsPassed good bytes
unfolding check
passed h good bytes p e =
    elim (nat_le (length bytes) most_octets) as (λ b. nat_le (length bytes) most_octets ≡ b → cond b (check_read h good (signed_at bytes)) (Err (refused 8)) ≡ Ok p → IsPassed good bytes) [
      | true ↦ λ is f. record { short = leb-true (length bytes) most_octets is; verdict = read_passes h good (signed_at bytes) p f }
      | false ↦ λ is f. absurd cc
    ] refl e

pub acceptable : (h : History) (good : Bool) (bytes : List ℕ) (p : Package) → AllPass is_octet bytes → check h good bytes ≡ Ok p → IsAcceptable h good bytes p
acceptable h good bytes p octets e =
    let pass = passed h good bytes p e in
    let a = accepted h good bytes p e in
    let t = signed_takes bytes a.read.0 (bounds_from_AllPass bytes octets) a.read.1 in
    record { short = pass.short; verdict = pass.verdict; spelled = a.read.0; range = t.0; octets = t.1; load = a.read.2; values = a.values }

no_refusal : (h : History) (p : Package) → value_refusal h p ≡ None → package_refusal h true p ≡ None
unfolding value_refusal package_refusal
no_refusal h p e =
    let n = neither (eim_refusal (card_of h) p) (later_refusal (card_of h) (kept h p.eim p.association) p) e in
    rw (n.0, n.1) refl

pub accepted_so : (h : History) (good : Bool) (bytes : List ℕ) (p : Package) → IsAcceptable h good bytes p → check h good bytes ≡ Ok p
unfolding check check_read
accepted_so h good bytes p a =
    let read : signed_at bytes ≡ Some a.spelled = ap signed_at a.octets ∙ signed_again a.spelled a.range in
    let values : value_refusal h a.spelled.«package» ≡ None = subst (λ (q : Package). value_refusal h q ≡ None) (sym a.load) a.values in
    rw (le-leb (length bytes) most_octets a.short, a.verdict, read, no_refusal h a.spelled.«package» values) (ap (λ (q : Package). Ok q) a.load)
