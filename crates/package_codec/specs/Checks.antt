-- The checks of a load over its octets, in their order.
use Rattle.std.specs.Prelude.{ℕ, ◌≡◌, nat_le, Bool, List, length, Option, Some, None, Result, Ok, Err, if◌then◌else◌}
use Rattle.std.specs.Option.{option_or}
use Rattle.small_card.specs.Checks.{refused, eim_refusal, later_refusal}
use Rattle.small_card.specs.Histories.{History, card_of, kept}
use Rattle.small_card.specs.declared.types.Package.{Package}
use Rattle.small_card.specs.declared.types.Refused.{Refused}
use Rattle.small_card.specs.declared.types.Signed.{Signed}
use Rattle.small_card.specs.declared.limits.TheConstants.{MOST_PACKAGE_OCTETS}
use Rattle.package_codec.specs.Reading.{signed_at}

-- The most octets that a package may have.
abbrev pub most_octets : ℕ
most_octets = MOST_PACKAGE_OCTETS

-- A bad verdict on the signature.
abbrev pub verdict_refusal : Bool → Option Refused
verdict_refusal good = if good then None else Some (refused 3)

-- The first that applies: the eIM is unknown, the verdict is bad, then the checks after the verdict,
-- against the counter that the history keeps for the package's eIM and association.
unfoldable pub package_refusal : History → Bool → Package → Option Refused
package_refusal h good p =
    option_or (eim_refusal (card_of h) p) (option_or (verdict_refusal good) (later_refusal (card_of h) (kept h p.eim p.association) p))

-- The package, unless it is refused.
abbrev pub unless_refused : Option Refused → Package → Result Package Refused
unless_refused None p = Ok p
unless_refused (Some r) p = Err r

-- The package that was read is checked; where none was read, the octets are malformed.
unfoldable pub check_read : History → Bool → Option Signed → Result Package Refused
check_read h good None = Err (refused 1)
check_read h good (Some s) = unless_refused (package_refusal h good s.«package») s.«package»

-- The package that a load's octets spell, or the first check that it fails: it is too long, then
-- malformed, then those over its values.
unfoldable pub check : History → Bool → List ℕ → Result Package Refused
check h good bytes = if nat_le (length bytes) most_octets then check_read h good (signed_at bytes) else Err (refused 8)

-- The load is refused with this code.
abbrev pub IsRefusedWith : ℕ → Result Package Refused → Type 0
IsRefusedWith code (Ok p) = ⊥
IsRefusedWith code (Err r) = r.code ≡ code
