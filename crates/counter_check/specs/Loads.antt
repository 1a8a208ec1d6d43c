-- A load that was read, and the card that it is checked against.
use Rattle.std.specs.Prelude.{ℕ, ◌≡◌, ◌≤◌, ◌<◌, Bool, true, List, length, find, Some, None, Result}
use Rattle.small_card.specs.Cards.{EimList, Results}
use Rattle.small_card.specs.Histories.{History, card_of}
use Rattle.small_card.specs.Legal.{IsLegal}
use Rattle.small_card.specs.Checks.{has_room, value_refusal}
use Rattle.small_card.specs.EimOperations.{is_eim}
use Rattle.small_card.specs.Ranges.{IsSigned}
use Rattle.small_card.specs.declared.types.EimEntry.{EimEntry}
use Rattle.small_card.specs.declared.types.Package.{Package}
use Rattle.small_card.specs.declared.types.Refused.{Refused}
use Rattle.small_card.specs.declared.types.Signed.{Signed}
use Rattle.package_codec.specs.Checks.{most_octets, package_refusal, unless_refused}
use Rattle.package_codec.specs.Reading.{signed_at}
use Rattle.package_codec.specs.Spelling.{signed}

-- A package that was read, with the verdict on its signature.
pub record Request : Type 0 where
  pub good : Bool
  pub load : Package

-- The package is for this card, for the association of its eIM's entry, above the entry's counter, and its
-- result has room.
pub record IsForEntry (p : Package) (eid : List ℕ) (entry : EimEntry) (store : Results) : Type 0 where
  pub eid_is : p.eid ≡ eid
  pub association : entry.association ≡ p.association
  pub above : entry.counter < p.counter
  pub room : has_room store ≡ true

-- The eIM has an entry, the verdict is good, and the package is for this card and this entry.
pub record Passes (request : Request) (eid : List ℕ) (eims : EimList) (store : Results) : Type 0 where
  pub entry : EimEntry
  pub found : find (is_eim request.load.eim) eims.entries ≡ Some entry
  pub verdict : request.good ≡ true
  pub fits : IsForEntry request.load eid entry store

-- The octets aren't too many, and spell this package.
pub record IsRead (good : Bool) (bytes : List ℕ) (request : Request) : Type 0 where
  pub short : length bytes ≤ most_octets
  pub verdict : request.good ≡ good
  pub spelled : Signed
  pub octets : signed_at bytes ≡ Some spelled
  pub load : spelled.«package» ≡ request.load

-- A legal history whose card has this EID, these eIMs and these pending results, with the next numbers.
pub record IsCardOf (h : History) (eid : List ℕ) (eims : EimList) (store : Results) : Type 0 where
  pub legal : IsLegal h
  pub eid_is : (card_of h).eid ≡ eid
  pub eims_are : (card_of h).eims ≡ eims
  pub results_are : (card_of h).results ≡ store

-- What the checks behind length and grammar answer.
abbrev pub check_request : History → Request → Result Package Refused
check_request h request = unless_refused (package_refusal h request.good request.load) request.load

-- Nothing speaks against the package that the octets spell: they aren't too many, the verdict is good, the
-- octets are the spelling of the package under some signature, and the checks on its values pass, of which
-- the last is that a result has room.
pub record IsAcceptable (h : History) (good : Bool) (bytes : List ℕ) (p : Package) : Type 0 where
  pub short : length bytes ≤ most_octets
  pub verdict : good ≡ true
  pub spelled : Signed
  pub range : IsSigned spelled
  pub octets : bytes ≡ signed spelled
  pub load : spelled.«package» ≡ p
  pub values : value_refusal h p ≡ None
