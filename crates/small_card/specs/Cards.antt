-- The card: its profiles, its eIMs, its pending results and its next numbers.
use Rattle.std.specs.Prelude.{ℕ, List, Option}
use Rattle.small_card.specs.declared.types.Profile.{Profile}
use Rattle.small_card.specs.declared.types.EimEntry.{EimEntry}
use Rattle.small_card.specs.declared.types.PackageResult.{PackageResult}
use Rattle.small_card.specs.declared.types.Armed.{Armed}

-- The eIMs that the card knows stand in order, and the next one gets the next association.
pub record EimList : Type 0 where
  pub entries : List EimEntry
  pub next : ℕ

-- The pending results stand in order, and the next one gets the next sequence number.
pub record Results : Type 0 where
  pub pending : List PackageResult
  pub next : ℕ

-- A small card has an EID, profiles, eIMs, pending results and the next numbers of both.
pub record SmallCard : Type 0 where
  pub eid : List ℕ
  pub profiles : List Profile
  pub eims : EimList
  pub results : Results

-- A full card is a small card and what is armed: none, or a former profile and a result's number.
pub record FullCard : Type 0 where
  pub card : SmallCard
  pub armed : Option Armed
