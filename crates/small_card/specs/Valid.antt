-- The full cards that may stand on a chip.
use Rattle.std.specs.Prelude.{ℕ, ◌≡◌, ◌≤◌, ◌<◌, ◌≢◌, Bool, true, List, length, Some, ◌&&◌, not}
use Rattle.std.specs.List.{list_any}
use Rattle.small_card.specs.Lists.{Every, EveryPair}
use Rattle.small_card.specs.Cards.{SmallCard, FullCard, EimList, Results}
use Rattle.small_card.specs.Profiles.{has_profile}
use Rattle.small_card.specs.Ranges.{IsNumber, IsTable, IsResult, IsBefore, greatest_counter}
use Rattle.small_card.specs.Units.{has_seq}
use Rattle.sgp_values.specs.Eids.{IsEid}
use Rattle.sgp_values.specs.Ranges.{IsEimId, IsAddress, IsKey}
use Rattle.small_card.specs.declared.types.EimEntry.{EimEntry}
use Rattle.small_card.specs.declared.types.PackageResult.{PackageResult}
use Rattle.small_card.specs.declared.types.Armed.{Armed}
use Rattle.small_card.specs.declared.limits.TheConstants.{MOST_EIMS, MOST_PENDING}

-- An entry is in range, and its association was given out before the next one.
pub record IsEntry (next : ℕ) (e : EimEntry) : Type 0 where
  pub id : IsEimId e.id
  pub address : IsAddress e.address
  pub key : IsKey e.key
  pub counter : e.counter ≤ greatest_counter
  pub some : 1 ≤ e.association
  pub given : e.association < next

-- Two entries of one card have distinct identifiers and distinct associations.
pub record AreEntriesApart (d e : EimEntry) : Type 0 where
  pub ids : d.id ≢ e.id
  pub associations : d.association ≢ e.association

-- At most 8 eIMs are in range and apart, and the next association is from 1.
pub record AreEims (ms : EimList) : Type 0 where
  pub few : length ms.entries ≤ MOST_EIMS
  pub each : Every (IsEntry ms.next) ms.entries
  pub apart : EveryPair AreEntriesApart ms.entries
  pub next : IsNumber ms.next

-- A pending result is in range, and its number was given out before the next one.
pub record IsPending (next : ℕ) (r : PackageResult) : Type 0 where
  pub result : IsResult r
  pub given : r.seq < next

-- At most 8 results are pending, in rising numbers, and the next number is from 1.
pub record AreResults (rs : Results) : Type 0 where
  pub few : length rs.pending ≤ MOST_PENDING
  pub each : Every (IsPending rs.next) rs.pending
  pub rising : EveryPair IsBefore rs.pending
  pub next : IsNumber rs.next

-- A card is valid where its parts are.
pub record IsValidCard (c : SmallCard) : Type 0 where
  pub eid : IsEid c.eid
  pub profiles : IsTable c.profiles
  pub eims : AreEims c.eims
  pub results : AreResults c.results

-- The result with this number is pending, and isn't marked.
abbrev pub is_unmarked : ℕ → List PackageResult → Bool
is_unmarked seq rs = list_any (λ r. has_seq seq r && not r.rolled) rs

-- The former profile is in the table, the armed result is pending and unmarked, a number is left.
pub record IsArmed (c : SmallCard) (a : Armed) : Type 0 where
  pub former : has_profile a.former c.profiles ≡ true
  pub result : is_unmarked a.seq c.results.pending ≡ true
  pub room : c.results.next ≤ 4294967294

-- A full card is valid where its card is and what is armed is on it.
pub record IsValid (f : FullCard) : Type 0 where
  pub card : IsValidCard f.card
  pub armed : (a : Armed) → f.armed ≡ Some a → IsArmed f.card a
