-- The ranges of packages, results, commands and answers.
use Rattle.std.specs.Prelude.{ℕ, ◌≡◌, ◌≤◌, ◌<◌, ◌↔◌, ◌≢◌, IfSome, true, List, length}
use Rattle.std.specs.List.{AllPass}
use Rattle.small_card.specs.Lists.{Every, EveryPair}
use Rattle.sgp_values.specs.Iccids.{IsIccid}
use Rattle.sgp_values.specs.Eids.{IsEid}
use Rattle.sgp_values.specs.Ranges.{IsEimId, IsAddress, IsKey, IsNickname, is_octet}
use Rattle.small_card.specs.declared.types.Profile.{Profile}
use Rattle.small_card.specs.declared.types.EimLine.{EimLine}
use Rattle.small_card.specs.declared.types.Psmo.{Psmo}
use Rattle.small_card.specs.declared.types.Psmo.TheVariants as psmo
use Rattle.small_card.specs.declared.types.Eco.{Eco}
use Rattle.small_card.specs.declared.types.Eco.TheVariants as eco
use Rattle.small_card.specs.declared.types.Item.{Item}
use Rattle.small_card.specs.declared.types.Item.TheVariants as item
use Rattle.small_card.specs.declared.types.Body.{Body}
use Rattle.small_card.specs.declared.types.Body.TheVariants.{Psmos, Ecos}
use Rattle.small_card.specs.declared.types.Package.{Package}
use Rattle.small_card.specs.declared.types.PackageResult.{PackageResult}
use Rattle.small_card.specs.declared.types.Signed.{Signed}
use Rattle.small_card.specs.declared.types.Refused.{Refused}
use Rattle.small_card.specs.declared.types.Command.{Command}
use Rattle.small_card.specs.declared.types.Command.TheVariants as command
use Rattle.small_card.specs.declared.types.Answer.{Answer}
use Rattle.small_card.specs.declared.types.Answer.TheVariants as answer
use Rattle.small_card.specs.declared.limits.TheConstants.{MOST_PROFILES, MOST_EIMS, MOST_OPERATIONS, MOST_PENDING, GREATEST_COUNTER}

-- An association or a sequence number is from 1 to 4,294,967,295.
pub record IsNumber (n : ℕ) : Type 0 where
  pub some : 1 ≤ n
  pub fits : n ≤ 4294967295

-- The greatest counter is 2^63 - 1.
abbrev pub greatest_counter : ℕ
greatest_counter = GREATEST_COUNTER

-- A package's counter is from 1 to the greatest.
pub record IsCounter (n : ℕ) : Type 0 where
  pub some : 1 ≤ n
  pub fits : n ≤ greatest_counter

-- A package has from 1 to 8 operations, and a result as many items.
pub record IsOneToEight (n : ℕ) : Type 0 where
  pub some : 1 ≤ n
  pub few : n ≤ MOST_OPERATIONS

-- An operation on profiles names an ICCID.
unfoldable pub IsPsmo : Psmo → Type 0
IsPsmo (psmo.Enable iccid rollback) = IsIccid iccid
IsPsmo (psmo.Disable iccid) = IsIccid iccid
IsPsmo (psmo.Delete iccid) = IsIccid iccid
IsPsmo psmo.List = Unit {0}

-- An operation on eIMs has its identifier, and the fields that it names, in their ranges.
unfoldable pub IsEco : Eco → Type 0
IsEco (eco.Add id address key) = IsEimId id × IsAddress address × IsKey key
IsEco (eco.Update id address key) = IsEimId id × IfSome address (λ a. IsAddress a) × IfSome key (λ k. IsKey k)
IsEco (eco.Delete id) = IsEimId id
IsEco eco.List = Unit {0}

-- A body has from 1 to 8 operations of one kind, each in range.
unfoldable pub IsBody : Body → Type 0
IsBody (Psmos ops) = IsOneToEight (length ops) × Every IsPsmo ops
IsBody (Ecos ops) = IsOneToEight (length ops) × Every IsEco ops

-- A package is in range where each of its fields is.
pub record IsPackage (p : Package) : Type 0 where
  pub eim : IsEimId p.eim
  pub eid : IsEid p.eid
  pub association : IsNumber p.association
  pub counter : IsCounter p.counter
  pub body : IsBody p.body

-- A signature has at most 128 octets.
pub record IsSignature (octets : List ℕ) : Type 0 where
  pub few : length octets ≤ 128
  pub each : AllPass is_octet octets

-- A signed package is in range where the package and the signature are.
pub record IsSigned (s : Signed) : Type 0 where
  pub «package» : IsPackage s.«package»
  pub signature : IsSignature s.signature

-- A profile is in range where its ICCID and its nickname are.
pub record IsProfile (p : Profile) : Type 0 where
  pub iccid : IsIccid p.iccid
  pub nickname : IsNickname p.nickname

-- Two profiles of one table have distinct ICCIDs, and not both are enabled.
pub record AreApart (p q : Profile) : Type 0 where
  pub iccids : p.iccid ≢ q.iccid
  pub enabled : p.enabled ≡ true → q.enabled ≡ true → ⊥

-- A table has at most 16 profiles, with distinct ICCIDs and at most one enabled.
pub record IsTable (ps : List Profile) : Type 0 where
  pub few : length ps ≤ MOST_PROFILES
  pub each : Every IsProfile ps
  pub apart : EveryPair AreApart ps

-- A line of the eIM list is in range where each of its fields is; its counter may be 0.
pub record IsEimLine (e : EimLine) : Type 0 where
  pub id : IsEimId e.id
  pub address : IsAddress e.address
  pub association : IsNumber e.association
  pub counter : e.counter ≤ greatest_counter

-- Two lines of one eIM list have distinct identifiers and distinct associations.
pub record AreLinesApart (d e : EimLine) : Type 0 where
  pub ids : d.id ≢ e.id
  pub associations : d.association ≢ e.association

-- An eIM list has at most 8 lines, each in range and all apart.
pub record IsEimList (es : List EimLine) : Type 0 where
  pub few : length es ≤ MOST_EIMS
  pub each : Every IsEimLine es
  pub apart : EveryPair AreLinesApart es

-- An add has an association exactly where its code is 0.
pub record IsAdd (c a : ℕ) : Type 0 where
  pub code : c ≤ 3
  pub fits : a ≤ 4294967295
  pub there : (1 ≤ a) ↔ (c ≡ 0)

-- A code is at most the greatest of its operation, and a list is in range.
unfoldable pub IsItem : Item → Type 0
IsItem (item.Enable code) = code ≤ 2
IsItem (item.Disable code) = code ≤ 2
IsItem (item.Delete code) = code ≤ 3
IsItem (item.Profiles ps) = IsTable ps
IsItem (item.Add code association) = IsAdd code association
IsItem (item.Update code) = code ≤ 1
IsItem (item.Dropped code) = code ≤ 2
IsItem (item.Eims es) = IsEimList es

-- A result is in range where each of its fields is, and it has from 1 to 8 items.
pub record IsResult (r : PackageResult) : Type 0 where
  pub seq : IsNumber r.seq
  pub eim : IsEimId r.eim
  pub association : IsNumber r.association
  pub counter : IsCounter r.counter
  pub many : IsOneToEight (length r.items)
  pub items : Every IsItem r.items

-- A refusal has a code from 1 to 8, and counters only where it is a replay, which is code 6.
pub record IsRefused (r : Refused) : Type 0 where
  pub some : 1 ≤ r.code
  pub few : r.code ≤ 8
  pub kept : r.kept ≤ greatest_counter
  pub received : r.received ≤ greatest_counter
  pub others : r.code ≢ 6 → (r.kept ≡ 0) × (r.received ≡ 0)

-- A command is in range where its fields are; a load carries any octets.
unfoldable pub IsCommand : Command → Type 0
IsCommand (command.Personalise eid profiles) = IsEid eid × IsTable profiles
IsCommand (command.Load good bytes) = AllPass is_octet bytes
IsCommand command.Rollback = Unit {0}
IsCommand (command.Remove seq) = IsNumber seq
IsCommand command.Results = Unit {0}
IsCommand command.Eims = Unit {0}
IsCommand (command.Initial id address key) = IsEimId id × IsAddress address × IsKey key

-- One result has a lower number than the other.
abbrev pub IsBefore : PackageResult → PackageResult → Type 0
IsBefore r s = r.seq < s.seq

-- A list of results has at most 8, each in range and in rising numbers.
pub record IsResultList (rs : List PackageResult) : Type 0 where
  pub few : length rs ≤ MOST_PENDING
  pub each : Every IsResult rs
  pub rising : EveryPair IsBefore rs

-- The first eIM is refused with code 1 or 2.
pub record IsInitialRefusal (code : ℕ) : Type 0 where
  pub some : 1 ≤ code
  pub few : code ≤ 2

-- An answer is in range where its fields are.
unfoldable pub IsAnswer : Answer → Type 0
IsAnswer answer.Personalised = Unit {0}
IsAnswer (answer.Loaded r) = IsResult r
IsAnswer (answer.LoadRefused r) = IsRefused r
IsAnswer (answer.RolledBack seq) = IsNumber seq
IsAnswer answer.NotPermitted = Unit {0}
IsAnswer answer.Removed = Unit {0}
IsAnswer answer.Absent = Unit {0}
IsAnswer (answer.Results rs) = IsResultList rs
IsAnswer (answer.Eims es) = IsEimList es
IsAnswer (answer.Associated association) = IsNumber association
IsAnswer (answer.InitialRefused code) = IsInitialRefusal code
IsAnswer answer.Malformed = Unit {0}
IsAnswer answer.AlreadyPersonal = Unit {0}
