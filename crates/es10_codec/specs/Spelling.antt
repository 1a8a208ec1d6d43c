-- The one spelling of each command, of each answer and of the stop record.
use Rattle.std.specs.Prelude.{ℕ, ◌≤◌, Bool, List, [], ◌++◌, length}
use Rattle.std.specs.List.{flat_map}
use Rattle.sgp_der.specs.Element.{element}
use Rattle.sgp_der.specs.Number.{uint}
use Rattle.sgp_fields.specs.Values.{flag_content}
use Rattle.sgp_fields.specs.Alone.{number_alone}
use Rattle.sgp_fields.specs.Config.{config_content}
use Rattle.small_card.specs.Ranges.{IsCommand}
use Rattle.small_card.specs.declared.types.Profile.{Profile}
use Rattle.small_card.specs.declared.types.PackageResult.{PackageResult}
use Rattle.small_card.specs.declared.types.Command.{Command}
use Rattle.small_card.specs.declared.types.Command.TheVariants as order
use Rattle.small_card.specs.declared.types.Answer.{Answer}
use Rattle.small_card.specs.declared.types.Answer.TheVariants as reply
use Rattle.result_codec.specs.Spelling.{profiles, eim_lines, result, refusal}

-- what stands in a Personalise: the EID and the profiles
unfoldable pub personalise_content : List ℕ → List Profile → List ℕ
personalise_content eid ps = element 0x80 eid ++ element 0xa1 (profiles ps)

-- what stands in a Load: the verdict on the signature and the octets of the package
unfoldable pub load_content : Bool → List ℕ → List ℕ
load_content good bytes = element 0x80 (flag_content good) ++ element 0x81 bytes

-- a command to the card
unfoldable pub command : Command → List ℕ
command (order.Personalise eid ps) = element 0xa0 (personalise_content eid ps)
command (order.Load good bytes) = element 0xa1 (load_content good bytes)
command order.Rollback = element 0x82 []
command (order.Remove seq) = element 0xa3 (number_alone seq)
command order.Results = element 0x84 []
command order.Eims = element 0x85 []
command (order.Initial id address key) = element 0xa6 (config_content id address key)

-- no element of the command has more octets than three length octets say; only a Load can have them
unfoldable pub IsShort : Command → Type 0
IsShort (order.Personalise eid ps) = Unit {0}
IsShort (order.Load good bytes) = length (load_content good bytes) ≤ 16777215
IsShort order.Rollback = Unit {0}
IsShort (order.Remove seq) = Unit {0}
IsShort order.Results = Unit {0}
IsShort order.Eims = Unit {0}
IsShort (order.Initial id address key) = Unit {0}

-- a command that has a spelling
pub record IsSpellable (c : Command) : Type 0 where
  pub range : IsCommand c
  pub short : IsShort c

-- one result behind the other
abbrev pub results : List PackageResult → List ℕ
results rs = flat_map result rs

-- an answer of the card
unfoldable pub answer : Answer → List ℕ
answer reply.Personalised = element 0x80 []
answer (reply.Loaded r) = element 0xa1 (result r)
answer (reply.LoadRefused r) = element 0xa2 (refusal r)
answer (reply.RolledBack seq) = element 0xa3 (number_alone seq)
answer reply.NotPermitted = element 0x84 []
answer reply.Removed = element 0x85 []
answer reply.Absent = element 0x86 []
answer (reply.Results rs) = element 0xa7 (results rs)
answer (reply.Eims es) = element 0xa8 (eim_lines es)
answer (reply.Associated association) = element 0xa9 (number_alone association)
answer (reply.InitialRefused code) = element 0xaa (number_alone code)
answer reply.Malformed = element 0x8b []
answer reply.AlreadyPersonal = element 0x8c []

-- what stands in the stop record: the status, and the number of the frame
unfoldable pub stop_content : ℕ → ℕ → List ℕ
stop_content status number = element 0x80 (uint status) ++ element 0x81 (uint number)

-- the stop record
unfoldable pub stopped : ℕ → ℕ → List ℕ
stopped status number = element 0xad (stop_content status number)
