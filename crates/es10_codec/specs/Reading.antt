-- Reading commands and answers from left to right.
use Rattle.std.specs.Prelude.{ℕ, ◌==◌, List, Option, Some, None, if◌then◌else◌}
use Rattle.sgp_der.specs.Fields.{◌>>=◌, only_at}
use Rattle.sgp_values.specs.Reading.{eid_of}
use Rattle.sgp_fields.specs.Values.{only_if, flag_of}
use Rattle.sgp_fields.specs.Fields.{value_at}
use Rattle.sgp_fields.specs.Elements.{whole_at, tagged_as}
use Rattle.sgp_fields.specs.Alone.{made_of, number_alone_of, empty_of}
use Rattle.sgp_fields.specs.Config.{config_of}
use Rattle.sgp_fields.specs.Lists.{list_at}
use Rattle.sgp_fields.specs.declared.config.EimConfig.{EimConfig}
use Rattle.small_card.specs.Pairs.{each_pair, are_rising}
use Rattle.small_card.specs.declared.types.PackageResult.{PackageResult}
use Rattle.small_card.specs.declared.types.Command.{Command}
use Rattle.small_card.specs.declared.types.Command.TheVariants as order
use Rattle.small_card.specs.declared.types.Answer.{Answer}
use Rattle.small_card.specs.declared.types.Answer.TheVariants as reply
use Rattle.result_codec.specs.Reading.{profiles_at, eim_lines_at, result_of, result_at, refusal_of}

-- the Personalise whose fields the content is
unfoldable pub personalise_of : List ℕ → Option Command
personalise_of content = do
  eid ← value_at eid_of 0x80 content
  inner ← only_at 0xa1 eid.1
  rows ← profiles_at inner
  Some (order.Personalise eid.0 rows)

-- the Load whose fields the content is; its octets are any
unfoldable pub load_of : List ℕ → Option Command
load_of content = do
  good ← value_at flag_of 0x80 content
  bytes ← only_at 0x81 good.1
  Some (order.Load good.0 bytes)

-- the Initial of an eIM's configuration
abbrev pub initial : EimConfig → Command
initial c = order.Initial c.id c.address c.key

-- the command that a tag and a content are
unfoldable pub command_of : ℕ → List ℕ → Option Command
command_of tag content =
    if tag == 0xa0 then personalise_of content
    else if tag == 0xa1 then load_of content
    else if tag == 0x82 then empty_of order.Rollback content
    else if tag == 0xa3 then made_of (number_alone_of 1 4294967295) order.Remove content
    else if tag == 0x84 then empty_of order.Results content
    else if tag == 0x85 then empty_of order.Eims content
    else if tag == 0xa6 then made_of config_of initial content
    else None

-- the command that the bytes spell
unfoldable pub command_at : List ℕ → Option Command
command_at bytes = whole_at command_of bytes

-- the list of results that the content is
unfoldable pub results_at : List ℕ → Option (List PackageResult)
results_at content = do
  rows ← list_at (tagged_as 0x30 result_of) 8 content
  only_if (each_pair are_rising rows) rows

-- the answer that a tag and a content are
unfoldable pub answer_of : ℕ → List ℕ → Option Answer
answer_of tag content =
    if tag == 0x80 then empty_of reply.Personalised content
    else if tag == 0xa1 then made_of result_at reply.Loaded content
    else if tag == 0xa2 then made_of refusal_of reply.LoadRefused content
    else if tag == 0xa3 then made_of (number_alone_of 1 4294967295) reply.RolledBack content
    else if tag == 0x84 then empty_of reply.NotPermitted content
    else if tag == 0x85 then empty_of reply.Removed content
    else if tag == 0x86 then empty_of reply.Absent content
    else if tag == 0xa7 then made_of results_at reply.Results content
    else if tag == 0xa8 then made_of eim_lines_at reply.Eims content
    else if tag == 0xa9 then made_of (number_alone_of 1 4294967295) reply.Associated content
    else if tag == 0xaa then made_of (number_alone_of 1 2) reply.InitialRefused content
    else if tag == 0x8b then empty_of reply.Malformed content
    else if tag == 0x8c then empty_of reply.AlreadyPersonal content
    else None

-- the answer that the bytes spell
unfoldable pub answer_at : List ℕ → Option Answer
answer_at bytes = whole_at answer_of bytes
