-- The ranges of what comes to managers and assistants, and of what they give.
use Rattle.std.specs.Prelude.{◌≢◌, ℕ, ◌≤◌, ◌<◌, ◌^◌, List, [], length}
use Rattle.sgp_values.specs.Ranges.{IsEimId}
use Rattle.small_card.specs.Lists.{Every}
use Rattle.small_card.specs.Ranges.{IsAnswer, IsBody, IsCommand, IsNumber, greatest_counter}
use Rattle.small_card.specs.declared.limits.TheConstants.{MOST_PENDING}
use Rattle.small_card.specs.declared.types.Command.{Command}
use Rattle.es10_codec.specs.Spelling.{command, IsShort}
use Rattle.esipa_codec.specs.Ranges.{IsToEim, IsToIpa}
use Rattle.esipa_codec.specs.Spelling.{to_ipa}
use Rattle.esipa_codec.specs.declared.messages.Post.{Post}
use Rattle.esipa_codec.specs.declared.messages.ToIpa.{ToIpa}
use Rattle.part_records.specs.declared.records.EimInput.{EimInput}
use Rattle.part_records.specs.declared.records.EimInput.TheVariants as eim_in
use Rattle.part_records.specs.declared.records.EimOutput.{EimOutput}
use Rattle.part_records.specs.declared.records.EimOutput.TheVariants as eim_out
use Rattle.part_records.specs.declared.records.IpaInput.{IpaInput}
use Rattle.part_records.specs.declared.records.IpaInput.TheVariants as ipa_in
use Rattle.part_records.specs.declared.records.Deeds.{Deeds}
use Rattle.part_records.specs.declared.records.Deeds.TheVariants as deeds

-- A manager is bound to an association and to a counter, which may be 0.
pub record IsBind (to_be last_used : ℕ) : Type 0 where
  pub association : IsNumber to_be
  pub last : last_used ≤ greatest_counter

unfoldable pub IsEimInput : EimInput → Type 0
IsEimInput (eim_in.Bind association last) = IsBind association last
IsEimInput (eim_in.Order body) = IsBody body
IsEimInput eim_in.Skip = Unit {0}
IsEimInput (eim_in.Message m) = IsToEim m

-- A message that an element of three length octets can carry.
pub record IsReply (m : ToIpa) : Type 0 where
  pub range : IsToIpa m
  pub short : length (to_ipa m) ≤ 16777215

unfoldable pub IsEimOutput : EimOutput → Type 0
IsEimOutput (eim_out.Ordered counter) = counter < 2 ^ 64
IsEimOutput (eim_out.Refused why) = Unit {0}
IsEimOutput eim_out.Bound = Unit {0}
IsEimOutput (eim_out.Skipped counter) = counter < 2 ^ 64
IsEimOutput (eim_out.Reply m) = IsReply m
IsEimOutput eim_out.Silent = Unit {0}

unfoldable pub IsIpaInput : IpaInput → Type 0
IsIpaInput (ipa_in.Message from good m) = IsEimId from × IsToIpa m
IsIpaInput (ipa_in.Probe passed) = Unit {0}
IsIpaInput ipa_in.Restart = Unit {0}
IsIpaInput ipa_in.Push = Unit {0}
IsIpaInput (ipa_in.Answered a) = IsAnswer a
IsIpaInput (ipa_in.Poll id) = IsEimId id

-- A message goes to a manager.
pub record IsPost (p : Post) : Type 0 where
  pub to : IsEimId p.to
  pub message : IsToEim p.message

-- A command that an element in an element can carry.
pub record IsToCard (c : Command) : Type 0 where
  pub range : IsCommand c
  pub elements : IsShort c
  pub short : length (command c) ≤ 16777205

-- At most as many messages go out at once as results can be pending.
pub record ArePosts (posts : List Post) : Type 0 where
  pub few : length posts ≤ MOST_PENDING
  pub each : Every IsPost posts

unfoldable pub AreDeeds : Deeds → Type 0
AreDeeds (deeds.ToCard c) = IsToCard c
AreDeeds (deeds.ToEims posts) = ArePosts posts
AreDeeds deeds.Nothing = Unit {0}

-- What is sent to nobody is said as nothing, and not by an empty list.
pub record IsSaid (d : Deeds) : Type 0 where
  pub range : AreDeeds d
  pub some : d ≢ deeds.ToEims []
