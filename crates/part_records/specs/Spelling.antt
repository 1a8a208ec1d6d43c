-- The one spelling of what comes to managers and assistants, and of what they give.
use Rattle.std.specs.Prelude.{ℕ, ◌≤◌, Bool, List, [], ◌++◌, length}
use Rattle.std.specs.List.{flat_map}
use Rattle.iot_bytes.specs.declared.frame.TheConstants.{FRAME_LIMIT}
use Rattle.sgp_der.specs.Element.{element}
use Rattle.sgp_der.specs.Number.{uint}
use Rattle.sgp_fields.specs.Alone.{number_alone}
use Rattle.sgp_fields.specs.Values.{flag_content}
use Rattle.package_codec.specs.Spelling.{body}
use Rattle.es10_codec.specs.Spelling.{answer, command}
use Rattle.esipa_codec.specs.Spelling.{to_eim, to_ipa}
use Rattle.esipa_codec.specs.declared.messages.Post.{Post}
use Rattle.esipa_codec.specs.declared.messages.ToIpa.{ToIpa}
use Rattle.part_records.specs.declared.records.EimInput.{EimInput}
use Rattle.part_records.specs.declared.records.EimInput.TheVariants as eim_in
use Rattle.part_records.specs.declared.records.EimRefusal.{EimRefusal}
use Rattle.part_records.specs.declared.records.EimRefusal.TheVariants as refusal
use Rattle.part_records.specs.declared.records.EimOutput.{EimOutput}
use Rattle.part_records.specs.declared.records.EimOutput.TheVariants as eim_out
use Rattle.part_records.specs.declared.records.IpaInput.{IpaInput}
use Rattle.part_records.specs.declared.records.IpaInput.TheVariants as ipa_in
use Rattle.part_records.specs.declared.records.Deeds.{Deeds}
use Rattle.part_records.specs.declared.records.Deeds.TheVariants as deed
use Rattle.part_records.specs.Ranges.{IsIpaInput}

-- what stands in a Bind: the association, and the last counter that was used with it
unfoldable pub bind_content : ℕ → ℕ → List ℕ
bind_content association last = element 0x80 (uint association) ++ element 0x81 (uint last)

-- what comes to a manager; an order is spelled by its operations alone
unfoldable pub eim_input : EimInput → List ℕ
eim_input (eim_in.Bind association last) = element 0xa0 (bind_content association last)
eim_input (eim_in.Order b) = body b
eim_input eim_in.Skip = element 0x86 []
eim_input (eim_in.Message m) = element 0xa7 (to_eim m)

-- the code of a refusal
abbrev pub refusal_code : EimRefusal → ℕ
refusal_code refusal.Unbound = 1
refusal_code refusal.CounterSpent = 2
refusal_code refusal.BindLow = 3
refusal_code refusal.NoneWaiting = 4

-- what a manager gives
unfoldable pub eim_output : EimOutput → List ℕ
eim_output (eim_out.Ordered counter) = element 0x80 (uint counter)
eim_output (eim_out.Refused why) = element 0xa1 (number_alone (refusal_code why))
eim_output eim_out.Bound = element 0x82 []
eim_output (eim_out.Skipped counter) = element 0x83 (uint counter)
eim_output (eim_out.Reply m) = element 0xa4 (to_ipa m)
eim_output eim_out.Silent = element 0x85 []

-- what stands in a message: the sender, the verdict on a package's signature, and the message
unfoldable pub message_content : List ℕ → Bool → ToIpa → List ℕ
message_content from good m = element 0x80 from ++ (element 0x81 (flag_content good) ++ element 0xa2 (to_ipa m))

-- what comes to an assistant
unfoldable pub ipa_input : IpaInput → List ℕ
ipa_input (ipa_in.Message from good m) = element 0xa0 (message_content from good m)
ipa_input (ipa_in.Probe passed) = element 0x81 (flag_content passed)
ipa_input ipa_in.Restart = element 0x82 []
ipa_input ipa_in.Push = element 0x83 []
ipa_input (ipa_in.Answered a) = element 0xa4 (answer a)
ipa_input (ipa_in.Poll id) = element 0x85 id

-- what comes to an assistant in a frame
pub record IsFramable (x : IpaInput) : Type 0 where
  pub range : IsIpaInput x
  pub short : length (ipa_input x) ≤ FRAME_LIMIT

-- what stands in a post: whom it goes to, and the message
unfoldable pub post_content : Post → List ℕ
post_content p = element 0x80 p.to ++ element 0xa2 (to_eim p.message)

-- a message to a manager
unfoldable pub post : Post → List ℕ
post p = element 0xa1 (post_content p)

-- what stands in the record of what an assistant does
unfoldable pub deeds_content : Deeds → List ℕ
deeds_content (deed.ToCard c) = element 0xa0 (command c)
deeds_content (deed.ToEims posts) = flat_map post posts
deeds_content deed.Nothing = []

-- what an assistant does
unfoldable pub deeds : Deeds → List ℕ
deeds d = element 0x30 (deeds_content d)
