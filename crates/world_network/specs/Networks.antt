-- The network in code: the assistant, the eIMs and all messages between them, and the world that it
-- stands for.
use Rattle.std.specs.Prelude.{◌≡◌, ◌≤◌, ℕ, Bool, List, Option, Some, None}
use Rattle.esipa_codec.specs.Assistant.{IpaEvent, message, act_of}
use Rattle.esipa_codec.specs.Eims.{EimState, message_end}
use Rattle.esipa_codec.specs.declared.ends.Act.{Act}
use Rattle.esipa_codec.specs.declared.ends.MessageEnd.{MessageEnd}
use Rattle.esipa_codec.specs.declared.messages.Post.{Post}
use Rattle.sgp_values.specs.Eids.{IsEid}
use Rattle.ipa_core.specs.Assistants.{IsIpa}
use Rattle.ipa_core.specs.declared.assistant.Ipa.{Ipa}
use Rattle.small_world.specs.Acting.{hearing, sending, posts_of}
use Rattle.small_world.specs.Lossless.{AreApart}
use Rattle.small_world.specs.Network.{eim_of, picked}
use Rattle.small_world.specs.Octets.{most_octets_sent, IsWithin}
use Rattle.small_world.specs.Worlds.{SmallWorld, eid_of}
use Rattle.small_world.specs.declared.reply.Reply.{Reply}
use Rattle.iot_schedule.specs.declared.types.Pick.{Pick}
use Rattle.world_network.specs.Mails.{IsMail}
use Rattle.world_network.specs.Managers.{AreManagers}
use Rattle.world_network.specs.declared.mail.Mail.{Mail}
use Rattle.world_network.specs.declared.managers.Manager.{Manager}
use Rattle.world_network.specs.declared.network.Network.TheInside.{Inside}

-- A network: the EID of its card, the assistant, the eIMs, and the messages.
pub record Parts : Type 0 where
  pub eid : List ℕ
  pub ipa : Ipa
  pub managers : List Manager
  pub mail : Mail

abbrev pub parts_of : Inside → Parts
parts_of n = record { eid = n.eid; ipa = n.ipa; managers = n.managers.items; mail = n.mail }

-- The EID is in range, something happened to the assistant, and the octets are within the limit.
pub record IsSound (n : Inside) : Type 0 where
  pub eid : IsEid n.eid
  pub some : (events : List IpaEvent) × IsIpa n.ipa events
  pub few : n.mail.octets ≤ most_octets_sent

-- The network stands for the eIMs, the assistant and the messages of a world.
pub record IsNetwork (n : Parts) (w : SmallWorld) : Type 0 where
  pub eid : n.eid ≡ eid_of w
  pub ipa : IsIpa n.ipa w.assistant
  pub eims : AreManagers n.managers w.eims
  pub mail : IsMail n.mail w.to_eims w.to_ipa
  pub within : IsWithin w
  pub apart : AreApart w.eims

-- What the eIM of a message says to it; nothing where the eIM isn't in the world.
unfoldable pub said_to : Post → Option EimState → Option MessageEnd
said_to p None = None
said_to p (Some e) = Some (message_end p.message e)

-- What comes of a message to an eIM; nothing where there is no such message.
unfoldable pub heard_of : Option Post → List EimState → Option MessageEnd
heard_of None es = None
heard_of (Some p) es = said_to p (eim_of p.to es)

-- What the eIM of the named message says to it.
abbrev pub up_end : SmallWorld → Pick → Option MessageEnd
up_end w pick = heard_of (picked pick w.to_eims) w.eims

-- What the assistant does as a message comes; nothing where there is no such message.
unfoldable pub down_act : SmallWorld → Bool → Option Reply → Option Act
down_act w good None = None
down_act w good (Some r) = Some (act_of w.assistant (message r.from r.message good))

-- The assistant hears the message, if there is one.
unfoldable pub hearing_from : Bool → Option Reply → SmallWorld → SmallWorld
hearing_from good None w = w
hearing_from good (Some r) w = hearing (message r.from r.message good) w

-- The assistant hears an event, and the messages of its act are sent.
abbrev pub acting : IpaEvent → SmallWorld → SmallWorld
acting e w = sending (posts_of (act_of w.assistant e)) (hearing e w)
