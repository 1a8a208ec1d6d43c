-- All messages ever sent, as octets, and what they stand for.
use Rattle.std.specs.Prelude.{◌≡◌, ℕ, ◌+◌, List, [], ◌++◌, length, map, sum, Option, Some, None}
use Rattle.small_card.specs.Lists.{Every}
use Rattle.esipa_codec.specs.Ranges.{IsToEim, IsToIpa}
use Rattle.esipa_codec.specs.Spelling.{to_eim, to_ipa}
use Rattle.esipa_codec.specs.declared.messages.Post.{Post}
use Rattle.esipa_codec.specs.declared.ends.MessageEnd.{MessageEnd}
use Rattle.small_world.specs.Network.{reply_of}
use Rattle.small_world.specs.declared.reply.Reply.{Reply}
use Rattle.world_network.specs.declared.mail.Letter.{Letter}
use Rattle.world_network.specs.declared.mail.Mail.{Mail}

-- A message to an eIM as a letter: whom it goes to, and its octets.
abbrev pub post_letter : Post → Letter
post_letter p = record { peer = p.to; octets = to_eim p.message }

-- A message to the assistant as a letter: whom it comes from, and its octets.
abbrev pub reply_letter : Reply → Letter
reply_letter r = record { peer = r.from; octets = to_ipa r.message }

-- The octets of messages to eIMs, and of messages to the assistant.
abbrev pub posts_octets : List Post → ℕ
posts_octets ps = sum (map (λ p. length (to_eim p.message)) ps)

abbrev pub replies_octets : List Reply → ℕ
replies_octets rs = sum (map (λ r. length (to_ipa r.message)) rs)

-- A message to an eIM is in range.
abbrev pub IsPost : Post → Type 0
IsPost p = IsToEim p.message

-- A message to the assistant is in range.
abbrev pub IsReply : Reply → Type 0
IsReply r = IsToIpa r.message

-- The letters are those of these messages, all in range, and their octets are counted.
pub record IsMail (m : Mail) (ps : List Post) (rs : List Reply) : Type 0 where
  pub to_eims : m.to_eims ≡ map post_letter ps
  pub to_ipa : m.to_ipa ≡ map reply_letter rs
  pub octets : m.octets ≡ posts_octets ps + replies_octets rs
  pub posts_fit : Every IsPost ps
  pub replies_fit : Every IsReply rs

-- The mail after messages to eIMs were sent.
abbrev pub with_posts : List Post → Mail → Mail
with_posts ps m = record m { to_eims = m.to_eims ++ map post_letter ps; octets = m.octets + posts_octets ps }

-- The mail after messages to the assistant were sent.
abbrev pub with_replies : List Reply → Mail → Mail
with_replies rs m = record m { to_ipa = m.to_ipa ++ map reply_letter rs; octets = m.octets + replies_octets rs }

-- What is sent to the assistant for what an eIM said, if it is there.
abbrev pub replies_from : List ℕ → Option MessageEnd → List Reply
replies_from id None = []
replies_from id (Some end) = reply_of id end
