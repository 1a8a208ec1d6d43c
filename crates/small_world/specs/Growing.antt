-- What is sent stays sent.
use Rattle.std.specs.Prelude.{◌≡◌, List, ◌++◌}
use Rattle.esipa_codec.specs.declared.messages.Post.{Post}
use Rattle.small_world.specs.Worlds.{SmallWorld}
use Rattle.small_world.specs.declared.reply.Reply.{Reply}

-- The messages of one world, each in its place, and then more.
pub record HasMore (v w : SmallWorld) : Type 0 where
  pub posts : List Post
  pub replies : List Reply
  pub to_eims : w.to_eims ≡ v.to_eims ++ posts
  pub to_ipa : w.to_ipa ≡ v.to_ipa ++ replies
