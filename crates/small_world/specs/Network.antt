-- The network: which eIM and which message a line names, and what a message does at its eIM.
use Rattle.std.specs.Prelude.{ℕ, ◌-◌, Bool, List, [], ◌∷◌, ◌++◌, map, length, slice_get, if◌then◌else◌, Option, Some, None}
use Rattle.std.specs.List.{find, list_any}
use Rattle.small_card.specs.Lists.{same}
use Rattle.esipa_codec.specs.Eims.{EimState, new_eim, message_end, heard}
use Rattle.esipa_codec.specs.declared.messages.Post.{Post}
use Rattle.esipa_codec.specs.declared.ends.MessageEnd.{MessageEnd}
use Rattle.esipa_codec.specs.declared.ends.MessageEnd.TheVariants as heard_end
use Rattle.iot_schedule.specs.declared.types.Pick.{Pick}
use Rattle.iot_schedule.specs.declared.types.Pick.TheVariants.{At, Last}
use Rattle.small_world.specs.Worlds.{SmallWorld, eid_of}
use Rattle.small_world.specs.declared.reply.Reply.{Reply}

-- The eIM has this identifier.
abbrev pub is_named : List ℕ → EimState → Bool
is_named id e = same id e.id

-- An eIM of this identifier is in the world.
unfoldable pub is_known : List ℕ → List EimState → Bool
is_known id es = list_any (is_named id) es

-- The eIM of this identifier, if it is in the world.
unfoldable pub eim_of : List ℕ → List EimState → Option EimState
eim_of id es = find (is_named id) es

-- The eIM of this identifier changes; where there is none, nothing does.
unfoldable pub at_eim : List ℕ → (EimState → EimState) → List EimState → List EimState
at_eim id change es = map (λ e. if is_named id e then change e else e) es

-- The named message of a list; the newest one stands last.
unfoldable pub picked : {X : Type 0} → Pick → List X → Option X
picked (At n) xs = slice_get xs n
picked Last xs = slice_get xs (length xs - 1)

-- An eIM joins the world, unless one of its identifier is there.
unfoldable pub joined : List ℕ → SmallWorld → SmallWorld
joined id w = record w { eims = if is_known id w.eims then w.eims else w.eims ++ new_eim id (eid_of w) ∷ [] }

-- What an eIM answered is sent to the assistant.
abbrev pub reply_of : List ℕ → MessageEnd → List Reply
reply_of id (heard_end.Reply m) = record { from = id; message = m } ∷ []
reply_of id heard_end.Silent = []
reply_of id heard_end.NoMemory = []

-- What comes back for a message: nothing where its eIM isn't in the world.
unfoldable pub replies_of : Post → Option EimState → List Reply
replies_of p None = []
replies_of p (Some e) = reply_of e.id (message_end p.message e)

-- A message reaches its eIM, which hears it and may answer.
unfoldable pub gone_up : Option Post → SmallWorld → SmallWorld
gone_up None w = w
gone_up (Some p) w = record w {
  eims = at_eim p.to (heard p.message) w.eims;
  to_ipa = w.to_ipa ++ replies_of p (eim_of p.to w.eims);
}
