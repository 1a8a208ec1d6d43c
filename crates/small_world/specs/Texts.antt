-- The texts of a trace that aren't made of card values alone. Numbers are decimal.
use Rattle.std.specs.Prelude.{ℕ, ◌+◌, List, [], ◌∷◌, ◌++◌, Option, Some, None, codes}
use Rattle.std.specs.List.{flat_map}
use Rattle.std.specs.Fmt.{decimal}
use Rattle.iot_bytes.specs.Hexes.{hex}
use Rattle.small_card.specs.declared.types.Answer.{Answer}
use Rattle.small_card.specs.declared.types.Answer.TheVariants as answer
use Rattle.small_card.specs.declared.types.Command.{Command}
use Rattle.small_card.specs.declared.types.Command.TheVariants as command
use Rattle.esipa_codec.specs.declared.messages.Post.{Post}
use Rattle.esipa_codec.specs.declared.messages.ToIpa.{ToIpa}
use Rattle.esipa_codec.specs.declared.messages.ToIpa.TheVariants as to_ipa
use Rattle.esipa_codec.specs.declared.ends.BindEnd.{BindEnd}
use Rattle.esipa_codec.specs.declared.ends.BindEnd.TheVariants as bound
use Rattle.esipa_codec.specs.declared.ends.MessageEnd.{MessageEnd}
use Rattle.esipa_codec.specs.declared.ends.MessageEnd.TheVariants as heard_end
use Rattle.esipa_codec.specs.declared.ends.OrderEnd.{OrderEnd}
use Rattle.esipa_codec.specs.declared.ends.OrderEnd.TheVariants as order_answer
use Rattle.modem_bank.specs.Modems.{Seen}
use Rattle.trace_text.specs.Texts.{items_text, refused_text}

-- the named eIM, message or modem isn't there
abbrev pub no_such : List ℕ
no_such = codes "no such"

-- a message brings nothing to do
abbrev pub rest : List ℕ
rest = codes "rest"

-- the card is dark
abbrev pub off : List ℕ
off = codes "off"

-- the step was lost
abbrev pub lost_text : List ℕ
lost_text = codes "lost"

abbrev pub removed_text : Command → List ℕ → List ℕ
removed_text (command.Remove seq) word = word ++ decimal seq
removed_text c word = word

-- what the card answered to a command; of the answers to listings nothing is printed here
unfoldable pub said : Command → Answer → List ℕ
said c answer.Personalised = []
said c (answer.Loaded r) = codes "loaded " ++ decimal r.seq ++ items_text r.items
said c (answer.LoadRefused r) = refused_text r
said c (answer.RolledBack seq) = codes "rolled " ++ decimal seq
said c answer.NotPermitted = codes "not permitted"
said c answer.Removed = removed_text c (codes "removed ")
said c answer.Absent = removed_text c (codes "absent ")
said c (answer.Results rs) = []
said c (answer.Eims es) = []
said c (answer.Associated association) = codes "associated " ++ decimal association
said c (answer.InitialRefused code) = codes "initial refused " ++ decimal code
said c answer.Malformed = []
said c answer.AlreadyPersonal = []

-- the places of messages that are sent, from this one on
unfoldable pub places_text : ℕ → List Post → List ℕ
places_text n [] = []
places_text n (p ∷ ps) = codes " " ++ decimal n ++ places_text (n + 1) ps

-- messages were sent
unfoldable pub sent_text : ℕ → List Post → List ℕ
sent_text n ps = codes "sent" ++ places_text n ps

-- a message that was sent besides
abbrev pub also_sent : ℕ → List Post → List ℕ
also_sent n [] = []
also_sent n (p ∷ ps) = codes " " ++ sent_text n (p ∷ ps)

-- the pending results that were sent
abbrev pub pushed_text : ℕ → List Post → List ℕ
pushed_text n [] = codes "nothing pending"
pushed_text n (p ∷ ps) = sent_text n (p ∷ ps)

unfoldable pub bind_text : BindEnd → List ℕ
bind_text bound.Bound = codes "bound"
bind_text (bound.Low n) = codes "bind low " ++ decimal n

unfoldable pub order_text : OrderEnd → List ℕ
order_text (order_answer.Ordered n) = codes "ordered " ++ decimal n
order_text order_answer.Unbound = codes "unbound"
order_text order_answer.CounterSpent = codes "counter spent"
order_text order_answer.NoMemory = []

unfoldable pub skip_text : Option ℕ → List ℕ
skip_text None = codes "none waiting"
skip_text (Some n) = codes "skipped " ++ decimal n

-- a message to the assistant
unfoldable pub message_text : ToIpa → List ℕ
message_text (to_ipa.Package bytes) = codes " package"
message_text to_ipa.Nothing = codes " nothing"
message_text (to_ipa.Ack seq) = codes " ack " ++ decimal seq

-- what an eIM answered, by the place of its message
unfoldable pub answer_text : ℕ → MessageEnd → List ℕ
answer_text n (heard_end.Reply m) = codes "reply " ++ decimal n ++ message_text m
answer_text n heard_end.Silent = codes "silent"
answer_text n heard_end.NoMemory = []

abbrev pub shown_text : Option (List ℕ) → List ℕ
shown_text None = codes "-"
shown_text (Some iccid) = hex iccid

-- a modem: what it shows, and how often it was refreshed
unfoldable pub modem_entry : Seen → List ℕ
modem_entry m = codes " " ++ shown_text m.0 ++ codes ":" ++ decimal m.1

unfoldable pub modems_text : List Seen → List ℕ
modems_text ms = codes "modems" ++ flat_map modem_entry ms
