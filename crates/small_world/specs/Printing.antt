-- What each line of a schedule prints. Of a line that steps the card: `no such`, then `rest`, then
-- `off`, then what the step says.
use Rattle.std.specs.Prelude.{ℕ, Bool, List, ◌∷◌, ◌++◌, length, nat_lt, if◌then◌else◌, Option, Some, None, codes}
use Rattle.std.specs.Fmt.{decimal}
use Rattle.small_card.specs.Histories.{card_of}
use Rattle.small_card.specs.declared.types.Command.{Command}
use Rattle.small_card.specs.declared.types.Command.TheVariants as command
use Rattle.package_codec.specs.Replies.{reply}
use Rattle.esipa_codec.specs.Assistant.{IpaEvent, poll, push, message, probe, answered, act_of, strikes}
use Rattle.esipa_codec.specs.Eims.{EimState, bind_end, order_end, skip_end, message_end}
use Rattle.esipa_codec.specs.Records.{records_of}
use Rattle.esipa_codec.specs.declared.messages.Post.{Post}
use Rattle.iot_schedule.specs.declared.types.Line.{Line}
use Rattle.iot_schedule.specs.declared.types.Line.TheVariants as line
use Rattle.trace_text.specs.Texts.{card_text, kept_text}
use Rattle.small_world.specs.Worlds.{SmallWorld, eid_of}
use Rattle.small_world.specs.Network.{is_known, eim_of, picked}
use Rattle.small_world.specs.Acting.{command_of, posts_of}
use Rattle.small_world.specs.Texts.{no_such, rest, off, lost_text, said, sent_text, also_sent, pushed_text, bind_text, order_text, skip_text, answer_text, modems_text}
use Rattle.small_world.specs.declared.reply.Reply.{Reply}

-- A line that steps the card: `off` where it is dark, `lost` where the step is, else what the step says.
abbrev pub step_text : SmallWorld → Bool → List ℕ → List ℕ
step_text w lost text = if w.lit then (if lost then lost_text else text) else off

-- What the card replies to a command.
abbrev pub replied : SmallWorld → Command → List ℕ
replied w c = said c (reply w.history c)

-- What the named eIM says, if it is in the world.
unfoldable pub of_eim : (EimState → List ℕ) → Option EimState → List ℕ
of_eim says None = no_such
of_eim says (Some e) = says e

-- What comes back for a message, by the place that its answer gets.
unfoldable pub up_text : SmallWorld → Option Post → List ℕ
up_text w None = no_such
up_text w (Some p) = of_eim (λ e. answer_text (length w.to_ipa) (message_end p.message e)) (eim_of p.to w.eims)

-- The messages that the assistant sends for the card's reply to a command that followed this event.
unfoldable pub sent_for : SmallWorld → IpaEvent → Command → List Post
sent_for w e c = posts_of (act_of (e ∷ w.assistant) (answered (reply w.history c)))

-- What a message to the assistant comes to: nothing to do, or what the card replies to the command.
unfoldable pub obeyed_text : SmallWorld → IpaEvent → Bool → Option Command → List ℕ
obeyed_text w e lost None = rest
obeyed_text w e lost (Some c) = step_text w lost (replied w c ++ also_sent (length w.to_eims) (sent_for w e c))

unfoldable pub down_text : SmallWorld → Bool → Bool → Option Reply → List ℕ
down_text w good lost None = no_such
down_text w good lost (Some r) =
    let e = message r.from r.message good in
    obeyed_text w e lost (command_of (act_of w.assistant e))

-- What a probe comes to: strikes, or what the card replies to the rollback.
unfoldable pub probe_text : SmallWorld → IpaEvent → Bool → Option Command → List ℕ
probe_text w e lost None = codes "strikes " ++ decimal (strikes (e ∷ w.assistant))
probe_text w e lost (Some c) = step_text w lost (replied w c)

-- What a line prints.
unfoldable pub printed : SmallWorld → Line → Bool → List ℕ
printed w (line.Eim id) lost = if is_known id w.eims then codes "eim exists" else codes "eim ok"
printed w (line.Initial id address key) lost = step_text w lost (replied w (command.Initial id address key))
printed w (line.Bind id association last) lost = of_eim (λ e. bind_text (bind_end association last e)) (eim_of id w.eims)
printed w (line.Order id body) lost = of_eim (λ e. order_text (order_end e)) (eim_of id w.eims)
printed w (line.Skip id) lost = of_eim (λ e. skip_text (skip_end e)) (eim_of id w.eims)
printed w (line.Poll id) lost =
    if is_known id w.eims then sent_text (length w.to_eims) (posts_of (act_of w.assistant (poll id (eid_of w)))) else no_such
printed w (line.Up pick) lost = up_text w (picked pick w.to_eims)
printed w (line.Down pick good) lost = down_text w good lost (picked pick w.to_ipa)
printed w (line.Load good bytes) lost = step_text w lost (replied w (command.Load good bytes))
printed w line.Push lost = step_text w lost (pushed_text (length w.to_eims) (sent_for w push command.Results))
printed w (line.Probe passed) lost = probe_text w (probe passed) lost (command_of (act_of w.assistant (probe passed)))
printed w line.Rollback lost = step_text w lost (replied w command.Rollback)
printed w line.Restart lost = codes "restarted"
printed w (line.Cut calls tear) lost = codes "planned"
printed w line.Boot lost = if lost then lost_text else codes "booted"
printed w line.Show lost =
    let c = card_of w.history in
    if w.lit then card_text c.profiles c.eims.entries c.results.pending else off
printed w (line.Kept id) lost = of_eim (λ e. kept_text (records_of e.received)) (eim_of id w.eims)
printed w (line.Detach at) lost = if nat_lt at (length w.modems) then codes "detached" else no_such
printed w line.Modems lost = modems_text w.modems

-- What the first line prints: the number of profiles.
unfoldable pub device_printed : ℕ → List ℕ
device_printed profiles = codes "device " ++ decimal profiles
