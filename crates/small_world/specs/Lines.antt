-- What each line of a schedule makes of the world.
use Rattle.std.specs.Prelude.{ℕ, Bool, false, List, if◌then◌else◌, Option, Some, None, nat_lt, length}
use Rattle.small_card.specs.declared.types.Answer.{Answer}
use Rattle.small_card.specs.declared.types.Answer.TheVariants as answer
use Rattle.small_card.specs.declared.types.Command.TheVariants as command
use Rattle.package_codec.specs.Replies.{reply}
use Rattle.esipa_codec.specs.Assistant.{poll, push, message, probe, restart}
use Rattle.esipa_codec.specs.Eims.{bound_to, ordered, skipped}
use Rattle.modem_bank.specs.Modems.{told, without}
use Rattle.iot_schedule.specs.declared.types.Line.{Line}
use Rattle.iot_schedule.specs.declared.types.Line.TheVariants as line
use Rattle.small_world.specs.Worlds.{SmallWorld, eid_of, enabled_after}
use Rattle.small_world.specs.Network.{is_known, at_eim, picked, joined, gone_up}
use Rattle.small_world.specs.Stepping.{commanded, booted}
use Rattle.small_world.specs.Acting.{acts, told_answer, is_answered}
use Rattle.small_world.specs.declared.reply.Reply.{Reply}

-- The assistant polls an eIM that is in the world, for the world's card.
unfoldable pub polled : List ℕ → SmallWorld → SmallWorld
polled id w = if is_known id w.eims then acts (poll id (eid_of w)) false w else w

-- A message reaches the assistant, with the verdict on a package; it acts on it.
unfoldable pub gone_down : Option Reply → Bool → Bool → SmallWorld → SmallWorld
gone_down None good lost w = w
gone_down (Some r) good lost w = acts (message r.from r.message good) lost w

-- The assistant hears that a package was taken, and nothing of one that was refused.
abbrev pub told_loaded : Answer → SmallWorld → SmallWorld
told_loaded (answer.Loaded r) w = told_answer (answer.Loaded r) w
told_loaded a w = w

-- A package comes to the card without a message to the assistant.
unfoldable pub handed : Bool → List ℕ → Bool → SmallWorld → SmallWorld
handed good bytes lost w =
    let c = command.Load good bytes in
    if is_answered lost w then told_loaded (reply w.history c) (commanded c lost w) else commanded c lost w

-- The world after a line, before the modems are told.
unfoldable pub acted : Line → Bool → Bool → SmallWorld → SmallWorld
-- an eIM joins, unless it is there
acted (line.Eim id) lost taken w = joined id w
-- the card gets its first eIM
acted (line.Initial id address key) lost taken w = commanded (command.Initial id address key) lost w
-- the eIM is bound to an association and its last counter
acted (line.Bind id association last) lost taken w = record w { eims = at_eim id (bound_to association last) w.eims }
-- the eIM gets an order of these operations
acted (line.Order id body) lost taken w = record w { eims = at_eim id (ordered body) w.eims }
-- the eIM gives up the first order that waits
acted (line.Skip id) lost taken w = record w { eims = at_eim id skipped w.eims }
-- the assistant asks the eIM for a package
acted (line.Poll id) lost taken w = polled id w
-- a message reaches its eIM
acted (line.Up pick) lost taken w = gone_up (picked pick w.to_eims) w
-- a message reaches the assistant
acted (line.Down pick good) lost taken w = gone_down (picked pick w.to_ipa) good lost w
-- a package comes to the card
acted (line.Load good bytes) lost taken w = handed good bytes lost w
-- the assistant asks for the pending results, and sends each to its eIM
acted line.Push lost taken w = acts push lost w
-- the assistant hears of a probe; the third that failed gives the card a rollback
acted (line.Probe passed) lost taken w = acts (probe passed) lost w
-- the card rolls back
acted line.Rollback lost taken w = commanded command.Rollback lost w
-- the assistant begins anew
acted line.Restart lost taken w = acts restart lost w
-- a cut is planned
acted (line.Cut calls tear) lost taken w = record w { plan = Some (calls, tear) }
-- power goes off and on again
acted line.Boot lost taken w = booted lost taken w
acted line.Show lost taken w = w
acted (line.Kept id) lost taken w = w
-- a modem is taken away
acted (line.Detach at) lost taken w = record w { modems = if nat_lt at (length w.modems) then without at w.modems else w.modems }
acted line.Modems lost taken w = w

-- At the end of a line that leaves the card lit, each modem is told the enabled profile.
unfoldable pub attended : SmallWorld → SmallWorld
attended w = record w { modems = if w.lit then told (enabled_after w.history) w.modems else w.modems }
