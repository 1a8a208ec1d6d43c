use Rattle.lone_parts.proofs.EimSteps.{reply_all, unread}
use Rattle.lone_parts.proofs.eim_part.reply.Goals as goal

pub returns-in-Ok-clause-replied : goal.returns-in-Ok-clause-replied
returns-in-Ok-clause-replied c = λ e h.
    reply_all e c.args.octets.now c.in-Ok.input c.respond.new.eim c.respond.result c.in-Ok.ensures.exact (c.respond.ensures.gave e h) c.respond.ensures.stop

pub returns-in-Err-clause-replied : goal.returns-in-Err-clause-replied
returns-in-Err-clause-replied c = λ e h. unread e c.args.octets.now c.args.eim.now c.in-Err.error c.unread.result c.in-Err.ensures.exact c.unread.ensures
