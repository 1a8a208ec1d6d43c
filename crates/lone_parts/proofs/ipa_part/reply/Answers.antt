use Rattle.std.proofs.Common.{sym, subst, Ok}
use Rattle.part_records.specs.Ranges.{AreDeeds}
use Rattle.part_records.specs.declared.records.Deeds.{Deeds}
use Rattle.lone_parts.specs.Ipas.{Replied}
use Rattle.lone_parts.proofs.IpaSteps.{replied, unread, stays_fit, did_fits}
use Rattle.lone_parts.proofs.ipa_part.reply.Goals as goal

pub returns-in-Ok-respond-clause-replied : goal.returns-in-Ok-respond-clause-replied
returns-in-Ok-respond-clause-replied c = λ events h.
    subst (λ (d : Deeds). Replied c.args.eid events c.args.octets.now c.respond.new.ipa (Ok d)) (sym c.deeds.ensures)
    (replied c.args.eid events c.args.octets.now c.in-Ok.input c.respond.new.ipa c.in-Ok-respond.act c.in-Ok.ensures.exact (c.in-Ok-respond.ensures.did events h))

pub returns-in-Ok-respond-clause-some : goal.returns-in-Ok-respond-clause-some
returns-in-Ok-respond-clause-some c = stays_fit c.args.ipa.now c.respond.new.ipa c.args.eid c.in-Ok.input c.in-Ok-respond.act c.requires.some c.in-Ok.ensures.found.0 c.in-Ok-respond.ensures.did

pub returns-in-Ok-respond-clause-range : goal.returns-in-Ok-respond-clause-range
returns-in-Ok-respond-clause-range c =
    subst AreDeeds (sym c.deeds.ensures) (did_fits c.args.ipa.now c.respond.new.ipa c.args.eid c.in-Ok.input c.in-Ok-respond.act c.requires.some c.requires.eid c.in-Ok.ensures.found.0 c.in-Ok.ensures.short c.in-Ok-respond.ensures.did)

pub returns-in-Err-clause-replied : goal.returns-in-Err-clause-replied
returns-in-Err-clause-replied c = λ events h. unread c.args.eid events c.args.octets.now c.args.ipa.now c.in-Err.error c.unread.result c.in-Err.ensures.exact c.unread.ensures
