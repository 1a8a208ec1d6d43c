use Rattle.std.proofs.Common.{◌∙◌, sym, subst}
use Rattle.eim_queue.specs.Queues.{Queue, IsEim}
use Rattle.eim_queue.proofs.Keeping.{records_are}
use Rattle.eim_queue.proofs.queue.Eim.records.Goals as goal

pub returns : goal.returns
returns c = λ e h.
    let k = subst (λ (q : Queue). IsEim q e) (sym c.self.view_is) h in
    c.as_slice.ensures ∙ records_are c.self.inside.records e.received k.records_are
