use Rattle.std.proofs.Common.{arith, sym, ap, ◌∙◌, List}
use Rattle.small_card.specs.Cards.{Results}
use Rattle.small_card.specs.declared.types.PackageResult.{PackageResult}
use Rattle.result_store.proofs.Keeping.{removed_kept, absent_iff, absent_same}
use Rattle.result_store.proofs.store.Store.remove.Goals as goal

pub invariant_of-self : goal.invariant_of-self
invariant_of-self c = record {
  store = removed_kept c.self.inside.pending.items c.take_out.new.pending.items c.self.inside.next c.args.seq c.self.invariant.store c.take_out.ensures.rest;
  memory = omega (arith, c.self.invariant.memory, c.take_out.ensures.memory);
}

pub returns-clause-absent : goal.returns-clause-absent
returns-clause-absent c = absent_iff c.args.self.now c.self.inside.pending.items c.args.seq c.take_out.result c.end_of.result (ap (λ (rs : Results). rs.pending) (sym c.self.view_is)) c.take_out.ensures.taken c.end_of.ensures

pub returns-clause-unchanged : goal.returns-clause-unchanged
returns-clause-unchanged c = λ e.
    ap (λ (ps : List PackageResult). record { pending = ps; next = c.self.inside.next })
    (absent_same c.self.inside.pending.items c.take_out.new.pending.items c.args.seq c.take_out.result (c.end_of.ensures.0 e) c.take_out.ensures.taken c.take_out.ensures.rest)
    ∙ c.self.view_is
