use Rattle.std.proofs.Common.{◌∙◌, ap, sym, arith, Some}
use Rattle.small_card.specs.declared.types.Refused.{Refused}
use Rattle.counter_check.proofs.Passing.{other_card, own_card, not_both}
use Rattle.counter_check.proofs.Deciding.{looks_at, wrong_eid, wrong_association, replayed, no_room_left, passes}
use Rattle.counter_check.proofs.checking.entry_refusal.Goals as goal

pub returns-then-ne-clause-first : goal.returns-then-ne-clause-first
returns-then-ne-clause-first c = λ h legal eid results found.
    let at = looks_at h c.args.load.now c.args.eid.now c.args.entry.now c.args.store.now legal eid results found in
    wrong_eid h c.args.load.now c.args.eid.now c.args.entry.now c.args.store.now at c.if-ne.ensures ∙ ap (λ (r : Refused). Some r) (sym c.refused.ensures)

pub returns-then-entry-load-clause-first : goal.returns-then-entry-load-clause-first
returns-then-entry-load-clause-first c = λ h legal eid results found.
    let at = looks_at h c.args.load.now c.args.eid.now c.args.entry.now c.args.store.now legal eid results found in
    wrong_association h c.args.load.now c.args.eid.now c.args.entry.now c.args.store.now at c.if-ne.ensures c.if-entry-load.true ∙ ap (λ (r : Refused). Some r) (sym c.refused-then-entry-load.ensures)

pub returns-then-load-entry-clause-first : goal.returns-then-load-entry-clause-first
returns-then-load-entry-clause-first c = λ h legal eid results found.
    let at = looks_at h c.args.load.now c.args.eid.now c.args.entry.now c.args.store.now legal eid results found in
    replayed h c.args.load.now c.args.eid.now c.args.entry.now c.args.store.now at c.if-ne.ensures c.if-entry-load.false (omega arith)

pub returns-then-not-has_room-clause-first : goal.returns-then-not-has_room-clause-first
returns-then-not-has_room-clause-first c = λ h legal eid results found.
    let at = looks_at h c.args.load.now c.args.eid.now c.args.entry.now c.args.store.now legal eid results found in
    no_room_left h c.args.load.now c.args.eid.now c.args.entry.now c.args.store.now at c.if-ne.ensures c.if-entry-load.false (omega arith) (grind arith) ∙ ap (λ (r : Refused). Some r) (sym c.refused-then-not-has_room.ensures)

pub returns-clause-first : goal.returns-clause-first
returns-clause-first c = λ h legal eid results found.
    let at = looks_at h c.args.load.now c.args.eid.now c.args.entry.now c.args.store.now legal eid results found in
    passes h c.args.load.now c.args.eid.now c.args.entry.now c.args.store.now at c.if-ne.ensures c.if-entry-load.false (omega arith) (grind arith)

pub returns-then-ne-clause-passes : goal.returns-then-ne-clause-passes
returns-then-ne-clause-passes c = λ p. other_card c.args.load.now.eid c.args.eid.now c.if-ne.ensures p.eid_is

pub returns-then-entry-load-clause-passes : goal.returns-then-entry-load-clause-passes
returns-then-entry-load-clause-passes c = λ p. c.if-entry-load.true p.association

pub returns-then-load-entry-clause-passes : goal.returns-then-load-entry-clause-passes
returns-then-load-entry-clause-passes c = λ p. omega (arith, p.above)

pub returns-then-not-has_room-clause-passes : goal.returns-then-not-has_room-clause-passes
returns-then-not-has_room-clause-passes c = λ p. not_both _ p.room (grind arith)

pub returns-clause-passes : goal.returns-clause-passes
returns-clause-passes c = record {
  eid_is = own_card c.args.load.now.eid c.args.eid.now c.if-ne.ensures;
  association = c.if-entry-load.false;
  above = omega arith;
  room = grind arith;
}
