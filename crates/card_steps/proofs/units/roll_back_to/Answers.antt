use Rattle.std.proofs.Common.{◌∙◌, ap, sym, subst, List}
use Rattle.small_card.specs.Cards.{SmallCard, Results}
use Rattle.small_card.specs.Units.{rollback}
use Rattle.small_card.specs.declared.types.Answer.TheVariants as answer
use Rattle.small_card.specs.declared.types.Command.TheVariants as command
use Rattle.small_card.specs.declared.types.Profile.{Profile}
use Rattle.rollback_unit.specs.Rolls.{MayRoll}
use Rattle.rollback_unit.proofs.Permitting.{valid_may_roll}
use Rattle.home_codec.specs.FullCards.{full_card}
use Rattle.package_codec.proofs.Replying.{may_roll}
use Rattle.card_steps.proofs.OneStep.{card_is, former_is, moves, roll_reply, roll_parts}
use Rattle.card_steps.proofs.units.roll_back_to.Goals as goal

pub roll-rolled-requires : goal.roll-rolled-requires
roll-rolled-requires c =
    let f = full_card c.args.card.now in
    let may = valid_may_roll f c.args.armed c.requires.valid c.requires.armed in
    let some = subst (λ (ps : List Profile). MayRoll ps f.card.results c.args.armed) (sym c.in_ok-profiles.ensures) may in
    subst (λ (rs : Results). MayRoll c.in_ok-profiles.profiles rs c.args.armed) (sym c.in_ok-store.ensures) some

pub returns : goal.returns
returns c = record {
  turns = λ h legal is.
      let f = full_card c.args.card.now in
      let former = former_is h f is ∙ c.requires.armed in
      let r = roll_reply h c.args.armed former in
      let number = c.roll-rolled.ensures.number ∙ ap (λ (rs : Results). rs.next) c.in_ok-store.ensures ∙ ap (λ (x : SmallCard). x.results.next) (sym (card_is h f is)) in
      moves h command.Rollback rollback f _ (answer.RolledBack c.roll-rolled.result.seq) legal is (may_roll h c.args.armed former) r.1
      (ap (λ n. answer.RolledBack n) number ∙ r.0)
      (roll_parts f c.args.armed c.in_ok-profiles.profiles c.roll-rolled.result.table c.in_ok-eims.eims c.in_ok-store.store c.roll-rolled.result.store
      c.in_ok-profiles.ensures c.in_ok-eims.ensures.equal c.in_ok-store.ensures c.roll-rolled.ensures.profiles c.roll-rolled.ensures.results c.requires.armed);
}
