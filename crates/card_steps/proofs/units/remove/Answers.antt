use Rattle.std.proofs.Common.{◌≡◌, ◌∙◌, ap, true, false}
use Rattle.small_card.specs.Cards.{SmallCard}
use Rattle.small_card.specs.Units.{remove, is_pending}
use Rattle.small_card.specs.declared.types.Answer.TheVariants as answer
use Rattle.small_card.specs.declared.types.Command.TheVariants as command
use Rattle.home_codec.specs.FullCards.{full_card}
use Rattle.package_codec.proofs.Replying.{may_remove}
use Rattle.card_steps.proofs.OneStep.{card_is, stays, moves, none_pending, remove_reply, absent_reply, remove_parts}
use Rattle.card_steps.proofs.units.remove.Goals as goal

pub returns-then-is_none : goal.returns-then-is_none
returns-then-is_none c = record {
  turns = λ h legal is.
      let f = full_card c.args.card.now in
      let none : is_pending c.args.seq c.args.card.now.store.pending ≡ false = none_pending _ _ c.get.ensures.there c.if-is_none.ensures in
      let pending = ap (λ (x : SmallCard). is_pending c.args.seq x.results.pending) (card_is h f is) ∙ none in
      let r = absent_reply h c.args.seq pending in
      stays h (command.Remove c.args.seq) f answer.Absent legal is r.1 r.0;
}

pub returns : goal.returns
returns c = record {
  turns = λ h legal is.
      let f = full_card c.args.card.now in
      let there : is_pending c.args.seq c.args.card.now.store.pending ≡ true = c.get.ensures.there.0 c.if-is_none.ensures in
      let pending = ap (λ (x : SmallCard). is_pending c.args.seq x.results.pending) (card_is h f is) ∙ there in
      let r = remove_reply h c.args.seq pending in
      moves h (command.Remove c.args.seq) (remove c.args.seq) f _ answer.Removed legal is (may_remove h c.args.seq pending) r.1 r.0
      (remove_parts f c.args.seq c.in_ok-profiles.profiles c.in_ok-eims.eims c.in_ok-store.store c.remove.new.self c.armed_without.result
      c.in_ok-profiles.ensures c.in_ok-eims.ensures.equal c.in_ok-store.ensures c.remove.ensures.rest c.armed_without.ensures.armed);
}
