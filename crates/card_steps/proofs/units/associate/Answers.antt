use Rattle.std.proofs.Common.{◌≡◌, ◌≢◌, ◌∙◌, ap, sym, refl, not, false, arith, ℕ}
use Rattle.small_card.specs.Cards.{SmallCard, EimList}
use Rattle.small_card.specs.Histories.{card_of}
use Rattle.small_card.specs.EimOperations.{is_empty_list, do_eco}
use Rattle.small_card.specs.Units.{initial}
use Rattle.small_card.specs.declared.types.Answer.TheVariants as answer
use Rattle.small_card.specs.declared.types.Command.TheVariants as command
use Rattle.small_card.specs.declared.types.Eco.TheVariants as eco
use Rattle.small_card.specs.declared.types.Item.{Item}
use Rattle.small_card.specs.declared.types.Item.TheVariants as item
use Rattle.eim_table.specs.Adding.{item_of}
use Rattle.home_codec.specs.FullCards.{full_card}
use Rattle.card_steps.proofs.OneStep.{card_is, stays, moves, eim_there, none_left, joins, may_join, joined_parts, refused_last, added_next, next_some}
use Rattle.card_steps.proofs.units.associate.Goals as goal

pub returns-then-has_eims : goal.returns-then-has_eims
returns-then-has_eims c = record {
  turns = λ h legal is.
      let f = full_card c.args.card.now in
      let there = ap (λ (x : SmallCard). not (is_empty_list x.eims.entries)) (card_is h f is) ∙ sym c.has_eims.ensures.some ∙ c.if-has_eims.true in
      let r = eim_there h c.args.id c.args.address c.args.key there in
      stays h (command.Initial c.args.id c.args.address c.args.key) f (answer.InitialRefused 1) legal is r.1 r.0;
}

pub returns-in-Refused : goal.returns-in-Refused
unfolding item_of
returns-in-Refused c = record {
  turns = λ h legal is.
      let f = full_card c.args.card.now in
      let ms = c.in_ok-eims.eims in
      let none = sym c.has_eims.ensures.some ∙ c.if-has_eims.false in
      let copied : not (is_empty_list ms.entries) ≡ false = ap (λ (ns : EimList). not (is_empty_list ns.entries)) c.in_ok-eims.ensures.equal ∙ none in
      let made : (do_eco ms (eco.Add c.args.id c.args.address c.args.key)).1 ≡ item.Add _ 0 = sym (ap (λ (x : EimList × Item). x.1) c.in-Refused.ensures.operation) in
      let same : (card_of h).eims.next ≡ ms.next = ap (λ (x : SmallCard). x.eims.next) (card_is h f is) ∙ sym (ap (λ (ns : EimList). ns.next) c.in_ok-eims.ensures.equal) in
      let last : ms.next ≡ 4294967295 = refused_last c.args.id c.args.address c.args.key ms _ copied (omega (arith, same, next_some h legal)) made in
      let shown = same ∙ last in
      let r = none_left h c.args.id c.args.address c.args.key (ap (λ (x : SmallCard). not (is_empty_list x.eims.entries)) (card_is h f is) ∙ none) shown in
      stays h (command.Initial c.args.id c.args.address c.args.key) f (answer.InitialRefused 2) legal is r.1 r.0;
}

pub returns-in-Added : goal.returns-in-Added
unfolding item_of
returns-in-Added c = record {
  turns = λ h legal is.
      let f = full_card c.args.card.now in
      let ms = c.in_ok-eims.eims in
      let none = sym c.has_eims.ensures.some ∙ c.if-has_eims.false in
      let shown = ap (λ (x : SmallCard). not (is_empty_list x.eims.entries)) (card_is h f is) ∙ none in
      let copied : not (is_empty_list ms.entries) ≡ false = ap (λ (ns : EimList). not (is_empty_list ns.entries)) c.in_ok-eims.ensures.equal ∙ none in
      let n = c.in-Added.association in
      let number : n ≡ ms.next = c.in-Added.ensures.number n refl in
      let next : (card_of h).eims.next ≡ ms.next = ap (λ (x : SmallCard). x.eims.next) (card_is h f is) ∙ sym (ap (λ (ns : EimList). ns.next) c.in_ok-eims.ensures.equal) in
      let made : (do_eco ms (eco.Add c.args.id c.args.address c.args.key)).1 ≡ item.Add 0 n = sym (ap (λ (x : EimList × Item). x.1) c.in-Added.ensures.operation) in
      let other : ms.next ≢ 4294967295 = added_next c.args.id c.args.address c.args.key ms n copied (omega (arith, number, next, next_some h legal)) made in
      let left : (card_of h).eims.next ≢ 4294967295 = λ e. other (sym next ∙ e) in
      let r = joins h c.args.id c.args.address c.args.key shown left in
      let joined = ap (λ (x : EimList × Item). x.0) c.in-Added.ensures.operation in
      moves h (command.Initial c.args.id c.args.address c.args.key) (initial c.args.id c.args.address c.args.key) f _ (answer.Associated n) legal is
      (may_join h c.args.id c.args.address c.args.key legal c.in_range.ensures.id c.in_range.ensures.address c.in_range.ensures.key shown left) r.1
      (ap (λ (m : ℕ). answer.Associated m) (number ∙ sym next) ∙ r.0)
      (joined_parts f c.args.id c.args.address c.args.key c.in_ok-profiles.profiles ms c.add.new.self c.in_ok-store.store c.in_ok-profiles.ensures c.in_ok-eims.ensures.equal c.in_ok-store.ensures joined);
}
