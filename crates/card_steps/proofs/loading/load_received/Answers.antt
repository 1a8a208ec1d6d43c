use Rattle.std.proofs.Common.{◌≡◌, ◌∙◌, ap, sym, subst, Ok}
use Rattle.small_card.specs.Cards.{SmallCard}
use Rattle.small_card.specs.Packages.{result_of}
use Rattle.small_card.specs.Units.{load}
use Rattle.small_card.specs.declared.types.Answer.TheVariants as answer
use Rattle.small_card.specs.declared.types.Command.TheVariants as command
use Rattle.small_card.specs.declared.types.Package.{Package}
use Rattle.small_card.specs.declared.types.PackageResult.{PackageResult}
use Rattle.small_card.specs.Ranges.{IsPackage}
use Rattle.eim_table.specs.Entries.{MayCount}
use Rattle.counter_check.specs.Loads.{check_request}
use Rattle.home_codec.specs.FullCards.{full_card}
use Rattle.package_codec.proofs.Replying.{may_load}
use Rattle.card_steps.proofs.OneStep.{card_is, shows, request_accepted, may_count, stays, moves, accepted_reply, refused_reply}
use Rattle.card_steps.proofs.loading.load_received.Goals as goal

pub take-requires-clause-count : goal.take-requires-clause-count
take-requires-clause-count c =
    let f = full_card c.args.card.now in
    let same : c.package.result.now ≡ c.args.received.load = c.package.ensures.value ∙ c.in-Ok.ensures.passes.1 in
    subst (λ (p : Package). MayCount p.eim p.counter f.card.eims.entries) (sym same) (may_count c.args.received f.card.eid f.card.eims f.card.results c.in-Ok.ensures.passes.0)

pub take-requires-clause-room : goal.take-requires-clause-room
take-requires-clause-room c = c.in-Ok.ensures.passes.0.fits.room

pub returns-in_ok-taken-in-Ok : goal.returns-in_ok-taken-in-Ok
returns-in_ok-taken-in-Ok c = record {
  turns = λ h good bytes read legal is.
      let f = full_card c.args.card.now in
      let p = c.package.result.now in
      let accepted : check_request h c.args.received ≡ Ok p = c.in-Ok.ensures.checked h (shows h f legal is) ∙ ap (λ (q : Package). Ok q) (sym c.package.ensures.value) in
      let values = request_accepted h c.args.received.good c.args.received.load p accepted in
      let range = subst IsPackage (sym c.package.ensures.value) c.package.ensures.range in
      let r = accepted_reply h good bytes p (read ∙ accepted) in
      let result = c.in_ok-taken-in-Ok.ensures.answer ∙ ap (λ (x : SmallCard). result_of x p) (sym (card_is h f is)) in
      moves h (command.Load good bytes) (load p) f (full_card c.in_ok-taken-in-Ok.taken.0) (answer.Loaded c.in_ok-taken-in-Ok.taken.1) legal is (may_load h p range values.1) r.1
      (ap (λ (x : PackageResult). answer.Loaded x) result ∙ r.0) c.in_ok-taken-in-Ok.ensures.unit;
}

pub returns-in-Err : goal.returns-in-Err
returns-in-Err c = record {
  turns = λ h good bytes read legal is.
      let f = full_card c.args.card.now in
      let r = refused_reply h good bytes c.in-Err.why (read ∙ c.in-Err.ensures.checked h (shows h f legal is)) in
      stays h (command.Load good bytes) f (answer.LoadRefused c.in-Err.why) legal is r.1 r.0;
}
