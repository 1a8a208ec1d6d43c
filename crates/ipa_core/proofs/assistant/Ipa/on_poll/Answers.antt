use Rattle.std.proofs.Common.{ap}
use Rattle.esipa_codec.specs.Assistant.{act_of}
use Rattle.esipa_codec.specs.declared.ends.Act.TheVariants as act
use Rattle.ipa_core.proofs.Standing.{polled}
use Rattle.ipa_core.proofs.assistant.Ipa.on_poll.Goals as goal

pub returns-in_err-one_post-clause-stays : goal.returns-in_err-one_post-clause-stays
returns-in_err-one_post-clause-stays c = polled c.args.self.now c.args.to c.args.eid

pub returns-clause-act : goal.returns-clause-act
unfolding act_of
returns-clause-act c = λ es. ap (λ posts. act.Send posts) c.in_ok-one_post.ensures

pub returns-clause-stays : goal.returns-clause-stays
returns-clause-stays c = polled c.args.self.now c.args.to c.args.eid
