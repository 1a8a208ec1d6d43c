use Rattle.std.proofs.Common.{◌∙◌, [], refl, sym, append-nil}
use Rattle.world_forms.proofs.replay_part.ReplayPartLinePartVec.finish.Goals as goal

pub returns-in-Some : goal.returns-in-Some
returns-in-Some g c = λ bench modems. record {
  closing = [];
  appended = sym (append-nil c.args._out.now);
  closes = λ first ls text was fresh. (λ none. let both = sym c.in-Some.is ∙ (was fresh).1.0.begun.1 none in absurd cc, refl);
}
