use Rattle.std.proofs.Common.{◌∙◌, ap, List, ℕ, ◌≤◌, ◌++◌, length, sym, subst}
use Rattle.package_codec.specs.Spelling.{signed}
use Rattle.package_codec.proofs.Packages.{signed_few}
use Rattle.eim_queue.proofs.queue.spelled.Goals as goal

pub returns-in-Ok-clause-range : goal.returns-in-Ok-clause-range
returns-in-Ok-clause-range c =
    let is = c.in-Ok.ensures.ok ∙ ap (λ (o : List ℕ). o ++ signed c.args.«package».now) c.new-bytes.ensures in
    c.carried.ensures.range (subst (λ (o : List ℕ). length o ≤ 3485) (sym is) (signed_few c.args.«package».now c.requires))
