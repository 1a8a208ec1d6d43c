use Rattle.std.proofs.Common.{◌≡◌, ◌∙◌, sym, subst, refl}
use Rattle.euicc_core.specs.declared.ends.StepEnd.TheVariants.{Answered, Lost, Dark, NoMemory}
use Rattle.world_card.specs.Benches.{IsOnBench}
use Rattle.world_card.proofs.Commanding.{command_answered, command_lost, command_short}
use Rattle.world_card.proofs.Standing.{lit_unless, dark_if}
use Rattle.world_card.proofs.card.BenchCard.command.Goals as goal

pub returns-in-Answered-clause-commanded : goal.returns-in-Answered-clause-commanded
returns-in-Answered-clause-commanded g c = λ first w stands fits.
    let told = stands.bench.told in
    let e = c.in-Answered.ensures in
    let lit = lit_unless w _ stands.held_is (λ none. let is : Answered c.in-Answered.answer ≡ Dark = e.dark.1 none in absurd cc) in
    command_answered first w c.args.command c.in-Answered.answer _ _ _ _ _ (g.met.B.Chip.sound c.args.bench.now told) (g.met.B.Chip.sound c.step.new.bench (e.cause.told ∙ told)) stands lit (e.chip told) e.steps (c.drop_plan.ensures.told (e.cause.told ∙ told))

pub returns-in-Lost-clause-commanded : goal.returns-in-Lost-clause-commanded
returns-in-Lost-clause-commanded g c = λ first w stands fits.
    let told = stands.bench.told in
    let e = c.in-Lost.ensures in
    let lit = lit_unless w _ stands.held_is (λ none. let is : Lost ≡ Dark = e.dark.1 none in absurd cc) in
    command_lost first w c.args.command _ _ _ _ _ fits e.cause.monotone (e.cause.lost refl) stands lit (e.chip told) e.steps (c.drop_plan-in-Lost.ensures.told (e.cause.told ∙ told))

pub returns-in-Dark-clause-commanded : goal.returns-in-Dark-clause-commanded
returns-in-Dark-clause-commanded g c = λ first w stands fits.
    let none = c.in-Dark.ensures.dark.0 refl in
    let same = c.in-Dark.ensures.unlit none in
    record {
      dark = dark_if w _ stands.held_is none;
      stands = subst (λ b. IsOnBench first c.step.new.self (g.B.Chip.sees b) w) (sym same.1) (subst (λ o. IsOnBench first o (g.B.Chip.sees c.args.bench.now) w) (none ∙ sym same.0) stands);
    }

pub returns-in-NoMemory-clause-commanded : goal.returns-in-NoMemory-clause-commanded
returns-in-NoMemory-clause-commanded g c = λ first w stands fits.
    let told = stands.bench.told in
    let e = c.in-NoMemory.ensures in
    let lit = lit_unless w _ stands.held_is (λ none. let is : NoMemory ≡ Dark = e.dark.1 none in absurd cc) in
    command_short first w c.args.command _ _ _ stands lit (e.chip told)
