use Rattle.std.proofs.Common.{refl, sym, subst}
use Rattle.small_world.specs.Stretches.{is_far}
use Rattle.world_card.specs.Counts.{Counted, short_fate}
use Rattle.world_card.proofs.Counting.{idle_counted}
use Rattle.iot_world.proofs.Heard.{short}
use Rattle.iot_world.proofs.Replied.{replied_to, lost_to, off_to}
use Rattle.iot_world.proofs.world.World.command.Goals as goal

pub returns-in-Answered-clause-commands : goal.returns-in-Answered-clause-commands
returns-in-Answered-clause-commands g c = λ first w stands.
    replied_to first w c.args.command c.in-Answered.answer c.say.result _ _ _ _ _ stands.network (c.in-Answered.ensures.commanded first w stands.card c.requires.range) (c.say.ensures c.args.command c.requires.keeps)

pub returns-in-Lost-clause-commands : goal.returns-in-Lost-clause-commands
returns-in-Lost-clause-commands g c = λ first w stands.
    lost_to first w c.args.command c.put_word.result _ _ _ _ _ stands.network (c.in-Lost.ensures.commanded first w stands.card c.requires.range) c.put_word.ensures

pub returns-in-Dark-clause-commands : goal.returns-in-Dark-clause-commands
returns-in-Dark-clause-commands g c = λ first w stands.
    let none = c.in-Dark.ensures.dark.0 refl in
    let same = (c.in-Dark.ensures.unlit none).1 in
    let counts = subst (λ b. Counted (short_fate (is_far w.plan)) (g.B.Chip.sees c.args.bench.now) (g.B.Chip.sees b)) (sym same) (idle_counted (is_far w.plan) (g.B.Chip.sees c.args.bench.now)) in
    off_to first w c.args.command c.put_word-in-Dark.result _ _ _ _ _ stands.network (c.in-Dark.ensures.commanded first w stands.card c.requires.range) counts c.put_word-in-Dark.ensures

pub returns-in-NoMemory-clause-commands : goal.returns-in-NoMemory-clause-commands
returns-in-NoMemory-clause-commands g c = λ first w stands.
    short first w c.args.command _ _ (c.in-NoMemory.ensures.commanded first w stands.card c.requires.range)
