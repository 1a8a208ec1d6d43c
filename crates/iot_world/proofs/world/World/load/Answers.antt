use Rattle.std.proofs.Common.{refl, sym, subst}
use Rattle.std.specs.Prelude.{Option}
use Rattle.small_card.specs.Cards.{FullCard}
use Rattle.small_card.specs.declared.types.Command.TheVariants as command
use Rattle.small_world.specs.Stretches.{is_far}
use Rattle.world_card.specs.Commands.{IsAnswered}
use Rattle.world_card.specs.Counts.{Counted, short_fate}
use Rattle.iot_world.proofs.Handing.{load_handed, load_unheard, load_off, load_short}
use Rattle.world_card.proofs.Counting.{idle_counted}
use Rattle.iot_world.proofs.world.World.load.Goals as goal

pub returns-in-Answered-clause-acts : goal.returns-in-Answered-clause-acts
returns-in-Answered-clause-acts g c = λ first w stands.
    let load = command.Load c.args.good c.args.bytes in
    let told = c.in-Answered.ensures.commanded first w stands.card c.requires.range in
    let card : IsAnswered first w load c.in-Answered.answer c.hand.new.self.card (g.B.Chip.sees c.args.bench.now) (g.B.Chip.sees c.command.new.bench) =
    subst (λ (held : Option FullCard). IsAnswered first w load c.in-Answered.answer held (g.B.Chip.sees c.args.bench.now) (g.B.Chip.sees c.command.new.bench)) (sym c.hand.ensures.card) told in
    load_handed first w c.args.good c.args.bytes c.in-Answered.answer c.hand.result c.args.self.now.network c.hand.new.self _ _ _ _ stands.network card
    (λ network. c.hand.ensures.hands load _ refl network)

pub returns-in-Lost-clause-acts : goal.returns-in-Lost-clause-acts
returns-in-Lost-clause-acts g c = λ first w stands.
    load_unheard first w c.args.good c.args.bytes c.put_word.result _ _ _ _ _ stands.network (c.in-Lost.ensures.commanded first w stands.card c.requires.range) c.put_word.ensures

pub returns-in-Dark-clause-acts : goal.returns-in-Dark-clause-acts
returns-in-Dark-clause-acts g c = λ first w stands.
    let none = c.in-Dark.ensures.dark.0 refl in
    let same = (c.in-Dark.ensures.unlit none).1 in
    let counts = subst (λ b. Counted (short_fate (is_far w.plan)) (g.B.Chip.sees c.args.bench.now) (g.B.Chip.sees b)) (sym same) (idle_counted (is_far w.plan) (g.B.Chip.sees c.args.bench.now)) in
    load_off first w c.args.good c.args.bytes c.put_word-in-Dark.result _ _ _ _ _ stands.network (c.in-Dark.ensures.commanded first w stands.card c.requires.range) counts c.put_word-in-Dark.ensures

pub returns-in-NoMemory-clause-acts : goal.returns-in-NoMemory-clause-acts
returns-in-NoMemory-clause-acts g c = λ first w stands.
    load_short first w c.args.good c.args.bytes _ _ (c.in-NoMemory.ensures.commanded first w stands.card c.requires.range)
