use Rattle.std.proofs.Common.{sym, subst}
use Rattle.small_card.specs.Cards.{FullCard}
use Rattle.world_card.specs.Commands.{IsAnswered}
use Rattle.std.specs.Prelude.{Option}
use Rattle.iot_world.proofs.Heard.{asked, unheard, short}
use Rattle.iot_world.proofs.world.World.ask.Goals as goal

pub returns-in-Answered-clause-asked : goal.returns-in-Answered-clause-asked
returns-in-Answered-clause-asked g c = λ first w stands.
    let told = c.in-Answered.ensures.commanded first w stands.card c.requires.range in
    let card : IsAnswered first w c.args.command c.in-Answered.answer c.tell.new.self.card (g.B.Chip.sees c.args.bench.now) (g.B.Chip.sees c.command.new.bench) =
    subst (λ (held : Option FullCard). IsAnswered first w c.args.command c.in-Answered.answer held (g.B.Chip.sees c.args.bench.now) (g.B.Chip.sees c.command.new.bench)) (sym c.tell.ensures.card) told in
    asked first w c.args.command c.in-Answered.answer c.tell.result c.args.self.now.network c.tell.new.self _ _ _ _ stands.network card
    (λ network. c.tell.ensures.told c.args.command _ c.removed_by-removed.ensures network)

pub returns-in-Lost-clause-asked : goal.returns-in-Lost-clause-asked
returns-in-Lost-clause-asked g c = λ first w stands.
    unheard first w c.args.command c.silent.result _ _ _ _ _ stands.network (c.in-Lost.ensures.commanded first w stands.card c.requires.range) c.silent.ensures

pub returns-in-NoMemory-clause-asked : goal.returns-in-NoMemory-clause-asked
returns-in-NoMemory-clause-asked g c = λ first w stands.
    short first w c.args.command _ _ (c.in-NoMemory.ensures.commanded first w stands.card c.requires.range)
