use Rattle.std.proofs.Common.{◌≡◌, ◌+◌, map}
use Rattle.chip_port.specs.Rules.{IfTold}
use Rattle.euicc_core.specs.Steps.{IsLitOn}
use Rattle.iot_schedule.specs.Making.{state_before}
use Rattle.modem_bank.specs.Modems.{Seen}
use Rattle.modem_bank.specs.Telling.{TellsOne}
use Rattle.schedule_forms.specs.Schedules.{made_lines}
use Rattle.world_text.specs.Putting.{PutsOne}
use Rattle.world_forms.specs.Plays.{HasPlayed}
use Rattle.world_forms.proofs.playing.play_lines.Given as goal

abbrev pub invariant-loop-made : goal.invariant-loop-made
invariant-loop-made g l = record {
  state : l.play.maker.state ≡ state_before l.start (l.made + 1);
  ready : IfTold (g.B.Chip.sees l.bench) (IsLitOn l.play.world.card (g.B.Chip.sees l.bench));
  played : (view : g.row.T.Denot → Seen) → TellsOne g.F.Fn l.tell view → PutsOne g.G.Fn l.put view
      → IfTold (g.B.Chip.sees l.fn.bench) (HasPlayed l.play (map view l.fn.modems.items) (made_lines l.start l.made) l.made (g.B.Chip.sees l.fn.bench) (g.B.Chip.sees l.bench) (map view l.modems.items));
}
