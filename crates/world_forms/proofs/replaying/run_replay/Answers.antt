use Rattle.std.proofs.Common.{map, refl}
use Rattle.line_loop.proofs.Mapping.{ended_map}
use Rattle.world_forms.proofs.Ending.{complete, is_done, stops}
use Rattle.world_forms.proofs.Fitting.{either}
use Rattle.world_forms.proofs.replaying.run_replay.Goals as goal

pub returns-clause-replayed : goal.returns-clause-replayed
returns-clause-replayed g c = λ view tells puts. record {
  end = c.serve_lines.result;
  says = c.status.ensures;
  ended = ended_map _ _ _ _ _ _ _ _ c.serve_lines.result
      (λ ls text few was. let (began, led) = (was refl).1 in record { fit = began.fit; told = λ told. either c.serve_lines.new.part.world (map view c.args.modems.now.items) (g.B.Chip.sees c.args.bench.now) (g.B.Chip.sees c.serve_lines.new.bench) (map view c.serve_lines.new.modems.items) ls text (led view tells puts told) })
      (λ ls text l stop few was. let (refused, told) = was refl in record { refused = refused; told = told view tells puts })
      (λ ls text end few was. was refl)
      c.serve_lines.ensures;
}

pub returns-clause-done : goal.returns-clause-done
returns-clause-done g c = λ view input tells puts told rest zero. is_done _ c.status.result _ _ _ _ _ input (returns-clause-replayed g c view tells puts) told rest zero

pub returns-clause-complete : goal.returns-clause-complete
returns-clause-complete g c = λ view input tells puts told rest some handled no_read no_write.
    complete _ c.status.result _ _ _ _ _ input (returns-clause-replayed g c view tells puts) told rest some handled no_read no_write

pub returns-clause-stops : goal.returns-clause-stops
returns-clause-stops g c = λ view input ls more tells puts told rest is handled no_read no_write.
    stops _ c.status.result _ _ _ _ _ input ls more (returns-clause-replayed g c view tells puts) told rest is handled no_read no_write
