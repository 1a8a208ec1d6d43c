use Rattle.std.proofs.Common.{◌≡◌, ◌∙◌, ◌+◌, map, Option, None, Result, Err, ap, sym, subst, List}
use Rattle.chip_port.specs.Rules.{IfTold}
use Rattle.iot_schedule.specs.Devices.{device_at}
use Rattle.iot_schedule.specs.Steps.{step_at}
use Rattle.iot_world.specs.declared.world.World.{World}
use Rattle.line_loop.specs.declared.halt.LineStop.{LineStop}
use Rattle.modem_bank.specs.Modems.{Seen as ModemSeen}
use Rattle.modem_bank.specs.Telling.{TellsOne}
use Rattle.world_text.specs.Putting.{PutsOne}
use Rattle.world_forms.specs.Handling.{GoesOn, IsReadAs}
use Rattle.world_forms.specs.Replays.{IsRefused, IsReplayed, Stops}
use Rattle.world_forms.specs.Walks.{Began, IsAt}
use Rattle.world_forms.proofs.Fitting.{began_first, began_on, handles_by, refused_first, refused_on, spells_none}
use Rattle.world_forms.proofs.Walking.{led_first, led_on, stopped_first, stopped_on}
use Rattle.world_forms.proofs.replay_part.ReplayPartLinePartVec.handle.Goals as goal

pub returns-in-Some-clause-handles : goal.returns-in-Some-clause-handles
returns-in-Some-clause-handles g c =
    let sees = g.B.Chip.sees in
    let at = sees c.args.bench.now in
    let now = sees c.go_on.new.bench in
    let line = c.args.line.now in
    let before = c.args.out.now in
    let out = c.go_on.new.out in
    let v = c.in-Some.world in
    let next = c.go_on.new.world in
    handles_by _
    (λ first now ls text l stop. first.part.world ≡ None →
    IsRefused (sees first.bench) (sees now.bench) ls l stop
    × ((view : g.row.T.Denot → ModemSeen) → TellsOne g.F.Fn first.part.tell view → PutsOne g.G.Fn first.part.put view
    → IfTold (sees first.bench) (Stops (map view first.modems.items) (sees first.bench) (sees now.bench) (map view now.modems.items) ls text l stop)))
    _ _ line before out c.go_on.result c.go_on.ensures.grows
    (λ done is text grows first ls b was fresh.
    let own = (was fresh).0 in
    let began = (was fresh).1.0 in
    let led = (was fresh).1.1 in (
      own,
      (
        began_on v next (sees first.bench) at now ls line (subst (λ (o : Option World). Began o (sees first.bench) at ls) c.in-Some.is began)
            (subst (λ (r : Result (Unit {0}) LineStop). IsReadAs (step_at line) r) is c.go_on.ensures.reads),
        λ view tells puts told.
            let ms = map view c.args.modems.now.items in
            let ms' = map view c.go_on.new.modems.items in
            led_on (map view first.modems.items) (sees first.bench) at now v next ms ms' ls b line before out text grows
            (subst (λ (o : Option World). IsAt o (map view first.modems.items) (sees first.bench) at ms ls b) c.in-Some.is (led view tells puts told))
            (λ w stands. subst (λ (r : Result (Unit {0}) LineStop). GoesOn ((sees first.bench).marks.answers + 1) line w r next at now ms' before out) is
            (c.go_on.ensures.goes_on ((sees first.bench).marks.answers + 1) w view (subst (λ x. TellsOne g.F.Fn x view) (sym {A = g.row.F.Denot} own.0) tells) (subst (λ x. PutsOne g.G.Fn x view) (sym {A = g.row.G.Denot} own.1) puts) stands)),
      ),
    ))
    (λ stop is first ls b was fresh.
    let own = (was fresh).0 in
    let began = (was fresh).1.0 in
    let led = (was fresh).1.1 in
    let reads = subst (λ (r : Result (Unit {0}) LineStop). IsReadAs (step_at line) r) is c.go_on.ensures.reads in (
      refused_on v (sees first.bench) at now ls line stop (subst (λ (o : Option World). Began o (sees first.bench) at ls) c.in-Some.is began) reads
          (λ chip. c.go_on.ensures.whole (is ∙ ap (λ (z : LineStop). Err z) chip)),
      λ view tells puts told.
          let handed_in = map view first.modems.items in
          let ms = map view c.args.modems.now.items in
          let ms' = map view c.go_on.new.modems.items in
          let was_at = subst (λ (o : Option World). IsAt o handed_in (sees first.bench) at ms ls b) c.in-Some.is (led view tells puts told) in
          stopped_on handed_in (sees first.bench) at now v next ms ms' ls b line before out stop was_at
          (λ w stands. subst (λ (r : Result (Unit {0}) LineStop). GoesOn ((sees first.bench).marks.answers + 1) line w r next at now ms' before out) is
          (c.go_on.ensures.goes_on ((sees first.bench).marks.answers + 1) w view (subst (λ x. TellsOne g.F.Fn x view) (sym {A = g.row.F.Denot} own.0) tells) (subst (λ x. PutsOne g.G.Fn x view) (sym {A = g.row.G.Denot} own.1) puts) stands))
          (spells_none (Unit {0}) (step_at line) stop reads)
          (λ bad.
          let kept = c.go_on.ensures.unread (is ∙ ap (λ (z : LineStop). Err z) bad) in
          subst (λ x. IsReplayed handed_in (sees first.bench) now (map view x) ls b) (sym {A = List g.row.T.Denot} kept.1)
          (subst (λ x. IsReplayed handed_in (sees first.bench) (sees x) ms ls b) (sym {A = g.row.B.Denot} kept.0) was_at.0)),
    ))

pub returns-in-Ok-clause-handles : goal.returns-in-Ok-clause-handles
returns-in-Ok-clause-handles g c =
    let sees = g.B.Chip.sees in
    let at = sees c.args.bench.now in
    let now = sees c.begin.new.bench in
    let line = c.args.line.now in
    let begin = c.in-Ok.ensures in
    record {
      text = begin.grows.0;
      appended = begin.grows.1;
      stands = λ first ls b was fresh.
          let own = (was fresh).0 in
          let began = (was fresh).1.0 in
          let led = (was fresh).1.1 in (
            own,
            (
              began_first c.in-Ok.world (sees first.bench) at now ls line (subst (λ (o : Option World). Began o (sees first.bench) at ls) c.in-None.is began) begin.reads,
              λ view tells puts told.
                  let ms = map view c.args.modems.now.items in
                  let unbegun = subst (λ (o : Option World). IsAt o (map view first.modems.items) (sees first.bench) at ms ls b) c.in-None.is (led view tells puts told) in
                  led_first (map view first.modems.items) (sees first.bench) at now c.in-Ok.world ms (map view c.begin.new.modems.items) ls b line c.args.out.now c.begin.new.out begin.grows.0 begin.grows.1 unbegun
                  (begin.begins view (subst (λ x. TellsOne g.F.Fn x view) (sym {A = g.row.F.Denot} own.0) tells) (unbegun.bench.told ∙ told)),
            ),
          );
    }

pub returns-in-Err-clause-handles : goal.returns-in-Err-clause-handles
returns-in-Err-clause-handles g c = λ first ls b was fresh.
    let sees = g.B.Chip.sees in
    let at = sees c.args.bench.now in
    let now = sees c.begin.new.bench in
    let line = c.args.line.now in
    let begin = c.in-Err.ensures in
    let stop = c.in-Err.stop in
    let own = (was fresh).0 in
    let began = (was fresh).1.0 in
    let led = (was fresh).1.1 in (
      refused_first (sees first.bench) at now ls line stop (subst (λ (o : Option World). Began o (sees first.bench) at ls) c.in-None.is began) begin.reads begin.cause,
      λ view tells puts told.
          let ms = map view c.args.modems.now.items in
          let unbegun = subst (λ (o : Option World). IsAt o (map view first.modems.items) (sees first.bench) at ms ls b) c.in-None.is (led view tells puts told) in
          stopped_first (map view first.modems.items) (sees first.bench) at now ms (map view c.begin.new.modems.items) ls b line c.args.out.now c.begin.new.out stop unbegun
          (begin.begins view (subst (λ x. TellsOne g.F.Fn x view) (sym {A = g.row.F.Denot} own.0) tells) (unbegun.bench.told ∙ told))
          (spells_none World (device_at line) stop begin.reads) (ap (λ xs. map view xs) begin.refused),
    )
