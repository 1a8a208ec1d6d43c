use Rattle.std.proofs.Common.{◌≡◌, ◌∙◌, map, ap, sym, subst}
use Rattle.std.proofs.lemmas.Result.{err_from_is_err_and}
use Rattle.iot_schedule.specs.Devices.{device_at}
use Rattle.iot_world.specs.declared.world.World.{World}
use Rattle.schedule_forms.proofs.Made.{device_in}
use Rattle.schedule_forms.proofs.Piecing.{first_state}
use Rattle.world_forms.specs.Plays.{HasPlayed}
use Rattle.world_forms.specs.declared.playing.Play.{Play}
use Rattle.world_forms.proofs.Fitting.{spells_none}
use Rattle.world_forms.proofs.Plays.{halted_first, one_line, played_first, unmade_first}
use Rattle.world_forms.proofs.Tallies.{none_counted}
use Rattle.world_forms.proofs.playing.begin_play.Goals as goal

pub returns-in_err-line-clause-begins : goal.returns-in_err-line-clause-begins
returns-in_err-line-clause-begins g c = λ view tells told.
    let e = err_from_is_err_and c.from_residual.result c.from_residual.ensures.1 in
    rw (e.1, e.2) (unmade_first (map view c.args.modems.now.items) c.args.start 1 c.make_line.new.maker.state (g.B.Chip.sees c.args.bench.now) c.in_err-line.field-0.0
    (c.in_err-line.ensures.makes c.args.start (first_state c.args.start _ c.new-maker.ensures.start)))

pub returns-in-Ok-clause-state : goal.returns-in-Ok-clause-state
returns-in-Ok-clause-state g c = (c.in_ok-line.ensures.makes c.args.start (first_state c.args.start _ c.new-maker.ensures.start)).1

pub returns-in-Ok-clause-begins : goal.returns-in-Ok-clause-begins
returns-in-Ok-clause-begins g c = λ view tells told.
    let sees = g.B.Chip.sees in
    let at = sees c.args.bench.now in
    let now = sees c.begin.new.bench in
    let ms = map view c.args.modems.now.items in
    let ms' = map view c.begin.new.modems.items in
    let none = c.new-tally.ensures in
    let play : Play = record { maker = c.make_line.new.maker; world = c.in-Ok.world; tally = c.count.new.self } in
    let line = (c.in_ok-line.ensures.makes c.args.start (first_state c.args.start _ c.new-maker.ensures.start)).0 in
    let begun = rw (c.as_slice.ensures, c.new-out.ensures) at (c.in-Ok.ensures.begins view tells told) in
    subst (λ ls. HasPlayed play ms ls 1 at now ms') (one_line c.args.start c.in_ok-line.line line)
    (played_first play c.new-tally.result ms ms' c.in_ok-line.line c.begin.new.out at now begun (none_counted c.new-tally.result none.loaded none.refused none.rolled none.lost none.removed)
    (rw c.as_slice-in-Ok.ensures at c.count.ensures))

pub returns-clause-fits : goal.returns-clause-fits
returns-clause-fits g c = λ at.
    let line = (c.in_ok-line.ensures.makes c.args.start (first_state c.args.start _ c.new-maker.ensures.start)).0 in
    let bad : c.in-Err.stop ≡ _ = cc in
    device_in c.args.start (ap device_at (sym line ∙ sym c.as_slice.ensures) ∙ spells_none World (device_at c.as_slice.result.now) c.in-Err.stop c.in-Err.ensures.reads bad)

pub returns-clause-begins : goal.returns-clause-begins
returns-clause-begins g c = λ view tells told.
    let sees = g.B.Chip.sees in
    let at = sees c.args.bench.now in
    let now = sees c.begin.new.bench in
    let line = (c.in_ok-line.ensures.makes c.args.start (first_state c.args.start _ c.new-maker.ensures.start)).0 in
    let begun = rw c.new-out.ensures at (c.in-Err.ensures.begins view tells told) in
    halted_first (map view c.args.modems.now.items) (map view c.begin.new.modems.items) c.args.start c.as_slice.result.now c.begin.new.out at now c.in-Err.stop (c.as_slice.ensures ∙ line) begun
    (spells_none World (device_at c.as_slice.result.now) c.in-Err.stop c.in-Err.ensures.reads) (ap (λ xs. map view xs) c.in-Err.ensures.refused)
