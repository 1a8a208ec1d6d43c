use Rattle.std.proofs.Common.{◌≡◌, ◌∙◌, ◌+◌, map, ap, sym, subst, arith}
use Rattle.std.proofs.lemmas.Result.{err_from_is_err_and}
use Rattle.iot_schedule.specs.Making.{made_line}
use Rattle.iot_schedule.specs.Steps.{step_at}
use Rattle.schedule_forms.proofs.Made.{step_in}
use Rattle.world_forms.specs.Plays.{HasPlayed}
use Rattle.world_forms.specs.declared.playing.Play.{Play}
use Rattle.world_forms.proofs.Fitting.{spells_none}
use Rattle.world_forms.proofs.Plays.{behind_first, halted_on, lines_more, played_on, unmade_on}
use Rattle.world_forms.proofs.playing.play_line.Goals as goal

pub returns-in_err-line-clause-plays : goal.returns-in_err-line-clause-plays
returns-in_err-line-clause-plays g c = λ view tells puts first start count is state handed_in p.
    let e = err_from_is_err_and c.from_residual.result c.from_residual.ensures.1 in
    rw (e.1, e.2) (unmade_on c.args.play.now handed_in (map view c.args.modems.now.items) start count c.args.number c.make_line.new.maker.state (g.B.Chip.sees first) (g.B.Chip.sees c.args.bench.now) c.in_err-line.field-0.0 p (c.in_err-line.ensures.makes start state))

pub returns-in-Ok-clause-plays : goal.returns-in-Ok-clause-plays
returns-in-Ok-clause-plays g c = λ view tells puts first start count is state handed_in p.
    let sees = g.B.Chip.sees in
    let now = sees c.go_on.new.bench in
    let ms = map view c.args.modems.now.items in
    let ms' = map view c.go_on.new.modems.items in
    let play : Play = record { maker = c.make_line.new.maker; world = c.go_on.new.world; tally = c.count.new.self } in
    let turned = rw (c.as_slice-text.ensures, c.new-out.ensures) at (c.in-Ok.ensures.goes_on ((sees first).marks.answers + 1) p.replayed.has.world view tells puts p.stands) in
    subst (λ ls. HasPlayed play handed_in ls (count + 1) (sees first) now ms') (lines_more start count c.args.number c.in_ok-line.line is (c.in_ok-line.ensures.makes start state).0)
    (played_on c.args.play.now play handed_in ms ms' _ count c.in_ok-line.line c.go_on.new.out (sees first) (sees c.args.bench.now) now p turned (rw c.as_slice.ensures at c.count.ensures) (omega (arith, is, c.ranges.number.fits)))

pub returns-clause-fits : goal.returns-clause-fits
returns-clause-fits g c = λ start state not_first at.
    let line = (c.in_ok-line.ensures.makes start state).0 in
    let bad : c.in-Err.stop ≡ _ = cc in
    step_in start c.args.number not_first (ap step_at (sym line ∙ sym c.as_slice-text.ensures) ∙ spells_none (Unit {0}) (step_at c.as_slice-text.result.now) c.in-Err.stop c.in-Err.ensures.reads bad)

pub returns-clause-plays : goal.returns-clause-plays
returns-clause-plays g c = λ view tells puts first start count is state handed_in p.
    let sees = g.B.Chip.sees in
    let now = sees c.go_on.new.bench in
    let ms = map view c.args.modems.now.items in
    let ms' = map view c.go_on.new.modems.items in
    let text = c.as_slice-text.result.now in
    let line = (c.in_ok-line.ensures.makes start state).0 in
    halted_on c.args.play.now c.go_on.new.world handed_in ms ms' start count text c.go_on.new.out (sees first) (sees c.args.bench.now) now c.in-Err.stop p
    (c.as_slice-text.ensures ∙ line ∙ ap (made_line start) is)
    (λ w stands. rw c.new-out.ensures at (c.in-Err.ensures.goes_on ((sees first).marks.answers + 1) w view tells puts stands))
    (λ bad. step_in start c.args.number (behind_first c.args.play.now handed_in ms start count c.args.number (sees first) (sees c.args.bench.now) p is)
    (ap step_at (sym line ∙ sym c.as_slice-text.ensures) ∙ spells_none (Unit {0}) (step_at text) c.in-Err.stop c.in-Err.ensures.reads bad))
