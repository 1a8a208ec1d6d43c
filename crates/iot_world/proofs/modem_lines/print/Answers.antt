use Rattle.std.proofs.Common.{◌≡◌, ◌++◌, subst}
use Rattle.std.specs.Prelude.{OnOk}
use Rattle.small_world.specs.Printing.{printed}
use Rattle.small_world.specs.Texts.{modems_text}
use Rattle.iot_world.proofs.Halting.{halted}
use Rattle.iot_world.proofs.modem_lines.print.Goals as goal

pub returns : goal.returns
unfolding printed
returns g c = λ w view puts same.
    let put = c.put_modems_by in
    let says = subst (λ ms. OnOk put.result (put.new.out ≡ c.args.out.now ++ modems_text ms)) same (put.ensures.ok view puts) in
    halted (modems_text w.modems) c.args.out.now put.new.out put.result c.halting.result c.halting.ensures says
