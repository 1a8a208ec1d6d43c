use Rattle.std.proofs.Common.{◌≡◌, refl, subst}
use Rattle.modem_bank.specs.declared.bank.DetachEnd.TheVariants.{Dropped, NoSuch}
use Rattle.small_world.specs.Printing.{printed}
use Rattle.iot_world.specs.Asking.{Says}
use Rattle.iot_world.proofs.Attaching.{none_left, none_text, taken_left, taken_text}
use Rattle.iot_world.proofs.modem_lines.detach.Goals as goal

pub returns-in-Dropped-clause-left : goal.returns-in-Dropped-clause-left
returns-in-Dropped-clause-left g c =
    taken_left c.args.at c.args.modems.now.items c.detach_at.new.modems.items (λ few. let e : Dropped ≡ NoSuch = c.in-Dropped.ensures.no_such.1 few in cc) c.in-Dropped.ensures.left

pub returns-in-NoSuch-clause-left : goal.returns-in-NoSuch-clause-left
returns-in-NoSuch-clause-left g c =
    none_left c.args.at c.args.modems.now.items c.detach_at.new.modems.items (c.in-NoSuch.ensures.no_such.0 refl) c.in-NoSuch.ensures.left

pub returns-in-Dropped-clause-says : goal.returns-in-Dropped-clause-says
unfolding printed
returns-in-Dropped-clause-says g c = λ w view same.
    subst (λ text. Says text c.args.out.now c.put_word.new.out c.put_word.result)
    (taken_text view c.args.at c.args.modems.now.items w.modems same (λ few. let e : Dropped ≡ NoSuch = c.in-Dropped.ensures.no_such.1 few in cc)) c.put_word.ensures

pub returns-in-NoSuch-clause-says : goal.returns-in-NoSuch-clause-says
unfolding printed
returns-in-NoSuch-clause-says g c = λ w view same.
    subst (λ text. Says text c.args.out.now c.put_word-in-NoSuch.new.out c.put_word-in-NoSuch.result)
    (none_text view c.args.at c.args.modems.now.items w.modems same (c.in-NoSuch.ensures.no_such.0 refl)) c.put_word-in-NoSuch.ensures
