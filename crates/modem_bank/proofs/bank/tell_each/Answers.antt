use Rattle.std.proofs.Common.{add-one, arith}
use Rattle.modem_bank.proofs.Telling.{told-more, kept-more}
use Rattle.modem_bank.proofs.bank.tell_each.Goals as goal

pub loop-modem-preserved : goal.loop-modem-preserved
loop-modem-preserved g c =
    let at = c.loop-modem.modem-index in
    let items = c.loop-modem.modem-items in
    let told = c.one.new.arg2 in
    record {
      callable = c.loop-modem.invariant.callable;
      seen = λ view tells. rw add-one (told-more view _ at _ items c.modem-item.result told (omega arith) (c.loop-modem.invariant.seen view tells) c.modem-item.is (rw (← c.modem-item.is) at (tells _ _ _ c.one.ensures)));
      kept = λ shown keeps. kept-more shown _ at _ items c.modem-item.result told c.modem-item.is (rw (← c.modem-item.is) at (keeps _ _ _ c.one.ensures)) (c.loop-modem.invariant.kept shown keeps);
    }
