use Rattle.modem_bank.proofs.Telling.{boxed-told, boxed-kept}
use Rattle.modem_bank.proofs.bank.fn.tell.tell_each.Goals as goal

pub returns : goal.returns
returns g c = record {
  seen = boxed-told (λ q. (goal.Modem-dyn g q).shown_iccid q.1) (λ q. (goal.Modem-dyn g q).refresh_count q.1) c.args.now.now _ _ _ c.tell_one.ensures.seen c.deref_box_mut-1.ensures.value.1;
  kept = boxed-kept (λ q. (goal.Modem-dyn g q).shown_iccid q.1) c.args.now.now (λ q. record { ptr = c.args.modem.now.ptr; vtable = q.0; alloc = c.args.modem.now.alloc; value = q.1 }) _ _ _ c.tell_one.ensures.kept c.deref_box_mut-1.ensures.value.1;
}
