use Rattle.std.proofs.Common.{sym, arith}
use Rattle.small_card.specs.Cards.{EimList, Results}
use Rattle.home_codec.specs.Reading.{is_armed}
use Rattle.home_codec.proofs.Parts.{tested}
use Rattle.home_codec.proofs.fitting.joined.Goals as goal

pub of-requires : goal.of-requires
of-requires c =
    let ms : EimList = record { entries = c.args.eims; next = c.args.head.association } in
    let rs : Results = record { pending = c.args.pending; next = c.args.head.seq } in
    let tests = rw (c.as_slice.ensures, c.as_slice-2.ensures) at (sym c.if-not-all_fit.ensures) in
    (tested ms rs (is_armed c.in_ok-table.table rs c.args.head.armed) (omega arith) (omega arith) tests).eims

pub of-requires-2 : goal.of-requires-2
of-requires-2 c =
    let ms : EimList = record { entries = c.args.eims; next = c.args.head.association } in
    let rs : Results = record { pending = c.args.pending; next = c.args.head.seq } in
    let tests = rw (c.as_slice.ensures, c.as_slice-2.ensures) at (sym c.if-not-all_fit.ensures) in
    (tested ms rs (is_armed c.in_ok-table.table rs c.args.head.armed) (omega arith) (omega arith) tests).store
