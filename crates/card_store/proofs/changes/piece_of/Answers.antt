use Rattle.std.proofs.Common.{◌≡◌, ◌∙◌, ◌+◌, ◌-◌, ◌*◌, ℕ, length, take, drop, sym, ap, arith, length-drop}
use Rattle.std.proofs.lemmas.List.{take_all}
use Rattle.card_store.proofs.changes.piece_of.Goals as goal

pub returns-then-octets-from-le-BLOCK-clause-piece : goal.returns-then-octets-from-le-BLOCK-clause-piece
returns-then-octets-from-le-BLOCK-clause-piece c =
    let from = 256 * c.args.at in
    let rest = drop from c.args.octets.now in
    let len : length rest ≡ length c.args.octets.now - from = length-drop from c.args.octets.now in
    take_all _ rest (omega arith) ∙ sym (take_all 256 rest (omega arith))

pub returns-else-octets-from-le-BLOCK-clause-piece : goal.returns-else-octets-from-le-BLOCK-clause-piece
returns-else-octets-from-le-BLOCK-clause-piece c =
    let from = 256 * c.args.at in
    let n : from + 256 - from ≡ 256 = omega arith in
    ap (λ (k : ℕ). take k (drop from c.args.octets.now)) n
