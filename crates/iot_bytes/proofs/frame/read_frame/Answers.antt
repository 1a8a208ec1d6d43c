use Rattle.std.proofs.Common.{arith, ap, ◌≡◌, ◌≤◌, length, take, ◌∙◌}
use Rattle.std.specs.Int.{w32, from_be_bytes}
use Rattle.std.proofs.lemmas.List.{take_at}
use Rattle.iot_bytes.specs.Frames.{announced}
use Rattle.iot_bytes.specs.declared.frame.TheConstants.{FRAME_LIMIT}
use Rattle.iot_bytes.proofs.Framing.{frame_whole, left_inside}
use Rattle.iot_bytes.proofs.frame.read_frame.Goals as goal

pub returns-in-Full-fill-clause-octets : goal.returns-in-Full-fill-clause-octets
returns-in-Full-fill-clause-octets g c = λ bytes known.
    let first = c.in-Full.ensures.octets bytes known in
    let second = c.in-Full-fill.ensures.octets _ first.2 in
    let four : length c.fill.new.out ≡ 4 = c.fill.auto.out in
    let long : 4 ≤ length bytes = omega (arith, first.0) in
    let front : c.fill.new.out ≡ take 4 bytes = rw four at first.1 in
    let count : length c.fill-2.new.out ≡ c.from_be_bytes-len.result = omega (arith, c.in-Ok.ensures.len, c.fill-2.auto.out) in
    let given : c.from_vec.result ≡ c.fill-2.new.out = c.from_vec.ensures ∙ take_at c.fill-2.new.out _ _ (omega (arith, c.fill-2.auto.out)) in
    rw given (frame_whole bytes c.fill.new.out c.fill-2.new.out c.from_be_bytes-len.result (g.S.Source.rest c.fill-2.new.source) c.fill.ensures.range long front c.from_be_bytes-len.ensures c.if-len-gt-FRAME_LIMIT.false count (rw four at second.1) (rw four at second.2))

pub returns-in-Fault-fill-clause-octets : goal.returns-in-Fault-fill-clause-octets
returns-in-Fault-fill-clause-octets g c = λ bytes known.
    let first = c.in-Full.ensures.octets bytes known in
    let second = c.in-Fault-fill.ensures.octets _ first.2 in
    let four : length c.fill.new.out ≡ 4 = c.fill.auto.out in
    let front : c.fill.new.out ≡ take 4 bytes = rw four at first.1 in
    let number : c.from_be_bytes-len.result ≡ announced bytes = c.from_be_bytes-len.ensures ∙ ap (from_be_bytes w32) front in
    let small : c.from_be_bytes-len.result ≤ FRAME_LIMIT = c.if-len-gt-FRAME_LIMIT.false in
    let count : length c.fill-2.new.out ≡ announced bytes = omega (arith, c.in-Ok.ensures.len, c.fill-2.auto.out) in
    left_inside bytes (g.S.Source.rest c.fill-2.new.source) (length c.fill-2.new.out) (omega (arith, first.0)) (omega arith) count (rw four at second)
