-- The frame of a content, and the stop record's.
use Rattle.std.proofs.Common.{◌≡◌, ℕ, ◌<◌, ◌≤◌, ◌^◌, List, ◌++◌, length, drop, ap, length-append, arith}
use Rattle.iot_bytes.specs.Frames.{blank_head, frame}
use Rattle.iot_bytes.specs.declared.frame.TheConstants.{FRAME_HEAD_LEN}
use Rattle.sgp_der.specs.Element.{element}
use Rattle.sgp_der.specs.Number.{uint}
use Rattle.sgp_der.proofs.Elements.{element_few}
use Rattle.sgp_der.proofs.Values.{uint_few}
use Rattle.es10_codec.specs.Spelling.{stop_content, stopped}

pub stopped_short : (status number : ℕ) → status < 2 ^ 64 → number < 2 ^ 64 → length (stopped status number) ≤ 40
unfolding stopped stop_content
stopped_short status number low high =
    let first = element 128 (uint status) in
    let second = element 129 (uint number) in
    omega (arith, element_few 173 (first ++ second), length-append first second, element_few 128 (uint status), element_few 129 (uint number), uint_few status low, uint_few number high)

-- What stands behind the blank head is the content of the frame.
pub framed_content : (out content : List ℕ) → out ≡ blank_head ++ content → frame (drop FRAME_HEAD_LEN out) ≡ frame content
framed_content out content is = ap (λ (x : List ℕ). frame (drop FRAME_HEAD_LEN x)) is
