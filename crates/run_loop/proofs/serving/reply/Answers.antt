use Rattle.std.proofs.Common.{◌≡◌, ◌∙◌, ◌++◌, ap, List, ℕ}
use Rattle.iot_bytes.specs.Frames.{blank_head}
use Rattle.run_loop.proofs.StopRecord.{framed_content}
use Rattle.run_loop.proofs.serving.reply.Goals as goal

pub returns-clause-replies : goal.returns-clause-replies
returns-clause-replies g c =
    let answered = c.in_ok-answer.ensures.answers in
    let whole : c.answer.new.out ≡ blank_head ++ answered.content = answered.appended ∙ ap (λ (x : List ℕ). x ++ answered.content) c.requires.blank in
    record {
      content = answered.content;
      framed = c.end_frame.ensures ∙ framed_content c.answer.new.out answered.content whole;
      stands = answered.stands;
    }
