use Rattle.std.proofs.Common.{sym, arith}
use Rattle.result_codec.specs.Spelling.{eim_line_content, eim_line}
use Rattle.result_codec.proofs.EimListCodec.{line_few}
use Rattle.result_codec.proofs.eim_lines.EntryWrittenEimLine.len.Goals as goal

pub returns-clause-few : goal.returns-clause-few
unfolding eim_line
returns-clause-few c = omega (arith, c.element_len.ensures.len 0x30 (eim_line_content c.args.e.now) (sym c.content_len.ensures.len), line_few c.args.e.now c.requires)
