use Rattle.std.proofs.Common.{sym, arith}
use Rattle.result_codec.specs.Spelling.{result_content, result}
use Rattle.result_codec.proofs.ResultCodec.{result_few}
use Rattle.result_codec.proofs.results.EntryWrittenPackageResult.len.Goals as goal

pub returns-clause-few : goal.returns-clause-few
unfolding result
returns-clause-few c = omega (arith, c.element_len.ensures.len 0x30 (result_content c.args.r.now) (sym c.content_len.ensures.len), result_few c.args.r.now c.requires)
