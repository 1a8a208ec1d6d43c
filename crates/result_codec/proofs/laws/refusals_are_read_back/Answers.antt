use Rattle.sgp_fields.proofs.Clauses.{reads_spelled, one_by}
use Rattle.result_codec.proofs.RefusalCodec.{refusal_codec, refusal_few}
use Rattle.result_codec.proofs.laws.refusals_are_read_back.Goals as goal

pub returns : goal.returns
returns c = record {
  taken = reads_spelled refusal_codec;
  again = refusal_codec.again;
  one = one_by refusal_codec;
  few = refusal_few;
}
