use Rattle.sgp_fields.proofs.Clauses.{one_by}
use Rattle.result_codec.proofs.TableCodec.{profiles_codec}
use Rattle.result_codec.proofs.EimListCodec.{eim_lines_codec}
use Rattle.result_codec.proofs.laws.lists_have_one_spelling.Goals as goal

pub returns : goal.returns
returns c = record {
  table_again = profiles_codec.again;
  table = one_by profiles_codec;
  eim_list_again = eim_lines_codec.again;
  eim_list = one_by eim_lines_codec;
}
