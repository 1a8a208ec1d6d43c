use Rattle.std.proofs.Common.{arith}
use Rattle.sgp_fields.proofs.Clauses.{found_by, only_by, malformed_by}
use Rattle.esipa_codec.proofs.ToIpaCodec.{to_ipa_codec}
use Rattle.esipa_codec.proofs.to_ipa.read_to_ipa.Goals as goal

pub returns-clause-found : goal.returns-clause-found
returns-clause-found c = found_by to_ipa_codec c.args.bytes.now c.read_whole.result (λ i. omega (arith, c.type_inv.bytes i)) c.read_whole.ensures

pub returns-clause-only : goal.returns-clause-only
returns-clause-only c = λ m fits e. only_by to_ipa_codec c.args.bytes.now c.read_whole.result c.read_whole.ensures m fits e

pub returns-clause-malformed : goal.returns-clause-malformed
returns-clause-malformed c = λ h m fits e. malformed_by to_ipa_codec c.args.bytes.now c.read_whole.result c.read_whole.ensures h m fits e
