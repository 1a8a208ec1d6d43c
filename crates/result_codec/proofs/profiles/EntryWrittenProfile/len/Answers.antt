use Rattle.std.proofs.Common.{sym, arith}
use Rattle.result_codec.specs.Spelling.{profile_content, profile}
use Rattle.result_codec.proofs.TableCodec.{profile_few}
use Rattle.result_codec.proofs.profiles.EntryWrittenProfile.len.Goals as goal

pub returns-clause-few : goal.returns-clause-few
unfolding profile
returns-clause-few c = omega (arith, c.element_len.ensures.len 0x30 (profile_content c.args.p.now) (sym c.content_len.ensures.len), profile_few c.args.p.now c.requires)
