use Rattle.package_codec.proofs.Packages.{signed_split}
use Rattle.package_codec.proofs.laws.packages_have_one_spelling.Goals as goal

pub returns : goal.returns
returns c = signed_split
