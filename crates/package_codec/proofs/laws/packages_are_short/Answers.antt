use Rattle.package_codec.proofs.Packages.{signed_few}
use Rattle.package_codec.proofs.laws.packages_are_short.Goals as goal

pub returns : goal.returns
returns c = signed_few
