use Rattle.chip_port.proofs.Apart.{octet_apart, range_apart}
use Rattle.chip_port.proofs.laws.what_lies_apart_stays.Goals as goal

pub returns-clause-octet : goal.returns-clause-octet
returns-clause-octet c = octet_apart

pub returns-clause-range : goal.returns-clause-range
returns-clause-range c = range_apart
