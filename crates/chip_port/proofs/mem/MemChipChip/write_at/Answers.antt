use Rattle.std.proofs.Common.{rules}
use Rattle.chip_port.proofs.Steps.{torn_wrote, torn_cut}
use Rattle.chip_port.proofs.mem.MemChipChip.write_at.Goals as goal

pub returns-in-Pass-clause-told : goal.returns-in-Pass-clause-told
returns-in-Pass-clause-told c = λ told. record {
  call = search rules;
  marks = search rules;
  leaves = search rules;
  outside = torn_wrote _ _ c.args.at _ _ c.args.self.now.inside c.write.ensures.inside c.write.ensures.past;
  done = search rules;
}

pub returns-in-Cut-clause-told : goal.returns-in-Cut-clause-told
returns-in-Cut-clause-told c = λ told. record {
  call = search rules;
  marks = search rules;
  leaves = search rules;
  outside = torn_cut _ _ _ c.args.at _ _ c.in-Cut.tear c.args.self.now.inside c.write-in-Cut.ensures.inside c.write-in-Cut.ensures.past c.cut.ensures.past;
  done = search rules;
}
