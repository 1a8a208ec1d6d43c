use Rattle.std.proofs.Common.{◌≡◌, ◌≤◌, ◌*◌, length, take}
use Rattle.std.specs.List.{flat_map}
use Rattle.sgp_fields.proofs.writing.list_len.Given as goal

abbrev pub invariant-loop-row : goal.invariant-loop-row
invariant-loop-row g l = record {
  octets : l.len ≡ length (flat_map g.W.Written.spelled (take l.row-index l.rows));
  few : l.len ≤ l.row-index * g.W.Written.most;
}
