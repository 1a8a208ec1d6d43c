use Rattle.std.proofs.Common.{◌≡◌, map, take, drop, ◌++◌, false}
use Rattle.small_card.specs.Profiles.{with_state}
use Rattle.profile_table.proofs.rows.disable_all.Given as goal

abbrev pub invariant-loop-at : goal.invariant-loop-at
invariant-loop-at l = l.rows ≡ map (with_state false) (take l.at l.fn.rows) ++ drop l.at l.fn.rows
