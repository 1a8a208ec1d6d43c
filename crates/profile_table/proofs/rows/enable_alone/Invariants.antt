use Rattle.std.proofs.Common.{◌≡◌, map, take, drop, ◌++◌}
use Rattle.small_card.specs.Profiles.{with_state, is_iccid}
use Rattle.profile_table.proofs.rows.enable_alone.Given as goal

abbrev pub invariant-loop-at : goal.invariant-loop-at
invariant-loop-at l = l.rows ≡ map (λ p. with_state (is_iccid l.iccid p) p) (take l.at l.fn.rows) ++ drop l.at l.fn.rows
