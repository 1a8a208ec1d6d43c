-- Which calls failed, call by call.
use Rattle.std.specs.Prelude.{◌⊎◌}
use Rattle.std.proofs.Common.{◌≡◌, ⊎_elim, ◌≤◌, subst, arith}
use Rattle.iot_bytes.specs.Causes.{Rose}
use Rattle.run_loop.specs.Edges.{Edge, HasCauses}
use Rattle.run_loop.proofs.Going.{rose-since, rose-until}

-- no call was made yet
pub no_causes : (e : Edge) → HasCauses e e ⊥ ⊥
no_causes e = record { read_later = omega arith; write_later = omega arith; read = λ no. absurd no; write = λ no. absurd no }

-- one turn more, behind turns of which no call failed
pub more_causes : {R W : Type 0} (old before now : Edge) → HasCauses old before ⊥ ⊥ → before.read_faults ≤ now.read_faults → before.write_faults ≤ now.write_faults
    → (R → Rose before.read_faults now.read_faults) → (W → Rose before.write_faults now.write_faults) → HasCauses old now R W
more_causes old before now c read_later write_later read write = record {
  read_later = omega (arith, c.read_later, read_later);
  write_later = omega (arith, c.write_later, write_later);
  read = λ at. rose-since old.read_faults before.read_faults now.read_faults c.read_later (read at);
  write = λ at. rose-since old.write_faults before.write_faults now.write_faults c.write_later (write at);
}

-- what closes a run was sent, or not whole
pub last_causes : {R W Read Write Last : Type 0} (old before now : Edge) → HasCauses old before R W → before.read_faults ≡ now.read_faults → before.write_faults ≤ now.write_faults
    → (Last → Rose before.write_faults now.write_faults) → (Read → R) → (Write → W) → HasCauses old now Read (Write ⊎ Last)
last_causes old before now c same later rose read write = record {
  read_later = omega (arith, c.read_later, same);
  write_later = omega (arith, c.write_later, later);
  read = λ at. subst (λ n. Rose old.read_faults n) same (c.read (read at));
  write = λ at. ⊎_elim (λ failed. rose-until old.write_faults before.write_faults now.write_faults (c.write (write failed)) later)
      (λ failed. rose-since old.write_faults before.write_faults now.write_faults c.write_later (rose failed)) at;
}
