-- What a run sees of the outside.
use Rattle.std.specs.Prelude.{ℕ, ◌≤◌, List, Option}
use Rattle.iot_bytes.specs.Causes.{Rose}

-- The octets still to come and those sent, where they are told, and how many calls failed.
pub record Edge : Type 0 where
  pub rest : Option (List ℕ)
  pub read_faults : ℕ
  pub sent : Option (List ℕ)
  pub write_faults : ℕ

abbrev pub edge : Option (List ℕ) → ℕ → Option (List ℕ) → ℕ → Edge
edge rest read_faults sent write_faults = record { rest = rest; read_faults = read_faults; sent = sent; write_faults = write_faults }

-- No count of faults falls; that of the source rose where a read failed, and that of the sink where a write failed.
pub record HasCauses (old new : Edge) (read_failed write_failed : Type 0) : Type 0 where
  pub read_later : old.read_faults ≤ new.read_faults
  pub write_later : old.write_faults ≤ new.write_faults
  pub read : read_failed → Rose old.read_faults new.read_faults
  pub write : write_failed → Rose old.write_faults new.write_faults
