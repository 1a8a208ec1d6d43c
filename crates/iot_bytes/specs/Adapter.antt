-- An object of std and the count of its failures.
use Rattle.std.specs.Prelude.{ℕ, refl}
use Rattle.std.specs.Coded.{Coded, code_by, coded×, coded_ℕ}

-- the object of std that is adapted, and how many of its calls failed
pub record Adapter (T : Type 0) : Type 0 where
  pub inner : T
  pub faults : ℕ

-- an adapter is coded as the pair of its object and its count
abbrev pub adapter_code : {T : Type 0} → Coded T → Coded (Adapter T)
adapter_code {T} c = code_by (T × ℕ) (coded× c coded_ℕ) (λ e. (e.inner, e.faults)) (λ p. record { inner = p.0; faults = p.1 }) (λ _. refl)
