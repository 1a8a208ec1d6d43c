-- A list, and how many more items it takes without asking for memory.
use Rattle.std.specs.Prelude.{ℕ, List, refl}
use Rattle.std.specs.Coded.{Coded, code_by, coded×, coded_ℕ, coded_list}

-- the items, and the spare room behind them
pub record Reserved (T : Type 0) : Type 0 where
  pub items : List T
  pub spare : ℕ

-- such a list is coded as the pair of its items and its spare room
abbrev pub reserved_code : {T : Type 0} → Coded T → Coded (Reserved T)
reserved_code {T} c = code_by (List T × ℕ) (coded× (coded_list c) coded_ℕ) (λ e. (e.items, e.spare)) (λ p. record { items = p.0; spare = p.1 }) (λ _. refl)
