-- Before its first line a part counted nothing.
use Rattle.std.proofs.Common.{ℕ, [], refl}
use Rattle.schedule_forms.specs.Checks.{Counted}

pub counted_nothing : (first : ℕ) → Counted first first [] []
counted_nothing first = λ none. (record { fit = tt; silent = refl }, none)
