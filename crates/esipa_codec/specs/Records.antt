-- The results that an eIM received, and its records, which are looked up among them. What was
-- received stands newest first.
use Rattle.std.specs.Prelude.{ℕ, List, [], ◌∷◌, ◌++◌, nat_lt, ◌==◌, ◌&&◌, Bool, if◌then◌else◌, Option, Some, None}
use Rattle.std.specs.List.{list_any, filter_map}
use Rattle.small_card.specs.declared.types.PackageResult.{PackageResult}

-- The result is of this association and counter.
abbrev pub is_of : ℕ → ℕ → PackageResult → Bool
is_of association counter r = r.association == association && r.counter == counter

-- A result of this association and counter was received.
abbrev pub is_recorded : ℕ → ℕ → List PackageResult → Bool
is_recorded association counter received = list_any (is_of association counter) received

-- Of a result and the record of the older ones: the greater number, and of equal numbers the older.
unfoldable pub greater : PackageResult → Option PackageResult → PackageResult
greater r None = r
greater r (Some s) = if nat_lt s.seq r.seq then r else s

-- The record of an association and counter: the received result with the greatest sequence number,
-- of equal numbers the first received.
unfoldable pub record_of : ℕ → ℕ → List PackageResult → Option PackageResult
record_of association counter [] = None
record_of association counter (r ∷ older) =
    if is_of association counter r then Some (greater r (record_of association counter older))
    else record_of association counter older

-- An association and a counter, which name a package of an eIM.
abbrev pub Key : Type 0
Key = ℕ × ℕ

abbrev pub key : PackageResult → Key
key r = (r.association, r.counter)

-- The associations and counters of what was received, in the order of first receiving.
unfoldable pub keys : List PackageResult → List Key
keys [] = []
keys (r ∷ older) = if is_recorded r.association r.counter older then keys older else keys older ++ key r ∷ []

-- The records, in the order of first receiving.
unfoldable pub records_of : List PackageResult → List PackageResult
records_of received = filter_map (λ k. record_of k.0 k.1 received) (keys received)
