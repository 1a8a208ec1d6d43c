-- The codecs of numbers in their ranges.
use Rattle.std.proofs.Common.{ℕ, ◌≤◌, ◌<◌, ◌^◌, arith}
use Rattle.sgp_der.specs.Number.{uint}
use Rattle.small_card.specs.Ranges.{IsNumber, IsCounter, greatest_counter}
use Rattle.sgp_fields.specs.Values.{number_of}
use Rattle.sgp_fields.proofs.Codecs.{IsCodec}
use Rattle.sgp_fields.proofs.ValueCodecs.{number_codec}

-- associations and sequence numbers
pub card_number_codec : IsCodec (number_of 1 4294967295) uint IsNumber
card_number_codec = record {
  takes = λ content n fits e. let t = (number_codec 1 4294967295 (omega arith)).takes content n fits e in (t.0, record { some = t.1.low; fits = t.1.high });
  again = λ n h. (number_codec 1 4294967295 (omega arith)).again n (record { low = h.some; high = h.fits });
}

-- counters of packages
pub counter_codec : IsCodec (number_of 1 greatest_counter) uint IsCounter
counter_codec = record {
  takes = λ content n fits e. let t = (number_codec 1 greatest_counter (omega arith)).takes content n fits e in (t.0, record { some = t.1.low; fits = t.1.high });
  again = λ n h. (number_codec 1 greatest_counter (omega arith)).again n (record { low = h.some; high = h.fits });
}

-- at most this number
abbrev pub IsUpTo : ℕ → ℕ → Type 0
IsUpTo greatest n = n ≤ greatest

-- numbers from 0 on
pub up_to_codec : (greatest : ℕ) → greatest < 2 ^ 64 → IsCodec (number_of 0 greatest) uint (IsUpTo greatest)
up_to_codec greatest low = record {
  takes = λ content n fits e. let t = (number_codec 0 greatest low).takes content n fits e in (t.0, t.1.high);
  again = λ n h. (number_codec 0 greatest low).again n (record { low = omega arith; high = h });
}
