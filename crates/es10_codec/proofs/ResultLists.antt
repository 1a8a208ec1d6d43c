-- A list of results that is read was spelled so, and one that is spelled is read again.
use Rattle.std.proofs.Common.{◌≡◌, ℕ, ◌≤◌, List, length, Some, subst, arith}
use Rattle.std.specs.List.{flat_map}
use Rattle.sgp_der.proofs.Fields.{on_some, guard_some}
use Rattle.sgp_fields.specs.Elements.{tagged_as}
use Rattle.sgp_fields.specs.Lists.{list_at}
use Rattle.sgp_fields.proofs.Codecs.{IsCodec}
use Rattle.sgp_fields.proofs.Steps.{only_if_again}
use Rattle.sgp_fields.proofs.ListCodec.{list_codec}
use Rattle.sgp_fields.proofs.Sizes.{flat_few}
use Rattle.small_card.specs.Pairs.{each_pair, are_rising}
use Rattle.small_card.specs.Ranges.{IsResult, IsResultList}
use Rattle.small_card.specs.declared.types.PackageResult.{PackageResult}
use Rattle.small_card.proofs.PairTests.{rising_pairs, pairs_take, pairs_again}
use Rattle.result_codec.specs.Spelling.{result}
use Rattle.result_codec.specs.Reading.{result_of}
use Rattle.result_codec.proofs.ResultCodec.{result_listed, result_few}
use Rattle.iot_bytes.proofs.Framing.{IsBytes}
use Rattle.es10_codec.specs.Spelling.{results}
use Rattle.es10_codec.specs.Reading.{results_at}

results_take : (content : List ℕ) (rs : List PackageResult) → IsBytes content → results_at content ≡ Some rs → (content ≡ results rs) × IsResultList rs
unfolding results_at
results_take content rs fits e =
    on_some (list_at (tagged_as 0x30 result_of) 8 content) _ rs e (λ rows a e1.
    let t = (list_codec result_listed 8).takes content rows fits a in
    let g = guard_some (each_pair are_rising rows) rows rs e1 in
    subst (λ (x : List PackageResult). (content ≡ flat_map result x) × IsResultList x) g.1 (t.0, record { few = t.1.few; each = t.1.each; rising = pairs_take rising_pairs rows g.0 }))

results_again : (rs : List PackageResult) → IsResultList rs → results_at (results rs) ≡ Some rs
unfolding results_at
results_again rs h =
    rw ((list_codec result_listed 8).again rs (record { few = h.few; each = h.each }))
    (only_if_again (each_pair are_rising rs) rs (pairs_again rising_pairs rs h.rising))

-- lists of results and their contents
pub results_codec : IsCodec results_at results IsResultList
results_codec = record { takes = results_take; again = results_again }

-- a list of results has at most 146,472 octets
pub results_few : (rs : List PackageResult) → IsResultList rs → length (results rs) ≤ 146472
results_few rs h = omega (arith, flat_few result IsResult 18309 result_few rs h.each, h.few)
