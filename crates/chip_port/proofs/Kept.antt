use Rattle.std.proofs.Common.{◌≡◌, ℕ, List, [], refl, reverse}
use Rattle.chip_port.specs.declared.medium.Record.{Record}
use Rattle.chip_port.specs.Past.{zeros}
use Rattle.chip_port.specs.PastLaws.{length-zeros}
use Rattle.chip_port.specs.Medium.{IsKept, past_of}

pub kept_none : (records : List Record) (octets c s j : List ℕ) → records ≡ [] → c ≡ zeros 346624 → s ≡ zeros 346624 → j ≡ zeros 346624 → IsKept (past_of (reverse records) octets) c s j
kept_none records octets c s j r ec es ej = record {
  images_are = rw (r, ec, es, ej) refl;
  inside = rw r refl;
  content_size = rw ec (length-zeros 346624);
  synced_size = rw es (length-zeros 346624);
  junk_size = rw ej (length-zeros 346624);
}
