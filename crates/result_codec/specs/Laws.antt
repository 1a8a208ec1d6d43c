-- Values that are contents, which nothing follows: two with one spelling are the same.
use Rattle.std.specs.Prelude.{◌≡◌, List}
use Rattle.small_card.specs.Ranges.{IsTable, IsEimList, IsRefused}
use Rattle.small_card.specs.declared.types.Profile.{Profile}
use Rattle.small_card.specs.declared.types.EimLine.{EimLine}
use Rattle.small_card.specs.declared.types.Refused.{Refused}
use Rattle.result_codec.specs.Spelling.{profiles, eim_lines, refusal}
-- the octets that the laws speak of
pub use Rattle.sgp_fields.specs.Laws.{AreOctets}

-- two tables with one content are the same
abbrev pub TablesAreOne : Type 0
TablesAreOne =
    (ps qs : List Profile) → IsTable ps → IsTable qs → profiles ps ≡ profiles qs → ps ≡ qs

-- two eIM lists with one content are the same
abbrev pub EimListsAreOne : Type 0
EimListsAreOne =
    (ds es : List EimLine) → IsEimList ds → IsEimList es → eim_lines ds ≡ eim_lines es → ds ≡ es

-- two refusals with one content are the same
abbrev pub RefusalsAreOne : Type 0
RefusalsAreOne = (r s : Refused) → IsRefused r → IsRefused s → refusal r ≡ refusal s → r ≡ s
