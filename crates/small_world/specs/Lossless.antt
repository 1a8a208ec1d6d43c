-- No result is lost, and no record is made up.
use Rattle.std.specs.Prelude.{◌≡◌, ◌≢◌, ◌⊎◌, ℕ, List, Some}
use Rattle.small_card.specs.Lists.{Every, EveryPair}
use Rattle.small_card.specs.Histories.{History, card_of}
use Rattle.small_card.specs.declared.types.PackageResult.{PackageResult}
use Rattle.esipa_codec.specs.Eims.{EimState}
use Rattle.esipa_codec.specs.Records.{record_of}
use Rattle.small_world.specs.Has.{Has}
use Rattle.small_world.specs.Forms.{newest, forms}

-- An eIM of its identifier is in the world, and its record of that association and counter is the result.
pub record IsRecorded (es : List EimState) (r : PackageResult) : Type 0 where
  pub at : EimState
  pub there : Has at es
  pub its : at.id ≡ r.eim
  pub recorded : record_of r.association r.counter at.received ≡ Some r

-- For each load its result in its newest form is pending, or recorded.
unfoldable pub NoneLost : History → List EimState → Type 0
NoneLost h es = Every (λ r. Has r (card_of h).results.pending ⊎ IsRecorded es r) (newest h)

-- Each record at an eIM equals a form that its result had in the history.
unfoldable pub Made : History → List EimState → Type 0
Made h es = Every (λ e. (association counter : ℕ) (r : PackageResult) → record_of association counter e.received ≡ Some r → Has r (forms h)) es

-- No two eIMs have one identifier.
abbrev pub AreApart : List EimState → Type 0
AreApart es = EveryPair (λ d e. d.id ≢ e.id) es
