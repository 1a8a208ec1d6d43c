-- The checks over a package's values, in their order: the first that applies is the refusal.
use Rattle.std.specs.Prelude.{ℕ, ◌==◌, ◌&&◌, Bool, not, List, length, nat_le, if◌then◌else◌, Option, Some, None}
use Rattle.std.specs.List.{list_any}
use Rattle.std.specs.Option.{option_or}
use Rattle.small_card.specs.Lists.{same}
use Rattle.small_card.specs.Cards.{SmallCard, Results}
use Rattle.small_card.specs.EimOperations.{is_eim, has_eim}
use Rattle.small_card.specs.Histories.{History, card_of, kept}
use Rattle.small_card.specs.declared.types.EimEntry.{EimEntry}
use Rattle.small_card.specs.declared.types.Package.{Package}
use Rattle.small_card.specs.declared.types.Refused.{Refused}
use Rattle.small_card.specs.declared.limits.TheConstants.{MOST_PENDING}

-- A refusal but for a replay carries no counters.
unfoldable pub refused : ℕ → Refused
refused code = record { code = code; kept = 0; received = 0 }

-- The eIM's entry has this association.
unfoldable pub has_association : List ℕ → ℕ → List EimEntry → Bool
has_association id association es = list_any (λ e. is_eim id e && e.association == association) es

-- Fewer than 8 results are pending, and two more numbers are left: the result's and its mark's.
unfoldable pub has_room : Results → Bool
has_room rs = not (nat_le MOST_PENDING (length rs.pending)) && nat_le rs.next 4294967293

-- Unknown eIM: no entry has its identifier.
unfoldable pub eim_refusal : SmallCard → Package → Option Refused
eim_refusal c p = if has_eim p.eim c.eims.entries then None else Some (refused 2)

-- After the verdict: another card's EID, a wrong association, a replay, no room.
unfoldable pub later_refusal : SmallCard → ℕ → Package → Option Refused
later_refusal c counter p =
    if not (same p.eid c.eid) then Some (refused 4)
    else if not (has_association p.eim p.association c.eims.entries) then Some (refused 5)
    else if nat_le p.counter counter then Some (record { code = 6; kept = counter; received = p.counter })
    else if not (has_room c.results) then Some (refused 7)
    else None

-- The first check on values that applies, against the counter that the history keeps.
unfoldable pub value_refusal : History → Package → Option Refused
value_refusal h p = option_or (eim_refusal (card_of h) p) (later_refusal (card_of h) (kept h p.eim p.association) p)
