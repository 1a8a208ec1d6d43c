-- The card's steps: a command, and a boot. A step that is answered makes a mark; a lost one leaves
-- its unit as the attempt of the newest mark, and the card dark.
use Rattle.std.specs.Prelude.{◌≡◌, Bool, true, false, List, [], ◌∷◌, if◌then◌else◌, Option, None}
use Rattle.small_card.specs.Histories.{History}
use Rattle.small_card.specs.Units.{CardUnit}
use Rattle.small_card.specs.declared.types.Command.{Command}
use Rattle.package_codec.specs.Replies.{unit_of, grown, after}
use Rattle.card_store.specs.Holding.{Mark, standing, tried}
use Rattle.small_world.specs.Worlds.{SmallWorld}

-- The attempt of the newest mark.
unfoldable pub attempt : List Mark → Option CardUnit
attempt [] = None
attempt (m ∷ older) = m.attempt

-- A command was answered: its unit, if any, stands, and a new mark.
abbrev pub answered_step : Command → SmallWorld → SmallWorld
answered_step c w = record w {
  history = after w.history c;
  marks = standing (after w.history c) ∷ tried (unit_of w.history c) w.marks;
  plan = None;
}

-- A command was lost: its unit, if any, is the attempt, and the card is dark.
abbrev pub lost_step : Command → SmallWorld → SmallWorld
lost_step c w = record w { marks = tried (unit_of w.history c) w.marks; lit = false; plan = None }

-- A command to the card: a dark card does nothing, and its plan stays.
unfoldable pub commanded : Command → Bool → SmallWorld → SmallWorld
commanded c lost w = if w.lit then (if lost then lost_step c w else answered_step c w) else w

-- A boot that took the attempt of the newest mark, or didn't.
abbrev pub woken : Bool → SmallWorld → History
woken taken w = if taken then grown (attempt w.marks) w.history else w.history

-- A boot: the card is lit under a new mark, with the attempt or without it; a lost one leaves it dark.
unfoldable pub booted : Bool → Bool → SmallWorld → SmallWorld
booted lost taken w =
    if lost then record w { lit = false; plan = None }
    else record w { history = woken taken w; marks = standing (woken taken w) ∷ w.marks; lit = true; plan = None }

-- The card, its marks, its power and the plan of one world are those of the other.
pub record IsSameCard (v w : SmallWorld) : Type 0 where
  pub history : w.history ≡ v.history
  pub marks : w.marks ≡ v.marks
  pub lit : w.lit ≡ v.lit
  pub plan : w.plan ≡ v.plan
