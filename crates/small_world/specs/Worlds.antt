-- The small world: one card without octets or journal, the chip's planned cut, the eIMs, the
-- assistant, all messages ever sent, and the modems.
use Rattle.std.specs.Prelude.{ℕ, Bool, true, List, [], ◌∷◌, Option, None}
use Rattle.chip_port.specs.declared.chip.Tear.{Tear}
use Rattle.small_card.specs.Cards.{FullCard}
use Rattle.small_card.specs.Fresh.{fresh}
use Rattle.small_card.specs.Histories.{History, card_of}
use Rattle.small_card.specs.Profiles.{enabled_of}
use Rattle.card_store.specs.Holding.{Mark, standing}
use Rattle.esipa_codec.specs.Assistant.{IpaEvent}
use Rattle.esipa_codec.specs.Eims.{EimState}
use Rattle.esipa_codec.specs.declared.messages.Post.{Post}
use Rattle.modem_bank.specs.Modems.{Seen, told}
use Rattle.iot_schedule.specs.declared.types.Device.{Device}
use Rattle.small_world.specs.declared.reply.Reply.{Reply}

-- A planned cut: how many chip calls pass before it, and what it leaves of what isn't synced.
abbrev pub Plan : Type 0
Plan = ℕ × Tear

-- Marks and the assistant's events stand newest first; messages stand in the order of sending.
pub record SmallWorld : Type 0 where
  pub history : History
  pub marks : List Mark
  pub lit : Bool
  pub to_eims : List Post
  pub to_ipa : List Reply
  pub eims : List EimState
  pub assistant : List IpaEvent
  pub plan : Option Plan
  pub modems : List Seen

-- The EID of the world's card.
abbrev pub eid_of : SmallWorld → List ℕ
eid_of w = w.history.start.card.eid

-- The profile that is enabled after a history, if any.
abbrev pub enabled_after : History → Option (List ℕ)
enabled_after h = enabled_of (card_of h).profiles

-- A lit card, no unit, one mark; nobody and nothing else yet, and modems that show this profile.
unfoldable pub started : FullCard → Option (List ℕ) → List Seen → SmallWorld
started f enabled handed_in =
    let h : History = record { start = f; units = [] } in
    record {
      history = h;
      marks = standing h ∷ [];
      lit = true;
      to_eims = [];
      to_ipa = [];
      eims = [];
      assistant = [];
      plan = None;
      modems = told enabled handed_in;
    }

-- The world after the first line: the device's card was personalised, and the modems were told.
unfoldable pub start_world : Device → List Seen → SmallWorld
start_world d handed_in = started (fresh d.eid d.profiles) (enabled_of d.profiles) handed_in
