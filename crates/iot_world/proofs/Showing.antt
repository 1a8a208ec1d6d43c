-- The card is printed.
use Rattle.std.proofs.Common.{◌≡◌, ℕ, Bool, true, false, cond, List, Option, Some, None, Result, refl, sym, ◌∙◌, ap}
use Rattle.home_codec.specs.FullCards.{full_card}
use Rattle.home_codec.specs.declared.card.Card.{Card}
use Rattle.iot_schedule.specs.declared.types.Line.TheVariants as line
use Rattle.small_card.specs.Cards.{FullCard}
use Rattle.small_card.specs.Histories.{full_of}
use Rattle.small_world.specs.Lines.{acted}
use Rattle.small_world.specs.Printing.{printed}
use Rattle.small_world.specs.Texts.{off}
use Rattle.small_world.specs.Worlds.{SmallWorld}
use Rattle.trace_text.specs.Texts.{card_text}
use Rattle.world_card.specs.Benches.{held_in}
use Rattle.world_network.specs.Networks.{Parts, IsNetwork}
use Rattle.iot_world.specs.Asking.{Says}
use Rattle.iot_world.specs.Quiet.{QuietEnd}
use Rattle.iot_world.specs.declared.ends.Halt.{Halt}
use Rattle.iot_world.proofs.Quieting.{worded}

-- what is printed of a card, where it is lit
abbrev held_text : Option FullCard → List ℕ
held_text None = off
held_text (Some f) = card_text f.card.profiles f.card.eims.entries f.card.results.pending

shown_text : (w : SmallWorld) → held_text (held_in w) ≡ printed w line.Show false
unfolding printed full_of
shown_text w = by_power w.lit
  where
    by_power : (b : Bool) → held_text (cond b (Some (full_of w.history)) None) ≡ cond b (held_text (Some (full_of w.history))) off
    by_power true = refl
    by_power false = refl

shown_network : (n : Parts) (w : SmallWorld) → IsNetwork n w → IsNetwork n (acted line.Show false false w)
unfolding acted
shown_network n w network = network

shown_held : (w : SmallWorld) (o held : Option FullCard) (r : Result (Unit {0}) Halt) (n : Parts) (before out : List ℕ) → IsNetwork n w → held ≡ held_in w → held ≡ o → Says (held_text o) before out r → QuietEnd line.Show w r n before out
shown_held w o held r n before out network in_world is says =
    worded line.Show w (held_text o) r n before out says (ap (λ (x : Option FullCard). held_text x) (sym is ∙ in_world) ∙ shown_text w) (shown_network n w network)

-- a lit card, and a dark one
pub shown_lit : (w : SmallWorld) (parts : Card) (held : Option FullCard) (r : Result (Unit {0}) Halt) (n : Parts) (before out : List ℕ) → IsNetwork n w → held ≡ held_in w → held ≡ Some (full_card parts) → Says (card_text parts.profiles parts.eims.entries parts.store.pending) before out r
    → QuietEnd line.Show w r n before out
shown_lit w parts held = shown_held w (Some (full_card parts)) held

pub shown_dark : (w : SmallWorld) (held : Option FullCard) (r : Result (Unit {0}) Halt) (n : Parts) (before out : List ℕ) → IsNetwork n w → held ≡ held_in w → held ≡ None → Says off before out r → QuietEnd line.Show w r n before out
shown_dark w held = shown_held w None held
