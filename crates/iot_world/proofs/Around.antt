-- What a command leaves of the world around the card.
use Rattle.std.proofs.Common.{◌≡◌, Bool, true, false, cond, Option, Some, None, refl, ap}
use Rattle.std.specs.Prelude.{◌&&◌}
use Rattle.std.proofs.lemmas.Bool.{cond_both}
use Rattle.small_card.specs.Histories.{History, with_unit}
use Rattle.small_card.specs.Units.{CardUnit}
use Rattle.small_card.specs.declared.types.Answer.{Answer}
use Rattle.small_card.specs.declared.types.Command.{Command}
use Rattle.package_codec.specs.Replies.{reply, unit_of, grown, after}
use Rattle.small_world.specs.Acting.{told_answer, asked_card}
use Rattle.small_world.specs.Stepping.{commanded, lost_step, answered_step, IsSameCard}
use Rattle.small_world.specs.Worlds.{SmallWorld, eid_of}
use Rattle.world_network.specs.Networks.{Parts, IsNetwork}
use Rattle.world_network.proofs.Standing.{network_alike}

-- the same network
pub record IsAround (v w : SmallWorld) : Type 0 where
  pub eid : eid_of w ≡ eid_of v
  pub assistant : w.assistant ≡ v.assistant
  pub eims : w.eims ≡ v.eims
  pub to_eims : w.to_eims ≡ v.to_eims
  pub to_ipa : w.to_ipa ≡ v.to_ipa

same_around : (w : SmallWorld) → IsAround w w
same_around w = record { eid = refl; assistant = refl; eims = refl; to_eims = refl; to_ipa = refl }

pub grown_start : (o : Option CardUnit) (h : History) → (grown o h).start ≡ h.start
unfolding with_unit
grown_start None h = refl
grown_start (Some u) h = refl

answered_around : (c : Command) (w : SmallWorld) → IsAround w (answered_step c w)
unfolding after
answered_around c w = record { eid = ap (λ f. f.card.eid) (grown_start (unit_of w.history c) w.history); assistant = refl; eims = refl; to_eims = refl; to_ipa = refl }

lost_around : (c : Command) (w : SmallWorld) → IsAround w (lost_step c w)
lost_around c w = record { eid = refl; assistant = refl; eims = refl; to_eims = refl; to_ipa = refl }

pub commanded_around : (c : Command) (lost : Bool) (w : SmallWorld) → IsAround w (commanded c lost w)
unfolding commanded
commanded_around c lost w =
    cond_both {A = SmallWorld} w.lit (cond lost (lost_step c w) (answered_step c w)) w (IsAround w)
    (λ _. cond_both {A = SmallWorld} lost (lost_step c w) (answered_step c w) (IsAround w) (λ _. lost_around c w) (λ _. answered_around c w))
    (λ _. same_around w)

pub around_network : (n : Parts) (v w : SmallWorld) → IsAround v w → IsNetwork n v → IsNetwork n w
around_network n v w a = network_alike n v w a.eid a.assistant a.eims a.to_eims a.to_ipa

-- a lit card that answers, and one whose step is lost
pub asked_answered : (c : Command) (w : SmallWorld) → w.lit ≡ true → asked_card c false w ≡ told_answer (reply w.history c) (commanded c false w)
unfolding asked_card
asked_answered c w lit = ap (λ b. cond (b && true) (told_answer (reply w.history c) (commanded c false w)) (commanded c false w)) lit

pub asked_lost : (c : Command) (w : SmallWorld) → w.lit ≡ true → asked_card c true w ≡ commanded c true w
unfolding asked_card
asked_lost c w lit = ap (λ b. cond (b && false) (told_answer (reply w.history c) (commanded c true w)) (commanded c true w)) lit

-- what the assistant is told leaves the card
pub told_same : (a : Answer) (w : SmallWorld) → IsSameCard w (told_answer a w)
unfolding told_answer
told_same a w = record { history = refl; marks = refl; lit = refl; plan = refl }

-- an answered command ends the plan
pub answered_plan : (c : Command) (w : SmallWorld) → w.lit ≡ true → (commanded c false w).plan ≡ None
unfolding commanded
answered_plan c w lit = ap (λ b. (cond {A = SmallWorld} b (answered_step c w) w).plan) lit
