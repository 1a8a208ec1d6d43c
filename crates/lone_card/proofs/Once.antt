-- The history after frames of octets is legal.
use Rattle.std.proofs.Common.{◌≡◌, ℕ, List, [], ◌∷◌, Option, Some, None, refl, subst}
use Rattle.sgp_values.proofs.Octets.{bounds_from_AllPass}
use Rattle.small_card.specs.Histories.{History}
use Rattle.small_card.specs.Legal.{IsLegal}
use Rattle.small_card.specs.Lists.{Every}
use Rattle.small_card.specs.Ranges.{IsCommand}
use Rattle.small_card.specs.declared.types.Command.{Command}
use Rattle.small_card.specs.declared.types.Command.TheVariants as command
use Rattle.package_codec.proofs.InRange.{reads_in_range}
use Rattle.package_codec.proofs.Replying.{after_legal}
use Rattle.result_codec.specs.Laws.{AreOctets}
use Rattle.es10_codec.specs.Reading.{command_at}
use Rattle.es10_codec.proofs.CommandCodec.{command_codec}
use Rattle.small_card.specs.Fresh.{fresh}
use Rattle.small_card.proofs.Validity.{alone_legal}
use Rattle.lone_card.specs.Cards.{started, after_command, after_frame, history_of}
use Rattle.small_card.proofs.Fresh.{fresh_valid}
use Rattle.lone_card.proofs.Replying.{values}

in_range : (f : List ℕ) (c : Command) → AreOctets f → command_at f ≡ Some c → IsCommand c
in_range f c octets e = (command_codec.takes f c (bounds_from_AllPass f octets) e).1.range

command_legal : (h : History) (o : Option Command) → IsLegal h → ((c : Command) → o ≡ Some c → IsCommand c) → IsLegal (after_command h o)
unfolding after_command
command_legal h None l range = l
command_legal h (Some c) l range = after_legal reads_in_range h c l (range c refl)

start_legal : (o : Option Command) (h : History) → started o ≡ Some h → ((c : Command) → o ≡ Some c → IsCommand c) → IsLegal h
start_legal (Some (command.Personalise eid ps)) h e range =
    let v = values eid ps (range (command.Personalise eid ps) refl) in
    let made : History = record { start = fresh eid ps; units = [] } in
    let same : made ≡ h = cc in
    subst IsLegal same (alone_legal (fresh eid ps) (fresh_valid eid ps v.0 v.1))
start_legal (Some (command.Load good bytes)) h e range = absurd cc
start_legal (Some command.Rollback) h e range = absurd cc
start_legal (Some (command.Remove seq)) h e range = absurd cc
start_legal (Some command.Results) h e range = absurd cc
start_legal (Some command.Eims) h e range = absurd cc
start_legal (Some (command.Initial id address key)) h e range = absurd cc
start_legal None h e range = absurd cc

-- If there is a card, its history is legal.
IsLegalIf : Option History → Type 0
IsLegalIf o = (h : History) → o ≡ Some h → IsLegal h

frame_legal : (o : Option History) (f : List ℕ) → IsLegalIf o → AreOctets f → IsLegalIf (after_frame o f)
unfolding IsLegalIf after_frame
frame_legal (Some h) f l octets = λ later is.
    let same : after_command h (command_at f) ≡ later = cc in
    subst IsLegal same (command_legal h (command_at f) (l h refl) (λ c e. in_range f c octets e))
frame_legal None f l octets = λ h is. start_legal (command_at f) h is (λ c e. in_range f c octets e)

later_legal : (o : Option History) (fs : List (List ℕ)) → IsLegalIf o → Every AreOctets fs → IsLegalIf (history_of o fs)
unfolding history_of
later_legal o [] l octets = l
later_legal o (f ∷ fs) l octets = later_legal (after_frame o f) fs (frame_legal o f l octets.0) octets.1

pub frames_legal : (fs : List (List ℕ)) (h : History) → Every AreOctets fs → history_of None fs ≡ Some h → IsLegal h
unfolding IsLegalIf
frames_legal fs h octets is = later_legal None fs (λ h none. absurd cc) octets h is
