-- What the card makes of octets, by what they spell.
use Rattle.std.proofs.Common.{◌≡◌, ℕ, ◌≤◌, Bool, List, length, Option, Some, None, Err, ap, refl, arith}
use Rattle.std.proofs.lemmas.Bool.{le-leb}
use Rattle.std.specs.Prelude.{◌≢◌}
use Rattle.sgp_values.proofs.Octets.{bounds_from_AllPass}
use Rattle.small_card.specs.Checks.{refused}
use Rattle.small_card.specs.Histories.{History}
use Rattle.small_card.specs.Ranges.{IsCommand, IsSigned}
use Rattle.small_card.specs.declared.types.Answer.TheVariants.{Malformed}
use Rattle.small_card.specs.declared.types.Command.{Command}
use Rattle.small_card.specs.declared.types.Signed.{Signed}
use Rattle.package_codec.specs.Checks.{check, check_read, most_octets, package_refusal, unless_refused}
use Rattle.package_codec.specs.Reading.{signed_at}
use Rattle.package_codec.specs.Replies.{reply, after}
use Rattle.package_codec.specs.Spelling.{signed}
use Rattle.package_codec.proofs.Packages.{signed_codec, signed_few}
use Rattle.result_codec.specs.Laws.{AreOctets}
use Rattle.es10_codec.specs.Reading.{command_at}
use Rattle.es10_codec.specs.Spelling.{command, IsShort}
use Rattle.es10_codec.proofs.CommandCodec.{command_codec}
use Rattle.lone_card.specs.Cards.{reply_of, after_command, reply_to, after_frame}

command_again : (c : Command) → IsCommand c → IsShort c → command_at (command c) ≡ Some c
command_again c range short = command_codec.again c (record { range = range; short = short })

pub reply_spelled : (h : History) (c : Command) → IsCommand c → IsShort c → reply_to (Some h) (command c) ≡ Some (reply h c)
unfolding reply_to reply_of
reply_spelled h c range short = ap (λ (o : Option Command). Some (reply_of h o)) (command_again c range short)

pub after_spelled : (h : History) (c : Command) → IsCommand c → IsShort c → after_frame (Some h) (command c) ≡ Some (after h c)
unfolding after_frame after_command
after_spelled h c range short = ap (λ (o : Option Command). Some (after_command h o)) (command_again c range short)

no_value : {X : Type 0} (o : Option X) → ((x : X) → o ≡ Some x → ⊥) → o ≡ None
no_value None none = refl
no_value (Some x) none = absurd (none x refl)

no_command : (octets : List ℕ) → AreOctets octets → ((c : Command) → IsCommand c → octets ≢ command c) → command_at octets ≡ None
no_command octets bytes none = no_value (command_at octets) (λ c e. let t = command_codec.takes octets c (bounds_from_AllPass octets bytes) e in none c t.1.range t.0)

pub reply_none : (h : History) (octets : List ℕ) → AreOctets octets → ((c : Command) → IsCommand c → octets ≢ command c) → reply_to (Some h) octets ≡ Some Malformed
unfolding reply_to reply_of
reply_none h octets bytes none = ap (λ (o : Option Command). Some (reply_of h o)) (no_command octets bytes none)

pub after_none : (h : History) (octets : List ℕ) → AreOctets octets → ((c : Command) → IsCommand c → octets ≢ command c) → after_frame (Some h) octets ≡ Some h
unfolding after_frame after_command
after_none h octets bytes none = ap (λ (o : Option Command). Some (after_command h o)) (no_command octets bytes none)

check_of : (h : History) (good : Bool) (octets : List ℕ) (o : Option Signed) → length octets ≤ most_octets → signed_at octets ≡ o → check h good octets ≡ check_read h good o
unfolding check
check_of h good octets o short is = rw (le-leb (length octets) most_octets short, is) refl

pub check_spelled : (h : History) (good : Bool) (s : Signed) → IsSigned s → check h good (signed s) ≡ unless_refused (package_refusal h good s.«package») s.«package»
unfolding check_read
check_spelled h good s fits = check_of h good (signed s) (Some s) (omega (arith, signed_few s fits)) (signed_codec.again s fits)

pub check_none : (h : History) (good : Bool) (octets : List ℕ) → AreOctets octets → length octets ≤ most_octets → ((s : Signed) → IsSigned s → octets ≢ signed s) → check h good octets ≡ Err (refused 1)
unfolding check_read
check_none h good octets bytes short none =
    check_of h good octets None short (no_value (signed_at octets) (λ s e. let t = signed_codec.takes octets s (bounds_from_AllPass octets bytes) e in none s t.1 t.0))
