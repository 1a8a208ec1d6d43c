-- What the reading word gives for the clauses of the reader.
use Rattle.std.proofs.Common.{◌≡◌, ℕ, List, Some, Result, Ok, Err, sym, subst, ◌∙◌}
use Rattle.std.specs.Prelude.{IfOk, IsErrOf}
use Rattle.iot_bytes.specs.declared.memory.ReadError.{ReadError}
use Rattle.iot_bytes.specs.declared.memory.ReadError.TheVariants.{Malformed, NoMemory}
use Rattle.small_card.specs.Cards.{FullCard}
use Rattle.iot_bytes.proofs.Framing.{IsBytes}
use Rattle.home_codec.specs.declared.card.Card.{Card}
use Rattle.home_codec.specs.FullCards.{full_card, GivesCard}
use Rattle.home_codec.specs.Homes.{IsHomeOf}
use Rattle.home_codec.specs.Reading.{card_at}
use Rattle.home_codec.proofs.Whole.{card_takes, card_again}

-- the home is that of the card that is read
pub card_found : (home : List ℕ) (r : Result Card ReadError) → IsBytes home → GivesCard r (card_at home) → IfOk r (λ card. IsHomeOf (full_card card) home)
card_found home (Ok card) fits e = card_takes home (full_card card) fits e
card_found home (Err error) fits e = tt

-- the card whose home it is is read
pub card_only : (home : List ℕ) (r : Result Card ReadError) → GivesCard r (card_at home) → (f : FullCard) → IsHomeOf f home → GivesCard r (Some f)
card_only home (Ok card) e f is = sym (card_again home f is.fields is.valid) ∙ e
card_only home (Err Malformed) e f is = sym (card_again home f is.fields is.valid) ∙ e
card_only home (Err NoMemory) e f is = tt

-- what isn't read is the home of no card
pub card_malformed : (home : List ℕ) (r : Result Card ReadError) → GivesCard r (card_at home) → IsErrOf r Malformed → (f : FullCard) → IsHomeOf f home → ⊥
card_malformed home r e wrong f is =
    let none : GivesCard (Err Malformed) (card_at home) = subst (λ (s : Result Card ReadError). GivesCard s (card_at home)) wrong e in
    let some : card_at home ≡ Some f = card_again home f is.fields is.valid in
    absurd cc
