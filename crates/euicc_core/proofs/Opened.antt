-- A card that was powered up, or made.
use Rattle.std.proofs.Common.{⊎_elim, false, refl, arith, inl, inr}
use Rattle.std.specs.Prelude.{Ok, Err, Some}
use Rattle.chip_port.specs.Seen.{Seen}
use Rattle.chip_port.specs.Rules.{IfTold, HasCause, Answered, Sound}
use Rattle.chip_port.specs.Runs.{Ran}
use Rattle.chip_port.proofs.Runs.{ran_most, ran_since, ended_since}
use Rattle.small_card.specs.Cards.{FullCard}
use Rattle.home_codec.specs.FullCards.{full_card}
use Rattle.home_codec.specs.declared.card.Card.{Card}
use Rattle.card_store.specs.Loading.{IsAsBefore, Loads}
use Rattle.card_store.specs.Formatting.{InTheMaking, Formats}
use Rattle.card_store.specs.declared.ends.LoadEnd.{LoadEnd}
use Rattle.card_store.specs.declared.ends.LoadEnd.TheVariants as load
use Rattle.card_store.specs.declared.ends.MakeError.{MakeError}
use Rattle.card_store.specs.declared.ends.MakeError.TheVariants as make
use Rattle.euicc_core.specs.Answers.{Answers}
use Rattle.euicc_core.specs.Openings.{IsOpened, IsUnopened, Opens, Personalises, of_load}
use Rattle.euicc_core.proofs.Closed.{answers_after, unanswered_after}

-- an answer to reset: what was there at entry was left then
pub opened : {T E : Type 0} (card : Card) (a b e : Seen) (x : T) → Sound 346624 a → Loads (Ok card) a b → HasCause {E = E} b e (Ok x) → IfTold b (Answered {E = E} b e (Ok x)) → IsOpened (Some (full_card card)) a e
opened {T} {E} card a b e x sound l cause told =
    let d = full_card card in
    let all = answers_after (IsAsBefore a) d a b e x (ran_most (omega arith) l.end.0) l.end.1.settled cause told in
    let run = all.ended in
    record {
      card = d;
      lit = refl;
      stood = l.end.1.stood;
      answered = record {
        ended = record {
          told = run.told;
          marks = run.marks;
          keeps = run.keeps;
          adds = λ k i now. ⊎_elim inl (λ added. inr (⊎_elim (λ before. inl (before.0, before.1 d l.end.1.stood)) inr added)) (ended_since run sound.counts_now k i now);
          here = run.here;
          passes = run.passes;
          powered = run.powered;
          calm = run.calm;
          went = run.went;
        };
        settled = all.settled;
      };
    }

-- an answer to reset that failed
pub unanswered : {T E : Type 0} (card : Card) (a b e : Seen) (x : E) → Sound 346624 a → Loads (Ok card) a b → HasCause {T = T} b e (Err x) → IfTold b (Answered {T = T} b e (Err x)) → IsUnopened false a e
unanswered {T} {E} card a b e x sound l cause told =
    let run = unanswered_after (IsAsBefore a) a b e x (ran_most (omega arith) l.end.0) cause told in
    record { ran = run; adds = ran_since run sound.counts_now }

-- a load that ended without a card
pub unopened : (e : LoadEnd) (a b : Seen) → Loads (Err e) a b → Opens (Err (of_load e)) a b
unopened load.Failed a b l = record { ran = ran_most (omega arith) l.end; adds = l.adds }
unopened load.Unrecognised a b l = (record { ran = ran_most (omega arith) l.end.0; adds = l.adds }, l.end.1)
unopened load.NoMemory a b l = (record { ran = ran_most (omega arith) l.end.0; adds = l.adds }, l.end.1)

-- a card that was made, and an answer
pub made : {T E : Type 0} (d : FullCard) (card : Card) (a b e : Seen) (x : T) → Formats d (Ok card) a b → HasCause {E = E} b e (Ok x) → IfTold b (Answered {E = E} b e (Ok x)) → Answers (InTheMaking d a) d a e
made d card a b e x f cause told = answers_after (InTheMaking d a) d a b e x (ran_most (omega arith) f.0) f.1 cause told

pub unmade : {T E : Type 0} (d : FullCard) (card : Card) (a b e : Seen) (x : E) → Formats d (Ok card) a b → HasCause {T = T} b e (Err x) → IfTold b (Answered {T = T} b e (Err x)) → Ran 10000 false (InTheMaking d a) a e
unmade d card a b e x f cause told = unanswered_after (InTheMaking d a) a b e x (ran_most (omega arith) f.0) cause told

pub unformatted : (d : FullCard) (error : MakeError) (a b : Seen) → Formats d (Err error) a b → Personalises d (Err error) a b
unformatted d make.Failed a b f = ran_most (omega arith) f
unformatted d make.NoMemory a b f = f
