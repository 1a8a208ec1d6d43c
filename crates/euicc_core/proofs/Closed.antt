-- What was carried over to the chip, and answered.
use Rattle.std.proofs.Common.{◌≡◌, ℕ, Bool, true, false, List, refl, sym, ap, subst, ◌∙◌, arith, inl}
use Rattle.std.specs.Prelude.{Some, None, Result, Ok, Err, is_ok}
use Rattle.chip_port.specs.Seen.{Seen, Tally, called}
use Rattle.chip_port.specs.Rules.{IfTold, HasCause, Answered, Untouched}
use Rattle.chip_port.specs.Runs.{Ran}
use Rattle.chip_port.proofs.Runs.{ran_none, ran_then, ran_most, ran_answered, ran_unanswered, ran_untouched}
use Rattle.small_card.specs.Cards.{FullCard}
use Rattle.card_store.specs.Standing.{Stands, StandsForEither, IsSettled}
use Rattle.card_store.specs.Staging.{Plan, Commits, Stages}
use Rattle.card_store.specs.Looking.{Looks}
use Rattle.card_store.specs.declared.ends.StageError.{StageError}
use Rattle.card_store.specs.declared.ends.StageError.TheVariants as stage
use Rattle.card_store.proofs.Cards.{settled_stays}
use Rattle.card_store.proofs.Looking.{looks_ran, looks_most}
use Rattle.euicc_core.specs.Answers.{Answers}
use Rattle.euicc_core.specs.Steps.{IsOneAnswer}
use Rattle.euicc_core.specs.Closing.{Writes, ClosesUnit, ClosesSame}

-- every image that a cut may leave of a settled chip stands for its card
pub settled_here : (c : FullCard) (s : Seen) → IsSettled c s → (i : List ℕ) → s.leaves i → Stands c i
settled_here c s h i was = subst (λ (l : List ℕ). Stands c l) (sym (h.alone i was)) h.stands

-- an answer that succeeds behind a run that settled the chip on this card
pub answers_after : {T E : Type 0} (P : List ℕ → Type 0) (d : FullCard) (a b e : Seen) (x : T) → Ran 9999 true P a b → IsSettled d b → HasCause {E = E} b e (Ok x) → IfTold b (Answered {E = E} b e (Ok x)) → Answers P d a e
answers_after {T} {E} P d a b e x run settled cause told =
    let h = told run.told in
    record {
      ended = ran_answered run cause told (settled_here d b settled);
      settled = settled_stays d b e h.reads h.leaves settled;
    }

-- an answer that fails behind a run
pub unanswered_after : {T E : Type 0} (P : List ℕ → Type 0) (a b e : Seen) (x : E) → Ran 9999 true P a b → HasCause {T = T} b e (Err x) → IfTold b (Answered {T = T} b e (Err x)) → Ran 10000 false P a e
unanswered_after {T} {E} P a b e x run cause told = ran_unanswered run cause told

-- room for an answer was made on a settled chip
ready_same : (c : FullCard) (a b : Seen) → a.told ≡ true → IsSettled c a → Untouched (λ t. t) a b → Ran 9999 true (Stands c) a b
ready_same c a b told settled u = ran_most (omega arith) (ran_untouched (ran_none (Stands c) a told (settled_here c a settled)) u)

-- an answer is the only call
one_answer : {T E : Type 0} (result : Result T E) (a b e : Seen) → Untouched (λ t. t) a b → Answered b e result → IsOneAnswer (is_ok result) a e
one_answer result a b e u h = record {
  reads = h.reads ∙ u.keeps.reads;
  leaves = λ i. (λ was. (h.leaves i).0 ((u.keeps.leaves i).0 was), λ now. (u.keeps.leaves i).1 ((h.leaves i).1 now));
  once = h.call.tally ∙ ap (λ (t : Tally). called (is_ok result) t) u.tally_is;
}

pub closed_same : {T E : Type 0} (c : FullCard) (a b e : Seen) (x : T) → a.told ≡ true → IsSettled c a → Untouched (λ t. t) a b → HasCause {E = E} b e (Ok x) → IfTold b (Answered {E = E} b e (Ok x)) → ClosesSame c None a e
closed_same {T} {E} c a b e x told settled u cause answer =
    let settled' = settled_stays c a b u.keeps.reads u.keeps.leaves settled in
    (answers_after (Stands c) c a b e x (ready_same c a b told settled u) settled' cause answer, one_answer {T = T} {E = E} (Ok x) a b e u (answer (u.told ∙ told)))

pub lost_same : {T E : Type 0} (c : FullCard) (a b e : Seen) (x : E) → a.told ≡ true → IsSettled c a → Untouched (λ t. t) a b → HasCause {T = T} b e (Err x) → IfTold b (Answered {T = T} b e (Err x)) → ClosesSame c (Some stage.Failed) a e
lost_same {T} {E} c a b e x told settled u cause answer =
    (unanswered_after (Stands c) a b e x (ready_same c a b told settled u) cause answer, one_answer {T = T} {E = E} (Err x) a b e u (answer (u.told ∙ told)))

-- staging that ended without a plan
pub not_staged : (c d : FullCard) (e : StageError) (a b : Seen) → a.told ≡ true → IsSettled c a → Stages c (Err e) a b → Writes c d (Some e) a b
not_staged c d stage.Failed a b told settled h =
    ran_most (omega arith) (ran_then (ran_none (StandsForEither c d) a told (λ i was. inl (settled_here c a settled i was))) h (λ i was. inl (settled_here c a settled i was)))
not_staged c d stage.NoMemory a b told settled h = h

-- a staged unit whose commit ended
staged_ran : (c d : FullCard) (p : Plan) (ok : Bool) (a b e : Seen) → p.card ≡ d → IsSettled c a → Looks 3000 a b → Commits c p ok b e → Ran 7000 ok (StandsForEither c d) a e
staged_ran c d p ok a b e same settled looks k =
    ran_then (looks_ran 3000 (StandsForEither c d) a b looks (λ i was. inl (settled_here c a settled i was))) k.ran (λ i s. subst (λ (f : FullCard). StandsForEither c f i) same s)

pub committed : (c d : FullCard) (p : Plan) (a b e : Seen) → p.card ≡ d → IsSettled c a → Looks 3000 a b → Commits c p true b e → Writes c d None a e
committed c d p a b e same settled looks k = (staged_ran c d p true a b e same settled looks k, subst (λ (f : FullCard). IsSettled f e) same (k.settled refl))

pub uncommitted : (c d : FullCard) (p : Plan) (a b e : Seen) → p.card ≡ d → IsSettled c a → Looks 3000 a b → Commits c p false b e → Writes c d (Some stage.Failed) a e
uncommitted c d p a b e same settled looks k = staged_ran c d p false a b e same settled looks k

-- a unit that was written, and an answer
pub closed_unit : {T E : Type 0} (c d : FullCard) (a b e : Seen) (x : T) → Writes c d None a b → HasCause {E = E} b e (Ok x) → IfTold b (Answered {E = E} b e (Ok x)) → ClosesUnit c d None a e
closed_unit c d a b e x written cause answer = answers_after (StandsForEither c d) d a b e x (ran_most (omega arith) written.0) written.1 cause answer

pub lost_unit : {T E : Type 0} (c d : FullCard) (a b e : Seen) (x : E) → Writes c d None a b → HasCause {T = T} b e (Err x) → IfTold b (Answered {T = T} b e (Err x)) → ClosesUnit c d (Some stage.Failed) a e
lost_unit c d a b e x written cause answer = unanswered_after (StandsForEither c d) a b e x (ran_most (omega arith) written.0) cause answer

-- a unit that wasn't written
pub unwritten_unit : (c d : FullCard) (e : StageError) (a b : Seen) → Writes c d (Some e) a b → ClosesUnit c d (Some e) a b
unwritten_unit c d stage.Failed a b h = ran_most (omega arith) h
unwritten_unit c d stage.NoMemory a b h = (looks_most (omega arith) h.0, h.1)
