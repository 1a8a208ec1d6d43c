-- A step over a history that the card stands for.
use Rattle.std.proofs.Common.{◌≡◌, true, sym, ap, subst, ◌∙◌}
use Rattle.std.specs.Prelude.{Option, Some, None, Result, Ok, Err}
use Rattle.chip_port.specs.Seen.{Seen}
use Rattle.small_card.specs.Cards.{FullCard}
use Rattle.small_card.specs.Histories.{History, full_of, with_unit}
use Rattle.small_card.specs.Units.{CardUnit}
use Rattle.small_card.specs.declared.types.Answer.{Answer}
use Rattle.small_card.specs.declared.types.Command.{Command}
use Rattle.package_codec.specs.Replies.{unit_of, after}
use Rattle.home_codec.specs.FullCards.{full_card}
use Rattle.home_codec.specs.declared.card.Card.{Card}
use Rattle.card_steps.specs.Steps.{IsTurn, Turns, answer_of}
use Rattle.card_steps.proofs.OneStep.{after_none, after_one}
use Rattle.card_steps.specs.declared.turns.Turn.{Turn}
use Rattle.card_steps.specs.declared.turns.Turn.TheVariants.{Same, Changed}
use Rattle.card_store.specs.declared.ends.StageError.{StageError}
use Rattle.card_store.specs.declared.ends.StageError.TheVariants as stage
use Rattle.card_store.specs.Standing.{IsSettled}
use Rattle.card_store.proofs.Cards.{settled_stays}
use Rattle.card_store.proofs.Looking.{untouched_looks}
use Rattle.std.proofs.lemmas.Option.{same_Some}
use Rattle.euicc_core.specs.Steps.{IsLitOn, EndsAt, AnswersAlone, IsChipStep, ChipSteps}
use Rattle.euicc_core.specs.Closing.{failure_of, ClosesUnit, ClosesSame, left_by_failure, end_of_failure}
use Rattle.euicc_core.specs.declared.ends.StepEnd.{StepEnd}
use Rattle.euicc_core.specs.declared.ends.StepEnd.TheVariants.{Answered}

-- what a command made of a card was carried over to the chip, and answered
abbrev Closes : FullCard → Turn → Option StageError → Seen → Seen → Type 0
Closes c (Same a) failure old new = ClosesSame c failure old new
Closes c (Changed card a) failure old new = ClosesUnit c (full_card card) failure old new

-- how the step of a turn ends, which was carried over to the chip or failed
abbrev pub end_of : {T : Type 0} → Turn → Result T StageError → StepEnd
end_of end (Ok x) = Answered (answer_of end)
end_of end (Err error) = end_of_failure error

-- the step of a command, from how it ends with its unit
at_step : (h next : History) (c : Command) (u : Option CardUnit) (end : StepEnd) (s t : Seen) → unit_of h c ≡ u → after h c ≡ next → EndsAt h u next end s t → EndsAt h (unit_of h c) (after h c) end s t
at_step h next c u end s t unit is e =
    subst (λ (o : Option CardUnit). EndsAt h o (after h c) end s t) (sym unit) (subst (λ (g : History). EndsAt h u g end s t) (sym is) e)

-- a command without a unit
same_ends : {T : Type 0} (h : History) (turn : Turn) (done : Result T StageError) (s t : Seen) → s.told ≡ true → IsSettled (full_of h) s → ClosesSame (full_of h) (failure_of done) s t → EndsAt h None h (end_of turn done) s t
same_ends h turn (Ok x) s t told settled k = k.0
same_ends h turn (Err stage.Failed) s t told settled k = k.0
same_ends h turn (Err stage.NoMemory) s t told settled k = (untouched_looks 10000 s t told k, settled_stays (full_of h) s t k.keeps.reads k.keeps.leaves settled)

alone : {T : Type 0} (c : FullCard) (turn : Turn) (done : Result T StageError) (s t : Seen) → ClosesSame c (failure_of done) s t → AnswersAlone (end_of turn done) s t
alone c turn (Ok x) s t k = k.1
alone c turn (Err stage.Failed) s t k = k.1
alone c turn (Err stage.NoMemory) s t k = k

-- a command with a unit
unit_ends : {T : Type 0} (h : History) (u : CardUnit) (turn : Turn) (done : Result T StageError) (s t : Seen) → ClosesUnit (full_of h) (full_of (with_unit h u)) (failure_of done) s t → EndsAt h (Some u) (with_unit h u) (end_of turn done) s t
unit_ends h u turn (Ok x) s t k = k
unit_ends h u turn (Err stage.Failed) s t k = k
unit_ends h u turn (Err stage.NoMemory) s t k = k

no_unit : (h : History) (c : Command) (u : CardUnit) (end : StepEnd) (s t : Seen) → unit_of h c ≡ Some u → unit_of h c ≡ None → AnswersAlone end s t
no_unit h c u end s t some none = absurd (cc (some, none))

-- what a turn made of the card was carried over, and answered
chip_stepped : {T : Type 0} (h : History) (c : Command) (f : FullCard) (turn : Turn) (done : Result T StageError) (s t : Seen) → s.told ≡ true → IsSettled f s → full_of h ≡ f → IsTurn h c f turn → Closes f turn (failure_of done) s t → IsChipStep h c (end_of turn done) s t
chip_stepped h c f (Same a) done s t told settled is turned k =
    let k' : ClosesSame (full_of h) (failure_of done) s t = subst (λ (g : FullCard). ClosesSame g (failure_of done) s t) (sym is) k in
    let settled' : IsSettled (full_of h) s = subst (λ (g : FullCard). IsSettled g s) (sym is) settled in
    record {
      ends = at_step h h c None (end_of (Same a) done) s t turned.none (after_none h c turned.none) (same_ends h (Same a) done s t told settled' k');
      no_unit = λ none. alone (full_of h) (Same a) done s t k';
    }
chip_stepped h c f (Changed card a) done s t told settled is turned k =
    let u = turned.unit in
    let end = end_of (Changed card a) done in
    let next : after h c ≡ with_unit h u = after_one h c u turned.one in
    let made : full_card card ≡ full_of (with_unit h u) = turned.answered.card_is ∙ ap full_of next in
    let k' : ClosesUnit (full_of h) (full_of (with_unit h u)) (failure_of done) s t = subst (λ (g : FullCard). ClosesUnit (full_of h) g (failure_of done) s t) made (subst (λ (g : FullCard). ClosesUnit g (full_card card) (failure_of done) s t) (sym is) k) in
    record {
      ends = at_step h (with_unit h u) c (Some u) end s t turned.one next (unit_ends h u (Changed card a) done s t k');
      no_unit = λ none. no_unit h c u end s t turned.one none;
    }

chip_steps : {T : Type 0} (c : Command) (before : Option FullCard) (f : FullCard) (turn : Turn) (done : Result T StageError) (s t : Seen) → before ≡ Some f → s.told ≡ true → IsSettled f s → Turns c f turn → Closes f turn (failure_of done) s t → ChipSteps c before (end_of turn done) s t
chip_steps c before f turn done s t at told settled turns k = λ h legal is.
    let same : full_of h ≡ f = same_Some (full_of h) f (sym is ∙ at) in
    chip_stepped h c f turn done s t told settled same (turns h legal same) k

-- a lit card's chip
settled_on : (before : Option FullCard) (f : FullCard) (s : Seen) → before ≡ Some f → IsLitOn before s → IsSettled f s
settled_on before f s at lit = subst (λ (o : Option FullCard). IsLitOn o s) at lit

-- a card that stays was answered for, or that failed
pub same_steps : {T : Type 0} (c : Command) (before : Option FullCard) (f : FullCard) (turn : Turn) (a : Answer) (done : Result T StageError) (s t : Seen) → before ≡ Some f → turn ≡ Same a → s.told ≡ true → IsLitOn before s → Turns c f turn
    → ((d : FullCard) → IsSettled d s → ClosesSame d (failure_of done) s t) → ChipSteps c before (end_of (Same a) done) s t
same_steps c before f turn a done s t at is told lit turns k =
    let settled = settled_on before f s at lit in
    chip_steps c before f (Same a) done s t at told settled (subst (λ (e : Turn). Turns c f e) is turns) (k f settled)

-- a unit was written and answered, or that failed
pub unit_steps : {T : Type 0} (c : Command) (before : Option FullCard) (f : FullCard) (turn : Turn) (card : Card) (a : Answer) (done : Result T StageError) (s t : Seen) → before ≡ Some f → turn ≡ Changed card a → s.told ≡ true → IsLitOn before s → Turns c f turn
    → ClosesUnit f (full_card card) (failure_of done) s t → ChipSteps c before (end_of (Changed card a) done) s t
unit_steps c before f turn card a done s t at is told lit turns k =
    chip_steps c before f (Changed card a) done s t at told (settled_on before f s at lit) (subst (λ (e : Turn). Turns c f e) is turns) k

-- what a failed answer leaves
pub same_left : (before : Option FullCard) (f : FullCard) (error : StageError) (s t : Seen) → before ≡ Some f → IsLitOn before s → ((d : FullCard) → IsSettled d s → ClosesSame d (Some error) s t) → IsLitOn (left_by_failure before error) t
same_left before f stage.Failed s t at lit k = tt
same_left before f stage.NoMemory s t at lit k =
    let settled = settled_on before f s at lit in
    let u = k f settled in
    subst (λ (o : Option FullCard). IsLitOn o t) (sym at) (settled_stays f s t u.keeps.reads u.keeps.leaves settled)
