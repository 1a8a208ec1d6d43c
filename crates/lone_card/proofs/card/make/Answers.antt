use Rattle.std.proofs.Common.{◌≡◌, ◌∙◌, ap, sym, subst, List, None}
use Rattle.std.specs.Prelude.{Some}
use Rattle.small_card.specs.Cards.{FullCard}
use Rattle.small_card.specs.Histories.{full_of}
use Rattle.small_card.specs.declared.types.Profile.{Profile}
use Rattle.small_card.specs.Fresh.{fresh}
use Rattle.small_card.proofs.Validity.{full_start}
use Rattle.card_store.specs.Formatting.{InTheMaking}
use Rattle.euicc_core.specs.Answers.{Answers}
use Rattle.lone_card.proofs.Chips.{idle, stayed, made, unmade}
use Rattle.lone_card.proofs.Replying.{begun, begun_history, table_of}
use Rattle.lone_card.proofs.card.make.Goals as goal

pub returns-in_default-clause-begun : goal.returns-in_default-clause-begun
returns-in_default-clause-begun g c =
    let table = table_of c.args.eid c.args.profiles c.requires in
    absurd (c.in_default.ensures.exact (record { few = table.few; apart = table.apart }))

pub returns-in_default-clause-chip : goal.returns-in_default-clause-chip
returns-in_default-clause-chip g c = idle _ None

pub returns-in-Ok-personalise-clause-begun : goal.returns-in-Ok-personalise-clause-begun
returns-in-Ok-personalise-clause-begun g c =
    begun c.args.eid c.args.profiles c.in-Ok-personalise.card c.requires (c.in-Ok-personalise.ensures.fresh ∙ ap (λ (ps : List Profile). Some (fresh c.args.eid ps)) c.in-Ok.ensures.same)

pub returns-in-Ok-personalise-clause-chip : goal.returns-in-Ok-personalise-clause-chip
returns-in-Ok-personalise-clause-chip g c = λ told.
    let s = g.C.Chip.sees c.args.chip.now in
    let t = g.C.Chip.sees c.personalise.new.chip in
    let before = g.met.C.Chip.sound c.args.chip.now told in
    let now = g.met.C.Chip.sound c.personalise.new.chip (c.in-Ok-personalise.ensures.cause.told ∙ told) in
    let card = fresh c.args.eid c.in-Ok.table in
    let same : card ≡ full_of (begun_history c.args.eid c.args.profiles) = ap (λ (ps : List Profile). fresh c.args.eid ps) c.in-Ok.ensures.same ∙ sym (full_start (fresh c.args.eid c.args.profiles)) in
    let all : Answers (InTheMaking card s) (full_of (begun_history c.args.eid c.args.profiles)) s t = subst (λ (f : FullCard). Answers (InTheMaking card s) f s t) same (c.in-Ok-personalise.ensures.chip told) in
    made s t (InTheMaking card s) (begun_history c.args.eid c.args.profiles) before now all

pub returns-in-Err-Failed-clause-chip : goal.returns-in-Err-Failed-clause-chip
returns-in-Err-Failed-clause-chip g c = λ told.
    unmade _ _ _ ((rw c.in-Err-Failed.field-0-is at c.in-Err-Failed.ensures.chip) told)

pub returns-in-Err-NoMemory-clause-chip : goal.returns-in-Err-NoMemory-clause-chip
returns-in-Err-NoMemory-clause-chip g c = λ told.
    stayed _ _ None told ((rw c.in-Err-NoMemory.field-0-is at c.in-Err-NoMemory.ensures.chip) told)
