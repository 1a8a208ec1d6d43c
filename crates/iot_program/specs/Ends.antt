-- What a run reads and sends and makes of its bench, by the form of its words and its status.
use Rattle.std.specs.Prelude.{◌≡◌, ◌≢◌, ℕ, ◌⊎◌, List, [], ◌++◌, length, Option, Some, None}
use Rattle.run_loop.specs.Edges.{Edge}
use Rattle.chip_port.specs.Seen.{Seen}
use Rattle.lone_card.specs.Runs.{Served}
use Rattle.lone_card.specs.Ends as card
use Rattle.esipa_codec.specs.Eims.{new_eim}
use Rattle.lone_parts.specs.Eims.{eim_rule}
use Rattle.lone_parts.specs.Ipas.{ipa_rule}
use Rattle.lone_parts.specs.Runs.{Ran}
use Rattle.lone_parts.specs.Runs as parts
use Rattle.iot_bytes.specs.Causes.{Rose}
use Rattle.run_loop.specs.Sends.{HasSent}
use Rattle.line_loop.specs.Lines.{lines_of}
use Rattle.schedule_forms.specs.Checks.{ok_line}
use Rattle.schedule_forms.specs.Schedules.{Checked}
use Rattle.schedule_forms.specs.Schedules as schedules
use Rattle.schedule_forms.specs.Pieces.{HasGenerated}
use Rattle.modem_bank.specs.Modems.{Seen as ModemSeen}
use Rattle.world_forms.specs.Demos.{Demonstrated}
use Rattle.world_forms.specs.Replays.{Replayed}
use Rattle.world_forms.specs.Ends as replay
use Rattle.iot_program.specs.declared.words.Form.{Form}
use Rattle.iot_program.specs.declared.words.Form.TheVariants as form

-- `gen`: the schedule of a start was sent as the status says, and nothing was read.
pub record Generates (start lines status : ℕ) (old new : Edge) : Type 0 where
  pub generated : HasGenerated start lines status old.sent new.sent
  pub unread : new.rest ≡ old.rest
  pub no_faults : new.read_faults ≡ old.read_faults

-- `demo`: the schedule of a start was replayed and counted, and nothing was read.
pub record Demonstrates (start lines status : ℕ) (old new : Edge) (s t : Seen) (handed_in modems : List ModemSeen) : Type 0 where
  pub demonstrated : Demonstrated handed_in start lines status old.sent new.sent s t modems
  pub unread : new.rest ≡ old.rest
  pub no_faults : new.read_faults ≡ old.read_faults

-- `check`: what the lines of a whole input decide.
pub record DecidesBy (input : List ℕ) (status : ℕ) (old new : Edge) : Type 0 where
  -- with status 0 they are a schedule within the limits, and their number was sent
  pub done : status ≡ 0 → (new.rest ≡ Some []) × schedules.AreHandled (lines_of input) × HasSent old.sent new.sent (ok_line (length (lines_of input)))
  -- and such lines have no other status where no call fails and memory suffices
  pub complete : lines_of input ≢ [] → schedules.AreHandled (lines_of input) → ¬ Rose old.read_faults new.read_faults → ¬ Rose old.write_faults new.write_faults → (status ≡ 0) ⊎ (status ≡ 6)
  -- where the lines stop being such ones, the status and the stop line say so
  pub stops : (ls more : List (List ℕ)) → lines_of input ≡ ls ++ more → schedules.AreHandled ls → ¬ Rose old.read_faults new.read_faults → ¬ Rose old.write_faults new.write_faults → schedules.StopsWith ls more status old.sent new.sent

-- `replay`: what the lines of a whole input decide, over a bench that tells its content.
pub record ReplaysBy (handed_in : List ModemSeen) (input : List ℕ) (status : ℕ) (old new : Edge) (s t : Seen) (modems : List ModemSeen) : Type 0 where
  -- with status 0 they are a schedule within the limits, and the trace of their run was sent
  pub done : status ≡ 0 → replay.IsDone handed_in input new.rest old.sent new.sent
  -- and such lines have no other status where no call on source or sink fails, unless memory is wanting, a message passes
  -- the limit, or a call fails while the card is personalised
  pub complete : lines_of input ≢ [] → schedules.AreHandled (lines_of input) → ¬ Rose old.read_faults new.read_faults → ¬ Rose old.write_faults new.write_faults → replay.EndsWell handed_in s t modems (lines_of input) status
  -- where the lines stop being such ones, the status and the stop line say so, with the same exceptions
  pub stops : (ls more : List (List ℕ)) → lines_of input ≡ ls ++ more → schedules.AreHandled ls → ¬ Rose old.read_faults new.read_faults → ¬ Rose old.write_faults new.write_faults → replay.StopsWith handed_in s t modems ls more status old.sent new.sent

-- what a run does, by the form of its words; the modems are those that were lent, before and after
abbrev pub Does : Option Form → ℕ → Edge → Edge → Seen → Seen → List ModemSeen → List ModemSeen → Type 0
Does None status old new s t handed_in modems = status ≡ 1
Does (Some form.Card) status old new s t handed_in modems = Served status old new s t
Does (Some (form.Eim id eid)) status old new s t handed_in modems = Ran eim_rule (new_eim id eid) status old new
Does (Some (form.Ipa eid)) status old new s t handed_in modems = Ran (ipa_rule eid) [] status old new
Does (Some form.Check) status old new s t handed_in modems = Checked status old new
Does (Some (form.Gen start lines)) status old new s t handed_in modems = Generates start lines status old new
Does (Some form.Replay) status old new s t handed_in modems = Replayed handed_in status old new s t modems
Does (Some (form.Demo start lines)) status old new s t handed_in modems = Demonstrates start lines status old new s t handed_in modems

-- the forms that step a world, over the bench and the modems
abbrev pub StepsWorld : Option Form → Type 0
StepsWorld None = ⊥
StepsWorld (Some form.Card) = ⊥
StepsWorld (Some (form.Eim id eid)) = ⊥
StepsWorld (Some (form.Ipa eid)) = ⊥
StepsWorld (Some form.Check) = ⊥
StepsWorld (Some (form.Gen start lines)) = ⊥
StepsWorld (Some form.Replay) = Unit {0}
StepsWorld (Some (form.Demo start lines)) = Unit {0}

-- the forms that read nothing
abbrev pub ReadsNothing : Option Form → Type 0
ReadsNothing None = Unit {0}
ReadsNothing (Some form.Card) = ⊥
ReadsNothing (Some (form.Eim id eid)) = ⊥
ReadsNothing (Some (form.Ipa eid)) = ⊥
ReadsNothing (Some form.Check) = ⊥
ReadsNothing (Some (form.Gen start lines)) = Unit {0}
ReadsNothing (Some form.Replay) = ⊥
ReadsNothing (Some (form.Demo start lines)) = Unit {0}

-- these frames are within the limits and, by the form, there is a card to answer them, or each is in the
-- part's grammar; the forms that read lines or nothing handle no frames
abbrev pub HandledBy : Form → Seen → List (List ℕ) → Type 0
HandledBy form.Card s fs = card.AreHandled s fs
HandledBy (form.Eim id eid) s fs = parts.AreHandled eim_rule (new_eim id eid) fs
HandledBy (form.Ipa eid) s fs = parts.AreHandled (ipa_rule eid) [] fs
HandledBy form.Check s fs = ⊥
HandledBy (form.Gen start lines) s fs = ⊥
HandledBy form.Replay s fs = ⊥
HandledBy (form.Demo start lines) s fs = ⊥

-- the status where an input stops behind these frames, and neither a call failed nor memory was wanting but for 6
abbrev pub StopsBy : Form → Seen → List (List ℕ) → List ℕ → ℕ → Type 0
StopsBy form.Card s fs tail status = card.StopsWith s fs tail status
StopsBy (form.Eim id eid) s fs tail status = parts.StopsWith eim_rule (new_eim id eid) fs tail status
StopsBy (form.Ipa eid) s fs tail status = parts.StopsWith (ipa_rule eid) [] fs tail status
StopsBy form.Check s fs tail status = ⊥
StopsBy (form.Gen start lines) s fs tail status = ⊥
StopsBy form.Replay s fs tail status = ⊥
StopsBy (form.Demo start lines) s fs tail status = ⊥
