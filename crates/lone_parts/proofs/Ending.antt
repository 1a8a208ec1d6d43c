-- A run of one part, by its status.
use Rattle.std.specs.Prelude.{◌⊎◌}
use Rattle.std.proofs.Common.{◌≡◌, ◌∙◌, ℕ, ◌<◌, List, [], ◌∷◌, ◌++◌, length, Some, None, refl, sym, ap, inl, inr, arith}
use Rattle.std.specs.List.{AllByRecursion}
use Rattle.iot_bytes.specs.Causes.{Rose}
use Rattle.sgp_der.proofs.Fields.{on_some}
use Rattle.run_loop.specs.declared.halt.PartStop.{PartStop}
use Rattle.run_loop.specs.declared.halt.PartStop.TheVariants as answering
use Rattle.run_loop.specs.declared.halt.RunEnd.{RunEnd}
use Rattle.run_loop.specs.declared.reading.TheConstants.{MOST_FRAMES}
use Rattle.run_loop.specs.Edges.{Edge, HasCauses}
use Rattle.run_loop.specs.Frames.{framed, IsShort}
use Rattle.run_loop.specs.Parts.{Walk, Stopping}
use Rattle.run_loop.specs.Runs.{Ended}
use Rattle.run_loop.specs.Status.{part_status, exit_status}
use Rattle.run_loop.proofs.Breaking.{IsForm}
use Rattle.run_loop.proofs.Mapping.{ended_map, status_two, status_three}
use Rattle.run_loop.proofs.Stopping.{HasEnded, has_ended, complete as answered_whole, stops_torn, stops_limit, stops_unfit}
use Rattle.std.proofs.lemmas.Option.{same_Some}
use Rattle.lone_parts.specs.Folds.{Rule, fold, AreFolded, StopsAt}
use Rattle.lone_parts.specs.Runs.{Ran, AreHandled, IsOutside, StopsWith}

-- a run whose part stands for a state ran from this state on
pub ran : {S : Type 0} (rule : Rule S) (s : S) (behind : Walk) (stops : Stopping) (status : ℕ) (old new : Edge) (end : RunEnd) → ((fs : List (List ℕ)) (text : List ℕ) → behind fs text → AreFolded rule s fs text)
    → ((fs : List (List ℕ)) (text f : List ℕ) (stop : PartStop) → stops fs text f stop → StopsAt rule s fs text f stop) → status ≡ exit_status end.halt end.closing → Ended behind stops old new end → Ran rule s status old new
ran rule s behind stops status old new end folds halts same ended = record {
  end = end;
  says = same;
  ended = ended_map behind (AreFolded rule s) stops (StopsAt rule s) old new end folds halts ended;
}

pub has_causes : {S : Type 0} (rule : Rule S) (s : S) (status : ℕ) (old new : Edge) → Ran rule s status old new → HasCauses old new (status ≡ 2) (status ≡ 3)
has_causes rule s status old new r =
    let causes = r.ended.causes in
    record {
      read_later = causes.read_later;
      write_later = causes.write_later;
      read = λ two. causes.read (status_two r.end.halt r.end.closing (sym r.says ∙ two));
      write = λ three. causes.write (status_three r.end.halt r.end.closing (sym r.says ∙ three));
    }

-- a frame behind answered frames, where all are answered
answers_on : {S : Type 0} (rule : Rule S) (s : S) (gs : List (List ℕ)) (f : List ℕ) (ms : List (List ℕ)) (state : S) (text : List ℕ) (all : S × List ℕ) → fold rule s gs ≡ Some (state, text) → fold rule s (gs ++ f ∷ ms) ≡ Some all → rule state f ≡ None → ⊥
unfolding fold
answers_on {S} rule s [] f ms state text all here there none =
    let same : s ≡ state = ap (λ (p : S × List ℕ). p.0) (same_Some _ _ here) in
    let unknown : rule s f ≡ None = ap (λ (z : S). rule z f) same ∙ none in
    on_some (rule s f) _ all there (λ turn at rest. let two : Some turn ≡ None = sym at ∙ unknown in absurd cc)
answers_on {S} rule s (g ∷ gs) f ms state text all here there none =
    on_some (rule s g) _ (state, text) here (λ turn at rest.
    on_some (fold rule turn.0 gs) _ (state, text) rest (λ others folds made.
    on_some (rule s g) _ all there (λ turn' at' rest'.
    on_some (fold rule turn'.0 (gs ++ f ∷ ms)) _ all rest' (λ others' folds' made'.
    let turns : turn' ≡ turn = same_Some _ _ (sym at' ∙ at) in
    let reached : others.0 ≡ state = ap (λ (p : S × List ℕ). p.0) (same_Some _ _ made) in
    let over : fold rule turn.0 (gs ++ f ∷ ms) ≡ Some others' = ap (λ (t : S × List ℕ). fold rule t.0 (gs ++ f ∷ ms)) (sym turns) ∙ folds' in
    answers_on rule turn.0 gs f ms others.0 others.1 others' folds over (ap (λ (z : S). rule z f) reached ∙ none)))))

-- the frames of a part that are handled, and those that aren't in its grammar
form : {S : Type 0} (rule : Rule S) (s : S) → IsForm (AreHandled rule s) (IsOutside rule s)
form rule s = record {
  few = λ fs h. h.few;
  short = λ fs h. h.short;
  below = λ fs f o. o.few;
  fits = λ fs f ms h o. answers_on rule s fs f ms o.folded.state o.text (h.folded.state, h.text) o.folded.folds h.folded.folds o.unknown;
}

-- why a part stops at a frame
outside : {S : Type 0} (rule : Rule S) (s : S) (fs : List (List ℕ)) (text f : List ℕ) (stop : PartStop) → StopsAt rule s fs text f stop → length fs < MOST_FRAMES → AllByRecursion IsShort fs
    → (part_status stop ≡ 6) ⊎ ((part_status stop ≡ 5) × AreHandled rule s fs × IsOutside rule s fs f)
outside rule s fs text f answering.ChipFault r few short = absurd r.reason
outside rule s fs text f answering.Malformed r few short =
    inr (refl, record { few = omega (arith, few); short = short; text = text; folded = r.folded }, record { few = few; text = text; folded = r.folded; unknown = r.reason })
outside rule s fs text f answering.NoMemory r few short = inl refl
outside rule s fs text f answering.Unrecognised r few short = absurd r.reason

-- how a run ended where neither the source nor the sink failed
ended : {S : Type 0} (rule : Rule S) (s : S) (status : ℕ) (old new : Edge) (input : List ℕ) → Ran rule s status old new → old.rest ≡ Some input → (Rose old.read_faults new.read_faults → ⊥) → (Rose old.write_faults new.write_faults → ⊥)
    → (status ≡ 6) ⊎ HasEnded 5 (AreHandled rule s) (IsOutside rule s) status input
ended rule s status old new input r told no_read no_write =
    has_ended 5 (AreHandled rule s) (IsOutside rule s) (AreFolded rule s) (StopsAt rule s) (λ fs text folded few short. record { few = few; short = short; text = text; folded = folded }) (outside rule s)
    status old new r.end input r.says r.ended told no_read no_write

-- frames that are handled are answered to their end
pub complete : {S : Type 0} (rule : Rule S) (s : S) (status : ℕ) (old new : Edge) (input : List ℕ) (fs : List (List ℕ)) → Ran rule s status old new → old.rest ≡ Some input → input ≡ framed fs → AreHandled rule s fs
    → (Rose old.read_faults new.read_faults → ⊥) → (Rose old.write_faults new.write_faults → ⊥) → (status ≡ 0) ⊎ (status ≡ 6)
complete rule s status old new input fs r told is handled no_read no_write =
    answered_whole 5 (AreHandled rule s) (IsOutside rule s) (form rule s) status input fs (ended rule s status old new input r told no_read no_write) is handled

-- what stops behind them ends the run with its status
pub stops : {S : Type 0} (rule : Rule S) (s : S) (status : ℕ) (old new : Edge) (input : List ℕ) (fs : List (List ℕ)) (tail : List ℕ) → Ran rule s status old new → old.rest ≡ Some input → input ≡ framed fs ++ tail → AreHandled rule s fs
    → (Rose old.read_faults new.read_faults → ⊥) → (Rose old.write_faults new.write_faults → ⊥) → StopsWith rule s fs tail status
stops rule s status old new input fs tail r told is handled no_read no_write =
    let e = ended rule s status old new input r told no_read no_write in
    record {
      torn = stops_torn 5 (AreHandled rule s) (IsOutside rule s) (form rule s) status input fs tail e is handled;
      limit = stops_limit 5 (AreHandled rule s) (IsOutside rule s) (form rule s) status input fs tail e is handled;
      outside = stops_unfit 5 (AreHandled rule s) (IsOutside rule s) (form rule s) status input fs tail e is handled;
    }
