-- Runs over the lines of a schedule: their first line, further ones, and those without losses.
use Rattle.std.proofs.Common.{◌≡◌, ◌≢◌, ℕ, zero, suc, ◌+◌, Bool, true, false, cond, List, [], ◌∷◌, ◌++◌, length, map, reverse, Option, Some, None, refl, ap, sym, subst, ◌∙◌, append-nil, arith}
use Rattle.std.proofs.lemmas.Bool.{cond_both, false≢true, false_from_ne_true}
use Rattle.std.proofs.lemmas.List.{map-append, reverse-append, flat_map_more}
use Rattle.iot_schedule.specs.Devices.{device_at}
use Rattle.iot_schedule.specs.Ranges.{IsDevice, IsStep}
use Rattle.iot_schedule.specs.Steps.{step_at}
use Rattle.iot_schedule.specs.declared.types.Device.{Device}
use Rattle.iot_schedule.specs.declared.types.Line.{Line}
use Rattle.iot_schedule.specs.declared.types.Line.TheVariants as line
use Rattle.iot_schedule.proofs.FittingLines.{step_fits, device_fits_in}
use Rattle.line_loop.specs.Lines.{ended}
use Rattle.modem_bank.specs.Modems.{Seen as ModemSeen}
use Rattle.small_card.specs.Lists.{Every}
use Rattle.small_card.specs.declared.types.Command.{Command}
use Rattle.small_card.proofs.Accepting.{legal_once}
use Rattle.small_card.proofs.ListLemmas.{every_push}
use Rattle.small_world.specs.Lines.{acted, attended}
use Rattle.small_world.specs.Printing.{device_printed, printed}
use Rattle.small_world.specs.Runs.{Turn, MayTurn, IsRun, IsReached, IsRunOver, AreSteps, given, is_boot, after_turn, world_after, texts_back}
use Rattle.small_world.specs.Stepping.{lost_step, answered_step, commanded, booted}
use Rattle.small_world.specs.Stretches.{count_fates, fate_of, fates, is_cut}
use Rattle.small_world.specs.Worlds.{SmallWorld, start_world, started}
use Rattle.small_world.proofs.Reached.{reached_keeps}
use Rattle.small_world.proofs.Reaching.{command_reaches, nothing_reaches}
use Rattle.small_world.proofs.Running.{run_lossless, run_made}
use Rattle.iot_bytes.specs.Causes.{Rose}
use Rattle.chip_port.specs.Seen.{Seen}
use Rattle.world_forms.specs.Courses.{AreLit, AreSpelled, HasRun, IsCalm, IsLossless, start_of, trace, turns_of}
use Rattle.world_forms.specs.Losses.{AreCounted}

pub spelled_first : (l : List ℕ) (d : Device) → device_at l ≡ Some d → AreSpelled (l ∷ []) d []
spelled_first l d is = record { first = l; steps = []; lines_are = refl; device_is = is; steps_are = refl }

pub spelled_more : (ls : List (List ℕ)) (d : Device) (lines : List Line) (l : List ℕ) (line : Line) → AreSpelled ls d lines → step_at l ≡ Some line → AreSpelled (ls ++ l ∷ []) d (lines ++ line ∷ [])
spelled_more ls d lines l line s is = record {
  first = s.first;
  steps = s.steps ++ l ∷ [];
  lines_are = ap (λ (z : List (List ℕ)). z ++ l ∷ []) s.lines_are;
  device_is = s.device_is;
  steps_are = map-append step_at s.steps (l ∷ [])
      ∙ ap (λ (z : List (Option Line)). z ++ step_at l ∷ []) s.steps_are
      ∙ ap (λ (z : Option Line). map (λ (k : Line). Some k) lines ++ z ∷ []) is
      ∙ sym (map-append (λ (k : Line). Some k) lines (line ∷ []));
}

pub trace_first : (d : Device) → trace d [] ≡ device_printed (length d.profiles) ++ 10 ∷ []
trace_first d = append-nil (device_printed (length d.profiles) ++ 10 ∷ [])

pub trace_more : (d : Device) (texts : List (List ℕ)) (x : List ℕ) → trace d texts ++ (x ++ 10 ∷ []) ≡ trace d (texts ++ x ∷ [])
trace_more d texts x = flat_map_more ended [] (device_printed (length d.profiles) ∷ texts) x

pub may_first : (start : SmallWorld) → IsRun start []
unfolding IsRun
may_first start = tt

pub texts_first : (start : SmallWorld) → [] ≡ reverse (texts_back start [])
unfolding texts_back
texts_first start = refl

pub end_first : (start : SmallWorld) → start ≡ world_after start []
unfolding world_after
end_first start = refl

abbrev pub run_first : (start : SmallWorld) → IsRunOver start [] [] start
run_first start = record { turns = []; may = may_first start; lines_are = refl; texts_are = texts_first start; end_is = end_first start }

-- a run of one turn more is one
pub may_more : (start w : SmallWorld) (t : Turn) (ts : List Turn) → w ≡ world_after start ts → IsRun start ts → MayTurn w t → IsRun start (t ∷ ts)
unfolding IsRun
may_more start w t ts same run may = (subst (λ (v : SmallWorld). MayTurn v t) same may, run)

pub lines_more : (t : Turn) (ts : List Turn) (lines : List Line) → lines ≡ reverse (map (λ k. k.line) ts) → lines ++ t.line ∷ [] ≡ reverse (map (λ k. k.line) (t ∷ ts))
lines_more t ts lines same = ap (λ (z : List Line). z ++ t.line ∷ []) same ∙ sym (reverse-append (t.line ∷ []) (map (λ (k : Turn). k.line) ts))

pub texts_more : (start w : SmallWorld) (t : Turn) (ts : List Turn) (texts : List (List ℕ)) → w ≡ world_after start ts → texts ≡ reverse (texts_back start ts) → texts ++ printed w t.line t.lost ∷ [] ≡ reverse (texts_back start (t ∷ ts))
unfolding texts_back
texts_more start w t ts texts at same =
    ap (λ (v : SmallWorld). texts ++ printed v t.line t.lost ∷ []) at
    ∙ ap (λ (z : List (List ℕ)). z ++ printed (world_after start ts) t.line t.lost ∷ []) same
    ∙ sym (reverse-append (printed (world_after start ts) t.line t.lost ∷ []) (texts_back start ts))

pub end_more : (start w : SmallWorld) (t : Turn) (ts : List Turn) → w ≡ world_after start ts → after_turn w t ≡ world_after start (t ∷ ts)
unfolding world_after
end_more start w t ts same = ap (λ (v : SmallWorld). after_turn v t) same

abbrev pub run_more : {start : SmallWorld} {lines : List Line} {texts : List (List ℕ)} {w : SmallWorld} (r : IsRunOver start lines texts w) (t : Turn) → MayTurn w t
    → IsRunOver start (lines ++ t.line ∷ []) (texts ++ printed w t.line t.lost ∷ []) (after_turn w t)
run_more {start} {lines} {texts} {w} r t may = record {
  turns = t ∷ r.turns;
  may = may_more start w t r.turns r.end_is r.may may;
  lines_are = lines_more t r.turns lines r.lines_are;
  texts_are = texts_more start w t r.turns texts r.end_is r.texts_are;
  end_is = end_more start w t r.turns r.end_is;
}

-- no result is lost in a world that a run comes to
pub lossless_at : (d : Device) (handed_in : List ModemSeen) (ts : List Turn) (w : SmallWorld) → IsDevice d → AreSteps ts → w ≡ world_after (start_world d handed_in) ts → IsLossless w
lossless_at d handed_in ts w fits read comes =
    let reached : IsReached w = record { device = d; handed_in = handed_in; turns = ts; fits = fits; read = read; comes = comes } in
    let keeps = reached_keeps w reached in
    record { legal = keeps.legal; once = legal_once w.history keeps.legal; none_lost = run_lossless w keeps; made = run_made w keeps }

-- lines that were read are in their ranges
lines_fit : (steps : List (List ℕ)) (lines : List Line) → map step_at steps ≡ map (λ l. Some l) lines → Every IsStep lines
lines_fit [] [] e = tt
lines_fit [] (line ∷ lines) e = absurd cc
lines_fit (l ∷ steps) [] e = absurd cc
lines_fit (l ∷ steps) (line ∷ lines) e =
    let head : step_at l ≡ Some line = cc in
    let rest : map step_at steps ≡ map (λ (k : Line). Some k) lines = cc in
    (step_fits l line head, lines_fit steps lines rest)

every_back : (P : Line → Type 0) (xs : List Line) → Every P xs → Every P (reverse xs)
every_back P [] h = tt
every_back P (x ∷ xs) h = subst (Every P) (sym (reverse-append (x ∷ []) xs)) (every_push P (reverse xs) x (every_back P xs h.1) h.0)

turns_fit : (ts : List Turn) → Every IsStep (map (λ t. t.line) ts) → AreSteps ts
unfolding AreSteps
turns_fit [] h = tt
turns_fit (t ∷ ts) h = (h.0, turns_fit ts h.1)

back_again : (xs : List Line) → reverse (reverse xs) ≡ xs
back_again [] = refl
back_again (x ∷ xs) = ap (λ (z : List Line). reverse z) (reverse-append (x ∷ []) xs) ∙ reverse-append (reverse xs) (x ∷ []) ∙ ap (λ (z : List Line). x ∷ z) (back_again xs)

-- the turns of a run over lines that were read
pub run_steps_fit : {start : SmallWorld} {ls : List (List ℕ)} {d : Device} {lines : List Line} {texts : List (List ℕ)} {w : SmallWorld} → AreSpelled ls d lines → (r : IsRunOver start lines texts w) → AreSteps r.turns
run_steps_fit {start} {ls} {d} {lines} {texts} {w} s r =
    let back : reverse lines ≡ map (λ (t : Turn). t.line) r.turns = ap (λ (z : List Line). reverse z) r.lines_are ∙ back_again (map (λ (t : Turn). t.line) r.turns) in
    turns_fit r.turns (subst (Every IsStep) back (every_back IsStep lines (lines_fit s.steps lines s.steps_are)))

pub device_fits : {ls : List (List ℕ)} {d : Device} {lines : List Line} → AreSpelled ls d lines → IsDevice d
device_fits {ls} {d} {lines} s = device_fits_in s.first d s.device_is

pub lossless_run : (handed_in : List ModemSeen) (ls : List (List ℕ)) (d : Device) (lines : List Line) (texts : List (List ℕ)) (w : SmallWorld) → AreSpelled ls d lines → IsRunOver (start_world d handed_in) lines texts w → IsLossless w
lossless_run handed_in ls d lines texts w s r = lossless_at d handed_in r.turns w (device_fits s) (run_steps_fit s r) r.end_is

-- the first line alone
abbrev pub has_first : (handed_in : List ModemSeen) (l : List ℕ) (d : Device) → device_at l ≡ Some d → HasRun handed_in (l ∷ []) (trace d [])
has_first handed_in l d is = record {
  device = d;
  lines = [];
  texts = [];
  world = start_world d handed_in;
  spelled = spelled_first l d is;
  run = run_first (start_world d handed_in);
  sent = refl;
  once = lossless_run handed_in (l ∷ []) d [] [] (start_world d handed_in) (spelled_first l d is) (run_first (start_world d handed_in));
}

-- a line more
abbrev pub has_more : {handed_in : List ModemSeen} {ls : List (List ℕ)} {text : List ℕ} (r : HasRun handed_in ls text) (l : List ℕ) (t : Turn) → step_at l ≡ Some t.line → MayTurn r.world t
    → HasRun handed_in (ls ++ l ∷ []) (text ++ (printed r.world t.line t.lost ++ 10 ∷ []))
has_more {handed_in} {ls} {text} r l t is may = record {
  device = r.device;
  lines = r.lines ++ t.line ∷ [];
  texts = r.texts ++ printed r.world t.line t.lost ∷ [];
  world = after_turn r.world t;
  spelled = spelled_more ls r.device r.lines l t.line r.spelled is;
  run = run_more r.run t may;
  sent = ap (λ (z : List ℕ). z ++ (printed r.world t.line t.lost ++ 10 ∷ [])) r.sent ∙ trace_more r.device r.texts (printed r.world t.line t.lost);
  once = lossless_run handed_in (ls ++ l ∷ []) r.device (r.lines ++ t.line ∷ []) (r.texts ++ printed r.world t.line t.lost ∷ []) (after_turn r.world t)
      (spelled_more ls r.device r.lines l t.line r.spelled is) (run_more r.run t may);
}

lit_command : (w : SmallWorld) (c : Command) → w.lit ≡ true → (commanded c false w).lit ≡ true
unfolding commanded
lit_command w c lit = cond_both w.lit (cond false (lost_step c w) (answered_step c w)) w (λ v. v.lit ≡ true) (λ _. lit) (λ _. lit)

lit_given : (w : SmallWorld) (l : Line) (taken : Bool) (o : Option Command) → given w l ≡ o → is_boot l ≡ false → is_cut l ≡ false → w.lit ≡ true → (acted l false taken w).lit ≡ true
lit_given w l taken None at boot cut lit = (nothing_reaches w l false taken at boot cut).lit ∙ lit
lit_given w l taken (Some c) at boot cut lit = (command_reaches w l c false taken at).lit ∙ lit_command w c lit

lit_acted : (w : SmallWorld) (l : Line) (taken : Bool) → w.lit ≡ true → (acted l false taken w).lit ≡ true
unfolding acted booted is_cut
lit_acted w line.Boot taken lit = refl
lit_acted w (line.Cut calls tear) taken lit = lit
lit_acted w l taken lit = lit_given w l taken (given w l) refl refl refl lit

-- a line that isn't lost leaves the card lit
lit_turn : (w : SmallWorld) (t : Turn) → t.lost ≡ false → w.lit ≡ true → (after_turn w t).lit ≡ true
unfolding after_turn attended
lit_turn w t kept lit = subst (λ (b : Bool). (acted t.line b t.taken w).lit ≡ true) (sym kept) (lit_acted w t.line t.taken lit)

none_more : (lost : Bool) (many : ℕ) → cond lost (many + 1) many ≡ 0 → (lost ≡ false) × (many ≡ 0)
none_more true many e = absurd (omega (arith, e))
none_more false many e = (refl, e)

-- no boot of a lit card takes an attempt
untaken : (w : SmallWorld) (t : Turn) → MayTurn w t → w.lit ≡ true → t.taken ≡ false
untaken w t may lit = false_from_ne_true t.taken (λ taken. false≢true (sym (may.taken taken).dark ∙ lit))

plain : (t : Turn) → t.lost ≡ false → t.taken ≡ false → t ≡ record { line = t.line; lost = false; taken = false }
plain t kept untaken =
    ap (λ (b : Bool). let u : Turn = record { line = t.line; lost = b; taken = t.taken } in u) kept
    ∙ ap (λ (b : Bool). let u : Turn = record { line = t.line; lost = false; taken = b } in u) untaken

-- where no line is lost, a run leaves no choice: its lines alone make it, and the card stays lit
pub alone : (start : SmallWorld) (turns : List Turn) → start.lit ≡ true → IsRun start turns → count_fates (λ f. f.lost) (fates start turns) ≡ 0
    → (turns ≡ map (λ l. record { line = l; lost = false; taken = false }) (map (λ t. t.line) turns)) × ((world_after start turns).lit ≡ true)
unfolding IsRun world_after fates fate_of count_fates
alone start [] lit run none = (refl, lit)
alone start (t ∷ ts) lit run none =
    let w : SmallWorld = world_after start ts in
    let few = none_more t.lost (count_fates (λ f. f.lost) (fates start ts)) none in
    let before = alone start ts lit run.1 few.1 in
    let same = plain t few.0 (untaken w t run.0 before.1) in (
      ap (λ (u : Turn). u ∷ ts) same ∙ ap (λ (us : List Turn). record { line = t.line; lost = false; taken = false } ∷ us) before.0,
      lit_turn w t few.0 before.1,
    )

are_lit : (start : SmallWorld) (turns : List Turn) → start.lit ≡ true → IsRun start turns → count_fates (λ f. f.lost) (fates start turns) ≡ 0 → AreLit start turns
unfolding IsRun fates fate_of count_fates
are_lit start [] lit run none = tt
are_lit start (t ∷ ts) lit run none =
    let few = none_more t.lost (count_fates (λ f. f.lost) (fates start ts)) none in
    ((alone start ts lit run.1 few.1).1, are_lit start ts lit run.1 few.1)

calm_when : (start : SmallWorld) (turns : List Turn) → start.lit ≡ true → IsRun start turns → count_fates (λ f. f.lost) (fates start turns) ≡ 0 → IsCalm start turns
calm_when start turns lit run none = record { plain = (alone start turns lit run none).0; lit = are_lit start turns lit run none }

start_lit : (d : Device) (handed_in : List ModemSeen) → (start_world d handed_in).lit ≡ true
unfolding start_world started
start_lit d handed_in = refl

-- where a count that isn't zero has a consequence that isn't there, it is zero
none_without : (n : ℕ) (X : Type 0) → (n ≢ 0 → X) → (X → ⊥) → n ≡ 0
none_without zero X some false_from_ne_true = refl
none_without (suc n) X some false_from_ne_true = absurd (false_from_ne_true (some (λ z. absurd (omega (arith, z)))))

-- a run of which the bench counted no fault
pub calm_run : {handed_in : List ModemSeen} {ls : List (List ℕ)} {text : List ℕ} (r : HasRun handed_in ls text) (s t : Seen) → AreCounted s t (fates (start_of r) (turns_of r)) → (Rose s.faults t.faults → ⊥) → IsCalm (start_of r) (turns_of r)
calm_run {handed_in} {ls} {text} r s t counted false_from_ne_true =
    calm_when (start_of r) (turns_of r) (start_lit r.device handed_in) r.run.may
    (none_without (count_fates (λ f. f.lost) (fates (start_of r) (turns_of r))) (Rose s.faults t.faults) counted.lost false_from_ne_true)
