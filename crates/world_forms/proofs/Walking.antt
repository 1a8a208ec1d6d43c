-- One line more of a replay: what the line did is one turn more of its run.
use Rattle.std.proofs.Common.{◌≡◌, ◌⊎◌, ℕ, ◌+◌, inl, inr, Bool, true, false, List, [], ◌∷◌, ◌++◌, length, drop, Some, None, Err, refl, ap, sym, subst, ◌∙◌, arith}
use Rattle.std.proofs.Math.Seq.{drop-append_seam}
use Rattle.std.proofs.lemmas.Bool.{false≢true}
use Rattle.iot_bytes.specs.Causes.{Rose}
use Rattle.chip_port.specs.Rules.{Untouched}
use Rattle.chip_port.specs.Seen.{Seen, Marks, Tally, no_plan}
use Rattle.iot_schedule.specs.Devices.{device_at}
use Rattle.iot_schedule.specs.Steps.{step_at}
use Rattle.iot_schedule.specs.declared.types.Line.{Line}
use Rattle.iot_world.specs.Steps.{IsActedShort, IsUnsent, IsUntold, turn}
use Rattle.iot_world.specs.Turns.{IsTurned, StandsWith, Turns}
use Rattle.iot_world.specs.declared.ends.Halt.{Halt}
use Rattle.iot_world.specs.declared.ends.Halt.TheVariants as halt
use Rattle.iot_world.specs.declared.world.World.{World}
use Rattle.line_loop.specs.declared.halt.LineStop.{LineStop}
use Rattle.line_loop.specs.declared.halt.LineStop.TheVariants.{ChipFault, Malformed, Limit, Unrecognised, NoMemory}
use Rattle.modem_bank.specs.Modems.{Seen as ModemSeen}
use Rattle.small_card.specs.Histories.{full_of}
use Rattle.small_world.specs.Lines.{acted, attended}
use Rattle.small_world.specs.Printing.{device_printed}
use Rattle.small_world.specs.Runs.{after_turn}
use Rattle.small_world.specs.Stepping.{commanded}
use Rattle.small_world.specs.Stretches.{fates, is_far}
use Rattle.small_world.specs.Worlds.{SmallWorld, start_world}
use Rattle.world_card.specs.Benches.{HoldsWorld}
use Rattle.world_card.specs.Boots.{IsWokenFor, IsBefore}
use Rattle.world_card.specs.Counts.{Counted, KeepsPast, answered_fate, short_fate}
use Rattle.world_card.specs.Starts.{IsUnstarted}
use Rattle.world_card.proofs.Starting.{untouched_then}
use Rattle.world_forms.specs.Courses.{HasRun, start_of, turns_of, trace}
use Rattle.world_forms.specs.Handling.{BeginsBy, GoesOn, HasBegun, HasTurned, HasTurnedShort, of_halt}
use Rattle.world_forms.specs.Keeping.{IsKept}
use Rattle.world_forms.specs.Replays.{IsReplayed, IsTurnedBehind, IsUnbegun, IsUnsentBehind, IsUntoldBehind, Stops, no_change}
use Rattle.world_forms.specs.Walks.{IsAt}
use Rattle.world_forms.proofs.Courses.{calm_run, has_first, has_more, trace_first}
use Rattle.world_forms.proofs.Keeping.{kept_after, kept_first, kept_short, kept_turn}

-- what a bench holds is the same after the modems were told
attended_holds : (first : ℕ) (t : Seen) (w : SmallWorld) → HoldsWorld first t w → HoldsWorld first t (attended w)
unfolding attended
attended_holds first t w h = record { told = h.told; holds = h.holds; lit = h.lit; dark = h.dark }

turned_holds : (first : ℕ) (t : Seen) (l : Line) (lost taken : Bool) (w : SmallWorld) → HoldsWorld first t (acted l lost taken w) → HoldsWorld first t (after_turn w (turn l lost taken))
unfolding after_turn
turned_holds first t l lost taken w h = attended_holds first t (acted l lost taken w) h

turned_woken : (t : Seen) (l : Line) (lost taken : Bool) (w : SmallWorld) → IsWokenFor (full_of (acted l lost taken w).history) t → IsWokenFor (full_of (after_turn w (turn l lost taken)).history) t
unfolding after_turn attended
turned_woken t l lost taken w woken = woken

-- a line was stepped, and its text was appended with its end
pub turned : (first : ℕ) (l : Line) (f : List ℕ) (w : SmallWorld) (v : World) (s t : Seen) (ms : List ModemSeen) (before said out : List ℕ) → step_at f ≡ Some l → IsTurned first l w v s t ms [] said → out ≡ before ++ (said ++ 10 ∷ [])
    → HasTurned first f w v s t ms before out
turned first l f w v s t ms before said out spelled g is = record {
  turn = turn l g.lost g.taken;
  spelled = spelled;
  may = g.may;
  says = is ∙ ap (λ (x : List ℕ). before ++ (x ++ 10 ∷ [])) g.says;
  stands = g.stands;
  counts = g.counts;
  woken = g.woken;
}

-- memory ran out behind the step
pub turned_short : (first : ℕ) (l : Line) (f : List ℕ) (w : SmallWorld) (v : World) (s t : Seen) (ms : List ModemSeen) (before out : List ℕ) → step_at f ≡ Some l → IsTurned first l w v s t ms before out → HasTurnedShort first f w s t
turned_short first l f w v s t ms before out spelled g = record {
  turn = turn l g.lost g.taken;
  spelled = spelled;
  may = g.may;
  holds = g.stands.world.card.bench;
  counts = g.counts;
  woken = g.woken;
}

acted_short : (first : ℕ) (l : Line) (f : List ℕ) (w : SmallWorld) (s t : Seen) → step_at f ≡ Some l → IsActedShort first l w s t → HasTurnedShort first f w s t
acted_short first l f w s t spelled g = record {
  turn = turn l g.lost g.taken;
  spelled = spelled;
  may = g.may;
  holds = turned_holds first t l g.lost g.taken w g.holds;
  counts = g.counts;
  woken = λ boot kept. turned_woken t l g.lost g.taken w (g.woken boot kept);
}

-- a line halts
pub halted : (first : ℕ) (l : Line) (f : List ℕ) (w : SmallWorld) (v : World) (s t : Seen) (ms : List ModemSeen) (said said' before out : List ℕ) (h : Halt) → step_at f ≡ Some l → Turns first l w (Err h) v s t ms said said'
    → GoesOn first f w (Err (of_halt h)) v s t ms before out
halted first l f w v s t ms said said' before out halt.Limit spelled g = record { line = l; spelled = spelled; over = g.0; same = g.1 }
halted first l f w v s t ms said said' before out halt.Foreign spelled g = g
halted first l f w v s t ms said said' before out halt.NoMemory spelled (inl before_step) = inl before_step
halted first l f w v s t ms said said' before out halt.NoMemory spelled (inr short) = inr (acted_short first l f w s t spelled short)

-- what was appended is one text
one_text : (before out text text' : List ℕ) → out ≡ before ++ text → out ≡ before ++ text' → text' ≡ text
one_text before out text text' one other =
    sym (drop-append_seam before text') ∙ ap (λ (x : List ℕ). drop (length before) x) (sym other ∙ one) ∙ drop-append_seam before text

-- a run is one turn longer
pub led_on : (handed_in : List ModemSeen) (s t u : Seen) (v v' : World) (ms ms' : List ModemSeen) (ls : List (List ℕ)) (b l before out text : List ℕ) → out ≡ before ++ text → IsAt (Some v) handed_in s t ms ls b
    → ((w : SmallWorld) → StandsWith (s.marks.answers + 1) v t ms w → HasTurned (s.marks.answers + 1) l w v' t u ms' before out) → IsAt (Some v') handed_in s u ms' (ls ++ l ∷ []) (b ++ text)
led_on handed_in s t u v v' ms ms' ls b l before out text grows at goes =
    let (r, stands) = at in
    let has = r.has in
    let g = goes has.world stands in
    let kept = kept_turn s t u (start_of has) g.turn (turns_of has) has.world has.run.end_is r.kept g.counts g.stands.world.card.bench g.woken in
    subst (λ (x : List ℕ). IsAt (Some v') handed_in s u ms' (ls ++ l ∷ []) (b ++ x)) (one_text before out text _ grows g.says) (
      record {
        has = has_more has l g.turn g.spelled g.may;
        kept = kept;
        plan = g.stands.world.card.plan;
        same = g.stands.same_modems;
        calm = calm_run (has_more has l g.turn g.spelled g.may) s u kept.counted;
      },
      g.stands,
    )

counted_from : (s t u : Seen) → Untouched no_change s t → Counted (answered_fate true) t u → Counted (answered_fate true) s u
counted_from s t u a c = record {
  told = c.told ∙ a.told;
  faults = omega (arith, c.faults, a.faults);
  cuts = omega (arith, c.cuts, ap (λ (x : Tally). x.cuts) a.tally_is);
  breaks = omega (arith, c.breaks, ap (λ (x : Tally). x.breaks) a.tally_is);
  uses = omega (arith, c.uses, ap (λ (x : Tally). x.uses) a.tally_is);
  most = omega (arith, c.most, ap (λ (x : Tally). x.uses) a.tally_is);
  plans = c.plans ∙ ap (λ (x : Tally). x.plans) a.tally_is;
  lost = λ is. absurd (false≢true is);
  answers = c.answers ∙ ap (λ (m : Marks). m.answers + 1) a.keeps.marks;
  now = c.now;
  past = subst (λ (m : Marks). KeepsPast m u.marks) a.keeps.marks c.past;
}

unstarted_from : (s t u : Seen) → Untouched no_change s t → IsUnstarted t u → IsUnstarted s u
unstarted_from s t u a n = record {
  told = n.told ∙ a.told;
  marks = n.marks ∙ a.keeps.marks;
  plans = n.plans ∙ ap (λ (x : Tally). x.plans) a.tally_is;
  most = omega (arith, n.most, ap (λ (x : Tally). x.uses) a.tally_is);
  broke = subst (λ (x : Tally). x.cut ≡ false → Rose x.breaks u.tally.breaks) a.tally_is n.broke;
}

-- the card of a device was made
pub led_first : (handed_in : List ModemSeen) (s t u : Seen) (v : World) (ms ms' : List ModemSeen) (ls : List (List ℕ)) (b l before out text : List ℕ) → out ≡ before ++ text → IsUnbegun handed_in s t ms ls b → HasBegun ms l v t u ms' before out
    → IsAt (Some v) handed_in s u ms' (ls ++ l ∷ []) (b ++ text)
unfolding fates
led_first handed_in s t u v ms ms' ls b l before out text grows n begun =
    let g = subst (λ (h : List ModemSeen). HasBegun h l v t u ms' before out) n.same begun in
    let d = g.device in
    let stands = subst (λ (k : ℕ). StandsWith (k + 1) v u ms' (start_world d handed_in)) (ap (λ (m : Marks). m.answers) n.bench.keeps.marks) g.begun.stands in
    let kept = kept_first s u d handed_in (counted_from s t u n.bench g.begun.counts) stands.world.card.bench in
    let said : trace d [] ≡ b ++ text =
    trace_first d ∙ one_text before out text (device_printed (length d.profiles) ++ 10 ∷ []) grows g.says ∙ ap (λ (z : List ℕ). z ++ text) (sym n.silent) in
    let at : IsAt (Some v) handed_in s u ms' (l ∷ []) (trace d []) = (
      record {
        has = has_first handed_in l d g.spelled;
        kept = kept;
        plan = stands.world.card.plan;
        same = stands.same_modems;
        calm = calm_run (has_first handed_in l d g.spelled) s u kept.counted;
      },
      stands,
    ) in
    subst (λ (z : List (List ℕ)). IsAt (Some v) handed_in s u ms' (z ++ l ∷ []) (b ++ text)) (sym n.none) (subst (λ (x : List ℕ). IsAt (Some v) handed_in s u ms' (l ∷ []) x) said at)

-- why the first line isn't handled
pub stopped_first : (handed_in : List ModemSeen) (s t u : Seen) (ms ms' : List ModemSeen) (ls : List (List ℕ)) (b l before out : List ℕ) (stop : LineStop) → IsUnbegun handed_in s t ms ls b → BeginsBy ms l (Err stop) t u ms' before out
    → (stop ≡ Malformed → device_at l ≡ None) → ms' ≡ ms → Stops handed_in s u ms' ls b l stop
stopped_first handed_in s t u ms ms' ls b l before out ChipFault n g none same = (
  record { none = n.none; silent = n.silent; same = same ∙ n.same },
  record { device = g.device; spelled = g.spelled; bench = unstarted_from s t u n.bench g.bench },
)
stopped_first handed_in s t u ms ms' ls b l before out Malformed n g none same =
    inl (record { none = n.none; silent = n.silent; same = same ∙ n.same }, none refl, untouched_then no_change no_change s t u n.bench g)
stopped_first handed_in s t u ms ms' ls b l before out Limit n g none same = absurd g
stopped_first handed_in s t u ms ms' ls b l before out Unrecognised n g none same = absurd g
stopped_first handed_in s t u ms ms' ls b l before out NoMemory n (inl g) none same =
    inl (record { none = n.none; silent = n.silent; same = same ∙ n.same }, inl (untouched_then no_change no_change s t u n.bench g))
stopped_first handed_in s t u ms ms' ls b l before out NoMemory n (inr g) none same =
    inl (record { none = n.none; silent = n.silent; same = same ∙ n.same }, inr (untouched_then no_change no_plan s t u n.bench g))

-- a message passes the limit behind a run
passed : {handed_in : List ModemSeen} {ls : List (List ℕ)} {text : List ℕ} (has : HasRun handed_in ls text) (s t u : Seen) (line : Line) → IsKept s t (start_of has) (turns_of has) has.world (fates (start_of has) (turns_of has))
    → IsUnsent (s.marks.answers + 1) has.world t u ⊎ IsUntold (s.marks.answers + 1) line has.world t u → IsUnsentBehind has s u ⊎ IsUntoldBehind has line s u
passed has s t u line kept (inl g) = inl (record {
  kept = kept_short s t u (start_of has) (turns_of has) has.world has.world (short_fate (is_far has.world.plan)) (fates (start_of has) (turns_of has)) has.run.end_is kept g.holds g.counts;
  plan = g.plan;
})
passed has s t u line kept (inr g) = inr (record {
  command = g.command;
  given_is = g.given_is;
  no_unit = g.no_unit;
  kept = kept_short s t u (start_of has) (turns_of has) has.world (commanded g.command false has.world) (answered_fate (is_far has.world.plan)) (fates (start_of has) (turns_of has)) has.run.end_is kept g.holds g.counts;
  plan = g.plan;
})

-- memory ran out behind a run
short : {handed_in : List ModemSeen} {ls : List (List ℕ)} {text : List ℕ} (has : HasRun handed_in ls text) (s t u : Seen) (l : List ℕ) → IsKept s t (start_of has) (turns_of has) has.world (fates (start_of has) (turns_of has))
    → IsBefore (s.marks.answers + 1) has.world t u ⊎ HasTurnedShort (s.marks.answers + 1) l has.world t u
    → IsKept s u (start_of has) (turns_of has) has.world (short_fate (is_far has.world.plan) ∷ fates (start_of has) (turns_of has)) ⊎ IsTurnedBehind has l s u
short has s t u l kept (inl g) =
    inl (kept_short s t u (start_of has) (turns_of has) has.world has.world (short_fate (is_far has.world.plan)) (fates (start_of has) (turns_of has)) has.run.end_is kept g.holds g.counts)
short has s t u l kept (inr g) = inr (record {
  turn = g.turn;
  spelled = g.spelled;
  may = g.may;
  kept = kept_after s t u (start_of has) g.turn (turns_of has) has.world has.run.end_is kept g.counts g.holds g.woken;
})

-- why a further line isn't handled
pub stopped_on : (handed_in : List ModemSeen) (s t u : Seen) (v v' : World) (ms ms' : List ModemSeen) (ls : List (List ℕ)) (b l before out : List ℕ) (stop : LineStop) → IsAt (Some v) handed_in s t ms ls b
    → ((w : SmallWorld) → StandsWith (s.marks.answers + 1) v t ms w → GoesOn (s.marks.answers + 1) l w (Err stop) v' t u ms' before out)
    → (stop ≡ Malformed → step_at l ≡ None) → (stop ≡ Malformed → IsReplayed handed_in s u ms' ls b) → Stops handed_in s u ms' ls b l stop
stopped_on handed_in s t u v v' ms ms' ls b l before out ChipFault at goes none same = absurd (goes at.0.has.world at.1)
stopped_on handed_in s t u v v' ms ms' ls b l before out Malformed at goes none same = inr (record { replayed = same refl; unread = none refl })
stopped_on handed_in s t u v v' ms ms' ls b l before out Limit at goes none same =
    let g = goes at.0.has.world at.1 in
    record { has = at.0.has; line = g.line; spelled = g.spelled; over = g.over.over; bench = passed at.0.has s t u g.line at.0.kept g.over.bench; same = g.same }
stopped_on handed_in s t u v v' ms ms' ls b l before out Unrecognised at goes none same = absurd (goes at.0.has.world at.1)
stopped_on handed_in s t u v v' ms ms' ls b l before out NoMemory at goes none same =
    inr (record { has = at.0.has; bench = short at.0.has s t u l at.0.kept (goes at.0.has.world at.1) })
