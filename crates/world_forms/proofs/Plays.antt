-- One generated line more: what it did is one turn more of the run, and what it printed is counted.
use Rattle.std.proofs.Common.{◌≡◌, ◌≢◌, ◌<◌, ℕ, ◌+◌, ◌-◌, ◌^◌, inl, List, [], ◌∷◌, ◌++◌, length, None, Err, refl, ap, sym, subst, ◌∙◌, add-one, length-append, arith}
use Rattle.chip_port.specs.Seen.{Seen}
use Rattle.iot_schedule.specs.Devices.{device_at}
use Rattle.iot_schedule.specs.Making.{made_line}
use Rattle.iot_world.specs.Turns.{StandsWith}
use Rattle.iot_world.specs.declared.world.World.{World}
use Rattle.line_loop.specs.declared.halt.LineStop.{LineStop}
use Rattle.line_loop.specs.declared.halt.LineStop.TheVariants.{ChipFault, Malformed, Limit, Unrecognised, NoMemory}
use Rattle.modem_bank.specs.Modems.{Seen as ModemSeen}
use Rattle.schedule_forms.specs.Schedules.{made_lines}
use Rattle.small_world.specs.Printing.{device_printed, printed}
use Rattle.small_world.specs.Stretches.{fates, is_far}
use Rattle.small_world.specs.Worlds.{SmallWorld}
use Rattle.world_card.proofs.Counting.{idle_counted}
use Rattle.world_forms.specs.Courses.{start_of, turns_of, trace}
use Rattle.world_forms.specs.Demos.{AreCounts, IsShown, IsStoppedAt, printed_by}
use Rattle.world_forms.specs.Handling.{BeginsBy, GoesOn, HasBegun, HasTurned}
use Rattle.world_forms.specs.Plays.{CountsOn, HasHalted, HasPlayed, Makes}
use Rattle.world_forms.specs.Replays.{Stops}
use Rattle.world_forms.specs.Starting.{untouched_same}
use Rattle.world_forms.specs.declared.playing.Play.{Play}
use Rattle.world_forms.specs.declared.tally.Tally.{Tally}
use Rattle.world_forms.proofs.Courses.{calm_run, has_first, has_more}
use Rattle.world_forms.proofs.Keeping.{kept_first, kept_turn}
use Rattle.world_forms.proofs.Walking.{stopped_first, stopped_on}

-- the generated lines, one by one
pub one_line : (start : ℕ) (l : List ℕ) → l ≡ made_line start 1 → l ∷ [] ≡ made_lines start 1
unfolding made_lines
one_line start l is = ap (λ (z : List ℕ). z ∷ []) is

pub lines_more : (start count number : ℕ) (l : List ℕ) → number ≡ count + 1 → l ≡ made_line start number → made_lines start count ++ l ∷ [] ≡ made_lines start (count + 1)
unfolding made_lines
lines_more start count number l is line =
    ap (λ (z : List ℕ). made_lines start count ++ z ∷ []) (line ∙ ap (λ (k : ℕ). made_line start k) (is ∙ add-one count))
    ∙ ap (λ (k : ℕ). made_lines start k) (sym (add-one count))

-- the first line
pub played_first : (play : Play) (none : Tally) (handed_in ms : List ModemSeen) (l out : List ℕ) (s t : Seen) → HasBegun handed_in l play.world s t ms [] out → AreCounts none [] → CountsOn none play.tally out → HasPlayed play handed_in (l ∷ []) 1 s t ms
unfolding fates
played_first play none handed_in ms l out s t g nothing counts =
    let d = g.device in
    let kept = kept_first s t d handed_in g.begun.counts g.begun.stands.world.card.bench in
    record {
      text = trace d [];
      replayed = record {
        has = has_first handed_in l d g.spelled;
        kept = kept;
        plan = g.begun.stands.world.card.plan;
        same = g.begun.stands.same_modems;
        calm = calm_run (has_first handed_in l d g.spelled) s t kept.counted;
      };
      stands = g.begun.stands;
      counts = counts [] (device_printed (length d.profiles)) g.says (omega arith) nothing;
      many = refl;
    }

-- a further line
pub played_on : (play play' : Play) (handed_in ms ms' : List ModemSeen) (ls : List (List ℕ)) (count : ℕ) (l out : List ℕ) (s t u : Seen) (p : HasPlayed play handed_in ls count s t ms)
    → HasTurned (s.marks.answers + 1) l p.replayed.has.world play'.world t u ms' [] out → CountsOn play.tally play'.tally out → count < 2 ^ 32 - 1 → HasPlayed play' handed_in (ls ++ l ∷ []) (count + 1) s u ms'
played_on play play' handed_in ms ms' ls count l out s t u p g counts few =
    let has = p.replayed.has in
    let x : List ℕ = printed has.world g.turn.line g.turn.lost in
    let kept = kept_turn s t u (start_of has) g.turn (turns_of has) has.world has.run.end_is p.replayed.kept g.counts g.stands.world.card.bench g.woken in
    record {
      text = p.text ++ (x ++ 10 ∷ []);
      replayed = record {
        has = has_more has l g.turn g.spelled g.may;
        kept = kept;
        plan = g.stands.world.card.plan;
        same = g.stands.same_modems;
        calm = calm_run (has_more has l g.turn g.spelled g.may) s u kept.counted;
      };
      stands = g.stands;
      counts = counts (printed_by has) x g.says (omega (arith, p.many, few)) p.counts;
      many = length-append (printed_by has) (x ∷ []) ∙ ap (λ (n : ℕ). n + 1) p.many;
    }

-- the first line isn't handled
pub halted_first : (handed_in ms : List ModemSeen) (start : ℕ) (l out : List ℕ) (s t : Seen) (stop : LineStop) → l ≡ made_line start 1 → BeginsBy handed_in l (Err stop) s t ms [] out → (stop ≡ Malformed → device_at l ≡ None) → ms ≡ handed_in
    → HasHalted handed_in start 0 stop s t ms
unfolding made_lines
halted_first handed_in ms start l out s t stop is g none same = record {
  text = [];
  stops = subst (λ (z : List ℕ). Stops handed_in s t ms [] [] z stop) is
      (stopped_first handed_in s s t handed_in ms [] [] l [] out stop (record { none = refl; silent = refl; bench = untouched_same s; same = refl }) g none same);
}

-- it isn't made
pub unmade_first : (handed_in : List ModemSeen) (start number state : ℕ) (s : Seen) (stop : LineStop) → Makes start number state (Err stop) → HasHalted handed_in start 0 stop s s handed_in
unfolding made_lines
unmade_first handed_in start number state s ChipFault made = absurd made
unmade_first handed_in start number state s Malformed made = absurd made
unmade_first handed_in start number state s Limit made = absurd made
unmade_first handed_in start number state s Unrecognised made = absurd made
unmade_first handed_in start number state s NoMemory made = record {
  text = [];
  stops = inl (record { none = refl; silent = refl; same = refl }, inl (untouched_same s));
}

-- a further line isn't handled
pub halted_on : (play : Play) (v' : World) (handed_in ms ms' : List ModemSeen) (start count : ℕ) (l out : List ℕ) (s t u : Seen) (stop : LineStop) → HasPlayed play handed_in (made_lines start count) count s t ms → l ≡ made_line start (count + 1)
    → ((w : SmallWorld) → StandsWith (s.marks.answers + 1) play.world t ms w → GoesOn (s.marks.answers + 1) l w (Err stop) v' t u ms' [] out) → stop ≢ Malformed → HasHalted handed_in start count stop s u ms'
halted_on play v' handed_in ms ms' start count l out s t u stop p is goes fits = record {
  text = p.text;
  stops = subst (λ (z : List ℕ). Stops handed_in s u ms' (made_lines start count) p.text z stop) is
      (stopped_on handed_in s t u play.world v' ms ms' (made_lines start count) p.text l [] out stop (p.replayed, p.stands) goes (λ bad. absurd (fits bad)) (λ bad. absurd (fits bad)));
}

-- nor made
pub unmade_on : (play : Play) (handed_in ms : List ModemSeen) (start count number state : ℕ) (s t : Seen) (stop : LineStop) → HasPlayed play handed_in (made_lines start count) count s t ms → Makes start number state (Err stop) → HasHalted handed_in start count stop s t ms
unmade_on play handed_in ms start count number state s t ChipFault p made = absurd made
unmade_on play handed_in ms start count number state s t Malformed p made = absurd made
unmade_on play handed_in ms start count number state s t Limit p made = absurd made
unmade_on play handed_in ms start count number state s t Unrecognised p made = absurd made
unmade_on play handed_in ms start count number state s t NoMemory p made =
    halted_on play play.world handed_in ms ms start count (made_line start (count + 1)) [] s t t NoMemory p refl
    (λ w stands. inl (record { holds = stands.world.card.bench; counts = idle_counted (is_far w.plan) t })) (λ bad. absurd cc)

-- a line behind played ones isn't the first
pub behind_first : (play : Play) (handed_in ms : List ModemSeen) (start count number : ℕ) (s t : Seen) → HasPlayed play handed_in (made_lines start count) count s t ms → number ≡ count + 1 → number ≢ 1
behind_first play handed_in ms start count number s t p is = λ one. absurd (omega (arith, p.many, is, one))

-- the lines stop, or all are played
pub stopped_at : (handed_in : List ModemSeen) (start count number : ℕ) (stop : LineStop) (s t : Seen) (ms : List ModemSeen) → number ≡ count + 1 → HasHalted handed_in start count stop s t ms → IsStoppedAt handed_in start (record { stop = stop; number = number }) s t ms
stopped_at handed_in start count number stop s t ms is h = record { count = count; text = h.text; number_is = is; stops = h.stops }

pub shown : (play : Play) (handed_in : List ModemSeen) (start lines : ℕ) (s t : Seen) (ms : List ModemSeen) → HasPlayed play handed_in (made_lines start lines) lines s t ms → IsShown handed_in start lines play.tally s t ms
shown play handed_in start lines s t ms p = record { text = p.text; replayed = p.replayed; counts = p.counts }
