-- What the first line makes of a bench.
use Rattle.std.proofs.Common.{◌≡◌, ℕ, ◌+◌, ◌≤◌, true, false, List, [], ◌∷◌, Option, Some, None, Err, refl, sym, ◌∙◌, ap, subst}
use Rattle.std.proofs.lemmas.Bool.{false≢true}
use Rattle.iot_bytes.specs.Causes.{Rose}
use Rattle.chip_port.specs.declared.chip.Tear.{Tear}
use Rattle.chip_port.specs.Seen.{Seen, Tally, Marks, no_plan}
use Rattle.chip_port.specs.Rules.{Untouched, Sound}
use Rattle.chip_port.specs.Runs.{Ran, Went, Smooth, Broke, Less, LetsPass}
use Rattle.small_card.specs.Cards.{FullCard}
use Rattle.small_card.specs.Fresh.{fresh}
use Rattle.small_card.specs.Histories.{full_of}
use Rattle.small_card.specs.Valid.{IsValid}
use Rattle.small_card.proofs.Validity.{full_start, alone_legal}
use Rattle.card_store.specs.Holding.{Holds, standing}
use Rattle.card_store.specs.declared.ends.MakeError.{MakeError}
use Rattle.card_store.specs.declared.ends.MakeError.TheVariants as make
use Rattle.euicc_core.specs.Answers.{Answers}
use Rattle.euicc_core.specs.Openings.{Personalises}
use Rattle.euicc_core.proofs.Kept.{first_held}
use Rattle.iot_schedule.specs.declared.types.Device.{Device}
use Rattle.modem_bank.specs.Modems.{Seen as ModemSeen}
use Rattle.small_world.specs.Stepping.{attempt}
use Rattle.small_world.specs.Worlds.{start_world, started}
use Rattle.world_card.specs.Benches.{IsSound}
use Rattle.world_card.specs.Counts.{KeepsPast, answered_fate}
use Rattle.world_card.specs.Starts.{IsStarted, IsUnstarted, StartsOn}
use Rattle.world_card.proofs.Counting.{answered_counted, since, IsSameCount, same_past}

-- a plan that was dropped
same_count : (s b : Seen) → Untouched no_plan s b → IsSameCount s b
same_count s b d = record {
  told = d.told;
  faults = d.faults;
  cuts = ap (λ (t : Tally). t.cuts) d.tally_is;
  breaks = ap (λ (t : Tally). t.breaks) d.tally_is;
  uses = ap (λ (t : Tally). t.uses) d.tally_is;
  plans = ap (λ (t : Tally). t.plans) d.tally_is;
  answers = ap (λ (m : Marks). m.answers) d.keeps.marks;
  past = subst (λ (m : Marks). KeepsPast s.marks m) (sym d.keeps.marks) (same_past s.marks);
}

start_sound : (d : Device) (handed_in : List ModemSeen) → IsValid (fresh d.eid d.profiles) → IsSound (start_world d handed_in)
unfolding start_world started attempt
start_sound d handed_in v = record {
  legal = alone_legal (fresh d.eid d.profiles) v;
  tried = tt;
  newest = record { mark = standing (record { start = fresh d.eid d.profiles; units = [] }); older = []; newest = refl; whole = refl };
  rests = λ is. refl;
}

pub card_started : (d : Device) (held : Option FullCard) (P : List ℕ → Type 0) (s b t : Seen) → Sound 346624 b → Sound 346624 t → s.told ≡ true → Untouched no_plan s b → held ≡ Some (fresh d.eid d.profiles) → Answers P (fresh d.eid d.profiles) b t → IsStarted d held s t
unfolding start_world started Went
card_started d held P s b t before now told dropped is a =
    let f = fresh d.eid d.profiles in
    let full : full_of (record { start = f; units = [] }) ≡ f = full_start f in
    let answered : Answers P (full_of (record { start = f; units = [] })) b t = subst (λ (g : FullCard). Answers P g b t) (sym full) a in
    let answers : b.marks.answers ≡ s.marks.answers = ap (λ (m : Marks). m.answers) dropped.keeps.marks in
    let holds = subst (λ n. Holds t (n + 1) (record { start = f; units = [] }) (standing (record { start = f; units = [] }) ∷ [])) answers (first_held b t P (record { start = f; units = [] }) before now answered) in
    let none : b.tally.plan ≡ None = ap (λ (x : Tally). x.plan) dropped.tally_is in
    let smooth : Smooth 10000 b.tally t.tally = a.ended.went in
    record {
      stands = λ handed_in. record {
        sound = start_sound d handed_in a.settled.stands.valid;
        held_is = is ∙ ap (λ (g : FullCard). Some g) (sym full);
        bench = record {
          told = a.ended.told;
          holds = holds;
          lit = λ lit. record { settled = answered.settled; powered = a.ended.powered };
          dark = λ dark. absurd (false≢true (sym dark));
        };
        plan = subst (λ (p : Option (ℕ × Tear)). Less 10000 p t.tally.plan) none smooth.plan;
      };
      counts = since (answered_fate true) s b t (same_count s b dropped) (answered_counted true _ _ b t (dropped.told ∙ told) a.ended);
    }

pub start_failed : (P : List ℕ → Type 0) (s b t : Seen) → s.told ≡ true → Untouched no_plan s b → Ran 10000 false P b t → IsUnstarted s t
unfolding Went
start_failed P s b t told dropped r =
    let w : Broke 10000 b.tally t.tally = r.went in
    let same = same_count s b dropped in
    let none : b.tally.plan ≡ None = ap (λ (x : Tally). x.plan) dropped.tally_is in
    record {
      told = r.told ∙ sym told;
      marks = r.marks ∙ dropped.keeps.marks;
      plans = w.plans ∙ same.plans;
      most = subst (λ n. t.tally.uses ≤ n + 10000) same.uses w.most;
      broke = λ powered. subst (λ n. Rose n t.tally.breaks) same.breaks
          (w.early (ap (λ (x : Tally). x.cut) dropped.tally_is ∙ powered) (subst (λ (p : Option (ℕ × Tear)). LetsPass 10000 p) (sym none) tt)).0;
    }

-- a bench that stays as it is, twice, but for its counts
pub untouched_then : (f g : Tally → Tally) (s b t : Seen) → Untouched f s b → Untouched g b t → Untouched (λ x. g (f x)) s t
untouched_then f g s b t d u = record {
  told = u.told ∙ d.told;
  faults = u.faults ∙ d.faults;
  keeps = record {
    reads = u.keeps.reads ∙ d.keeps.reads;
    leaves = λ i. (λ was. (u.keeps.leaves i).0 ((d.keeps.leaves i).0 was), λ now. (d.keeps.leaves i).1 ((u.keeps.leaves i).1 now));
    marks = u.keeps.marks ∙ d.keeps.marks;
  };
  left = λ n i. (λ was. (u.left n i).0 ((d.left n i).0 was), λ now. (d.left n i).1 ((u.left n i).1 now));
  tally_is = u.tally_is ∙ ap g d.tally_is;
}

pub start_refused : (d : Device) (card : FullCard) (e : MakeError) (s b t : Seen) → s.told ≡ true → Untouched no_plan s b → Personalises card (Err e) b t → StartsOn d (Err e) s t
start_refused d card make.Failed s b t told dropped p = start_failed _ s b t told dropped p
start_refused d card make.NoMemory s b t told dropped p = untouched_then no_plan (λ x. x) s b t dropped p
