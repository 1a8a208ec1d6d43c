-- Each line makes a mark exactly where it steps the card and isn't lost.
use Rattle.std.proofs.Common.{◌≡◌, ℕ, ◌+◌, ◌≤◌, Bool, true, false, not, cond, List, [], ◌∷◌, length, refl, sym, subst, arith, Option, None, Some}
use Rattle.std.specs.Prelude.{◌&&◌, ◌||◌, is_some}
use Rattle.std.proofs.lemmas.Bool.{cond_both}
use Rattle.small_card.specs.Units.{CardUnit}
use Rattle.small_card.specs.declared.types.Answer.{Answer}
use Rattle.small_card.specs.declared.types.Answer.TheVariants as answer
use Rattle.small_card.specs.declared.types.Command.{Command}
use Rattle.small_card.specs.declared.types.Command.TheVariants as command
use Rattle.package_codec.specs.Replies.{reply, unit_of}
use Rattle.card_store.specs.Holding.{Mark, tried}
use Rattle.esipa_codec.specs.Assistant.{IpaEvent, poll, push, message, probe, restart, act_of}
use Rattle.esipa_codec.specs.declared.messages.Post.{Post}
use Rattle.iot_schedule.specs.declared.types.Line.{Line}
use Rattle.iot_schedule.specs.declared.types.Line.TheVariants as line
use Rattle.iot_schedule.specs.declared.types.Device.{Device}
use Rattle.modem_bank.specs.Modems.{Seen}
use Rattle.small_world.specs.Acting.{command_of, posts_of, hearing, told_answer, is_answered, asked_card, done, acts}
use Rattle.small_world.specs.Lines.{told_loaded, handed, polled, gone_down, acted, attended}
use Rattle.small_world.specs.Network.{is_known, picked, joined, gone_up}
use Rattle.small_world.specs.Runs.{Turn, given, brought, steps_card, after_turn, world_after}
use Rattle.small_world.specs.Stepping.{lost_step, answered_step, commanded, booted}
use Rattle.small_world.specs.Stretches.{Fate, fate_of, fates, stretched, stretches}
use Rattle.small_world.specs.Worlds.{SmallWorld, started, start_world, eid_of}
use Rattle.small_world.specs.declared.reply.Reply.{Reply}

-- one more mark where this is so
abbrev pub More : Bool → List Mark → List Mark → Type 0
More b old new = length new ≡ cond b 1 0 + length old

tried_length : (o : Option CardUnit) (ms : List Mark) → length (tried o ms) ≡ length ms
unfolding tried
tried_length o [] = refl
tried_length o (m ∷ ms) = refl

-- a command, or none, given to a card
abbrev pub asked : Option Command → Bool → Bool → Bool
asked o lit lost = (lit && is_some o) && not lost

commanded_more : (w : SmallWorld) (c : Command) (lost : Bool) → More (asked (Some c) w.lit lost) w.marks (commanded c lost w).marks
unfolding commanded
commanded_more w c lost =
    elim w.lit as (λ b. More ((b && true) && not lost) w.marks (cond b (cond lost (lost_step c w) (answered_step c w)) w).marks) [
      | false ↦ omega arith
      | true ↦ elim lost as (λ l. More ((true && true) && not l) w.marks (cond l (lost_step c w) (answered_step c w)).marks) [
        | true ↦ let n = tried_length (unit_of w.history c) w.marks in omega (arith, n)
        | false ↦ let n = tried_length (unit_of w.history c) w.marks in omega (arith, n)
      ]
    ]

told_marks : (w : SmallWorld) (a : Answer) → (told_answer a w).marks ≡ w.marks
unfolding told_answer
told_marks w a = refl

asked_more : (w : SmallWorld) (c : Command) (lost : Bool) → More (asked (Some c) w.lit lost) w.marks (asked_card c lost w).marks
unfolding asked_card
asked_more w c lost =
    cond_both (is_answered lost w) (told_answer (reply w.history c) (commanded c lost w)) (commanded c lost w) (λ v. More (asked (Some c) w.lit lost) w.marks v.marks)
    (λ _. subst (More (asked (Some c) w.lit lost) w.marks) (sym (told_marks (commanded c lost w) (reply w.history c))) (commanded_more w c lost))
    (λ _. commanded_more w c lost)

none_asked : (lit lost : Bool) (ms : List Mark) → More (asked None lit lost) ms ms
none_asked true lost ms = omega arith
none_asked false lost ms = omega arith

done_more : (w : SmallWorld) (o : Option Command) (ps : List Post) (lost : Bool) → More (asked o w.lit lost) w.marks (done o ps lost w).marks
done_more w None ps lost = none_asked w.lit lost w.marks
done_more w (Some c) ps lost = asked_more w c lost

acts_more : (w : SmallWorld) (e : IpaEvent) (lost : Bool) → More (asked (command_of (act_of w.assistant e)) w.lit lost) w.marks (acts e lost w).marks
unfolding acts
acts_more w e lost = done_more (hearing e w) (command_of (act_of w.assistant e)) (posts_of (act_of w.assistant e)) lost

loaded_marks : (w : SmallWorld) (a : Answer) → (told_loaded a w).marks ≡ w.marks
unfolding told_answer
loaded_marks w answer.Personalised = refl
loaded_marks w (answer.Loaded r) = refl
loaded_marks w (answer.LoadRefused f) = refl
loaded_marks w (answer.RolledBack seq) = refl
loaded_marks w answer.NotPermitted = refl
loaded_marks w answer.Removed = refl
loaded_marks w answer.Absent = refl
loaded_marks w (answer.Results rs) = refl
loaded_marks w (answer.Eims es) = refl
loaded_marks w (answer.Associated association) = refl
loaded_marks w (answer.InitialRefused code) = refl
loaded_marks w answer.Malformed = refl
loaded_marks w answer.AlreadyPersonal = refl

handed_more : (w : SmallWorld) (good : Bool) (bytes : List ℕ) (lost : Bool) → More (asked (Some (command.Load good bytes)) w.lit lost) w.marks (handed good bytes lost w).marks
unfolding handed
handed_more w good bytes lost =
    let c : Command = command.Load good bytes in
    cond_both (is_answered lost w) (told_loaded (reply w.history c) (commanded c lost w)) (commanded c lost w) (λ v. More (asked (Some c) w.lit lost) w.marks v.marks)
    (λ _. subst (More (asked (Some c) w.lit lost) w.marks) (sym (loaded_marks (commanded c lost w) (reply w.history c))) (commanded_more w c lost))
    (λ _. commanded_more w c lost)

polled_marks : (w : SmallWorld) (id : List ℕ) → (polled id w).marks ≡ w.marks
unfolding polled acts act_of command_of
polled_marks w id = cond_both (is_known id w.eims) (acts (poll id (eid_of w)) false w) w (λ v. v.marks ≡ w.marks) (λ _. refl) (λ _. refl)

gone_up_marks : (w : SmallWorld) (o : Option Post) → (gone_up o w).marks ≡ w.marks
unfolding gone_up
gone_up_marks w None = refl
gone_up_marks w (Some p) = refl

gone_down_more : (w : SmallWorld) (o : Option Reply) (good lost : Bool) → More (asked (brought w good o) w.lit lost) w.marks (gone_down o good lost w).marks
unfolding gone_down
gone_down_more w None good lost = none_asked w.lit lost w.marks
gone_down_more w (Some r) good lost = acts_more w (message r.from r.message good) lost

restart_marks : (w : SmallWorld) (lost : Bool) → (acts restart lost w).marks ≡ w.marks
unfolding acts act_of command_of
restart_marks w lost = refl

boot_more : (w : SmallWorld) (lost taken : Bool) → More (not lost) w.marks (booted lost taken w).marks
unfolding booted
boot_more w true taken = omega arith
boot_more w false taken = omega arith

or_no : (b : Bool) → b ≡ b || false
or_no true = refl
or_no false = refl

-- a line that is no boot makes a mark where it is asked for
step_more : (w : SmallWorld) (o : Option Command) (lost : Bool) (ms : List Mark) → More (asked o w.lit lost) w.marks ms → More (((w.lit && is_some o) || false) && not lost) w.marks ms
step_more w o lost ms m = subst (λ b. More (b && not lost) w.marks ms) (or_no (w.lit && is_some o)) m

rest_more : (w : SmallWorld) (lost : Bool) (ms : List Mark) → ms ≡ w.marks → More (((w.lit && false) || false) && not lost) w.marks ms
rest_more w lost ms e = step_more w None lost ms (subst (More (asked None w.lit lost) w.marks) (sym e) (none_asked w.lit lost w.marks))

any_boot : (b lost : Bool) (old new : List Mark) → More (not lost) old new → More ((b || true) && not lost) old new
any_boot true lost old new m = m
any_boot false lost old new m = m

pub acted_more : (w : SmallWorld) (l : Line) (lost taken : Bool) → More (steps_card w l && not lost) w.marks (acted l lost taken w).marks
unfolding acted steps_card given joined
acted_more w (line.Eim id) lost taken = rest_more w lost w.marks refl
acted_more w (line.Initial id address key) lost taken = step_more w (Some (command.Initial id address key)) lost (commanded (command.Initial id address key) lost w).marks (commanded_more w (command.Initial id address key) lost)
acted_more w (line.Bind id association last) lost taken = rest_more w lost w.marks refl
acted_more w (line.Order id body) lost taken = rest_more w lost w.marks refl
acted_more w (line.Skip id) lost taken = rest_more w lost w.marks refl
acted_more w (line.Poll id) lost taken = rest_more w lost (polled id w).marks (polled_marks w id)
acted_more w (line.Up pick) lost taken = rest_more w lost (gone_up (picked pick w.to_eims) w).marks (gone_up_marks w (picked pick w.to_eims))
acted_more w (line.Down pick good) lost taken = step_more w (brought w good (picked pick w.to_ipa)) lost (gone_down (picked pick w.to_ipa) good lost w).marks (gone_down_more w (picked pick w.to_ipa) good lost)
acted_more w (line.Load good bytes) lost taken = step_more w (Some (command.Load good bytes)) lost (handed good bytes lost w).marks (handed_more w good bytes lost)
acted_more w line.Push lost taken = step_more w (command_of (act_of w.assistant push)) lost (acts push lost w).marks (acts_more w push lost)
acted_more w (line.Probe passed) lost taken = step_more w (command_of (act_of w.assistant (probe passed))) lost (acts (probe passed) lost w).marks (acts_more w (probe passed) lost)
acted_more w line.Rollback lost taken = step_more w (Some command.Rollback) lost (commanded command.Rollback lost w).marks (commanded_more w command.Rollback lost)
acted_more w line.Restart lost taken = rest_more w lost (acts restart lost w).marks (restart_marks w lost)
acted_more w (line.Cut calls tear) lost taken = rest_more w lost w.marks refl
acted_more w line.Boot lost taken = any_boot (w.lit && false) lost w.marks (booted lost taken w).marks (boot_more w lost taken)
acted_more w line.Show lost taken = rest_more w lost w.marks refl
acted_more w (line.Kept id) lost taken = rest_more w lost w.marks refl
acted_more w (line.Detach at) lost taken = rest_more w lost w.marks refl
acted_more w line.Modems lost taken = rest_more w lost w.marks refl

turn_more : (w : SmallWorld) (t : Turn) → More (fate_of w t).marked w.marks (after_turn w t).marks
unfolding after_turn attended fate_of
turn_more w t = acted_more w t.line t.lost t.taken

or_some : (ss : List (List Fate)) (f : Fate) → 1 ≤ length ss → (1 ≤ length (stretched f ss)) × (length (stretched f ss) ≡ cond f.marked 1 0 + length ss)
unfolding stretched
or_some [] f e = absurd (omega (arith, e))
or_some (s ∷ ss) f e =
    elim f.marked as (λ b. (1 ≤ length (cond b ([] ∷ (f ∷ s) ∷ ss) ((f ∷ s) ∷ ss))) × (length (cond b ([] ∷ (f ∷ s) ∷ ss) ((f ∷ s) ∷ ss)) ≡ cond b 1 0 + length (s ∷ ss))) [
      | true ↦ (omega arith, omega arith)
      | false ↦ (omega arith, omega arith)
    ]

stretches_some : (fs : List Fate) → 1 ≤ length (stretches fs)
unfolding stretches
stretches_some [] = omega arith
stretches_some (f ∷ fs) = (or_some (stretches fs) f (stretches_some fs)).0

-- there is one stretch for each mark
pub stretches_length : (start : SmallWorld) (ts : List Turn) → length start.marks ≡ 1 → length (stretches (fates start ts)) ≡ length (world_after start ts).marks
unfolding stretches fates world_after
stretches_length start [] e = sym e
stretches_length start (t ∷ ts) e =
    let w : SmallWorld = world_after start ts in
    let f : Fate = fate_of w t in
    let ss : List (List Fate) = stretches (fates start ts) in
    let grown = (or_some ss f (stretches_some (fates start ts))).1 in
    let before = stretches_length start ts e in
    let after = turn_more w t in
    omega (arith, grown, before, after)

pub start_marks : (d : Device) (handed_in : List Seen) → length (start_world d handed_in).marks ≡ 1
unfolding start_world started
start_marks d handed_in = refl
