-- What marks tell of the history, and how many lines made one.
use Rattle.std.proofs.Common.{◌≡◌, ℕ, Bool, true, false, cond, List, [], ◌∷◌, length, refl, Option, None, Some}
use Rattle.std.proofs.lemmas.Bool.{cond_both, false≢true}
use Rattle.small_card.specs.Histories.{History}
use Rattle.small_card.specs.Units.{CardUnit}
use Rattle.small_card.specs.declared.types.Answer.{Answer}
use Rattle.small_card.specs.declared.types.Answer.TheVariants as answer
use Rattle.small_card.specs.declared.types.Command.{Command}
use Rattle.small_card.specs.declared.types.Command.TheVariants as command
use Rattle.package_codec.specs.Replies.{reply, unit_of}
use Rattle.card_store.specs.Holding.{Mark, standing, tried}
use Rattle.esipa_codec.specs.Assistant.{IpaEvent, poll, push, message, probe, restart, act_of}
use Rattle.esipa_codec.specs.declared.messages.Post.{Post}
use Rattle.iot_schedule.specs.declared.types.Line.{Line}
use Rattle.iot_schedule.specs.declared.types.Line.TheVariants as line
use Rattle.modem_bank.specs.Modems.{Seen}
use Rattle.iot_schedule.specs.declared.types.Device.{Device}
use Rattle.small_world.specs.Acting.{command_of, posts_of, hearing, told_answer, is_answered, asked_card, done, acts}
use Rattle.small_world.specs.Lines.{told_loaded, handed, polled, gone_down, acted, attended}
use Rattle.small_world.specs.Network.{is_known, picked, joined, gone_up}
use Rattle.small_world.specs.Runs.{Turn, after_turn, world_after}
use Rattle.small_world.specs.Stepping.{attempt, lost_step, answered_step, commanded, woken, booted}
use Rattle.small_world.specs.Worlds.{SmallWorld, started, start_world, eid_of}
use Rattle.small_world.specs.declared.reply.Reply.{Reply}

-- what a line may do to the card's part of the world: nothing, a command, or a boot
pub record Steps (P : History → List Mark → Bool → Type 0) : Type 0 where
  pub command : (v : SmallWorld) (c : Command) (lost : Bool) → P v.history v.marks v.lit → P (commanded c lost v).history (commanded c lost v).marks (commanded c lost v).lit
  pub boot : (v : SmallWorld) (lost taken : Bool) → P v.history v.marks v.lit → P (booted lost taken v).history (booted lost taken v).marks (booted lost taken v).lit

abbrev pub Of : (History → List Mark → Bool → Type 0) → SmallWorld → Type 0
Of P w = P w.history w.marks w.lit

asked_steps : (P : History → List Mark → Bool → Type 0) (w : SmallWorld) (c : Command) (lost : Bool) → Steps P → Of P w → Of P (asked_card c lost w)
unfolding asked_card told_answer
asked_steps P w c lost s p =
    let now : Of P (commanded c lost w) = s.command w c lost p in
    cond_both (is_answered lost w) (told_answer (reply w.history c) (commanded c lost w)) (commanded c lost w) (Of P) (λ _. now) (λ _. now)

done_steps : (P : History → List Mark → Bool → Type 0) (w : SmallWorld) (o : Option Command) (ps : List Post) (lost : Bool) → Steps P → Of P w → Of P (done o ps lost w)
done_steps P w None ps lost s p = p
done_steps P w (Some c) ps lost s p = asked_steps P w c lost s p

acts_steps : (P : History → List Mark → Bool → Type 0) (w : SmallWorld) (e : IpaEvent) (lost : Bool) → Steps P → Of P w → Of P (acts e lost w)
unfolding acts
acts_steps P w e lost s p = done_steps P (hearing e w) (command_of (act_of w.assistant e)) (posts_of (act_of w.assistant e)) lost s p

loaded_steps : (P : History → List Mark → Bool → Type 0) (w : SmallWorld) (a : Answer) → Of P w → Of P (told_loaded a w)
unfolding told_answer
loaded_steps P w answer.Personalised p = p
loaded_steps P w (answer.Loaded r) p = p
loaded_steps P w (answer.LoadRefused f) p = p
loaded_steps P w (answer.RolledBack seq) p = p
loaded_steps P w answer.NotPermitted p = p
loaded_steps P w answer.Removed p = p
loaded_steps P w answer.Absent p = p
loaded_steps P w (answer.Results rs) p = p
loaded_steps P w (answer.Eims es) p = p
loaded_steps P w (answer.Associated association) p = p
loaded_steps P w (answer.InitialRefused code) p = p
loaded_steps P w answer.Malformed p = p
loaded_steps P w answer.AlreadyPersonal p = p

handed_steps : (P : History → List Mark → Bool → Type 0) (w : SmallWorld) (good : Bool) (bytes : List ℕ) (lost : Bool) → Steps P → Of P w → Of P (handed good bytes lost w)
unfolding handed
handed_steps P w good bytes lost s p =
    let c : Command = command.Load good bytes in
    let now : Of P (commanded c lost w) = s.command w c lost p in
    cond_both (is_answered lost w) (told_loaded (reply w.history c) (commanded c lost w)) (commanded c lost w) (Of P) (λ _. loaded_steps P (commanded c lost w) (reply w.history c) now) (λ _. now)

polled_steps : (P : History → List Mark → Bool → Type 0) (w : SmallWorld) (id : List ℕ) → Steps P → Of P w → Of P (polled id w)
unfolding polled
polled_steps P w id s p = cond_both (is_known id w.eims) (acts (poll id (eid_of w)) false w) w (Of P) (λ _. acts_steps P w (poll id (eid_of w)) false s p) (λ _. p)

gone_up_steps : (P : History → List Mark → Bool → Type 0) (w : SmallWorld) (o : Option Post) → Of P w → Of P (gone_up o w)
unfolding gone_up
gone_up_steps P w None p = p
gone_up_steps P w (Some q) p = p

gone_down_steps : (P : History → List Mark → Bool → Type 0) (w : SmallWorld) (o : Option Reply) (good lost : Bool) → Steps P → Of P w → Of P (gone_down o good lost w)
unfolding gone_down
gone_down_steps P w None good lost s p = p
gone_down_steps P w (Some r) good lost s p = acts_steps P w (message r.from r.message good) lost s p

-- what commands and boots keep of the card's part, each line keeps
pub acted_steps : (P : History → List Mark → Bool → Type 0) (w : SmallWorld) (l : Line) (lost taken : Bool) → Steps P → Of P w → Of P (acted l lost taken w)
unfolding acted joined
acted_steps P w (line.Eim id) lost taken s p = p
acted_steps P w (line.Initial id address key) lost taken s p = s.command w (command.Initial id address key) lost p
acted_steps P w (line.Bind id association last) lost taken s p = p
acted_steps P w (line.Order id body) lost taken s p = p
acted_steps P w (line.Skip id) lost taken s p = p
acted_steps P w (line.Poll id) lost taken s p = polled_steps P w id s p
acted_steps P w (line.Up pick) lost taken s p = gone_up_steps P w (picked pick w.to_eims) p
acted_steps P w (line.Down pick good) lost taken s p = gone_down_steps P w (picked pick w.to_ipa) good lost s p
acted_steps P w (line.Load good bytes) lost taken s p = handed_steps P w good bytes lost s p
acted_steps P w line.Push lost taken s p = acts_steps P w push lost s p
acted_steps P w (line.Probe passed) lost taken s p = acts_steps P w (probe passed) lost s p
acted_steps P w line.Rollback lost taken s p = s.command w command.Rollback lost p
acted_steps P w line.Restart lost taken s p = acts_steps P w restart lost s p
acted_steps P w (line.Cut calls tear) lost taken s p = p
acted_steps P w line.Boot lost taken s p = s.boot w lost taken p
acted_steps P w line.Show lost taken s p = p
acted_steps P w (line.Kept id) lost taken s p = p
acted_steps P w (line.Detach at) lost taken s p = p
acted_steps P w line.Modems lost taken s p = p

-- and so does each run
pub run_steps : (P : History → List Mark → Bool → Type 0) (w : SmallWorld) (ts : List Turn) → Steps P → Of P w → Of P (world_after w ts)
unfolding world_after after_turn attended
run_steps P w [] s p = p
run_steps P w (t ∷ ts) s p = acted_steps P (world_after w ts) t.line t.lost t.taken s (run_steps P w ts s p)

-- the newest mark has this number of units
abbrev pub Newest : List Mark → ℕ → Type 0
Newest [] n = ⊥
Newest (m ∷ older) n = m.units ≡ n

-- the newest mark is of the whole history, and nothing is in progress on a lit card
pub record IsMarked (h : History) (ms : List Mark) (lit : Bool) : Type 0 where
  pub newest : Newest ms (length h.units)
  pub rests : lit ≡ true → attempt ms ≡ None

tried_newest : (o : Option CardUnit) (ms : List Mark) (n : ℕ) → Newest ms n → Newest (tried o ms) n
unfolding tried
tried_newest o [] n k = k
tried_newest o (m ∷ ms) n k = k

command_marked : (v : SmallWorld) (c : Command) (lost : Bool) → Of IsMarked v → Of IsMarked (commanded c lost v)
unfolding commanded attempt
command_marked v c lost k =
    cond_both v.lit (cond lost (lost_step c v) (answered_step c v)) v (Of IsMarked)
    (λ _. cond_both lost (lost_step c v) (answered_step c v) (Of IsMarked)
    (λ _. record { newest = tried_newest (unit_of v.history c) v.marks (length v.history.units) k.newest; rests = λ e. absurd (false≢true e) })
    (λ _. record { newest = refl; rests = λ e. refl }))
    (λ _. k)

boot_marked : (v : SmallWorld) (lost taken : Bool) → Of IsMarked v → Of IsMarked (booted lost taken v)
unfolding booted attempt
boot_marked v lost taken k =
    cond_both lost (record v { lit = false; plan = None })
    (record v { history = woken taken v; marks = standing (woken taken v) ∷ v.marks; lit = true; plan = None }) (Of IsMarked)
    (λ _. record { newest = k.newest; rests = λ e. absurd (false≢true e) })
    (λ _. record { newest = refl; rests = λ e. refl })

marked_steps : Steps IsMarked
marked_steps = record { command = command_marked; boot = boot_marked }

start_marked : (d : Device) (handed_in : List Seen) → Of IsMarked (start_world d handed_in)
unfolding start_world started attempt
start_marked d handed_in = record { newest = refl; rests = λ e. refl }

pub run_marked : (d : Device) (handed_in : List Seen) (ts : List Turn) → Of IsMarked (world_after (start_world d handed_in) ts)
run_marked d handed_in ts = run_steps IsMarked (start_world d handed_in) ts marked_steps (start_marked d handed_in)
