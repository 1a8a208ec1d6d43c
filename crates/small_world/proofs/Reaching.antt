-- A line does to the card what its command does, what a boot does, or nothing.
use Rattle.std.proofs.Common.{◌≡◌, ℕ, Bool, true, false, cond, List, [], ◌∷◌, refl, ◌∙◌, subst, Option, None, Some}
use Rattle.std.proofs.lemmas.Bool.{cond_both}
use Rattle.small_card.specs.Histories.{History}
use Rattle.small_card.specs.Units.{CardUnit, load}
use Rattle.small_card.specs.declared.types.Answer.{Answer}
use Rattle.small_card.specs.declared.types.Answer.TheVariants as answer
use Rattle.small_card.specs.declared.types.Command.{Command}
use Rattle.small_card.specs.declared.types.Command.TheVariants as command
use Rattle.small_card.specs.declared.types.Package.{Package}
use Rattle.small_card.specs.declared.types.Refused.{Refused}
use Rattle.std.proofs.Common.{Result, Ok, Err}
use Rattle.card_store.specs.Holding.{Mark, tried}
use Rattle.package_codec.specs.Checks.{check}
use Rattle.package_codec.specs.Replies.{reply, unit_of_load, unit_of, after}
use Rattle.esipa_codec.specs.Assistant.{IpaEvent, poll, push, message, probe, restart, act_of}
use Rattle.esipa_codec.specs.declared.messages.Post.{Post}
use Rattle.iot_schedule.specs.declared.types.Line.{Line}
use Rattle.iot_schedule.specs.declared.types.Line.TheVariants as line
use Rattle.small_world.specs.Acting.{command_of, posts_of, hearing, told_answer, is_answered, asked_card, done, acts}
use Rattle.small_world.specs.Lines.{told_loaded, handed, polled, gone_down, acted}
use Rattle.small_world.specs.Network.{is_known, picked, joined, gone_up}
use Rattle.small_world.specs.Runs.{given, brought, is_boot}
use Rattle.small_world.specs.Stepping.{attempt, lost_step, answered_step, commanded, IsSameCard}
use Rattle.small_world.specs.Stretches.{is_cut}
use Rattle.small_world.specs.Taking.{Hands}
use Rattle.small_world.specs.Worlds.{SmallWorld, eid_of}
use Rattle.small_world.specs.declared.reply.Reply.{Reply}

itself : (w : SmallWorld) → IsSameCard w w
itself w = record { history = refl; marks = refl; lit = refl; plan = refl }

then_same : (u v w : SmallWorld) → IsSameCard u v → IsSameCard v w → IsSameCard u w
then_same u v w a b = record { history = b.history ∙ a.history; marks = b.marks ∙ a.marks; lit = b.lit ∙ a.lit; plan = b.plan ∙ a.plan }

-- whatever the assistant heard, a command does the same to the card
heard_same : (w : SmallWorld) (e : IpaEvent) (c : Command) (lost : Bool) → IsSameCard (commanded c lost w) (commanded c lost (hearing e w))
unfolding commanded
heard_same w e c lost =
    elim w.lit as (λ b. IsSameCard (cond b (cond lost (lost_step c w) (answered_step c w)) w) (cond b (cond lost (lost_step c (hearing e w)) (answered_step c (hearing e w))) (hearing e w))) [
      | false ↦ record { history = refl; marks = refl; lit = refl; plan = refl }
      | true ↦ elim lost as (λ l. IsSameCard (cond l (lost_step c w) (answered_step c w)) (cond l (lost_step c (hearing e w)) (answered_step c (hearing e w)))) [
        | true ↦ record { history = refl; marks = refl; lit = refl; plan = refl }
        | false ↦ record { history = refl; marks = refl; lit = refl; plan = refl }
      ]
    ]

told_same : (w : SmallWorld) (a : Answer) → IsSameCard w (told_answer a w)
unfolding told_answer
told_same w a = record { history = refl; marks = refl; lit = refl; plan = refl }

asked_same : (w : SmallWorld) (c : Command) (lost : Bool) → IsSameCard (commanded c lost w) (asked_card c lost w)
unfolding asked_card
asked_same w c lost = cond_both (is_answered lost w) (told_answer (reply w.history c) (commanded c lost w)) (commanded c lost w) (IsSameCard (commanded c lost w)) (λ _. told_same (commanded c lost w) (reply w.history c)) (λ _. itself (commanded c lost w))

-- the card after a command, if any
abbrev pub given_step : Option Command → Bool → SmallWorld → SmallWorld
given_step None lost w = w
given_step (Some c) lost w = commanded c lost w

done_same : (w : SmallWorld) (e : IpaEvent) (o : Option Command) (ps : List Post) (lost : Bool) → IsSameCard (given_step o lost w) (done o ps lost (hearing e w))
done_same w e None ps lost = record { history = refl; marks = refl; lit = refl; plan = refl }
done_same w e (Some c) ps lost = then_same (commanded c lost w) (commanded c lost (hearing e w)) (asked_card c lost (hearing e w)) (heard_same w e c lost) (asked_same (hearing e w) c lost)

acts_same : (w : SmallWorld) (e : IpaEvent) (lost : Bool) → IsSameCard (given_step (command_of (act_of w.assistant e)) lost w) (acts e lost w)
unfolding acts
acts_same w e lost = done_same w e (command_of (act_of w.assistant e)) (posts_of (act_of w.assistant e)) lost

loaded_same : (w : SmallWorld) (a : Answer) → IsSameCard w (told_loaded a w)
loaded_same w answer.Personalised = itself w
loaded_same w (answer.Loaded r) = told_same w (answer.Loaded r)
loaded_same w (answer.LoadRefused f) = itself w
loaded_same w (answer.RolledBack seq) = itself w
loaded_same w answer.NotPermitted = itself w
loaded_same w answer.Removed = itself w
loaded_same w answer.Absent = itself w
loaded_same w (answer.Results rs) = itself w
loaded_same w (answer.Eims es) = itself w
loaded_same w (answer.Associated association) = itself w
loaded_same w (answer.InitialRefused code) = itself w
loaded_same w answer.Malformed = itself w
loaded_same w answer.AlreadyPersonal = itself w

handed_same : (w : SmallWorld) (good : Bool) (bytes : List ℕ) (lost : Bool) → IsSameCard (commanded (command.Load good bytes) lost w) (handed good bytes lost w)
unfolding handed
handed_same w good bytes lost =
    let v : SmallWorld = commanded (command.Load good bytes) lost w in
    cond_both (is_answered lost w) (told_loaded (reply w.history (command.Load good bytes)) v) v (IsSameCard v) (λ _. loaded_same v (reply w.history (command.Load good bytes))) (λ _. itself v)

polled_same : (w : SmallWorld) (id : List ℕ) → IsSameCard w (polled id w)
unfolding polled act_of command_of
polled_same w id = cond_both (is_known id w.eims) (acts (poll id (eid_of w)) false w) w (IsSameCard w) (λ _. acts_same w (poll id (eid_of w)) false) (λ _. itself w)

gone_up_same : (w : SmallWorld) (o : Option Post) → IsSameCard w (gone_up o w)
unfolding gone_up
gone_up_same w None = itself w
gone_up_same w (Some p) = record { history = refl; marks = refl; lit = refl; plan = refl }

gone_down_same : (w : SmallWorld) (o : Option Reply) (good lost : Bool) → IsSameCard (given_step (brought w good o) lost w) (gone_down o good lost w)
unfolding gone_down
gone_down_same w None good lost = itself w
gone_down_same w (Some r) good lost = acts_same w (message r.from r.message good) lost

restart_same : (w : SmallWorld) (lost : Bool) → IsSameCard w (acts restart lost w)
unfolding act_of command_of
restart_same w lost = acts_same w restart lost

plain : (w v : SmallWorld) → v.history ≡ w.history → v.marks ≡ w.marks → v.lit ≡ w.lit → v.plan ≡ w.plan → IsSameCard w v
plain w v h m l p = record { history = h; marks = m; lit = l; plan = p }

-- the card after a line that plans no cut and is no boot
line_same : (w : SmallWorld) (l : Line) (lost taken : Bool) → is_boot l ≡ false → is_cut l ≡ false → IsSameCard (given_step (given w l) lost w) (acted l lost taken w)
unfolding acted given joined is_cut
line_same w (line.Eim id) lost taken b k = plain w _ refl refl refl refl
line_same w (line.Initial id address key) lost taken b k = itself (commanded (command.Initial id address key) lost w)
line_same w (line.Bind id association last) lost taken b k = plain w _ refl refl refl refl
line_same w (line.Order id body) lost taken b k = plain w _ refl refl refl refl
line_same w (line.Skip id) lost taken b k = plain w _ refl refl refl refl
line_same w (line.Poll id) lost taken b k = polled_same w id
line_same w (line.Up pick) lost taken b k = gone_up_same w (picked pick w.to_eims)
line_same w (line.Down pick good) lost taken b k = gone_down_same w (picked pick w.to_ipa) good lost
line_same w (line.Load good bytes) lost taken b k = handed_same w good bytes lost
line_same w line.Push lost taken b k = acts_same w push lost
line_same w (line.Probe passed) lost taken b k = acts_same w (probe passed) lost
line_same w line.Rollback lost taken b k = itself (commanded command.Rollback lost w)
line_same w line.Restart lost taken b k = restart_same w lost
line_same w (line.Cut calls tear) lost taken b k = absurd (cc)
line_same w line.Boot lost taken b k = absurd (cc)
line_same w line.Show lost taken b k = itself w
line_same w (line.Kept id) lost taken b k = itself w
line_same w (line.Detach at) lost taken b k = plain w _ refl refl refl refl
line_same w line.Modems lost taken b k = itself w

-- a line that gives a command is no boot, and plans no cut
no_boot : (w : SmallWorld) (l : Line) (c : Command) → given w l ≡ Some c → (is_boot l ≡ false) × (is_cut l ≡ false)
unfolding given is_cut
no_boot w (line.Eim id) c e = (refl, refl)
no_boot w (line.Initial id address key) c e = (refl, refl)
no_boot w (line.Bind id association last) c e = (refl, refl)
no_boot w (line.Order id body) c e = (refl, refl)
no_boot w (line.Skip id) c e = (refl, refl)
no_boot w (line.Poll id) c e = (refl, refl)
no_boot w (line.Up pick) c e = (refl, refl)
no_boot w (line.Down pick good) c e = (refl, refl)
no_boot w (line.Load good bytes) c e = (refl, refl)
no_boot w line.Push c e = (refl, refl)
no_boot w (line.Probe passed) c e = (refl, refl)
no_boot w line.Rollback c e = (refl, refl)
no_boot w line.Restart c e = (refl, refl)
no_boot w (line.Cut calls tear) c e = absurd (cc)
no_boot w line.Boot c e = absurd (cc)
no_boot w line.Show c e = (refl, refl)
no_boot w (line.Kept id) c e = (refl, refl)
no_boot w (line.Detach at) c e = (refl, refl)
no_boot w line.Modems c e = (refl, refl)

pub command_reaches : (w : SmallWorld) (l : Line) (c : Command) (lost taken : Bool) → given w l ≡ Some c → IsSameCard (commanded c lost w) (acted l lost taken w)
command_reaches w l c lost taken e =
    let n = no_boot w l c e in
    subst (λ o. IsSameCard (given_step o lost w) (acted l lost taken w)) e (line_same w l lost taken n.0 n.1)

pub nothing_reaches : (w : SmallWorld) (l : Line) (lost taken : Bool) → given w l ≡ None → is_boot l ≡ false → is_cut l ≡ false → IsSameCard w (acted l lost taken w)
nothing_reaches w l lost taken e b k = subst (λ o. IsSameCard (given_step o lost w) (acted l lost taken w)) e (line_same w l lost taken b k)

lit_marks : (w : SmallWorld) (c : Command) → w.lit ≡ true → (commanded c true w).marks ≡ tried (unit_of w.history c) w.marks
unfolding commanded
lit_marks w c e = rw e refl

lit_history : (w : SmallWorld) (c : Command) → w.lit ≡ true → (commanded c false w).history ≡ after w.history c
unfolding commanded
lit_history w c e = rw e refl

-- what was handed takes effect where the line isn't lost
pub answered_package : (w : SmallWorld) (l : Line) (good taken : Bool) (bytes : List ℕ) → w.lit ≡ true → Hands w l good bytes → (acted l false taken w).history ≡ after w.history (command.Load good bytes)
answered_package w l good taken bytes e k = (command_reaches w l (command.Load good bytes) false taken k).history ∙ lit_history w (command.Load good bytes) e

tried_attempt : (o : Option CardUnit) (ms : List Mark) (u : CardUnit) → attempt (tried o ms) ≡ Some u → o ≡ Some u
unfolding attempt tried
tried_attempt o [] u e = absurd (cc)
tried_attempt o (m ∷ ms) u e = e

load_unit : (r : Result Package Refused) (u : CardUnit) → unit_of_load r ≡ Some u → (p : Package) × (u ≡ load p) × (r ≡ Ok p)
load_unit (Ok p) u e = let is : u ≡ load p = cc in (p, is, refl)
load_unit (Err f) u e = absurd (cc)

unit_is_load : (h : History) (good : Bool) (bytes : List ℕ) (u : CardUnit) → unit_of h (command.Load good bytes) ≡ Some u → (p : Package) × (u ≡ load p) × (check h good bytes ≡ Ok p)
unfolding unit_of
unit_is_load h good bytes u e = load_unit (check h good bytes) u e

-- a package that was handed in a lost line is the attempt only where the checks accept it
pub lost_package : (w : SmallWorld) (l : Line) (good taken : Bool) (bytes : List ℕ) (u : CardUnit) → w.lit ≡ true → Hands w l good bytes → attempt (acted l true taken w).marks ≡ Some u
    → (p : Package) × (u ≡ load p) × (check w.history good bytes ≡ Ok p)
lost_package w l good taken bytes u e k a =
    let c : Command = command.Load good bytes in
    let marks : (acted l true taken w).marks ≡ tried (unit_of w.history c) w.marks = (command_reaches w l c true taken k).marks ∙ lit_marks w c e in
    unit_is_load w.history good bytes u (tried_attempt (unit_of w.history c) w.marks u (subst (λ ms. attempt ms ≡ Some u) marks a))
