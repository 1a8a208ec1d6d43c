-- A line prints `lost` exactly where it is lost.
use Rattle.std.proofs.Common.{◌≡◌, ◌≢◌, ◌↔◌, ℕ, Bool, true, false, List, [], ◌∷◌, ◌++◌, length, refl, ◌∙◌, ap, sym, subst, arith, Option, None, Some}
use Rattle.std.specs.Prelude.{◌&&◌, ◌||◌, ◌==◌, codes, get_or, is_some, nat_lt}
use Rattle.std.proofs.lemmas.Bool.{cond_both, eqb-false, or_from, false≢true}
use Rattle.small_card.specs.Histories.{card_of}
use Rattle.small_card.specs.declared.types.Answer.{Answer}
use Rattle.small_card.specs.declared.types.Answer.TheVariants as answer
use Rattle.small_card.specs.declared.types.Command.{Command}
use Rattle.small_card.specs.declared.types.Command.TheVariants as command
use Rattle.package_codec.specs.Replies.{reply}
use Rattle.esipa_codec.specs.Assistant.{IpaEvent, poll, push, message, probe, act_of}
use Rattle.esipa_codec.specs.Eims.{EimState, bind_end, order_end, skip_end, message_end}
use Rattle.esipa_codec.specs.Records.{records_of}
use Rattle.esipa_codec.specs.declared.ends.BindEnd.{BindEnd}
use Rattle.esipa_codec.specs.declared.ends.BindEnd.TheVariants as bound
use Rattle.esipa_codec.specs.declared.ends.MessageEnd.{MessageEnd}
use Rattle.esipa_codec.specs.declared.ends.MessageEnd.TheVariants as heard_end
use Rattle.esipa_codec.specs.declared.ends.OrderEnd.{OrderEnd}
use Rattle.esipa_codec.specs.declared.ends.OrderEnd.TheVariants as order_answer
use Rattle.esipa_codec.specs.declared.messages.Post.{Post}
use Rattle.iot_schedule.specs.declared.types.Line.{Line}
use Rattle.iot_schedule.specs.declared.types.Line.TheVariants as line
use Rattle.trace_text.specs.Texts.{refused_text, card_text, profiles_text, kept_text}
use Rattle.small_world.specs.Acting.{command_of, posts_of}
use Rattle.small_world.specs.Network.{is_known, eim_of, picked}
use Rattle.small_world.specs.Printing.{step_text, replied, of_eim, up_text, sent_for, obeyed_text, down_text, probe_text, printed}
use Rattle.small_world.specs.Runs.{Turn, given, brought, steps_card, MayTurn}
use Rattle.small_world.specs.Texts.{no_such, off, lost_text, removed_text, said, sent_text, also_sent, pushed_text, bind_text, order_text, skip_text, answer_text, modems_text}
use Rattle.small_world.specs.Worlds.{SmallWorld, eid_of}
use Rattle.small_world.specs.declared.reply.Reply.{Reply}

-- another text than `lost`
abbrev pub IsOther : List ℕ → Type 0
IsOther text = text ≢ codes "lost"

nothing : IsOther []
nothing e = let n : 0 ≡ 108 = ap (λ (xs : List ℕ). get_or xs 0 0) e in omega (arith, n)

-- it begins with another letter
starts : (n : ℕ) (text : List ℕ) → (n == 108) ≡ false → IsOther (n ∷ text)
starts n text o e = eqb-false n 108 o (ap (λ (xs : List ℕ). get_or xs 0 0) e)

-- or with `loa`
loaded : (text : List ℕ) → IsOther (108 ∷ 111 ∷ 97 ∷ text)
loaded text e = let n : 97 ≡ 115 = ap (λ (xs : List ℕ). get_or xs 2 0) e in omega (arith, n)

also_other : (n : ℕ) (ps : List Post) → IsOther (also_sent n ps)
also_other n [] = nothing
also_other n (p ∷ ps) = starts 32 _ refl

removed_other : (c : Command) (n : ℕ) (word more : List ℕ) → (n == 108) ≡ false → IsOther (removed_text c (n ∷ word) ++ more)
removed_other (command.Personalise eid profiles) n word more e = starts n (word ++ more) e
removed_other (command.Load good bytes) n word more e = starts n (word ++ more) e
removed_other command.Rollback n word more e = starts n (word ++ more) e
removed_other (command.Remove seq) n word more e = starts n _ e
removed_other command.Results n word more e = starts n (word ++ more) e
removed_other command.Eims n word more e = starts n (word ++ more) e
removed_other (command.Initial id address key) n word more e = starts n (word ++ more) e

removed_alone : (c : Command) (n : ℕ) (word : List ℕ) → (n == 108) ≡ false → IsOther (removed_text c (n ∷ word))
removed_alone (command.Personalise eid profiles) n word e = starts n word e
removed_alone (command.Load good bytes) n word e = starts n word e
removed_alone command.Rollback n word e = starts n word e
removed_alone (command.Remove seq) n word e = starts n _ e
removed_alone command.Results n word e = starts n word e
removed_alone command.Eims n word e = starts n word e
removed_alone (command.Initial id address key) n word e = starts n word e

said_other : (c : Command) (a : Answer) (more : List ℕ) → IsOther more → IsOther (said c a ++ more)
unfolding said refused_text
said_other c answer.Personalised more o = o
said_other c (answer.Loaded r) more o = loaded _
said_other c (answer.LoadRefused f) more o = starts 114 _ refl
said_other c (answer.RolledBack seq) more o = starts 114 _ refl
said_other c answer.NotPermitted more o = starts 110 _ refl
said_other c answer.Removed more o = removed_other c 114 _ more refl
said_other c answer.Absent more o = removed_other c 97 _ more refl
said_other c (answer.Results rs) more o = o
said_other c (answer.Eims es) more o = o
said_other c (answer.Associated association) more o = starts 97 _ refl
said_other c (answer.InitialRefused code) more o = starts 105 _ refl
said_other c answer.Malformed more o = o
said_other c answer.AlreadyPersonal more o = o

said_alone : (c : Command) (a : Answer) → IsOther (said c a)
unfolding said refused_text
said_alone c answer.Personalised = nothing
said_alone c (answer.Loaded r) = loaded _
said_alone c (answer.LoadRefused f) = starts 114 _ refl
said_alone c (answer.RolledBack seq) = starts 114 _ refl
said_alone c answer.NotPermitted = starts 110 _ refl
said_alone c answer.Removed = removed_alone c 114 _ refl
said_alone c answer.Absent = removed_alone c 97 _ refl
said_alone c (answer.Results rs) = nothing
said_alone c (answer.Eims es) = nothing
said_alone c (answer.Associated association) = starts 97 _ refl
said_alone c (answer.InitialRefused code) = starts 105 _ refl
said_alone c answer.Malformed = nothing
said_alone c answer.AlreadyPersonal = nothing

step_other : (w : SmallWorld) (text : List ℕ) → IsOther text → IsOther (step_text w false text)
step_other w text o = cond_both w.lit text off IsOther (λ _. o) (λ _. starts 111 _ refl)

replied_other : (w : SmallWorld) (c : Command) → IsOther (step_text w false (replied w c))
replied_other w c = step_other w (replied w c) (said_alone c (reply w.history c))

eim_other : (says : EimState → List ℕ) → ((e : EimState) → IsOther (says e)) → (o : Option EimState) → IsOther (of_eim says o)
unfolding of_eim
eim_other says f None = starts 110 _ refl
eim_other says f (Some e) = f e

bind_other : (b : BindEnd) → IsOther (bind_text b)
unfolding bind_text
bind_other bound.Bound = starts 98 _ refl
bind_other (bound.Low n) = starts 98 _ refl

order_other : (o : OrderEnd) → IsOther (order_text o)
unfolding order_text
order_other (order_answer.Ordered n) = starts 111 _ refl
order_other order_answer.Unbound = starts 117 _ refl
order_other order_answer.CounterSpent = starts 99 _ refl
order_other order_answer.NoMemory = nothing

skip_other : (o : Option ℕ) → IsOther (skip_text o)
unfolding skip_text
skip_other None = starts 110 _ refl
skip_other (Some n) = starts 115 _ refl

answer_other : (n : ℕ) (a : MessageEnd) → IsOther (answer_text n a)
unfolding answer_text
answer_other n (heard_end.Reply m) = starts 114 _ refl
answer_other n heard_end.Silent = starts 115 _ refl
answer_other n heard_end.NoMemory = nothing

up_other : (w : SmallWorld) (o : Option Post) → IsOther (up_text w o)
unfolding up_text
up_other w None = starts 110 _ refl
up_other w (Some p) = eim_other (λ e. answer_text (length w.to_ipa) (message_end p.message e)) (λ e. answer_other (length w.to_ipa) (message_end p.message e)) (eim_of p.to w.eims)

obeyed_other : (w : SmallWorld) (e : IpaEvent) (o : Option Command) → IsOther (obeyed_text w e false o)
unfolding obeyed_text
obeyed_other w e None = starts 114 _ refl
obeyed_other w e (Some c) = step_other w _ (said_other c (reply w.history c) (also_sent (length w.to_eims) (sent_for w e c)) (also_other (length w.to_eims) (sent_for w e c)))

down_other : (w : SmallWorld) (good : Bool) (o : Option Reply) → IsOther (down_text w good false o)
unfolding down_text
down_other w good None = starts 110 _ refl
down_other w good (Some r) = obeyed_other w (message r.from r.message good) (command_of (act_of w.assistant (message r.from r.message good)))

probe_other : (w : SmallWorld) (e : IpaEvent) (o : Option Command) → IsOther (probe_text w e false o)
unfolding probe_text
probe_other w e None = starts 115 _ refl
probe_other w e (Some c) = replied_other w c

pushed_other : (n : ℕ) (ps : List Post) → IsOther (pushed_text n ps)
unfolding sent_text
pushed_other n [] = starts 110 _ refl
pushed_other n (p ∷ ps) = starts 115 _ refl

-- a line that isn't lost prints another text
printed_other : (w : SmallWorld) (l : Line) → IsOther (printed w l false)
unfolding printed card_text profiles_text kept_text modems_text sent_text
printed_other w (line.Eim id) = cond_both (is_known id w.eims) (codes "eim exists") (codes "eim ok") IsOther (λ _. starts 101 _ refl) (λ _. starts 101 _ refl)
printed_other w (line.Initial id address key) = replied_other w (command.Initial id address key)
printed_other w (line.Bind id association last) = eim_other (λ e. bind_text (bind_end association last e)) (λ e. bind_other (bind_end association last e)) (eim_of id w.eims)
printed_other w (line.Order id body) = eim_other (λ e. order_text (order_end e)) (λ e. order_other (order_end e)) (eim_of id w.eims)
printed_other w (line.Skip id) = eim_other (λ e. skip_text (skip_end e)) (λ e. skip_other (skip_end e)) (eim_of id w.eims)
printed_other w (line.Poll id) = cond_both (is_known id w.eims) (sent_text (length w.to_eims) (posts_of (act_of w.assistant (poll id (eid_of w))))) no_such IsOther (λ _. starts 115 _ refl) (λ _. starts 110 _ refl)
printed_other w (line.Up pick) = up_other w (picked pick w.to_eims)
printed_other w (line.Down pick good) = down_other w good (picked pick w.to_ipa)
printed_other w (line.Load good bytes) = replied_other w (command.Load good bytes)
printed_other w line.Push = step_other w (pushed_text (length w.to_eims) (sent_for w push command.Results)) (pushed_other (length w.to_eims) (sent_for w push command.Results))
printed_other w (line.Probe passed) = probe_other w (probe passed) (command_of (act_of w.assistant (probe passed)))
printed_other w line.Rollback = replied_other w command.Rollback
printed_other w line.Restart = starts 114 _ refl
printed_other w (line.Cut calls tear) = starts 112 _ refl
printed_other w line.Boot = starts 98 _ refl
printed_other w line.Show = cond_both w.lit (card_text (card_of w.history).profiles (card_of w.history).eims.entries (card_of w.history).results.pending) off IsOther (λ _. starts 112 _ refl) (λ _. starts 111 _ refl)
printed_other w (line.Kept id) = eim_other (λ e. kept_text (records_of e.received)) (λ e. starts 107 _ refl) (eim_of id w.eims)
printed_other w (line.Detach at) = cond_both (nat_lt at (length w.modems)) (codes "detached") no_such IsOther (λ _. starts 100 _ refl) (λ _. starts 110 _ refl)
printed_other w line.Modems = starts 109 _ refl

-- a step of a lit card that is lost
lost_step_text : (w : SmallWorld) (text : List ℕ) (o : Option Command) → (w.lit && is_some o) || false ≡ true → step_text w true text ≡ lost_text
lost_step_text w text o s =
    cond_both w.lit lost_text off (λ x. x ≡ lost_text) (λ _. refl)
    (λ e. absurd (false≢true (sym (or_from (w.lit && is_some o) false (ap (λ b. b && is_some o) e) refl) ∙ s)))

no_step : (lit : Bool) → (lit && false) || false ≡ true → ⊥
no_step true e = false≢true e
no_step false e = false≢true e

lost_obeyed : (w : SmallWorld) (e : IpaEvent) (o : Option Command) → (w.lit && is_some o) || false ≡ true → obeyed_text w e true o ≡ lost_text
unfolding obeyed_text
lost_obeyed w e None s = absurd (no_step w.lit s)
lost_obeyed w e (Some c) s = lost_step_text w (replied w c ++ also_sent (length w.to_eims) (sent_for w e c)) (Some c) s

lost_down : (w : SmallWorld) (good : Bool) (o : Option Reply) → (w.lit && is_some (brought w good o)) || false ≡ true → down_text w good true o ≡ lost_text
unfolding down_text
lost_down w good None s = absurd (no_step w.lit s)
lost_down w good (Some r) s = lost_obeyed w (message r.from r.message good) (command_of (act_of w.assistant (message r.from r.message good))) s

lost_probe : (w : SmallWorld) (e : IpaEvent) (o : Option Command) → (w.lit && is_some o) || false ≡ true → probe_text w e true o ≡ lost_text
unfolding probe_text
lost_probe w e None s = absurd (no_step w.lit s)
lost_probe w e (Some c) s = lost_step_text w (replied w c) (Some c) s

lost_printed : (w : SmallWorld) (l : Line) → steps_card w l ≡ true → printed w l true ≡ lost_text
unfolding printed steps_card given
lost_printed w (line.Eim id) s = absurd (no_step w.lit s)
lost_printed w (line.Initial id address key) s = lost_step_text w (replied w (command.Initial id address key)) (Some (command.Initial id address key)) s
lost_printed w (line.Bind id association last) s = absurd (no_step w.lit s)
lost_printed w (line.Order id body) s = absurd (no_step w.lit s)
lost_printed w (line.Skip id) s = absurd (no_step w.lit s)
lost_printed w (line.Poll id) s = absurd (no_step w.lit s)
lost_printed w (line.Up pick) s = absurd (no_step w.lit s)
lost_printed w (line.Down pick good) s = lost_down w good (picked pick w.to_ipa) s
lost_printed w (line.Load good bytes) s = lost_step_text w (replied w (command.Load good bytes)) (Some (command.Load good bytes)) s
lost_printed w line.Push s = lost_step_text w (pushed_text (length w.to_eims) (sent_for w push command.Results)) (command_of (act_of w.assistant push)) s
lost_printed w (line.Probe passed) s = lost_probe w (probe passed) (command_of (act_of w.assistant (probe passed))) s
lost_printed w line.Rollback s = lost_step_text w (replied w command.Rollback) (Some command.Rollback) s
lost_printed w line.Restart s = absurd (no_step w.lit s)
lost_printed w (line.Cut calls tear) s = absurd (no_step w.lit s)
lost_printed w line.Boot s = refl
lost_printed w line.Show s = absurd (no_step w.lit s)
lost_printed w (line.Kept id) s = absurd (no_step w.lit s)
lost_printed w (line.Detach at) s = absurd (no_step w.lit s)
lost_printed w line.Modems s = absurd (no_step w.lit s)

says_lost : (w : SmallWorld) (l : Line) (lost : Bool) → printed w l lost ≡ codes "lost" → lost ≡ true
says_lost w l true e = refl
says_lost w l false e = absurd (printed_other w l e)

pub lost_says : (w : SmallWorld) (t : Turn) → MayTurn w t → (printed w t.line t.lost ≡ codes "lost") ↔ (t.lost ≡ true)
lost_says w t m = (says_lost w t.line t.lost, λ e. subst (λ b. printed w t.line b ≡ codes "lost") (sym e) (lost_printed w t.line (m.lost e)))
