-- A package is taken exactly where the checks accept it, and says so.
use Rattle.std.proofs.Common.{◌≡◌, ◌↔◌, ℕ, Bool, true, false, List, [], ◌∷◌, ◌++◌, length, refl, ap, sym, subst, arith, Option, None, Some, Result, Ok, Err}
use Rattle.std.specs.Prelude.{IsOk, get_or, ◌==◌, ◌%◌}
use Rattle.std.proofs.lemmas.Bool.{cond_both, true≢false}
use Rattle.std.proofs.lemmas.List.{append-nil}
use Rattle.small_card.specs.Histories.{History}
use Rattle.small_card.specs.declared.types.Command.{Command}
use Rattle.small_card.specs.declared.types.Command.TheVariants as command
use Rattle.small_card.specs.declared.types.Package.{Package}
use Rattle.small_card.specs.declared.types.Refused.{Refused}
use Rattle.package_codec.specs.Checks.{check}
use Rattle.package_codec.specs.Replies.{load_reply, reply}
use Rattle.esipa_codec.specs.Assistant.{IpaEvent, push, message, probe, act_of, failures}
use Rattle.esipa_codec.specs.declared.ends.Act.{Act}
use Rattle.esipa_codec.specs.declared.ends.Act.TheVariants as act
use Rattle.iot_schedule.specs.declared.types.Line.{Line}
use Rattle.iot_schedule.specs.declared.types.Line.TheVariants as line
use Rattle.trace_text.specs.Texts.{refused_text}
use Rattle.small_world.specs.Acting.{command_of}
use Rattle.small_world.specs.Network.{picked}
use Rattle.small_world.specs.Printing.{step_text, replied, sent_for, obeyed_text, down_text, printed}
use Rattle.small_world.specs.Runs.{given, brought, ordered_by}
use Rattle.small_world.specs.Taking.{Hands, SaysLoaded}
use Rattle.small_world.specs.Texts.{said, also_sent}
use Rattle.small_world.specs.Worlds.{SmallWorld}
use Rattle.small_world.specs.declared.reply.Reply.{Reply}

no_loaded : (text : List ℕ) → SaysLoaded (114 ∷ text) → ⊥
no_loaded text l = let e : 114 ≡ 108 = ap (λ (xs : List ℕ). get_or xs 0 0) l.1 in omega (arith, e)

-- what is said of a load
loaded_said : (h : History) (c : Command) (r : Result Package Refused) (more : List ℕ) → SaysLoaded (said c (load_reply h r) ++ more) ↔ IsOk r
unfolding said refused_text
loaded_said h c (Ok p) more = (λ _. refl, λ _. (_, refl))
loaded_said h c (Err f) more = (λ l. absurd (no_loaded _ l), λ e. absurd (true≢false (sym e)))

lit_text : (w : SmallWorld) (text : List ℕ) → w.lit ≡ true → step_text w false text ≡ text
lit_text w text e = rw e refl

load_said : (w : SmallWorld) (good : Bool) (bytes more : List ℕ) → w.lit ≡ true → SaysLoaded (step_text w false (replied w (command.Load good bytes) ++ more)) ↔ IsOk (check w.history good bytes)
unfolding reply
load_said w good bytes more e =
    let c : Command = command.Load good bytes in
    subst (λ text. SaysLoaded text ↔ IsOk (check w.history good bytes)) (sym (lit_text w (replied w c ++ more) e)) (loaded_said w.history c (check w.history good bytes) more)

-- the command of a line that hands a package
abbrev pub IsLoad : Option Command → Bool → List ℕ → Type 0
IsLoad o good bytes = o ≡ Some (command.Load good bytes)

probe_loads : (w : SmallWorld) (passed good : Bool) (bytes : List ℕ) → IsLoad (ordered_by w (probe passed)) good bytes → ⊥
unfolding act_of command_of
probe_loads w true good bytes e = absurd (cc)
probe_loads w false good bytes e = cond_both {A = Act} (failures (probe false ∷ w.assistant) % 3 == 0) act.Rollback act.Rest (λ a. IsLoad (command_of a) good bytes → ⊥) (λ _ k. absurd (cc)) (λ _ k. absurd (cc)) e

push_loads : (w : SmallWorld) (good : Bool) (bytes : List ℕ) → IsLoad (ordered_by w push) good bytes → ⊥
unfolding act_of command_of
push_loads w good bytes e = absurd (cc)

-- a message that brings a load
obeyed_says : (w : SmallWorld) (e : IpaEvent) (o : Option Command) (good : Bool) (bytes : List ℕ) → w.lit ≡ true → IsLoad o good bytes → SaysLoaded (obeyed_text w e false o) ↔ IsOk (check w.history good bytes)
unfolding obeyed_text
obeyed_says w e None good bytes l k = absurd (cc)
obeyed_says w e (Some c) good bytes l k =
    let is : command.Load good bytes ≡ c = cc in
    subst (λ (d : Command). SaysLoaded (step_text w false (replied w d ++ also_sent (length w.to_eims) (sent_for w e d))) ↔ IsOk (check w.history good bytes)) is
    (load_said w good bytes (also_sent (length w.to_eims) (sent_for w e (command.Load good bytes))) l)

down_says : (w : SmallWorld) (verdict : Bool) (o : Option Reply) (good : Bool) (bytes : List ℕ) → w.lit ≡ true → IsLoad (brought w verdict o) good bytes → SaysLoaded (down_text w verdict false o) ↔ IsOk (check w.history good bytes)
unfolding down_text
down_says w verdict None good bytes l k = absurd (cc)
down_says w verdict (Some r) good bytes l k = obeyed_says w (message r.from r.message verdict) (command_of (act_of w.assistant (message r.from r.message verdict))) good bytes l k

-- a line that hands a package to a lit card says `loaded` exactly where the checks accept it
pub hands_says : (w : SmallWorld) (l : Line) (good : Bool) (bytes : List ℕ) → w.lit ≡ true → Hands w l good bytes → SaysLoaded (printed w l false) ↔ IsOk (check w.history good bytes)
unfolding printed given
hands_says w (line.Eim id) good bytes e k = absurd (cc)
hands_says w (line.Initial id address key) good bytes e k = absurd (cc)
hands_says w (line.Bind id association last) good bytes e k = absurd (cc)
hands_says w (line.Order id body) good bytes e k = absurd (cc)
hands_says w (line.Skip id) good bytes e k = absurd (cc)
hands_says w (line.Poll id) good bytes e k = absurd (cc)
hands_says w (line.Up pick) good bytes e k = absurd (cc)
hands_says w (line.Down pick verdict) good bytes e k = down_says w verdict (picked pick w.to_ipa) good bytes e k
hands_says w (line.Load verdict octets) good bytes e k =
    let is : command.Load good bytes ≡ command.Load verdict octets = cc in
    subst (λ (d : Command). SaysLoaded (step_text w false (replied w d)) ↔ IsOk (check w.history good bytes)) is
    (subst (λ text. SaysLoaded (step_text w false text) ↔ IsOk (check w.history good bytes)) (append-nil (replied w (command.Load good bytes))) (load_said w good bytes [] e))
hands_says w line.Push good bytes e k = absurd (push_loads w good bytes k)
hands_says w (line.Probe passed) good bytes e k = absurd (probe_loads w passed good bytes k)
hands_says w line.Rollback good bytes e k = absurd (cc)
hands_says w line.Restart good bytes e k = absurd (cc)
hands_says w (line.Cut calls tear) good bytes e k = absurd (cc)
hands_says w line.Boot good bytes e k = absurd (cc)
hands_says w line.Show good bytes e k = absurd (cc)
hands_says w (line.Kept id) good bytes e k = absurd (cc)
hands_says w (line.Detach at) good bytes e k = absurd (cc)
hands_says w line.Modems good bytes e k = absurd (cc)
