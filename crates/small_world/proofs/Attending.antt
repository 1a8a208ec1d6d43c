-- The modems after a run are a function of those handed in and of what was told.
use Rattle.std.proofs.Common.{◌≡◌, ℕ, Bool, true, false, cond, List, [], ◌∷◌, length, map, refl, ◌∙◌, ap, sym, subst, Option, None, Some}
use Rattle.std.specs.Prelude.{nat_lt}
use Rattle.std.proofs.lemmas.Bool.{cond_both}
use Rattle.std.proofs.lemmas.List.{length-map}
use Rattle.small_card.specs.Fresh.{fresh}
use Rattle.small_card.specs.declared.types.Answer.{Answer}
use Rattle.small_card.specs.declared.types.Answer.TheVariants as answer
use Rattle.small_card.specs.declared.types.Command.{Command}
use Rattle.small_card.specs.declared.types.Command.TheVariants as command
use Rattle.small_card.specs.Histories.{card_of, card_in, past_of}
use Rattle.package_codec.specs.Replies.{reply}
use Rattle.esipa_codec.specs.Assistant.{IpaEvent, poll, push, message, probe, restart, act_of}
use Rattle.esipa_codec.specs.declared.messages.Post.{Post}
use Rattle.iot_schedule.specs.declared.types.Device.{Device}
use Rattle.iot_schedule.specs.declared.types.Line.{Line}
use Rattle.iot_schedule.specs.declared.types.Line.TheVariants as line
use Rattle.modem_bank.specs.Modems.{Seen, told_one, told, without}
use Rattle.modem_bank.proofs.Telling.{map-without}
use Rattle.small_world.specs.Acting.{command_of, posts_of, hearing, told_answer, is_answered, asked_card, done, acts}
use Rattle.small_world.specs.Lines.{told_loaded, handed, polled, gone_down, acted, attended}
use Rattle.small_world.specs.Modems.{without_taken, attached, enabled_lit, told_since}
use Rattle.small_world.specs.Network.{is_known, picked, joined, gone_up}
use Rattle.small_world.specs.Runs.{Turn, after_turn, world_after}
use Rattle.small_world.specs.Stepping.{lost_step, answered_step, commanded, booted}
use Rattle.small_world.specs.Worlds.{SmallWorld, enabled_after, started, start_world, eid_of}
use Rattle.small_world.specs.declared.reply.Reply.{Reply}

-- the modems of one world are those of the other
abbrev pub HasSameModems : SmallWorld → SmallWorld → Type 0
HasSameModems v w = w.modems ≡ v.modems

commanded_same : (w : SmallWorld) (c : Command) (lost : Bool) → HasSameModems w (commanded c lost w)
unfolding commanded
commanded_same w c lost = cond_both w.lit (cond lost (lost_step c w) (answered_step c w)) w (HasSameModems w) (λ _. cond_both lost (lost_step c w) (answered_step c w) (HasSameModems w) (λ _. refl) (λ _. refl)) (λ _. refl)

asked_same : (w : SmallWorld) (c : Command) (lost : Bool) → HasSameModems w (asked_card c lost w)
unfolding asked_card told_answer
asked_same w c lost = cond_both (is_answered lost w) (told_answer (reply w.history c) (commanded c lost w)) (commanded c lost w) (HasSameModems w) (λ _. commanded_same w c lost) (λ _. commanded_same w c lost)

done_same : (w : SmallWorld) (o : Option Command) (ps : List Post) (lost : Bool) → HasSameModems w (done o ps lost w)
done_same w None ps lost = refl
done_same w (Some c) ps lost = asked_same w c lost

acts_same : (w : SmallWorld) (e : IpaEvent) (lost : Bool) → HasSameModems w (acts e lost w)
unfolding acts
acts_same w e lost = done_same (hearing e w) (command_of (act_of w.assistant e)) (posts_of (act_of w.assistant e)) lost

loaded_same : (w : SmallWorld) (a : Answer) → HasSameModems w (told_loaded a w)
unfolding told_answer
loaded_same w answer.Personalised = refl
loaded_same w (answer.Loaded r) = refl
loaded_same w (answer.LoadRefused f) = refl
loaded_same w (answer.RolledBack seq) = refl
loaded_same w answer.NotPermitted = refl
loaded_same w answer.Removed = refl
loaded_same w answer.Absent = refl
loaded_same w (answer.Results rs) = refl
loaded_same w (answer.Eims es) = refl
loaded_same w (answer.Associated association) = refl
loaded_same w (answer.InitialRefused code) = refl
loaded_same w answer.Malformed = refl
loaded_same w answer.AlreadyPersonal = refl

handed_same : (w : SmallWorld) (good : Bool) (bytes : List ℕ) (lost : Bool) → HasSameModems w (handed good bytes lost w)
unfolding handed
handed_same w good bytes lost =
    let c : Command = command.Load good bytes in
    cond_both (is_answered lost w) (told_loaded (reply w.history c) (commanded c lost w)) (commanded c lost w) (HasSameModems w)
    (λ _. loaded_same (commanded c lost w) (reply w.history c) ∙ commanded_same w c lost) (λ _. commanded_same w c lost)

polled_same : (w : SmallWorld) (id : List ℕ) → HasSameModems w (polled id w)
unfolding polled
polled_same w id = cond_both (is_known id w.eims) (acts (poll id (eid_of w)) false w) w (HasSameModems w) (λ _. acts_same w (poll id (eid_of w)) false) (λ _. refl)

gone_up_same : (w : SmallWorld) (o : Option Post) → HasSameModems w (gone_up o w)
unfolding gone_up
gone_up_same w None = refl
gone_up_same w (Some p) = refl

gone_down_same : (w : SmallWorld) (o : Option Reply) (good lost : Bool) → HasSameModems w (gone_down o good lost w)
unfolding gone_down
gone_down_same w None good lost = refl
gone_down_same w (Some r) good lost = acts_same w (message r.from r.message good) lost

booted_same : (w : SmallWorld) (lost taken : Bool) → HasSameModems w (booted lost taken w)
unfolding booted
booted_same w lost taken = cond_both lost (record w { lit = false; plan = None }) _ (HasSameModems w) (λ _. refl) (λ _. refl)

-- no line but a detach changes the modems, until they are told
pub acted_modems : (w : SmallWorld) (l : Line) (lost taken : Bool) → (acted l lost taken w).modems ≡ without_taken l w.modems
unfolding acted joined
acted_modems w (line.Eim id) lost taken = refl
acted_modems w (line.Initial id address key) lost taken = commanded_same w (command.Initial id address key) lost
acted_modems w (line.Bind id association last) lost taken = refl
acted_modems w (line.Order id body) lost taken = refl
acted_modems w (line.Skip id) lost taken = refl
acted_modems w (line.Poll id) lost taken = polled_same w id
acted_modems w (line.Up pick) lost taken = gone_up_same w (picked pick w.to_eims)
acted_modems w (line.Down pick good) lost taken = gone_down_same w (picked pick w.to_ipa) good lost
acted_modems w (line.Load good bytes) lost taken = handed_same w good bytes lost
acted_modems w line.Push lost taken = acts_same w push lost
acted_modems w (line.Probe passed) lost taken = acts_same w (probe passed) lost
acted_modems w line.Rollback lost taken = commanded_same w command.Rollback lost
acted_modems w line.Restart lost taken = acts_same w restart lost
acted_modems w (line.Cut calls tear) lost taken = refl
acted_modems w line.Boot lost taken = booted_same w lost taken
acted_modems w line.Show lost taken = refl
acted_modems w (line.Kept id) lost taken = refl
acted_modems w (line.Detach at) lost taken = refl
acted_modems w line.Modems lost taken = refl

-- what is taken away is taken away before or after each is looked at
pub taken_map : {A B : Type 0} (f : A → B) (l : Line) (ms : List A) → without_taken l (map f ms) ≡ map f (without_taken l ms)
taken_map f (line.Eim id) ms = refl
taken_map f (line.Initial id address key) ms = refl
taken_map f (line.Bind id association last) ms = refl
taken_map f (line.Order id body) ms = refl
taken_map f (line.Skip id) ms = refl
taken_map f (line.Poll id) ms = refl
taken_map f (line.Up pick) ms = refl
taken_map f (line.Down pick good) ms = refl
taken_map f (line.Load good bytes) ms = refl
taken_map f line.Push ms = refl
taken_map f (line.Probe passed) ms = refl
taken_map f line.Rollback ms = refl
taken_map f line.Restart ms = refl
taken_map f (line.Cut calls tear) ms = refl
taken_map f line.Boot ms = refl
taken_map f line.Show ms = refl
taken_map f (line.Kept id) ms = refl
taken_map f (line.Detach at) ms =
    subst (λ n. cond (nat_lt at n) (without at (map f ms)) (map f ms) ≡ map f (cond (nat_lt at (length ms)) (without at ms) ms)) (sym (length-map ms f))
    (elim (nat_lt at (length ms)) as (λ b. cond b (without at (map f ms)) (map f ms) ≡ map f (cond b (without at ms) ms)) [ true ↦ sym (map-without f at ms) | false ↦ refl ])
taken_map f line.Modems ms = refl

-- telling each modem of a list once more
told_again : (e : Option (List ℕ)) (es : List (Option (List ℕ))) (ms : List Seen) → told e (map (told_since es) ms) ≡ map (told_since (e ∷ es)) ms
unfolding told_since
told_again e es [] = refl
told_again e es (m ∷ ms) = ap (λ xs. told_one e (told_since es m) ∷ xs) (told_again e es ms)

attended_modems : (e : Option (List ℕ)) (es : List (Option (List ℕ))) (lit : Bool) (now ms : List Seen) → now ≡ map (told_since es) ms → cond lit (told e now) now ≡ map (told_since (cond lit (e ∷ es) es)) ms
attended_modems e es true now ms k = ap (told e) k ∙ told_again e es ms
attended_modems e es false now ms k = k

run_modems : (start : SmallWorld) (handed_in : List Seen) (ts : List Turn) → start.modems ≡ map (told_since (enabled_lit start [])) handed_in
    → (world_after start ts).modems ≡ map (told_since (enabled_lit start ts)) (attached handed_in ts)
unfolding world_after after_turn attended attached enabled_lit
run_modems start handed_in [] k = k
run_modems start handed_in (t ∷ ts) k =
    let w : SmallWorld = world_after start ts in
    let v : SmallWorld = acted t.line t.lost t.taken w in
    let es : List (Option (List ℕ)) = enabled_lit start ts in
    let before : List Seen = attached handed_in ts in
    attended_modems (enabled_after v.history) es v.lit v.modems (without_taken t.line before)
    (acted_modems w t.line t.lost t.taken ∙ ap (without_taken t.line) (run_modems start handed_in ts k) ∙ taken_map (told_since es) t.line before)

start_modems : (d : Device) (handed_in : List Seen) → (start_world d handed_in).modems ≡ map (told_since (enabled_lit (start_world d handed_in) [])) handed_in
unfolding start_world started enabled_lit told_since fresh card_of card_in past_of
start_modems d handed_in = refl

-- the modems after a run are those handed in and still attached, told in turn
pub modems_are : (d : Device) (handed_in : List Seen) (ts : List Turn) → (world_after (start_world d handed_in) ts).modems ≡ map (told_since (enabled_lit (start_world d handed_in) ts)) (attached handed_in ts)
modems_are d handed_in ts = run_modems (start_world d handed_in) handed_in ts (start_modems d handed_in)
