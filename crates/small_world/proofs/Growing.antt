-- Each line sends messages behind those that were sent, and takes none away.
use Rattle.std.proofs.Common.{◌≡◌, ℕ, ◌+◌, ◌≤◌, Bool, true, false, cond, List, [], ◌∷◌, ◌++◌, length, map, refl, ◌∙◌, ap, sym, subst, arith, Option, None, Some}
use Rattle.std.specs.Prelude.{sum}
use Rattle.std.specs.List.{fold}
use Rattle.std.proofs.lemmas.Bool.{cond_both}
use Rattle.std.proofs.lemmas.List.{append-nil, append_assoc, map-append}
use Rattle.small_card.specs.declared.types.Answer.{Answer}
use Rattle.small_card.specs.declared.types.Answer.TheVariants as answer
use Rattle.small_card.specs.declared.types.Command.{Command}
use Rattle.small_card.specs.declared.types.Command.TheVariants as command
use Rattle.package_codec.specs.Replies.{reply}
use Rattle.esipa_codec.specs.Assistant.{IpaEvent, poll, push, message, probe, restart, answered, act_of}
use Rattle.esipa_codec.specs.Spelling.{to_eim, to_ipa}
use Rattle.esipa_codec.specs.declared.messages.Post.{Post}
use Rattle.iot_schedule.specs.declared.types.Line.{Line}
use Rattle.iot_schedule.specs.declared.types.Line.TheVariants as line
use Rattle.small_world.specs.Acting.{command_of, posts_of, hearing, told_answer, is_answered, asked_card, done, acts}
use Rattle.small_world.specs.Growing.{HasMore}
use Rattle.small_world.specs.Lines.{told_loaded, handed, polled, gone_down, acted, attended}
use Rattle.small_world.specs.Network.{is_known, eim_of, picked, joined, replies_of, gone_up}
use Rattle.small_world.specs.Octets.{octets_sent}
use Rattle.small_world.specs.Runs.{Turn, after_turn}
use Rattle.small_world.specs.Stepping.{lost_step, answered_step, commanded, booted}
use Rattle.small_world.specs.Worlds.{SmallWorld, eid_of}
use Rattle.small_world.specs.declared.reply.Reply.{Reply}

-- the same messages
no_more : (v w : SmallWorld) → w.to_eims ≡ v.to_eims → w.to_ipa ≡ v.to_ipa → HasMore v w
no_more v w e i = record { posts = []; replies = []; to_eims = e ∙ sym (append-nil v.to_eims); to_ipa = i ∙ sym (append-nil v.to_ipa) }

itself : (w : SmallWorld) → HasMore w w
itself w = no_more w w refl refl

more_posts : (v w : SmallWorld) (ps : List Post) → w.to_eims ≡ v.to_eims ++ ps → w.to_ipa ≡ v.to_ipa → HasMore v w
more_posts v w ps e i = record { posts = ps; replies = []; to_eims = e; to_ipa = i ∙ sym (append-nil v.to_ipa) }

commanded_more : (w : SmallWorld) (c : Command) (lost : Bool) → HasMore w (commanded c lost w)
unfolding commanded
commanded_more w c lost =
    cond_both w.lit (cond lost (lost_step c w) (answered_step c w)) w (HasMore w)
    (λ _. cond_both lost (lost_step c w) (answered_step c w) (HasMore w) (λ _. no_more w (lost_step c w) refl refl) (λ _. no_more w (answered_step c w) refl refl))
    (λ _. itself w)

told_more : (v w : SmallWorld) (a : Answer) → HasMore v w → HasMore v (told_answer a w)
unfolding told_answer
told_more v w a m = record {
  posts = m.posts ++ posts_of (act_of w.assistant (answered a));
  replies = m.replies;
  to_eims = ap (λ ps. ps ++ posts_of (act_of w.assistant (answered a))) m.to_eims ∙ append_assoc v.to_eims m.posts (posts_of (act_of w.assistant (answered a)));
  to_ipa = m.to_ipa;
}

asked_more : (w : SmallWorld) (c : Command) (lost : Bool) → HasMore w (asked_card c lost w)
unfolding asked_card
asked_more w c lost = cond_both (is_answered lost w) (told_answer (reply w.history c) (commanded c lost w)) (commanded c lost w) (HasMore w) (λ _. told_more w (commanded c lost w) (reply w.history c) (commanded_more w c lost)) (λ _. commanded_more w c lost)

heard_more : (w v : SmallWorld) (e : IpaEvent) → HasMore (hearing e w) v → HasMore w v
heard_more w v e m = record { posts = m.posts; replies = m.replies; to_eims = m.to_eims; to_ipa = m.to_ipa }

done_more : (w : SmallWorld) (o : Option Command) (ps : List Post) (lost : Bool) → HasMore w (done o ps lost w)
done_more w None ps lost = more_posts w (done None ps lost w) ps refl refl
done_more w (Some c) ps lost = asked_more w c lost

acts_more : (w : SmallWorld) (e : IpaEvent) (lost : Bool) → HasMore w (acts e lost w)
unfolding acts
acts_more w e lost = heard_more w (done (command_of (act_of w.assistant e)) (posts_of (act_of w.assistant e)) lost (hearing e w)) e (done_more (hearing e w) (command_of (act_of w.assistant e)) (posts_of (act_of w.assistant e)) lost)

loaded_more : (v w : SmallWorld) (a : Answer) → HasMore v w → HasMore v (told_loaded a w)
loaded_more v w answer.Personalised m = m
loaded_more v w (answer.Loaded r) m = told_more v w (answer.Loaded r) m
loaded_more v w (answer.LoadRefused f) m = m
loaded_more v w (answer.RolledBack seq) m = m
loaded_more v w answer.NotPermitted m = m
loaded_more v w answer.Removed m = m
loaded_more v w answer.Absent m = m
loaded_more v w (answer.Results rs) m = m
loaded_more v w (answer.Eims es) m = m
loaded_more v w (answer.Associated association) m = m
loaded_more v w (answer.InitialRefused code) m = m
loaded_more v w answer.Malformed m = m
loaded_more v w answer.AlreadyPersonal m = m

handed_more : (w : SmallWorld) (good : Bool) (bytes : List ℕ) (lost : Bool) → HasMore w (handed good bytes lost w)
unfolding handed
handed_more w good bytes lost =
    let c : Command = command.Load good bytes in
    cond_both (is_answered lost w) (told_loaded (reply w.history c) (commanded c lost w)) (commanded c lost w) (HasMore w)
    (λ _. loaded_more w (commanded c lost w) (reply w.history c) (commanded_more w c lost)) (λ _. commanded_more w c lost)

polled_more : (w : SmallWorld) (id : List ℕ) → HasMore w (polled id w)
unfolding polled
polled_more w id = cond_both (is_known id w.eims) (acts (poll id (eid_of w)) false w) w (HasMore w) (λ _. acts_more w (poll id (eid_of w)) false) (λ _. itself w)

gone_up_more : (w : SmallWorld) (o : Option Post) → HasMore w (gone_up o w)
unfolding gone_up
gone_up_more w None = itself w
gone_up_more w (Some p) = record { posts = []; replies = replies_of p (eim_of p.to w.eims); to_eims = sym (append-nil w.to_eims); to_ipa = refl }

gone_down_more : (w : SmallWorld) (o : Option Reply) (good lost : Bool) → HasMore w (gone_down o good lost w)
unfolding gone_down
gone_down_more w None good lost = itself w
gone_down_more w (Some r) good lost = acts_more w (message r.from r.message good) lost

booted_more : (w : SmallWorld) (lost taken : Bool) → HasMore w (booted lost taken w)
unfolding booted
booted_more w true taken = no_more w _ refl refl
booted_more w false taken = no_more w _ refl refl

acted_more : (w : SmallWorld) (l : Line) (lost taken : Bool) → HasMore w (acted l lost taken w)
unfolding acted joined
acted_more w (line.Eim id) lost taken = no_more w _ refl refl
acted_more w (line.Initial id address key) lost taken = commanded_more w (command.Initial id address key) lost
acted_more w (line.Bind id association last) lost taken = no_more w _ refl refl
acted_more w (line.Order id body) lost taken = no_more w _ refl refl
acted_more w (line.Skip id) lost taken = no_more w _ refl refl
acted_more w (line.Poll id) lost taken = polled_more w id
acted_more w (line.Up pick) lost taken = gone_up_more w (picked pick w.to_eims)
acted_more w (line.Down pick good) lost taken = gone_down_more w (picked pick w.to_ipa) good lost
acted_more w (line.Load good bytes) lost taken = handed_more w good bytes lost
acted_more w line.Push lost taken = acts_more w push lost
acted_more w (line.Probe passed) lost taken = acts_more w (probe passed) lost
acted_more w line.Rollback lost taken = commanded_more w command.Rollback lost
acted_more w line.Restart lost taken = acts_more w restart lost
acted_more w (line.Cut calls tear) lost taken = no_more w _ refl refl
acted_more w line.Boot lost taken = booted_more w lost taken
acted_more w line.Show lost taken = itself w
acted_more w (line.Kept id) lost taken = itself w
acted_more w (line.Detach at) lost taken = no_more w _ refl refl
acted_more w line.Modems lost taken = itself w

pub turn_more : (w : SmallWorld) (t : Turn) → HasMore w (after_turn w t)
unfolding after_turn attended
turn_more w t =
    let m = acted_more w t.line t.lost t.taken in
    record { posts = m.posts; replies = m.replies; to_eims = m.to_eims; to_ipa = m.to_ipa }

added : (n : ℕ) (ys : List ℕ) → n ≤ fold (λ a x. a + x) n ys
added n [] = omega arith
added n (y ∷ ys) = let k = added (n + y) ys in omega (arith, k)

fold_more : (n : ℕ) (xs ys : List ℕ) → fold (λ a x. a + x) n xs ≤ fold (λ a x. a + x) n (xs ++ ys)
fold_more n [] ys = added n ys
fold_more n (x ∷ xs) ys = fold_more (n + x) xs ys

sum_more : {X : Type 0} (f : X → ℕ) (xs ys : List X) → sum (map f xs) ≤ sum (map f (xs ++ ys))
sum_more f xs ys = subst (λ (ns : List ℕ). sum (map f xs) ≤ sum ns) (sym (map-append f xs ys)) (fold_more 0 (map f xs) (map f ys))

more_octets : (v w : SmallWorld) → HasMore v w → octets_sent v ≤ octets_sent w
unfolding octets_sent
more_octets v w m =
    let posts : Post → ℕ = λ p. length (to_eim p.message) in
    let replies : Reply → ℕ = λ r. length (to_ipa r.message) in
    let a : sum (map posts v.to_eims) ≤ sum (map posts w.to_eims) = subst (λ (ps : List Post). sum (map posts v.to_eims) ≤ sum (map posts ps)) (sym m.to_eims) (sum_more posts v.to_eims m.posts) in
    let b : sum (map replies v.to_ipa) ≤ sum (map replies w.to_ipa) = subst (λ (rs : List Reply). sum (map replies v.to_ipa) ≤ sum (map replies rs)) (sym m.to_ipa) (sum_more replies v.to_ipa m.replies) in
    omega (arith, a, b)

pub turn_octets : (w : SmallWorld) (t : Turn) → octets_sent w ≤ octets_sent (after_turn w t)
turn_octets w t = more_octets w (after_turn w t) (turn_more w t)
