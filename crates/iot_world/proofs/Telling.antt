-- The assistant is told an answer of the card.
use Rattle.std.proofs.Common.{◌≡◌, ◌<◌, ◌≤◌, ℕ, ◌+◌, ◌-◌, false, cond, List, [], ◌++◌, length, Option, Some, None, Result, Ok, Err, refl, sym, ◌∙◌, ap, subst, arith}
use Rattle.std.specs.Prelude.{map, sum, not, ◌==◌, OnOk, is_err}
use Rattle.std.proofs.lemmas.Bool.{cond_both, false≢true}
use Rattle.std.proofs.lemmas.List.{length-append, append-nil}
use Rattle.small_card.specs.Histories.{History, card_of, former_of}
use Rattle.small_card.specs.declared.types.Answer.{Answer}
use Rattle.small_card.specs.declared.types.Answer.TheVariants as answer
use Rattle.small_card.specs.declared.types.Command.{Command}
use Rattle.small_card.specs.declared.types.Command.TheVariants as command
use Rattle.small_card.specs.declared.types.Armed.{Armed}
use Rattle.small_card.specs.declared.types.Package.{Package}
use Rattle.small_card.specs.declared.types.Refused.{Refused}
use Rattle.small_card.specs.EimOperations.{is_empty_list, last_association}
use Rattle.small_card.specs.Units.{is_pending}
use Rattle.package_codec.specs.Checks.{check}
use Rattle.package_codec.specs.Replies.{reply, unit_of, load_reply, rollback_reply, unit_of_load}
use Rattle.esipa_codec.specs.Assistant.{act_of}
use Rattle.esipa_codec.specs.declared.messages.Post.{Post}
use Rattle.small_world.specs.Acting.{posts_of, told_answer}
use Rattle.small_world.specs.Octets.{octets_sent, most_octets_sent, IsWithin}
use Rattle.esipa_codec.specs.Spelling.{to_eim, to_ipa}
use Rattle.small_world.specs.Worlds.{SmallWorld}
use Rattle.small_world.specs.Texts.{said}
use Rattle.world_network.specs.Networks.{Parts, IsNetwork}
use Rattle.iot_world.specs.Asking.{IsTold, sent_after}

pub sent_places : (w : SmallWorld) (a : Answer) → length (told_answer a w).to_eims ≡ length w.to_eims + length (sent_after w a)
unfolding told_answer
sent_places w a = length-append w.to_eims (sent_after w a)

-- answers for which the assistant may send messages
abbrev pub MaySend : Answer → Type 0
MaySend (answer.LoadRefused f) = Unit {0}
MaySend (answer.Results rs) = Unit {0}
MaySend a = ⊥

-- they come for commands that make no unit
load_unit_none : (h : History) (r : Result Package Refused) (a : Answer) → a ≡ load_reply h r → MaySend a → unit_of_load r ≡ None
load_unit_none h (Ok p) a is may = absurd (subst MaySend is may)
load_unit_none h (Err r) a is may = refl

no_roll : (h : History) (o : Option Armed) (a : Answer) → a ≡ rollback_reply h o → MaySend a → ⊥
no_roll h (Some armed) a is may = subst MaySend is may
no_roll h None a is may = subst MaySend is may

pub sends_no_unit : (h : History) (c : Command) (a : Answer) → a ≡ reply h c → MaySend a → unit_of h c ≡ None
unfolding reply unit_of
sends_no_unit h (command.Personalise eid profiles) a is may = refl
sends_no_unit h (command.Load good bytes) a is may = load_unit_none h (check h good bytes) a is may
sends_no_unit h command.Rollback a is may = absurd (no_roll h (former_of h) a is may)
sends_no_unit h (command.Remove seq) a is may =
    absurd (cond_both {A = Answer} (is_pending seq (card_of h).results.pending) answer.Removed answer.Absent (λ x. MaySend x → ⊥) (λ _. λ no. no) (λ _. λ no. no) (subst MaySend is may))
sends_no_unit h command.Results a is may = refl
sends_no_unit h command.Eims a is may = refl
sends_no_unit h (command.Initial id address key) a is may =
    absurd (cond_both {A = Answer} (not (is_empty_list (card_of h).eims.entries)) (answer.InitialRefused 1) (cond ((card_of h).eims.next == last_association) (answer.InitialRefused 2) (answer.Associated (card_of h).eims.next)) (λ x. MaySend x → ⊥) (λ _. λ no. no)
    (λ _. cond_both {A = Answer} ((card_of h).eims.next == last_association) (answer.InitialRefused 2) (answer.Associated (card_of h).eims.next) (λ x. MaySend x → ⊥) (λ _. λ no. no) (λ _. λ no. no)) (subst MaySend is may))

-- where nothing is sent the octets stay
rests : (a : Answer) (w : SmallWorld) → sent_after w a ≡ [] → octets_sent (told_answer a w) ≡ octets_sent w
unfolding told_answer octets_sent
rests a w none =
    ap (λ (ps : List Post). sum (map (λ p. length (to_eim p.message)) (w.to_eims ++ ps)) + sum (map (λ r. length (to_ipa r.message)) w.to_ipa)) none
    ∙ ap (λ (ps : List Post). sum (map (λ p. length (to_eim p.message)) ps) + sum (map (λ r. length (to_ipa r.message)) w.to_ipa)) (append-nil w.to_eims)

-- an answer for which a message passes the limit is one for which messages may be sent
over_sends : (w : SmallWorld) (a : Answer) → octets_sent w ≤ most_octets_sent → most_octets_sent < octets_sent (told_answer a w) → (sent_after w a ≡ [] → ⊥)
over_sends w a few over none = absurd (omega (arith, few, over, rests a w none))

pub over_may : (w : SmallWorld) (a : Answer) → octets_sent w ≤ most_octets_sent → most_octets_sent < octets_sent (told_answer a w) → MaySend a
unfolding act_of posts_of
over_may w answer.Personalised few over = over_sends w answer.Personalised few over refl
over_may w (answer.Loaded r) few over = over_sends w (answer.Loaded r) few over refl
over_may w (answer.LoadRefused f) few over = tt
over_may w (answer.RolledBack seq) few over = over_sends w (answer.RolledBack seq) few over refl
over_may w answer.NotPermitted few over = over_sends w answer.NotPermitted few over refl
over_may w answer.Removed few over = over_sends w answer.Removed few over refl
over_may w answer.Absent few over = over_sends w answer.Absent few over refl
over_may w (answer.Results rs) few over = tt
over_may w (answer.Eims es) few over = over_sends w (answer.Eims es) few over refl
over_may w (answer.Associated association) few over = over_sends w (answer.Associated association) few over refl
over_may w (answer.InitialRefused code) few over = over_sends w (answer.InitialRefused code) few over refl
over_may w answer.Malformed few over = over_sends w answer.Malformed few over refl
over_may w answer.AlreadyPersonal few over = over_sends w answer.AlreadyPersonal few over refl

pub within_octets : (w : SmallWorld) → IsWithin w → octets_sent w ≤ most_octets_sent
unfolding IsWithin
within_octets w within = within

-- an answer that was told
pub told : (w : SmallWorld) (c : Command) (a : Answer) (place after : ℕ) (now : Parts) (before out : List ℕ) → out ≡ before ++ said c a → place ≡ length w.to_eims → IsNetwork now (told_answer a w) → after ≡ length (told_answer a w).to_eims
    → IsTold w c a place (after - place) now before out
told w c a place after now before out says at network count = record {
  says = says;
  place = at;
  count = omega (arith, count, sent_places w a, at);
  network = network;
}

-- a call that didn't fail
pub if_fine : {T E P : Type 0} (result : Result T E) → OnOk result P → is_err result ≡ false → P
if_fine (Ok x) p fine = p
if_fine (Err e) p fine = absurd (false≢true (sym fine))
