-- The card's steps keep the invariant: a command, answered or lost, and a boot.
use Rattle.std.proofs.Common.{ℕ, Bool, true, false, not, cond, List, [], ◌∷◌, sym, subst, Option, None, Some, Result, Ok, Err}
use Rattle.std.specs.Prelude.{◌==◌, IfSome}
use Rattle.std.specs.List.{AllPass}
use Rattle.std.proofs.lemmas.Bool.{cond_both}
use Rattle.sgp_values.specs.Ranges.{is_octet, IsEimId, IsAddress, IsKey}
use Rattle.small_card.specs.EimOperations.{is_empty_list, last_association}
use Rattle.small_card.specs.Histories.{History, card_of, former_of}
use Rattle.small_card.specs.Legal.{May, IsLegal}
use Rattle.small_card.specs.Ranges.{IsCommand}
use Rattle.small_card.specs.Units.{CardUnit, initial, remove, is_pending}
use Rattle.small_card.specs.declared.types.Armed.{Armed}
use Rattle.small_card.specs.declared.types.Command.{Command}
use Rattle.small_card.specs.declared.types.Command.TheVariants as command
use Rattle.small_card.specs.declared.types.Package.{Package}
use Rattle.small_card.specs.declared.types.Refused.{Refused}
use Rattle.package_codec.specs.Checks.{check}
use Rattle.package_codec.specs.Replies.{unit_of_load, unit_of_rollback, unit_of, grown, after}
use Rattle.package_codec.proofs.InRange.{reads_in_range}
use Rattle.package_codec.proofs.Replying.{unit_may}
use Rattle.card_store.specs.Holding.{Mark, standing, tried}
use Rattle.esipa_codec.specs.Eims.{EimState}
use Rattle.small_world.specs.Stepping.{attempt, answered_step, lost_step, commanded, woken, booted}
use Rattle.small_world.specs.Worlds.{SmallWorld}
use Rattle.small_world.proofs.HasLemmas.{if_some}
use Rattle.small_world.proofs.Invariant.{IsSpelled, MayCome, Keeps, KeepsWorld, keeps_grown, keeps_tried}
use Rattle.small_world.proofs.Keeping.{IsAcked, IsSafe}
use Rattle.small_world.proofs.Spelled.{signed_octets}

pub spelled_octets : (bytes : List ℕ) → IsSpelled bytes → AllPass is_octet bytes
spelled_octets bytes p = subst (AllPass is_octet) (sym p.2) (signed_octets p.0 p.1)

-- a command in its ranges; of a remove, that an eIM received the number
abbrev pub IsGood : List EimState → Command → Type 0
IsGood es (command.Personalise eid profiles) = Unit {0}
IsGood es (command.Load good bytes) = AllPass is_octet bytes
IsGood es command.Rollback = Unit {0}
IsGood es (command.Remove seq) = IsAcked es seq
IsGood es command.Results = Unit {0}
IsGood es command.Eims = Unit {0}
IsGood es (command.Initial i a k) = IsEimId i × IsAddress a × IsKey k

remove_may : (h : History) (seq : ℕ) → IfSome (unit_of h (command.Remove seq)) (May h)
unfolding unit_of May
remove_may h seq = cond_both {A = Option CardUnit} (is_pending seq (card_of h).results.pending) (Some (remove seq)) None (λ o. IfSome o (May h)) (λ e. e) (λ _. tt)

-- a command in its ranges has a unit that may happen
command_may : (h : History) (c : Command) → IsLegal h → IsCommand c → IfSome (unit_of h c) (May h)
command_may h c l i = if_some (unit_of h c) (May h) (λ u e. unit_may reads_in_range h c u l i e)

no_unit : (h : History) (eid : List ℕ) (profiles : _) → IfSome (unit_of h (command.Personalise eid profiles)) (May h)
unfolding unit_of
no_unit h eid profiles = tt

good_may : (h : History) (c : Command) (es : List EimState) → IsLegal h → IsGood es c → IfSome (unit_of h c) (May h)
unfolding IsCommand
good_may h (command.Personalise eid profiles) es l g = no_unit h eid profiles
good_may h (command.Load good bytes) es l g = command_may h (command.Load good bytes) l g
good_may h command.Rollback es l g = command_may h command.Rollback l tt
good_may h (command.Remove seq) es l g = remove_may h seq
good_may h command.Results es l g = command_may h command.Results l tt
good_may h command.Eims es l g = command_may h command.Eims l tt
good_may h (command.Initial i a k) es l g = command_may h (command.Initial i a k) l g

load_safe : (es : List EimState) (r : Result Package Refused) → IfSome (unit_of_load r) (IsSafe es)
load_safe es (Ok p) = tt
load_safe es (Err e) = tt

roll_safe : (es : List EimState) (o : Option Armed) → IfSome (unit_of_rollback o) (IsSafe es)
roll_safe es (Some a) = tt
roll_safe es None = tt

good_safe : (h : History) (c : Command) (es : List EimState) → IsGood es c → IfSome (unit_of h c) (IsSafe es)
unfolding unit_of
good_safe h (command.Personalise eid profiles) es g = tt
good_safe h (command.Load good bytes) es g = load_safe es (check h good bytes)
good_safe h command.Rollback es g = roll_safe es (former_of h)
good_safe h (command.Remove seq) es g = cond_both {A = Option CardUnit} (is_pending seq (card_of h).results.pending) (Some (remove seq)) None (λ o. IfSome o (IsSafe es)) (λ _. g) (λ _. tt)
good_safe h command.Results es g = tt
good_safe h command.Eims es g = tt
good_safe h (command.Initial i a k) es g =
    cond_both {A = Option CardUnit} (not (is_empty_list (card_of h).eims.entries)) None (cond ((card_of h).eims.next == last_association) None (Some (initial i a k))) (λ o. IfSome o (IsSafe es)) (λ _. tt)
    (λ _. cond_both {A = Option CardUnit} ((card_of h).eims.next == last_association) None (Some (initial i a k)) (λ o. IfSome o (IsSafe es)) (λ _. tt) (λ _. tt))

both_come : (h : History) (es : List EimState) (o : Option CardUnit) → IfSome o (May h) → IfSome o (IsSafe es) → IfSome o (MayCome h es)
both_come h es None m s = tt
both_come h es (Some u) m s = record { may = m; safe = s }

-- the unit of such a command may come
pub unit_comes : (h : History) (c : Command) (es : List EimState) → IsLegal h → IsGood es c → IfSome (unit_of h c) (MayCome h es)
unit_comes h c es l g = both_come h es (unit_of h c) (good_may h c es l g) (good_safe h c es g)

-- it is the attempt of the newest mark
tried_comes : (h : History) (es : List EimState) (o : Option CardUnit) (ms : List Mark) → IfSome o (MayCome h es) → IfSome (attempt (tried o ms)) (MayCome h es)
unfolding attempt tried
tried_comes h es o [] t = tt
tried_comes h es o (m ∷ ms) t = t

pub commanded_keeps : (w : SmallWorld) (c : Command) (lost : Bool) → IsGood w.eims c → KeepsWorld w → KeepsWorld (commanded c lost w)
unfolding commanded after attempt
commanded_keeps w c lost g k =
    let u = unit_comes w.history c w.eims k.legal g in
    cond_both w.lit (cond lost (lost_step c w) (answered_step c w)) w KeepsWorld
    (λ _. cond_both lost (lost_step c w) (answered_step c w) KeepsWorld
    (λ _. keeps_tried w.history (attempt w.marks) (attempt (tried (unit_of w.history c) w.marks)) w.to_eims w.to_ipa w.eims (tried_comes w.history w.eims (unit_of w.history c) w.marks u) k)
    (λ _. keeps_grown w.history (attempt w.marks) (unit_of w.history c) w.to_eims w.to_ipa w.eims u k))
    (λ _. k)

woken_keeps : (w : SmallWorld) (taken : Bool) → KeepsWorld w → Keeps (woken taken w) None w.to_eims w.to_ipa w.eims
woken_keeps w taken k =
    cond_both taken (grown (attempt w.marks) w.history) w.history (λ h. Keeps h None w.to_eims w.to_ipa w.eims)
    (λ _. keeps_grown w.history (attempt w.marks) (attempt w.marks) w.to_eims w.to_ipa w.eims k.tried k)
    (λ _. keeps_tried w.history (attempt w.marks) None w.to_eims w.to_ipa w.eims tt k)

pub booted_keeps : (w : SmallWorld) (lost taken : Bool) → KeepsWorld w → KeepsWorld (booted lost taken w)
unfolding booted attempt
booted_keeps w lost taken k =
    cond_both lost (record w { lit = false; plan = None })
    (record w { history = woken taken w; marks = standing (woken taken w) ∷ w.marks; lit = true; plan = None }) KeepsWorld
    (λ _. k)
    (λ _. woken_keeps w taken k)
