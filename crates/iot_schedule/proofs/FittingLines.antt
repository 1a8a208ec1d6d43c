-- Each line that is read is in range.
use Rattle.std.proofs.Common.{◌≡◌, ℕ, List, [], ◌∷◌, Option, Some, Result, Ok, Err, IfOk, subst}
use Rattle.std.specs.Prelude.{codes}
use Rattle.iot_bytes.specs.declared.memory.ReadError.{ReadError}
use Rattle.iot_bytes.specs.declared.memory.ReadError.TheVariants.{Malformed, NoMemory}
use Rattle.sgp_der.specs.Fields.{Gives}
use Rattle.sgp_der.proofs.Fields.{on_some, guard_some}
use Rattle.sgp_values.specs.Reading.{eim_id_of}
use Rattle.small_card.specs.Lists.{same}
use Rattle.small_card.specs.Pairs.{each_pair, are_profiles_apart}
use Rattle.small_card.specs.Ranges.{greatest_counter}
use Rattle.small_card.proofs.PairTests.{pairs_take, profile_pairs}
use Rattle.std.proofs.lemmas.Option.{same_Some}
use Rattle.iot_schedule.specs.declared.types.Device.{Device}
use Rattle.iot_schedule.specs.declared.types.Line.{Line}
use Rattle.iot_schedule.specs.declared.types.Line.TheVariants as line
use Rattle.iot_schedule.specs.Words.{words, word_at, last_word, no_word, list_of}
use Rattle.iot_schedule.specs.Tokens.{number_of, eid_word, address_word, key_word, profile_word, pick_word, bytes_word, choice_of, tear_word}
use Rattle.iot_schedule.specs.Operations.{body_of}
use Rattle.iot_schedule.specs.Devices.{device_of, device_line, device_at}
use Rattle.iot_schedule.specs.Steps.{eim_line, initial_line, bind_line, order_line, skip_line, kept_line, poll_line, up_line, verdict_of, down_line, load_line, probe_line, cut_line, detach_line, bare_line, device_step, assistant_step, network_step, eim_step, step_line, step_at}
use Rattle.iot_schedule.specs.Ranges.{IsDevice, IsStep}
use Rattle.iot_schedule.proofs.Fitting.{branch, last_fits, word_fits, list_fits, number_fits, eid_fits, name_fits, address_word_fits, key_word_fits, profile_fits, pick_fits, bytes_fits, body_fits}

-- whatever these words are read as is in range
abbrev LineFits : (List (List ℕ) → Option Line) → Type 0
LineFits of = (ws : List (List ℕ)) (l : Line) → of ws ≡ Some l → IsStep l

eim_fits : LineFits eim_line
unfolding eim_line IsStep
eim_fits ws l e = on_some (last_word eim_id_of ws) (λ id. Some (line.Eim id)) l e (λ id a e1. subst IsStep (same_Some (line.Eim id) l e1) (last_fits name_fits ws id a))

skip_fits : LineFits skip_line
unfolding skip_line IsStep
skip_fits ws l e = on_some (last_word eim_id_of ws) (λ id. Some (line.Skip id)) l e (λ id a e1. subst IsStep (same_Some (line.Skip id) l e1) (last_fits name_fits ws id a))

kept_fits : LineFits kept_line
unfolding kept_line IsStep
kept_fits ws l e = on_some (last_word eim_id_of ws) (λ id. Some (line.Kept id)) l e (λ id a e1. subst IsStep (same_Some (line.Kept id) l e1) (last_fits name_fits ws id a))

poll_fits : LineFits poll_line
unfolding poll_line IsStep
poll_fits ws l e = on_some (last_word eim_id_of ws) (λ id. Some (line.Poll id)) l e (λ id a e1. subst IsStep (same_Some (line.Poll id) l e1) (last_fits name_fits ws id a))

initial_fits : LineFits initial_line
unfolding initial_line IsStep
initial_fits ws l e =
    on_some (word_at eim_id_of ws) _ l e (λ id a e1.
    on_some (word_at address_word id.1) _ l e1 (λ address b e2.
    on_some (last_word key_word address.1) (λ key. Some (line.Initial id.0 address.0 key)) l e2 (λ key c e3.
    subst IsStep (same_Some (line.Initial id.0 address.0 key) l e3) (word_fits name_fits ws id a, word_fits address_word_fits id.1 address b, last_fits key_word_fits address.1 key c))))

bind_fits : LineFits bind_line
unfolding bind_line IsStep
bind_fits ws l e =
    on_some (word_at eim_id_of ws) _ l e (λ id a e1.
    on_some (word_at (number_of 1 4294967295) id.1) _ l e1 (λ association b e2.
    on_some (last_word (number_of 0 greatest_counter) association.1) (λ last. Some (line.Bind id.0 association.0 last)) l e2 (λ last c e3.
    let n = word_fits (number_fits 1 4294967295) id.1 association b in
    subst IsStep (same_Some (line.Bind id.0 association.0 last) l e3) (word_fits name_fits ws id a, record { some = n.low; fits = n.high }, (last_fits (number_fits 0 greatest_counter) association.1 last c).high))))

order_fits : LineFits order_line
unfolding order_line IsStep
order_fits ws l e =
    on_some (word_at eim_id_of ws) _ l e (λ id a e1.
    on_some (body_of id.1) (λ operations. Some (line.Order id.0 operations)) l e1 (λ operations b e2.
    subst IsStep (same_Some (line.Order id.0 operations) l e2) (word_fits name_fits ws id a, body_fits id.1 operations b)))

up_fits : LineFits up_line
unfolding up_line IsStep
up_fits ws l e = on_some (last_word pick_word ws) (λ pick. Some (line.Up pick)) l e (λ pick a e1. subst IsStep (same_Some (line.Up pick) l e1) (last_fits pick_fits ws pick a))

down_fits : LineFits down_line
unfolding down_line IsStep
down_fits ws l e =
    on_some (word_at pick_word ws) _ l e (λ pick a e1.
    on_some (verdict_of pick.1) (λ good. Some (line.Down pick.0 good)) l e1 (λ good b e2.
    subst IsStep (same_Some (line.Down pick.0 good) l e2) (word_fits pick_fits ws pick a)))

load_fits : LineFits load_line
unfolding load_line IsStep
load_fits ws l e =
    on_some (word_at (choice_of (codes "good") (codes "bad")) ws) _ l e (λ good a e1.
    on_some (last_word bytes_word good.1) (λ bytes. Some (line.Load good.0 bytes)) l e1 (λ bytes b e2.
    subst IsStep (same_Some (line.Load good.0 bytes) l e2) (last_fits bytes_fits good.1 bytes b)))

probe_fits : LineFits probe_line
unfolding probe_line IsStep
probe_fits ws l e = on_some (last_word (choice_of (codes "ok") (codes "fail")) ws) (λ passed. Some (line.Probe passed)) l e (λ passed a e1. subst IsStep (same_Some (line.Probe passed) l e1) tt)

cut_fits : LineFits cut_line
unfolding cut_line IsStep
cut_fits ws l e =
    on_some (word_at (number_of 0 4294967295) ws) _ l e (λ calls a e1.
    on_some (last_word tear_word calls.1) (λ tear. Some (line.Cut calls.0 tear)) l e1 (λ tear b e2.
    subst IsStep (same_Some (line.Cut calls.0 tear) l e2) (word_fits (number_fits 0 4294967295) ws calls a).high))

detach_fits : LineFits detach_line
unfolding detach_line IsStep
detach_fits ws l e = on_some (last_word (number_of 0 4294967295) ws) (λ at. Some (line.Detach at)) l e (λ at a e1. subst IsStep (same_Some (line.Detach at) l e1) (last_fits (number_fits 0 4294967295) ws at a).high)

bare_fits : (it : Line) → IsStep it → LineFits (bare_line it)
unfolding bare_line
bare_fits it fits ws l e = on_some (no_word ws) (λ end. Some it) l e (λ end a e1. subst IsStep (same_Some it l e1) fits)

boot_in : IsStep line.Boot
unfolding IsStep
boot_in = tt

show_in : IsStep line.Show
unfolding IsStep
show_in = tt

modems_in : IsStep line.Modems
unfolding IsStep
modems_in = tt

push_in : IsStep line.Push
unfolding IsStep
push_in = tt

rollback_in : IsStep line.Rollback
unfolding IsStep
rollback_in = tt

restart_in : IsStep line.Restart
unfolding IsStep
restart_in = tt

device_fits : (name : List ℕ) → LineFits (device_step name)
unfolding device_step
device_fits name ws l e =
    branch (same name (codes "cut")) _ _ l e (λ f. cut_fits ws l f) (λ e1.
    branch (same name (codes "boot")) _ _ l e1 (λ f. bare_fits line.Boot boot_in ws l f) (λ e2.
    branch (same name (codes "show")) _ _ l e2 (λ f. bare_fits line.Show show_in ws l f) (λ e3.
    branch (same name (codes "detach")) _ _ l e3 (λ f. detach_fits ws l f) (λ e4.
    branch (same name (codes "modems")) _ _ l e4 (λ f. bare_fits line.Modems modems_in ws l f) (λ e5.
    absurd cc)))))

assistant_fits : (name : List ℕ) → LineFits (assistant_step name)
unfolding assistant_step
assistant_fits name ws l e =
    branch (same name (codes "load")) _ _ l e (λ f. load_fits ws l f) (λ e1.
    branch (same name (codes "push")) _ _ l e1 (λ f. bare_fits line.Push push_in ws l f) (λ e2.
    branch (same name (codes "probe")) _ _ l e2 (λ f. probe_fits ws l f) (λ e3.
    branch (same name (codes "rollback")) _ _ l e3 (λ f. bare_fits line.Rollback rollback_in ws l f) (λ e4.
    branch (same name (codes "restart")) _ _ l e4 (λ f. bare_fits line.Restart restart_in ws l f) (λ e5.
    device_fits name ws l e5)))))

network_fits : (name : List ℕ) → LineFits (network_step name)
unfolding network_step
network_fits name ws l e =
    branch (same name (codes "poll")) _ _ l e (λ f. poll_fits ws l f) (λ e1.
    branch (same name (codes "up")) _ _ l e1 (λ f. up_fits ws l f) (λ e2.
    branch (same name (codes "down")) _ _ l e2 (λ f. down_fits ws l f) (λ e3.
    assistant_fits name ws l e3)))

eim_step_fits : (name : List ℕ) → LineFits (eim_step name)
unfolding eim_step
eim_step_fits name ws l e =
    branch (same name (codes "eim")) _ _ l e (λ f. eim_fits ws l f) (λ e1.
    branch (same name (codes "initial")) _ _ l e1 (λ f. initial_fits ws l f) (λ e2.
    branch (same name (codes "bind")) _ _ l e2 (λ f. bind_fits ws l f) (λ e3.
    branch (same name (codes "order")) _ _ l e3 (λ f. order_fits ws l f) (λ e4.
    branch (same name (codes "skip")) _ _ l e4 (λ f. skip_fits ws l f) (λ e5.
    branch (same name (codes "kept")) _ _ l e5 (λ f. kept_fits ws l f) (λ e6.
    network_fits name ws l e6))))))

line_fits : LineFits step_line
unfolding step_line
line_fits [] l e = absurd cc
line_fits (name ∷ ws) l e = eim_step_fits name ws l e

pub step_fits : (text : List ℕ) (l : Line) → step_at text ≡ Some l → IsStep l
unfolding step_at
step_fits text l e = line_fits (words text) l e

personal_fits : (ws : List (List ℕ)) (d : Device) → device_of ws ≡ Some d → IsDevice d
unfolding device_of
personal_fits ws d e =
    on_some (word_at eid_word ws) _ d e (λ eid a e1.
    on_some (list_of profile_word 16 eid.1) _ d e1 (λ profiles b e2.
    let g = guard_some (each_pair are_profiles_apart profiles) (record { eid = eid.0; profiles = profiles }) d e2 in
    let ps = list_fits profile_fits 16 eid.1 profiles b in
    subst IsDevice g.1 (record { eid = word_fits eid_fits ws eid a; profiles = record { few = ps.few; each = ps.each; apart = pairs_take profile_pairs profiles g.0 } })))

first_fits : (ws : List (List ℕ)) (d : Device) → device_line ws ≡ Some d → IsDevice d
unfolding device_line
first_fits [] d e = absurd cc
first_fits (name ∷ ws) d e = branch (same name (codes "device")) _ _ d e (λ f. personal_fits ws d f) (λ f. absurd cc)

pub device_fits_in : (text : List ℕ) (d : Device) → device_at text ≡ Some d → IsDevice d
unfolding device_at
device_fits_in text d e = first_fits (words text) d e

-- what a reader gives is in range
pub step_given : (text : List ℕ) (answer : Result Line ReadError) → Gives answer (step_at text) → IfOk answer (λ l. IsStep l)
step_given text (Ok l) e = step_fits text l e
step_given text (Err Malformed) e = tt
step_given text (Err NoMemory) e = tt

pub device_given : (text : List ℕ) (answer : Result Device ReadError) → Gives answer (device_at text) → IfOk answer (λ d. IsDevice d)
device_given text (Ok d) e = device_fits_in text d e
device_given text (Err Malformed) e = tt
device_given text (Err NoMemory) e = tt
