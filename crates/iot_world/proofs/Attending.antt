-- The modems are told at the end of a line, and at the start.
use Rattle.std.proofs.Common.{◌≡◌, ◌≤◌, ◌<◌, ℕ, Bool, true, false, cond, List, map, Option, Some, None, Err, refl, sym, ◌∙◌, ap, subst}
use Rattle.chip_port.specs.Seen.{Seen}
use Rattle.small_card.specs.Cards.{FullCard}
use Rattle.small_card.specs.Fresh.{fresh}
use Rattle.small_card.specs.Histories.{card_of, card_in, full_of, past_of}
use Rattle.small_card.specs.Profiles.{enabled_of}
use Rattle.small_card.specs.declared.types.Profile.{Profile}
use Rattle.iot_schedule.specs.declared.types.Device.{Device}
use Rattle.iot_schedule.specs.declared.types.Line.{Line}
use Rattle.modem_bank.specs.Modems.{Seen as ModemSeen, told, KeepsShowing}
use Rattle.small_world.specs.Lines.{acted, attended}
use Rattle.small_world.specs.Modems.{without_taken}
use Rattle.small_world.specs.Octets.{most_octets_sent, octets_sent, IsWithin}
use Rattle.small_world.specs.Runs.{after_turn}
use Rattle.small_world.specs.Stepping.{IsSameCard}
use Rattle.small_world.specs.Worlds.{SmallWorld, start_world, started}
use Rattle.small_world.proofs.Attending.{acted_modems, taken_map}
use Rattle.world_card.specs.Benches.{held_in}
use Rattle.world_card.specs.Starts.{IsStarted}
use Rattle.world_card.proofs.Same.{same_card}
use Rattle.world_network.specs.Networks.{Parts, IsNetwork}
use Rattle.world_network.proofs.Standing.{network_alike}
use Rattle.iot_world.specs.Starts.{IsBegun}
use Rattle.iot_world.specs.Steps.{Acts, IsActed}
use Rattle.iot_world.specs.Turns.{IsTurned, KeepsBy, Turns, told_by}
use Rattle.iot_world.specs.Worlds.{StandsFor}
use Rattle.iot_world.specs.declared.ends.Halt.{Halt}
use Rattle.iot_world.specs.declared.ends.Halt.TheVariants.{Limit, Foreign, NoMemory}
use Rattle.iot_world.specs.declared.world.World.{World}
use Rattle.iot_world.proofs.Attaching.{over_left}

-- a lit card tells the modems, and a dark one nothing
pub lit_told : (held : Option FullCard) (f : FullCard) (now : Option (List ℕ)) (before after : List ModemSeen) → held ≡ Some f → now ≡ enabled_of f.card.profiles → after ≡ told now before → after ≡ told_by held before
lit_told held f now before after is enabled told_is = told_is ∙ ap (λ (e : Option (List ℕ)). told e before) enabled ∙ ap (λ (o : Option FullCard). told_by o before) (sym is)

pub lit_kept : {M : Type 0} (shown : M → Option (List ℕ)) (held : Option FullCard) (f : FullCard) (now : Option (List ℕ)) (before after : List M) → held ≡ Some f → now ≡ enabled_of f.card.profiles → KeepsShowing shown now before after → KeepsBy shown held before after
lit_kept shown held f now before after is enabled kept =
    subst (λ (o : Option FullCard). KeepsBy shown o before after) (sym is) (subst (λ (e : Option (List ℕ)). KeepsShowing shown e before after) enabled kept)

-- what the card's power makes of what is told
told_by_power : (lit : Bool) (f : FullCard) (ms : List ModemSeen) → told_by (cond lit (Some f) None) ms ≡ cond lit (told (enabled_of f.card.profiles) ms) ms
told_by_power true f ms = refl
told_by_power false f ms = refl

told_in : (w : SmallWorld) (held : Option FullCard) (ms : List ModemSeen) → held ≡ held_in w → ms ≡ w.modems → told_by held ms ≡ (attended w).modems
unfolding attended full_of
told_in w held ms is same = ap (λ (o : Option FullCard). told_by o ms) is ∙ ap (λ (xs : List ModemSeen). told_by (held_in w) xs) same ∙ told_by_power w.lit (full_of w.history) w.modems

-- the modems are no part of what the network and the card stand for
attended_same : (w : SmallWorld) → IsSameCard w (attended w)
unfolding attended
attended_same w = record { history = refl; marks = refl; lit = refl; plan = refl }

attended_network : (n : Parts) (w : SmallWorld) → IsNetwork n w → IsNetwork n (attended w)
unfolding attended
attended_network n w h = network_alike n w (attended w) refl refl refl refl refl h

attended_stands : (first : ℕ) (v : World) (s : Seen) (w : SmallWorld) → StandsFor first v s w → StandsFor first v s (attended w)
attended_stands first v s w h = record { network = attended_network v.network w h.network; card = same_card first v.card s w (attended w) (attended_same w) h.card }

-- a line whose turn was taken, and at whose end the modems were told
pub turned_told : (first : ℕ) (l : Line) (w : SmallWorld) (v : World) (s t : Seen) (before out : List ℕ) (modems : List ModemSeen) → IsActed first l w v s t before out → modems ≡ told_by v.card (without_taken l w.modems) → IsTurned first l w v s t modems before out
unfolding after_turn attended
turned_told first l w v s t before out modems a told_is =
    let now = acted l a.lost a.taken w in
    record {
      lost = a.lost;
      taken = a.taken;
      may = a.may;
      says = a.says;
      stands = record {
        world = attended_stands first v t now a.stands;
        same_modems = told_is ∙ told_in now v.card (without_taken l w.modems) a.stands.card.held_is (sym (acted_modems w l a.lost a.taken));
      };
      counts = a.counts;
      woken = a.woken;
    }

-- the same modems, as they are seen
pub left_told : {T : Type 0} (view : T → ModemSeen) (l : Line) (held : Option FullCard) (old mid new : List T) (ms : List ModemSeen) → mid ≡ without_taken l old → map view old ≡ ms → map view new ≡ told_by held (map view mid) → map view new ≡ told_by held (without_taken l ms)
left_told view l held old mid new ms left same told_is =
    told_is ∙ ap (λ (xs : List _). told_by held (map view xs)) left ∙ ap (λ (xs : List ModemSeen). told_by held xs) (sym (taken_map view l old) ∙ ap (λ (xs : List ModemSeen). without_taken l xs) same)

pub left_kept : {T : Type 0} (shown : T → Option (List ℕ)) (l : Line) (held : Option FullCard) (old mid new : List T) → mid ≡ without_taken l old → KeepsBy shown held mid new → KeepsBy shown held (without_taken l old) new
left_kept shown l held old mid new left kept = subst (λ (xs : List _). KeepsBy shown held xs new) left kept

-- a line that halts tells no modem; where a message passes the limit none is taken away either
within_limit : (n : Parts) (w : SmallWorld) → IsNetwork n w → octets_sent w ≤ most_octets_sent
unfolding IsWithin
within_limit n w h = h.within

pub over_seen : {T : Type 0} (view : T → ModemSeen) (l : Line) (n : Parts) (w : SmallWorld) (old new : List T) → IsNetwork n w → new ≡ without_taken l old → map view old ≡ w.modems → most_octets_sent < octets_sent (acted l false false w) → map view new ≡ w.modems
over_seen view l n w old new h left same over = ap (λ (xs : List _). map view xs) (left ∙ over_left w l old (within_limit n w h) over) ∙ same

pub turned_halt : (first : ℕ) (l : Line) (w : SmallWorld) (halt : Halt) (v : World) (s t : Seen) (before out : List ℕ) (modems : List ModemSeen) → Acts first l w (Err halt) v s t before out → (most_octets_sent < octets_sent (acted l false false w) → modems ≡ w.modems) → Turns first l w (Err halt) v s t modems before out
turned_halt first l w Limit v s t before out modems a same = (a, same a.over)
turned_halt first l w Foreign v s t before out modems a same = a
turned_halt first l w NoMemory v s t before out modems a same = a

-- the first line
start_told : (d : Device) (handed_in : List ModemSeen) (held : Option FullCard) → held ≡ held_in (start_world d handed_in) → told_by held handed_in ≡ (start_world d handed_in).modems
unfolding start_world started full_of card_of card_in past_of fresh
start_told d handed_in held is = ap (λ (o : Option FullCard). told_by o handed_in) is

pub begun : (d : Device) (profiles : List Profile) (handed_in modems : List ModemSeen) (v : World) (n : Parts) (held : Option FullCard) (s t : Seen) → v.network ≡ n → v.card ≡ held → profiles ≡ d.profiles → IsStarted (record { eid = d.eid; profiles = profiles }) held s t → IsNetwork n (start_world d handed_in)
    → modems ≡ told_by held handed_in → IsBegun d handed_in v s t modems
begun d profiles handed_in modems v n held s t network_is card_is same started_is network told_is =
    let card = subst (λ (o : Option FullCard). IsStarted d o s t) (sym card_is) (subst (λ (ps : List Profile). IsStarted (record { eid = d.eid; profiles = ps }) held s t) same started_is) in
    record {
      stands = record {
        world = record { network = subst (λ (x : Parts). IsNetwork x (start_world d handed_in)) (sym network_is) network; card = card.stands handed_in };
        same_modems = told_is ∙ ap (λ (o : Option FullCard). told_by o handed_in) (sym card_is) ∙ start_told d handed_in v.card (card.stands handed_in).held_is;
      };
      counts = card.counts;
    }
