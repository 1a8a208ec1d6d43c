-- After a line that leaves the card lit, each modem shows the enabled profile.
use Rattle.std.proofs.Common.{◌≡◌, ℕ, true, List, [], ◌∷◌, refl, ap, sym, ◌∙◌, Option, None, Some}
use Rattle.std.proofs.lemmas.Bool.{cond_both, false≢true}
use Rattle.small_card.specs.Fresh.{fresh}
use Rattle.small_card.specs.Histories.{card_of, card_in, past_of}
use Rattle.small_card.specs.Lists.{Every}
use Rattle.small_card.proofs.ListLemmas.{same_yes}
use Rattle.iot_schedule.specs.declared.types.Device.{Device}
use Rattle.modem_bank.specs.Modems.{Seen, is_shown, told}
use Rattle.small_world.specs.Lines.{acted, attended}
use Rattle.small_world.specs.Runs.{Turn, after_turn, world_after}
use Rattle.small_world.specs.Worlds.{SmallWorld, enabled_after, started, start_world}

shown_same : (a b : Option (List ℕ)) → is_shown a b ≡ true → a ≡ b
shown_same None None e = refl
shown_same None (Some b) e = absurd (false≢true e)
shown_same (Some a) None e = absurd (false≢true e)
shown_same (Some a) (Some b) e = ap (λ (x : List ℕ). Some x) (same_yes a b e)

-- the modem shows this
abbrev pub Shows : Option (List ℕ) → Seen → Type 0
Shows now m = m.0 ≡ now

told_shows : (now : Option (List ℕ)) (ms : List Seen) → Every (Shows now) (told now ms)
told_shows now [] = tt
told_shows now (m ∷ ms) = (cond_both (is_shown m.0 now) m _ (Shows now) (λ e. shown_same m.0 now e) (λ _. refl), told_shows now ms)

attended_shows : (v : SmallWorld) → v.lit ≡ true → Every (Shows (enabled_after v.history)) (attended v).modems
unfolding attended
attended_shows v l = cond_both v.lit (told (enabled_after v.history) v.modems) v.modems (Every (Shows (enabled_after v.history))) (λ _. told_shows (enabled_after v.history) v.modems) (λ d. absurd (false≢true (sym d ∙ l)))

start_shows : (d : Device) (handed_in : List Seen) → Every (Shows (enabled_after (start_world d handed_in).history)) (start_world d handed_in).modems
unfolding start_world started fresh card_of card_in past_of
start_shows d handed_in = told_shows _ handed_in

turn_shows : (w : SmallWorld) (t : Turn) → (after_turn w t).lit ≡ true → Every (Shows (enabled_after (after_turn w t).history)) (after_turn w t).modems
unfolding after_turn attended
turn_shows w t l = attended_shows (acted t.line t.lost t.taken w) l

pub run_shows : (d : Device) (handed_in : List Seen) (ts : List Turn) → (world_after (start_world d handed_in) ts).lit ≡ true
    → Every (Shows (enabled_after (world_after (start_world d handed_in) ts).history)) (world_after (start_world d handed_in) ts).modems
unfolding world_after
run_shows d handed_in [] l = start_shows d handed_in
run_shows d handed_in (t ∷ ts) l = turn_shows (world_after (start_world d handed_in) ts) t l
