-- Making a card: the magic goes first and comes last.
use Rattle.std.proofs.Common.{◌≡◌, ◌⊎◌, inl, inr, ⊎_elim, ℕ, ◌+◌, ◌-◌, ◌≤◌, Bool, true, false, List, [], ◌∷◌, ◌++◌, length, drop, get_or, refl, sym, ◌∙◌, ap, subst, arith, length-drop}
use Rattle.std.specs.Prelude.{Some, None, ◌==◌}
use Rattle.std.proofs.lemmas.Grind.{common_steps}
use Rattle.std.proofs.lemmas.List.{append-nil, drop_all}
use Rattle.chip_port.specs.Seen.{Seen}
use Rattle.chip_port.specs.Rules.{put, Torn, Untouched}
use Rattle.chip_port.specs.Runs.{Ran}
use Rattle.chip_port.specs.PastLaws.{torn_put, torn_same, length-put}
use Rattle.chip_port.proofs.Apart.{torn_front, torn_back, octet_apart, drop_put}
use Rattle.chip_port.proofs.Runs.{ran_none, ran_then, ran_most, ran_untouched}
use Rattle.undo_journal.specs.Home.{home, home_in, has_magic, same_octets, magic, is_open, gate_of}
use Rattle.undo_journal.proofs.Gates.{home_shut}
use Rattle.undo_journal.proofs.Restoring.{foreign_magic}
use Rattle.small_card.specs.Cards.{FullCard}
use Rattle.home_codec.specs.Homes.{HasFields, IsHomeOf}
use Rattle.card_store.specs.Standing.{IsSettled}
use Rattle.card_store.specs.Formatting.{ButForMagic, InTheMaking, Makes}
use Rattle.card_store.proofs.Cards.{idle_settled}

-- octets that are put up to the end are the end
put_end : (x octets : List ℕ) (at : ℕ) → at + length octets ≡ length x → drop at (put x at octets) ≡ octets
put_end x octets at len =
    drop_put at at octets x (omega arith) (omega arith)
    ∙ (let none : at - at ≡ 0 = omega arith in ap (λ (k : ℕ). put (drop at x) k octets) none)
    ∙ ap (λ (l : List ℕ). octets ++ l) (drop_all (0 + length octets) (drop at x) (omega (arith, length-drop at x)))
    ∙ append-nil octets

-- what is torn behind the magic has the magic or not as before
pub magic_stays : (at n : ℕ) (d i : List ℕ) → 8 ≤ at → Torn at n d i → has_magic d ≡ false → has_magic i ≡ false
magic_stays at n d i le t none = ap (λ (l : List ℕ). same_octets l magic) (torn_front at n 8 d i le t) ∙ none

-- behind a closed gate there is the home or none
pub home_either : (i : List ℕ) → is_open i ≡ false → (home i ≡ None) ⊎ (home i ≡ Some (home_in i))
home_either i shut = elim (bool_cases (has_magic i)) [ inl there ↦ inr (home_shut i there shut) | inr none ↦ inl (foreign_magic i none) ]
  where
    bool_cases : (b : Bool) → (b ≡ true) ⊎ (b ≡ false)
    bool_cases true = inl refl
    bool_cases false = inr refl

-- while the magic is written over a home behind a closed gate
pub signing : (r d i : List ℕ) → is_open r ≡ false → d ≡ r → Torn 0 8 d i → (home i ≡ None) ⊎ (home i ≡ Some (home_in r))
signing r d i shut same t =
    let torn : Torn 0 8 r i = subst (λ (l : List ℕ). Torn 0 8 l i) same t in
    let shut' : is_open i ≡ false = ap (λ (n : ℕ). n == 165) (octet_apart 0 8 256 r i torn (inr (omega arith))) ∙ shut in
    ⊎_elim inl (λ there. inr (there ∙ ap (λ (l : List ℕ). Some l) (torn_back 0 8 174336 r i (omega arith) torn))) (home_either i shut')

pub record IsSigned (r x : List ℕ) : Type 0 where
  pub front : has_magic x ≡ true
  pub shut : is_open x ≡ false
  pub home_now : home_in x ≡ home_in r

-- the magic was written
pub signed : (r x : List ℕ) → length r ≡ 346624 → is_open r ≡ false → x ≡ put r 0 (73 ∷ 79 ∷ 84 ∷ 67 ∷ 65 ∷ 82 ∷ 68 ∷ 58 ∷ []) → IsSigned r x
signed r x size shut is =
    let torn : Torn 0 8 r (put r 0 (73 ∷ 79 ∷ 84 ∷ 67 ∷ 65 ∷ 82 ∷ 68 ∷ 58 ∷ [])) = torn_put r 0 8 (73 ∷ 79 ∷ 84 ∷ 67 ∷ 65 ∷ 82 ∷ 68 ∷ 58 ∷ []) (omega (arith, size)) (omega arith) in
    record {
      front = ap has_magic is;
      shut = ap is_open is ∙ ap (λ (n : ℕ). n == 165) (octet_apart 0 8 256 r _ torn (inr (omega arith))) ∙ shut;
      home_now = ap home_in is ∙ torn_back 0 8 174336 r _ (omega arith) torn;
    }

pub record IsFilled (blocks x : List ℕ) : Type 0 where
  pub shut : is_open x ≡ false
  pub home_now : home_in x ≡ blocks

-- the gate and the home were written
pub filled : (r y x blocks : List ℕ) → length r ≡ 346624 → length blocks ≡ 172288 → y ≡ put r 256 (0 ∷ []) → x ≡ put y 174336 blocks → IsFilled blocks x
filled r y x blocks size len first second =
    let y_size : length y ≡ 346624 = ap length first ∙ length-put r 256 (0 ∷ []) (omega (arith, size)) ∙ size in
    let gate : gate_of y ≡ 0 = ap gate_of first ∙ gate_put r 256 0 (omega (arith, size)) in
    let torn : Torn 174336 (length blocks) y (put y 174336 blocks) = torn_put y 174336 (length blocks) blocks (omega (arith, y_size, len)) (omega arith) in
    record {
      shut = ap is_open second ∙ ap (λ (n : ℕ). n == 165) (octet_apart 174336 (length blocks) 256 y _ torn (inl (omega arith)) ∙ gate);
      home_now = ap home_in second ∙ put_end y blocks 174336 (omega (arith, y_size, len));
    }
  where
    gate_put : (r : List ℕ) (at gate : ℕ) → at + 1 ≤ length r → get_or (put r at (gate ∷ [])) at 0 ≡ gate
    gate_put r at gate le = grind (arith, common_steps)

-- the magic was zeroed
pub erased : (r x : List ℕ) → x ≡ put r 0 (0 ∷ 0 ∷ 0 ∷ 0 ∷ 0 ∷ 0 ∷ 0 ∷ 0 ∷ []) → has_magic x ≡ false
erased r x is = ap has_magic is

-- no magic, no home
pub unhomed : (blocks : List ℕ) (s : Seen) (i : List ℕ) → has_magic i ≡ false → ButForMagic s i ⊎ ((home i ≡ None) ⊎ (home i ≡ Some blocks))
unhomed blocks s i none = inr (inl (foreign_magic i none))

-- a whole new image is that of the card whose home was written
pub made : (d : FullCard) (blocks : List ℕ) (ok : Bool) (a b c : Seen) → a.told ≡ true → IsHomeOf d blocks → Untouched (λ t. t) a b → Makes blocks ok b c → Ran 2000 ok (InTheMaking d a) a c × (ok ≡ true → IsSettled d c)
made d blocks ok a b c told is u m = (
  ran_most (omega arith) (ran_then (ran_untouched (ran_none (InTheMaking d a) a told (λ i was. inl (i, was, torn_same 0 8 i))) u) m.ran
      (λ i either. ⊎_elim (λ but. inl (but.0, (u.keeps.leaves but.0).1 but.1, but.2)) (λ later. inr (⊎_elim inl (λ there. inr (record { blocks = blocks; there = there; fields = is.fields; valid = is.valid })) later)) either)),
  λ done. idle_settled d c (m.idle done) (subst (λ (l : List ℕ). HasFields d l) (sym (m.home_now done)) is.fields) is.valid,
)
