-- Worlds of one card, its marks, its power and its plan are stood for alike.
use Rattle.std.proofs.Common.{ℕ, Bool, List, Option, sym, subst}
use Rattle.chip_port.specs.Seen.{Seen}
use Rattle.small_card.specs.Cards.{FullCard}
use Rattle.small_card.specs.Histories.{History}
use Rattle.card_store.specs.Holding.{Mark}
use Rattle.small_world.specs.Stepping.{IsSameCard}
use Rattle.small_world.specs.Worlds.{SmallWorld, Plan}
use Rattle.world_card.specs.Benches.{HoldsWorld, IsOnBench, IsSound}

-- the world with another card
abbrev with_card : SmallWorld → History → List Mark → Bool → Option Plan → SmallWorld
with_card w h marks lit plan = record w { history = h; marks = marks; lit = lit; plan = plan }

carried : (P : SmallWorld → Type 0) (v w : SmallWorld) → IsSameCard v w → P (with_card w v.history v.marks v.lit v.plan) → P w
carried P v w same p =
    let a = subst (λ (h : History). P (with_card w h v.marks v.lit v.plan)) (sym same.history) p in
    let b = subst (λ (ms : List Mark). P (with_card w w.history ms v.lit v.plan)) (sym same.marks) a in
    let c = subst (λ (l : Bool). P (with_card w w.history w.marks l v.plan)) (sym same.lit) b in
    subst (λ (o : Option Plan). P (with_card w w.history w.marks w.lit o)) (sym same.plan) c

holds_with : (first : ℕ) (s : Seen) (v w : SmallWorld) → HoldsWorld first s v → HoldsWorld first s (with_card w v.history v.marks v.lit v.plan)
holds_with first s v w h = record { told = h.told; holds = h.holds; lit = h.lit; dark = h.dark }

sound_with : (v w : SmallWorld) → IsSound v → IsSound (with_card w v.history v.marks v.lit v.plan)
sound_with v w s = record { legal = s.legal; tried = s.tried; newest = s.newest; rests = s.rests }

pub same_holds : (first : ℕ) (s : Seen) (v w : SmallWorld) → IsSameCard v w → HoldsWorld first s v → HoldsWorld first s w
same_holds first s v w same h = carried (HoldsWorld first s) v w same (holds_with first s v w h)

pub same_card : (first : ℕ) (held : Option FullCard) (s : Seen) (v w : SmallWorld) → IsSameCard v w → IsOnBench first held s v → IsOnBench first held s w
same_card first held s v w same b =
    carried (IsOnBench first held s) v w same (record { sound = sound_with v w b.sound; held_is = b.held_is; bench = holds_with first s v w b.bench; plan = b.plan })
