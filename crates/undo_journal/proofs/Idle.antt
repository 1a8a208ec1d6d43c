-- An idle chip.
use Rattle.std.proofs.Common.{◌≡◌, ℕ, List, take, get_or, sym, ◌∙◌, ap}
use Rattle.std.specs.Prelude.{Some, ◌==◌}
use Rattle.chip_port.specs.Seen.{Seen, Tally}
use Rattle.chip_port.specs.Rules.{Untouched}
use Rattle.undo_journal.specs.Home.{same_octets, magic, home, home_in}
use Rattle.undo_journal.specs.States.{IsIdle}
use Rattle.undo_journal.proofs.Gates.{home_shut}

-- its home is that of its home blocks
pub idle_home : (s : Seen) → IsIdle s → home s.reads ≡ Some (home_in s.reads)
idle_home s idle = home_shut s.reads idle.front idle.shut

-- it stays idle while neither its content changes nor what a cut may leave, as over a read or an answer
pub idle_kept : {a b : Seen} → IsIdle a → b.reads ≡ a.reads → ((i : List ℕ) → b.leaves i → a.leaves i) → IsIdle b
idle_kept idle same fewer = record {
  settled = λ i now. idle.settled i (fewer i now) ∙ sym same;
  front = ap (λ (l : List ℕ). same_octets (take 8 l) magic) same ∙ idle.front;
  shut = ap (λ (l : List ℕ). get_or l 256 0 == 165) same ∙ idle.shut;
}

-- as over prepare and plan_cut
pub idle_untouched : {f : Tally → Tally} {a b : Seen} → IsIdle a → Untouched f a b → IsIdle b
idle_untouched idle u = idle_kept idle u.keeps.reads (λ i now. (u.keeps.leaves i).1 now)
