-- The blocks in which two homes differ.
use Rattle.std.specs.Prelude.{ℕ, List, [], ◌∷◌, length, if◌then◌else◌}
use Rattle.std.specs.List.{range_with_len}
use Rattle.undo_journal.specs.declared.layout.TheConstants.{BLOCKS}
use Rattle.undo_journal.specs.Home.{home_in, same_octets, block_of}
use Rattle.chip_port.specs.Seen.{Seen}

-- those of these blocks that aren't the same
abbrev pub differing : List ℕ → List ℕ → List ℕ → List ℕ
differing [] old new = []
differing (b ∷ bs) old new =
    if same_octets (block_of old b) (block_of new b) then differing bs old new else b ∷ differing bs old new

-- the blocks in which two homes differ
unfoldable pub changed : List ℕ → List ℕ → List ℕ
changed old new = differing (range_with_len 0 BLOCKS) old new

-- how many home blocks read otherwise than before
abbrev pub count_changed : Seen → Seen → ℕ
count_changed old new = length (changed (home_in old.reads) (home_in new.reads))
