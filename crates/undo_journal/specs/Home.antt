-- The home that an image of the chip stands for.
use lib.Pointwise.{pointwise}
use Rattle.std.specs.Prelude.{◌≡◌, ℕ, ◌+◌, ◌*◌, ◌≤◌, Bool, true, ◌&&◌, if◌then◌else◌, ◌==◌, eqb, ltb, leb, List, [], ◌∷◌, ◌++◌, length, take, drop, get_or, Option, Some, None}
use Rattle.chip_port.specs.Rules.{put}
use Rattle.undo_journal.specs.declared.layout.TheConstants.{GATE, OPEN, DIRECTORY, DIRECTORY_SIZE, OLD, HOME, HOME_SIZE, BLOCK, BLOCKS}

-- the directory of the journal
abbrev pub directory_in : List ℕ → List ℕ
directory_in image = take DIRECTORY_SIZE (drop DIRECTORY image)

-- the old blocks, one after the other
abbrev pub old_in : List ℕ → List ℕ
old_in image = take HOME_SIZE (drop OLD image)

-- the 673 home blocks, one after the other
abbrev pub home_in : List ℕ → List ℕ
home_in image = drop HOME image

-- "IOTCARD:"
abbrev pub magic : List ℕ
magic = 73 ∷ 79 ∷ 84 ∷ 67 ∷ 65 ∷ 82 ∷ 68 ∷ 58 ∷ []

abbrev pub same_octets : List ℕ → List ℕ → Bool
same_octets xs ys = pointwise eqb xs ys

abbrev pub has_magic : List ℕ → Bool
has_magic image = same_octets (take 8 image) magic

-- the gate octet
abbrev pub gate_of : List ℕ → ℕ
gate_of image = get_or image GATE 0

-- it is A5; with every other value the gate is closed
abbrev pub is_open : List ℕ → Bool
is_open image = gate_of image == OPEN

-- the numbers of pairs of octets, big-endian
abbrev pub numbers : List ℕ → List ℕ
numbers (high ∷ low ∷ rest) = (256 * high + low) ∷ numbers rest
numbers rest = []

-- the count, and as many block numbers, of a directory
abbrev pub count_of : List ℕ → ℕ
count_of directory = 256 * get_or directory 0 0 + get_or directory 1 0

abbrev pub entries : List ℕ → List ℕ
entries directory = numbers (take (2 * count_of directory) (drop 2 directory))

-- each number is above the one before it, and below 673
abbrev pub rises : List ℕ → Bool
rises [] = true
rises (b ∷ []) = ltb b BLOCKS
rises (b ∷ c ∷ bs) = ltb b c && rises (c ∷ bs)

-- 1 to 673 block numbers that rise strictly and are below 673
unfoldable pub is_well_formed : List ℕ → Bool
is_well_formed directory = leb 1 (count_of directory) && leb (count_of directory) BLOCKS && rises (entries directory)

-- the home with each old block over the home block of its number
abbrev pub put_back : List ℕ → List ℕ → List ℕ → List ℕ
put_back [] old home = home
put_back (block ∷ blocks) old home = put_back blocks (drop BLOCK old) (put home (BLOCK * block) (take BLOCK old))

-- none without the magic, or behind an open gate with a directory that is not well formed; else the home blocks, with the old ones put back where the gate is open
unfoldable pub home : List ℕ → Option (List ℕ)
home image =
    if has_magic image then
    (if is_open image then
    (if is_well_formed (directory_in image) then Some (put_back (entries (directory_in image)) (old_in image) (home_in image)) else None)
    else Some (home_in image))
    else None

-- one block of a home
abbrev pub block_of : List ℕ → ℕ → List ℕ
block_of home block = take BLOCK (drop (BLOCK * block) home)

-- these blocks of a home, one after the other
abbrev pub kept : List ℕ → List ℕ → List ℕ
kept [] home = []
kept (block ∷ blocks) home = block_of home block ++ kept blocks home

-- what a list of blocks to keep must be: 1 to 673 numbers that rise strictly and are below 673
pub record AreBlocks (blocks : List ℕ) : Type 0 where
  pub some : 1 ≤ length blocks
  pub few : length blocks ≤ BLOCKS
  pub rising : rises blocks ≡ true
