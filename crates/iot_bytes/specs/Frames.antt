-- A frame is four octets of length, big-endian, and so many octets.
use Rattle.std.specs.Prelude.{◌≡◌, ℕ, ◌+◌, ◌<◌, ◌≤◌, ◌⊎◌, List, [], ◌∷◌, ◌++◌, length, take, drop, Option, Some}
use Rattle.std.specs.Int.{w32, to_be_bytes, from_be_bytes}
use Rattle.iot_bytes.specs.declared.frame.FrameEnd.{FrameEnd}
use Rattle.iot_bytes.specs.declared.frame.FrameEnd.TheVariants.{Frame, End, Torn, TooLong, ReadFault, NoMemory}
use Rattle.iot_bytes.specs.declared.frame.TheConstants.{FRAME_LIMIT, FRAME_HEAD_LEN}

-- the frame of these octets
abbrev pub frame : List ℕ → List ℕ
frame octets = to_be_bytes w32 (length octets) ++ octets

-- what stands for the length until the content is there
abbrev pub blank_head : List ℕ
blank_head = 0 ∷ 0 ∷ 0 ∷ 0 ∷ []

-- the length that the first octets say
abbrev pub announced : List ℕ → ℕ
announced bytes = from_be_bytes w32 (take FRAME_HEAD_LEN bytes)

-- the octets end after the first, inside a frame that isn't too long
abbrev pub IsTorn : List ℕ → Type 0
IsTorn bytes = (0 < length bytes) × ((length bytes < FRAME_HEAD_LEN) ⊎ ((announced bytes ≤ FRAME_LIMIT) × (length bytes < FRAME_HEAD_LEN + announced bytes)))

-- what was taken is the front, and at most so many octets
abbrev pub IsLeft : List ℕ → Option (List ℕ) → ℕ → Type 0
IsLeft bytes left most = (taken : ℕ) × (taken ≤ length bytes) × (taken ≤ most) × (left ≡ Some (drop taken bytes))

-- what was taken is the front, and fewer than so many octets
abbrev pub IsLeftShort : List ℕ → Option (List ℕ) → ℕ → Type 0
IsLeftShort bytes left whole = (taken : ℕ) × (taken ≤ length bytes) × (taken < whole) × (left ≡ Some (drop taken bytes))

-- what was taken is the front, without the last octet of the length, or of the frame that it announces
abbrev pub IsInside : List ℕ → Option (List ℕ) → Type 0
IsInside bytes left = IsLeftShort bytes left FRAME_HEAD_LEN ⊎ ((announced bytes ≤ FRAME_LIMIT) × IsLeftShort bytes left (FRAME_HEAD_LEN + announced bytes))

-- what reading a frame answers at these octets, and what it leaves
abbrev pub FrameGives : List ℕ → FrameEnd → Option (List ℕ) → Type 0
FrameGives bytes (Frame f) left = (length f ≤ FRAME_LIMIT) × (rest : List ℕ) × (bytes ≡ frame f ++ rest) × (left ≡ Some rest)
FrameGives bytes End left = (bytes ≡ []) × (left ≡ Some [])
FrameGives bytes Torn left = IsTorn bytes × (left ≡ Some [])
FrameGives bytes (TooLong n) left = (FRAME_LIMIT < n) × (FRAME_HEAD_LEN ≤ length bytes) × (n ≡ announced bytes) × (left ≡ Some (drop FRAME_HEAD_LEN bytes))
FrameGives bytes ReadFault left = IsInside bytes left
FrameGives bytes NoMemory left = IsLeft bytes left FRAME_HEAD_LEN

-- the octets alone decide this end: it is neither a fault of the source nor want of memory
abbrev pub IsFrameDecided : FrameEnd → Type 0
IsFrameDecided (Frame f) = Unit {0}
IsFrameDecided End = Unit {0}
IsFrameDecided Torn = Unit {0}
IsFrameDecided (TooLong n) = Unit {0}
IsFrameDecided ReadFault = ⊥
IsFrameDecided NoMemory = ⊥
