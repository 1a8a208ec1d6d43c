-- The generator: which line a number has in the schedule of a start.
use Rattle.std.specs.Prelude.{ℕ, zero, suc, ◌+◌, ◌*◌, ◌/◌, ◌%◌, ◌==◌, nat_le, nat_lt, List, ◌++◌, if◌then◌else◌, codes}
use Rattle.std.specs.Fmt.{decimal}

-- one draw: the next state of the sequence
unfoldable pub next_state : ℕ → ℕ
next_state x = (x * 1103515245 + 12345) % 2147483648

-- and what the draw gives, from 0 to 32767
abbrev pub drawn : ℕ → ℕ
drawn x = x / 65536

-- the profile that a draw picks
abbrev pub target_text : ℕ → List ℕ
target_text x =
    if drawn x % 3 == 0 then codes "98440000000000000001"
    else if drawn x % 3 == 1 then codes "98440000000000000002"
    else codes "98440000000000000003"

-- an order about the profile that the next draw picks
unfoldable pub aimed_text : List ℕ → ℕ → List ℕ
aimed_text label x = label ++ target_text (next_state x)

abbrev pub tear_name : ℕ → List ℕ
tear_name x =
    if drawn x % 4 == 0 then codes " old"
    else if drawn x % 4 == 1 then codes " new"
    else if drawn x % 4 == 2 then codes " half"
    else codes " junk"

-- a planned cut: the next draw gives its calls, and the one behind that what it leaves
unfoldable pub cut_text : ℕ → List ℕ
cut_text x = codes "cut " ++ (decimal (drawn (next_state x) % 32) ++ tear_name (next_state (next_state x)))

-- the lines of the kinds 0 to 7
unfoldable pub first_kinds : ℕ → ℕ → List ℕ
first_kinds kind x =
    if kind == 0 then aimed_text (codes "order e1 enable!:") x
    else if kind == 1 then aimed_text (codes "order e1 enable:") x
    else if kind == 2 then aimed_text (codes "order e1 disable:") x
    else if kind == 3 then codes "order e1 list"
    else if kind == 4 then codes "poll e1"
    else if kind == 5 then codes "up last"
    else if kind == 6 then codes "up last"
    else codes "down last"

-- the lines of the kinds 8 to 15
unfoldable pub other_kinds : ℕ → ℕ → List ℕ
other_kinds kind x =
    if kind == 8 then codes "down last"
    else if kind == 9 then codes "push"
    else if kind == 10 then codes "probe fail"
    else if kind == 11 then codes "probe ok"
    else if kind == 12 then cut_text x
    else if kind == 13 then codes "boot"
    else if kind == 14 then codes "show"
    else codes "skip e1"

-- the line of the draw x, which gives its kind
unfoldable pub made_text : ℕ → List ℕ
made_text x =
    let kind = drawn x % 16 in
    if nat_lt kind 8 then first_kinds kind x else other_kinds kind x

-- the state behind that line: an order about a profile draws once more, a cut twice
unfoldable pub state_behind : ℕ → ℕ
state_behind x =
    let kind = drawn x % 16 in
    if nat_le kind 2 then next_state x
    else if kind == 12 then next_state (next_state x)
    else x

-- the first four lines, which draw nothing
unfoldable pub head_text : ℕ → List ℕ
head_text number =
    if number == 1 then codes "device 000102030405060708090a0b0c0d0e0f -98440000000000000001% -98440000000000000002% -98440000000000000003%"
    else if number == 2 then codes "eim e1"
    else if number == 3 then codes "initial e1 @ #"
    else codes "bind e1 1 0"

-- the line of a number, made from a state of the sequence, and the state behind it
unfoldable pub line_text : ℕ → ℕ → List ℕ
line_text number x = if nat_le number 4 then head_text number else made_text (next_state x)

unfoldable pub state_after : ℕ → ℕ → ℕ
state_after number x = if nat_le number 4 then x else state_behind (next_state x)

-- the state before the line of a number: the start, and then what each line leaves
unfoldable pub state_before : ℕ → ℕ → ℕ
state_before start zero = start
state_before start (suc number) = state_after number (state_before start number)

-- the line of a number in the schedule of a start
unfoldable pub made_line : ℕ → ℕ → List ℕ
made_line start number = line_text number (state_before start number)
