-- The lines behind the first one: a keyword, and the words that it takes.
use Rattle.std.specs.Prelude.{ℕ, Bool, true, false, List, [], ◌∷◌, Option, Some, None, if◌then◌else◌, codes}
use Rattle.sgp_der.specs.Fields.{◌>>=◌}
use Rattle.sgp_values.specs.Reading.{eim_id_of}
use Rattle.small_card.specs.Lists.{same}
use Rattle.small_card.specs.Ranges.{greatest_counter}
use Rattle.iot_schedule.specs.declared.types.Line.{Line}
use Rattle.iot_schedule.specs.declared.types.Line.TheVariants as line
use Rattle.iot_schedule.specs.Words.{words, word_at, last_word, no_word}
use Rattle.iot_schedule.specs.Tokens.{number_of, address_word, key_word, pick_word, bytes_word, choice_of, tear_word}
use Rattle.iot_schedule.specs.Operations.{body_of}

unfoldable pub eim_line : List (List ℕ) → Option Line
eim_line ws = do
  id ← last_word eim_id_of ws
  Some (line.Eim id)

unfoldable pub initial_line : List (List ℕ) → Option Line
initial_line ws = do
  id ← word_at eim_id_of ws
  address ← word_at address_word id.1
  key ← last_word key_word address.1
  Some (line.Initial id.0 address.0 key)

unfoldable pub bind_line : List (List ℕ) → Option Line
bind_line ws = do
  id ← word_at eim_id_of ws
  association ← word_at (number_of 1 4294967295) id.1
  last ← last_word (number_of 0 greatest_counter) association.1
  Some (line.Bind id.0 association.0 last)

unfoldable pub order_line : List (List ℕ) → Option Line
order_line ws = do
  id ← word_at eim_id_of ws
  operations ← body_of id.1
  Some (line.Order id.0 operations)

unfoldable pub skip_line : List (List ℕ) → Option Line
skip_line ws = do
  id ← last_word eim_id_of ws
  Some (line.Skip id)

unfoldable pub kept_line : List (List ℕ) → Option Line
kept_line ws = do
  id ← last_word eim_id_of ws
  Some (line.Kept id)

unfoldable pub poll_line : List (List ℕ) → Option Line
poll_line ws = do
  id ← last_word eim_id_of ws
  Some (line.Poll id)

unfoldable pub up_line : List (List ℕ) → Option Line
up_line ws = do
  pick ← last_word pick_word ws
  Some (line.Up pick)

-- the verdict on a message is good unless the word `bad` follows
unfoldable pub verdict_of : List (List ℕ) → Option Bool
verdict_of [] = Some true
verdict_of (w ∷ []) = if same w (codes "bad") then Some false else None
verdict_of (w ∷ v ∷ ws) = None

unfoldable pub down_line : List (List ℕ) → Option Line
down_line ws = do
  pick ← word_at pick_word ws
  good ← verdict_of pick.1
  Some (line.Down pick.0 good)

unfoldable pub load_line : List (List ℕ) → Option Line
load_line ws = do
  good ← word_at (choice_of (codes "good") (codes "bad")) ws
  bytes ← last_word bytes_word good.1
  Some (line.Load good.0 bytes)

unfoldable pub probe_line : List (List ℕ) → Option Line
probe_line ws = do
  passed ← last_word (choice_of (codes "ok") (codes "fail")) ws
  Some (line.Probe passed)

unfoldable pub cut_line : List (List ℕ) → Option Line
cut_line ws = do
  calls ← word_at (number_of 0 4294967295) ws
  tear ← last_word tear_word calls.1
  Some (line.Cut calls.0 tear)

unfoldable pub detach_line : List (List ℕ) → Option Line
detach_line ws = do
  at ← last_word (number_of 0 4294967295) ws
  Some (line.Detach at)

-- a line without a word behind its keyword
unfoldable pub bare_line : Line → List (List ℕ) → Option Line
bare_line it ws = do
  end ← no_word ws
  Some it

-- the card, the chip and the modems
unfoldable pub device_step : List ℕ → List (List ℕ) → Option Line
device_step name ws =
    if same name (codes "cut") then cut_line ws
    else if same name (codes "boot") then bare_line line.Boot ws
    else if same name (codes "show") then bare_line line.Show ws
    else if same name (codes "detach") then detach_line ws
    else if same name (codes "modems") then bare_line line.Modems ws
    else None

-- the assistant, or one of the lines above
unfoldable pub assistant_step : List ℕ → List (List ℕ) → Option Line
assistant_step name ws =
    if same name (codes "load") then load_line ws
    else if same name (codes "push") then bare_line line.Push ws
    else if same name (codes "probe") then probe_line ws
    else if same name (codes "rollback") then bare_line line.Rollback ws
    else if same name (codes "restart") then bare_line line.Restart ws
    else device_step name ws

-- the network, or one of the lines above
unfoldable pub network_step : List ℕ → List (List ℕ) → Option Line
network_step name ws =
    if same name (codes "poll") then poll_line ws
    else if same name (codes "up") then up_line ws
    else if same name (codes "down") then down_line ws
    else assistant_step name ws

-- the managers, or one of the lines above
unfoldable pub eim_step : List ℕ → List (List ℕ) → Option Line
eim_step name ws =
    if same name (codes "eim") then eim_line ws
    else if same name (codes "initial") then initial_line ws
    else if same name (codes "bind") then bind_line ws
    else if same name (codes "order") then order_line ws
    else if same name (codes "skip") then skip_line ws
    else if same name (codes "kept") then kept_line ws
    else network_step name ws

-- a keyword and the words behind it
unfoldable pub step_line : List (List ℕ) → Option Line
step_line [] = None
step_line (name ∷ ws) = eim_step name ws

-- the line that a text spells
unfoldable pub step_at : List ℕ → Option Line
step_at text = step_line (words text)
