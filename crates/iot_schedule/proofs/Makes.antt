-- The generator gives the line of a number where its state is the one before that line.
use Rattle.std.proofs.Common.{◌≡◌, ℕ, ◌+◌, false, Result, Ok, Err, OnOk, ap, add-one}
use Rattle.std.specs.Result.{is_err}
use Rattle.iot_schedule.specs.Making.{line_text, state_after, state_before, made_line}

pub line_is : (start number state : ℕ) → state ≡ state_before start number → line_text number state ≡ made_line start number
unfolding made_line
line_is start number state e = ap (line_text number) e

pub state_is : (start number state : ℕ) → state ≡ state_before start number → state_after number state ≡ state_before start (number + 1)
unfolding state_before
state_is start number state e = rw add-one (ap (state_after number) e)

-- what holds of a call that succeeded
pub from_ok : {T E : Type 0} (r : Result T E) (P : Type 0) → is_err r ≡ false → OnOk r P → P
from_ok (Ok x) P e h = h
from_ok (Err x) P e h = absurd cc
