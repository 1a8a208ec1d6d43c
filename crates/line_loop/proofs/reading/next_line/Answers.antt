use Rattle.std.proofs.Common.{inl, inr, [], refl}
use Rattle.line_loop.proofs.reading.next_line.Goals as goal

pub returns-in-Line-clause-next : goal.returns-in-Line-clause-next
returns-in-Line-clause-next g c = λ count octets is.
    let (short, unbroken, parts) = c.in-Line.ensures.octets octets is in
    elim parts [
      | inl whole ↦ (whole.0, record { short = short; unbroken = unbroken; parts = inl whole.1 }, whole.2)
      | inr last ↦ ([], record { short = short; unbroken = unbroken; parts = inr (last.0, last.1, refl) }, last.2)
    ]

pub returns-in-TooLong-clause-next : goal.returns-in-TooLong-clause-next
returns-in-TooLong-clause-next g c = λ count octets is.
    let (front, over, came) = c.in-TooLong.ensures.octets octets is in
    inl (record { front = front; over = over; came = came })
