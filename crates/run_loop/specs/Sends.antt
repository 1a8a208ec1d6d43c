-- What was sent.
use Rattle.std.specs.Prelude.{◌≡◌, ℕ, ◌<◌, Bool, true, false, List, [], ◌++◌, length, take, Option, Some, Result, Ok, Err}
use Rattle.run_loop.specs.declared.halt.SendStop.{SendStop}
use Rattle.run_loop.specs.declared.halt.SendStop.TheVariants.{Fault, NoMemory}

-- Where the sink tells its octets, these were appended.
abbrev pub HasSent : Option (List ℕ) → Option (List ℕ) → List ℕ → Type 0
HasSent old now octets = (before : List ℕ) → old ≡ Some before → now ≡ Some (before ++ octets)

-- Where the sink tells its octets, this text was appended, and of the octets behind it all but the end.
abbrev pub HasSentInto : Option (List ℕ) → Option (List ℕ) → List ℕ → List ℕ → Type 0
HasSentInto old now text last = (before : List ℕ) → old ≡ Some before → (n : ℕ) × (n < length last) × (now ≡ Some (before ++ text ++ take n last))

-- These octets were sent, or all of them but the end.
abbrev pub Sent : {E : Type 0} → Option (List ℕ) → Option (List ℕ) → List ℕ → Result (Unit {0}) E → Type 0
Sent old now octets (Ok done) = HasSent old now octets
Sent old now octets (Err fault) = HasSentInto old now [] octets

-- The last octets of a run, which are there, were sent, or all of them but the end, since the sink failed.
abbrev pub SentLast : Option (List ℕ) → Option (List ℕ) → List ℕ → Result (Unit {0}) SendStop → Type 0
SentLast old now last (Ok done) = HasSent old now last
SentLast old now last (Err Fault) = HasSentInto old now [] last
SentLast old now last (Err NoMemory) = ⊥

-- Of a text that ends with these octets all was appended but for the end of them.
pub record IsCutShort (old now : Option (List ℕ)) (text last : List ℕ) : Type 0 where
  pub before : List ℕ
  pub parts : text ≡ before ++ last
  pub sent : HasSentInto old now before last

-- The last octets of a run, if any are due, were sent, or not whole for this reason.
abbrev pub Closes : Bool → Option (List ℕ) → Option (List ℕ) → List ℕ → Result (Unit {0}) SendStop → Type 0
Closes false old now last closing = (closing ≡ Ok tt) × (now ≡ old)
Closes true old now last (Ok done) = HasSent old now last
Closes true old now last (Err Fault) = HasSentInto old now [] last
Closes true old now last (Err NoMemory) = now ≡ old

-- A text was sent, and then the last octets of a run, if any are due: whole, or not whole for this reason.
abbrev pub Closed : Bool → Option (List ℕ) → Option (List ℕ) → List ℕ → List ℕ → Result (Unit {0}) SendStop → Type 0
Closed false old now text last closing = (closing ≡ Ok tt) × HasSent old now text
Closed true old now text last (Ok done) = HasSent old now (text ++ last)
Closed true old now text last (Err Fault) = HasSentInto old now text last
Closed true old now text last (Err NoMemory) = HasSent old now text
