-- What is read and sent, piece by piece.
use Rattle.std.proofs.Common.{◌≡◌, ℕ, ◌<◌, ◌≤◌, Bool, true, false, List, [], ◌∷◌, ◌++◌, length, take, Option, Some, Result, Ok, Err, refl, ap, sym, ◌∙◌, append-nil, append_assoc, arith}
use Rattle.std.proofs.lemmas.Grind.{flat_map-append}
use Rattle.std.specs.Prelude.{IfErr}
use Rattle.std.specs.List.{AllByRecursion}
use Rattle.iot_bytes.specs.Causes.{Rose}
use Rattle.iot_bytes.specs.Frames.{frame}
use Rattle.iot_bytes.specs.Streams.{Sends}
use Rattle.iot_bytes.specs.declared.sink.WriteFault.{WriteFault}
use Rattle.run_loop.specs.Frames.{framed, IsShort, IsTaken, HasTaken}
use Rattle.run_loop.specs.declared.halt.SendStop.{SendStop}
use Rattle.run_loop.specs.declared.halt.SendStop.TheVariants as sending
use Rattle.run_loop.specs.Sends.{HasSent, HasSentInto, Sent, IsCutShort, Closes, Closed}

pub sent-more : (sent0 sent sent' : Option (List ℕ)) (t u : List ℕ) → HasSent sent0 sent t → HasSent sent sent' u → HasSent sent0 sent' (t ++ u)
sent-more sent0 sent sent' t u s s' = λ before is. s' (before ++ t) (s before is) ∙ ap (λ (z : List ℕ). Some z) (append_assoc before t u)

pub sent-into : (sent0 sent sent' : Option (List ℕ)) (t u : List ℕ) → HasSent sent0 sent t → HasSentInto sent sent' [] u → HasSentInto sent0 sent' t u
sent-into sent0 sent sent' t u s s' = λ before is.
    let (n, short, now) = s' (before ++ t) (s before is) in
    (n, short, now ∙ ap (λ (z : List ℕ). Some (z ++ take n u)) (append-nil (before ++ t)))

pub sent-none : (sent : Option (List ℕ)) → HasSent sent sent []
sent-none sent = λ before is. is ∙ ap (λ (z : List ℕ). Some z) (sym (append-nil before))

pub short-push : (fs : List (List ℕ)) (f : List ℕ) → AllByRecursion IsShort fs → IsShort f → AllByRecursion IsShort (fs ++ f ∷ [])
short-push [] f few less = (less, tt)
short-push (g ∷ gs) f few less = (few.0, short-push gs f few.1 less)

pub framed-push : (fs : List (List ℕ)) (f rest : List ℕ) → framed fs ++ (frame f ++ rest) ≡ framed (fs ++ f ∷ []) ++ rest
framed-push fs f rest =
    sym (append_assoc (framed fs) (frame f) rest)
    ∙ ap (λ (z : List ℕ). (framed fs ++ z) ++ rest) (sym (append-nil (frame f)))
    ∙ ap (λ (z : List ℕ). z ++ rest) (sym (flat_map-append frame fs (f ∷ [])))

-- one more frame was taken
pub taken-more : (rest0 rest rest' : Option (List ℕ)) (fs : List (List ℕ)) (f : List ℕ) → HasTaken rest0 fs (λ tail. rest ≡ Some tail) → ((octets : List ℕ) → rest ≡ Some octets → IsTaken f octets rest')
    → HasTaken rest0 (fs ++ f ∷ []) (λ tail. rest' ≡ Some tail)
taken-more rest0 rest rest' fs f taken next = λ input is.
    let (tail, parts, few, now) = taken input is in
    let more = next tail now in
    (more.rest, parts ∙ ap (λ (z : List ℕ). framed fs ++ z) more.parts ∙ framed-push fs f more.rest, short-push fs f few more.short, more.now)

pub taken-none : (rest : Option (List ℕ)) → HasTaken rest [] (λ tail. rest ≡ Some tail)
taken-none rest = λ input is. (input, refl, tt, is)

pub rose-since : (a b c : ℕ) → a ≤ b → Rose b c → Rose a c
rose-since a b c low rose = omega (arith, low, rose)

pub rose-until : (a b c : ℕ) → Rose a b → b ≤ c → Rose a c
rose-until a b c rose low = omega (arith, low, rose)

-- what `send` did
pub sent_by : (old now : Option (List ℕ)) (bytes : List ℕ) (result : Result (Unit {0}) WriteFault) → Sends old now result (λ f. f.sent) bytes → IfErr result (λ f. f.sent < length bytes) → Sent old now bytes result
sent_by old now bytes (Ok done) sends short = λ before is. sends.told before is
sent_by old now bytes (Err fault) sends short = λ before is.
    let (some, then) = sends.told before is in
    (fault.sent, short, then ∙ ap (λ (z : List ℕ). Some (z ++ take fault.sent bytes)) (sym (append-nil before)))

-- the last octets of a run were sent behind a text, or not whole
pub closed : (due : Bool) (sent0 sent sent' : Option (List ℕ)) (text last : List ℕ) (closing : Result (Unit {0}) SendStop) → HasSent sent0 sent text → Closes due sent sent' last closing → Closed due sent0 sent' text last closing
closed false sent0 sent sent' text last closing before did = (did.0, λ b is. did.1 ∙ before b is)
closed true sent0 sent sent' text last (Ok done) before did = sent-more sent0 sent sent' text last before did
closed true sent0 sent sent' text last (Err sending.Fault) before did = sent-into sent0 sent sent' text last before did
closed true sent0 sent sent' text last (Err sending.NoMemory) before did = λ b is. did ∙ before b is

-- what was cut short stays so where nothing is sent
pub cut_again : (sent0 sent sent' : Option (List ℕ)) (text last : List ℕ) → IsCutShort sent0 sent text last → sent' ≡ sent → IsCutShort sent0 sent' text last
cut_again sent0 sent sent' text last cut same = record {
  before = cut.before;
  parts = cut.parts;
  sent = λ b is. let (n, short, now) = cut.sent b is in (n, short, same ∙ now);
}
