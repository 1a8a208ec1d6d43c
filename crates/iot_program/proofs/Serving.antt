-- A run by the form of its words.
use Rattle.std.proofs.Common.{◌≡◌, ℕ, List, Option, Some, sym, subst}
use Rattle.chip_port.specs.Seen.{Seen}
use Rattle.modem_bank.specs.Modems.{Seen as ModemSeen}
use Rattle.run_loop.specs.Edges.{Edge}
use Rattle.iot_program.specs.declared.words.Form.{Form}
use Rattle.iot_program.specs.Ends.{Does}

-- what a form does, by its variant
pub does_of : (words f : Form) (status : ℕ) (old new : Edge) (s t : Seen) (handed_in modems : List ModemSeen) → words ≡ f → Does (Some f) status old new s t handed_in modems → Does (Some words) status old new s t handed_in modems
does_of words f status old new s t handed_in modems is did = subst (λ (w : Form). Does (Some w) status old new s t handed_in modems) (sym is) did

pub does_words : (words : Option Form) (f : Form) (status : ℕ) (old new : Edge) (s t : Seen) (handed_in modems : List ModemSeen) → words ≡ Some f → Does (Some f) status old new s t handed_in modems → Does words status old new s t handed_in modems
does_words words f status old new s t handed_in modems is did = subst (λ (w : Option Form). Does w status old new s t handed_in modems) (sym is) did
