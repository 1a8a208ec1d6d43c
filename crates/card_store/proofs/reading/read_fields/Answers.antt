use Rattle.std.proofs.Common.{ap}
use Rattle.std.specs.Prelude.{Err}
use Rattle.iot_bytes.specs.declared.memory.ReadError.{ReadError}
use Rattle.card_store.proofs.Loads.{fields_unread}
use Rattle.card_store.proofs.reading.read_fields.Goals as goal

pub returns-in-Err : goal.returns-in-Err
returns-in-Err c = rw c.of_reading.ensures (fields_unread c.in-Err.error c.args.home.now (λ e. c.in-Err.ensures.malformed (ap (λ (k : ReadError). Err k) e)))
