use Rattle.std.proofs.Common.{◌∙◌, ap}
use Rattle.std.specs.Option.{is_some}
use Rattle.esipa_codec.specs.Records.{is_of}
use Rattle.eim_queue.proofs.Following.{some_place}
use Rattle.eim_queue.proofs.records.Records.is_known.Goals as goal

pub returns : goal.returns
returns c = c.is_some.ensures ∙ ap is_some c.place_of.ensures ∙ some_place (is_of c.args.association c.args.counter) c.args.self.now
