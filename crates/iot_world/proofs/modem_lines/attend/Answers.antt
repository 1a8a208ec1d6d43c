use Rattle.iot_world.proofs.Attending.{lit_kept, lit_told}
use Rattle.iot_world.proofs.modem_lines.attend.Goals as goal

pub returns-in-Some-clause-told : goal.returns-in-Some-clause-told
returns-in-Some-clause-told g c = λ view tells. lit_told _ _ _ _ _ c.in-Some.ensures.parts c.enabled.ensures (c.tell_each.ensures.seen view tells)

pub returns-in-Some-clause-kept : goal.returns-in-Some-clause-kept
returns-in-Some-clause-kept g c = λ shown keeps. lit_kept shown _ _ _ _ _ c.in-Some.ensures.parts c.enabled.ensures (c.tell_each.ensures.kept shown keeps)
