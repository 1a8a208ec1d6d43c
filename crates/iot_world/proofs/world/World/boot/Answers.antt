use Rattle.std.proofs.Common.{inl}
use Rattle.iot_world.proofs.Powering.{boots, boot_lost}
use Rattle.iot_world.proofs.world.World.boot.Goals as goal

pub returns-in-Booted-clause-acts : goal.returns-in-Booted-clause-acts
returns-in-Booted-clause-acts g c = λ first w stands.
    boots first w c.put_word.result _ _ _ _ _ stands.network (c.in-Booted.ensures.boots first w stands.card) c.put_word.ensures

pub returns-in-Lost-clause-acts : goal.returns-in-Lost-clause-acts
returns-in-Lost-clause-acts g c = λ first w stands.
    boot_lost first w c.put_word-in-Lost.result _ _ _ _ _ stands.network (c.in-Lost.ensures.boots first w stands.card) c.put_word-in-Lost.ensures

pub returns-in-Foreign-clause-acts : goal.returns-in-Foreign-clause-acts
returns-in-Foreign-clause-acts g c = λ first w stands. c.in-Foreign.ensures.boots first w stands.card

pub returns-in-NoMemory-clause-acts : goal.returns-in-NoMemory-clause-acts
returns-in-NoMemory-clause-acts g c = λ first w stands. inl (c.in-NoMemory.ensures.boots first w stands.card)
