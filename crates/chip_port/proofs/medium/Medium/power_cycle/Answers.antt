use Rattle.std.proofs.Common.{reverse}
use Rattle.chip_port.proofs.Settling.{kept_synced, kept_junk}
use Rattle.chip_port.proofs.medium.Medium.power_cycle.Goals as goal

pub settle-requires : goal.settle-requires
settle-requires c =
    rw (c.deref-in-Content.ensures.value, c.deref_mut.ensures.value, c.deref.ensures.value) (kept_synced (reverse c.self.inside.records.items) c.self.inside.octets.items _ _ _ c.self.invariant)

pub settle-requires-in-Content : goal.settle-requires-in-Content
settle-requires-in-Content c =
    rw (c.deref-in-Content-3.ensures.value, c.deref_mut-in-Content.ensures.value, c.deref-in-Content-2.ensures.value) (kept_junk (reverse c.self.inside.records.items) c.self.inside.octets.items _ _ _ c.self.invariant)
