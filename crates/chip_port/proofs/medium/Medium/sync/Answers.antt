use Rattle.std.proofs.Common.{reverse}
use Rattle.chip_port.proofs.Settling.{kept_synced, kept_junk}
use Rattle.chip_port.proofs.medium.Medium.sync.Goals as goal

pub settle-requires : goal.settle-requires
settle-requires c =
    rw (c.deref-2.ensures.value, c.deref_mut.ensures.value, c.deref.ensures.value) (kept_synced (reverse c.self.inside.records.items) c.self.inside.octets.items _ _ _ c.self.invariant)

pub settle-requires-2 : goal.settle-requires-2
settle-requires-2 c =
    rw (c.deref-4.ensures.value, c.deref_mut-2.ensures.value, c.deref-3.ensures.value) (kept_junk (reverse c.self.inside.records.items) c.self.inside.octets.items _ _ _ c.self.invariant)
