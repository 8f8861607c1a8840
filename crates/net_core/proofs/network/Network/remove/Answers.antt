use Rattle.std.proofs.Common.{◌∙◌, sym}
use Rattle.net_core.proofs.Sounds.{table_gone_sound, latch_gone_sound}
use Rattle.net_core.proofs.network.Network.remove.Goals as goal

pub invariant_of-self : goal.invariant_of-self
invariant_of-self g c =
    rw c.remove.ensures.tables (table_gone_sound _ c.args.self.now c.args.name.now c.self.view_is c.self.invariant c.requires (sym c.remove.ensures.found ∙ c.if-remove.true))

pub invariant_of-self-2 : goal.invariant_of-self-2
invariant_of-self-2 g c =
    rw (c.drop_timing.ensures, c.as_slice.ensures.value, c.remove_latch.ensures, c.remove.ensures.tables)
    (latch_gone_sound _ c.args.self.now c.args.name.now c.self.view_is c.self.invariant c.requires)
