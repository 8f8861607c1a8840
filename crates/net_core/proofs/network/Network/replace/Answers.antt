use Rattle.net_core.specs.Tables.{named}
use Rattle.net_core.proofs.Sounds.{replaced_sound}
use Rattle.net_core.proofs.network.Network.replace.Goals as goal

pub invariant_of-self : goal.invariant_of-self
unfolding named
invariant_of-self g c =
    rw c.replace.ensures (replaced_sound _ c.args.self.now (named c.args.name.now c.args.table) c.self.view_is c.self.invariant c.requires.known c.requires.fitting c.requires.acyclic)
