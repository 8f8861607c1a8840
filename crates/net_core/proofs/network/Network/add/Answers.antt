use Rattle.circuit_laws.specs.Edits.{with_added}
use Rattle.net_core.proofs.Sounds.{added_sound}
use Rattle.net_core.proofs.network.Network.add.Goals as goal

pub invariant_of-self-2 : goal.invariant_of-self-2
unfolding with_added
invariant_of-self-2 g c =
    rw c.in_ok-push.ensures.ok (added_sound _ c.args.self.now c.in_ok-name.name c.args.table c.self.view_is c.self.invariant c.in_ok-name.ensures (c.requires.fitting c.in_ok-name.name))
