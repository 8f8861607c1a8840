use Rattle.func_shared.proofs.nodes.Nodes.operate.Goals as goal

pub invariant_of-self : goal.invariant_of-self
invariant_of-self c = c.clear.ensures c.cut.new.self
