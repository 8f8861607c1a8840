use Rattle.std.proofs.Common.{w32}
use Rattle.std.proofs.lemmas.Int.{to_z-of_z}
use Rattle.net_work.specs.Placed.{circuit_of}
use Rattle.net_elim.proofs.Small.{chain_bounded, chain_told}
use Rattle.net_elim.proofs.eliminating.eliminate.Goals as goal

pub returns-clause-chain : goal.returns-clause-chain
returns-clause-chain g c =
    chain_told c.args.threshold _ c.args.rows c.args.network.now (circuit_of c.in_ok-work.work)
    (circuit_of c.take_steps.new.work) c.into_network.result
    (to_z-of_z w32 c.args.threshold c.ranges.threshold) c.in_ok-work.ensures.circuit
    c.into_network.ensures c.in_ok-take_steps.ensures.chain

pub returns-clause-bounds : goal.returns-clause-bounds
returns-clause-bounds g c = λ few within.
    chain_bounded c.args.threshold c.args.rows c.args.network.now c.into_network.result few
    c.in_ok-work.ensures.sound
    (chain_told c.args.threshold _ c.args.rows c.args.network.now (circuit_of c.in_ok-work.work)
    (circuit_of c.take_steps.new.work) c.into_network.result
    (to_z-of_z w32 c.args.threshold c.ranges.threshold) c.in_ok-work.ensures.circuit
    c.into_network.ensures c.in_ok-take_steps.ensures.chain) within
