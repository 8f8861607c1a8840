use Rattle.std.proofs.Common.{◌+◌, ◌<◌, ◌^◌, ℤ, subst, arith, w32}
use Rattle.std.specs.Prelude.{IfOk}
use Rattle.std.proofs.lemmas.Int.{to_z-of_z}
use Rattle.circuit_laws.specs.Chains.{Chain}
use Rattle.net_elim.specs.Eliminating.{eliminate_step}
use Rattle.sis_session.proofs.changing.eliminated.Goals as goal

pub returns-clause-chain : goal.returns-clause-chain
returns-clause-chain c =
    subst (λ (t : ℤ). IfOk c.eliminate.result
    (λ new. Chain (eliminate_step t c.args.rows) c.args.network.now new))
    (to_z-of_z w32 c.args.threshold c.ranges.threshold) c.eliminate.ensures.chain

pub returns-clause-bounds : goal.returns-clause-bounds
returns-clause-bounds c =
    let few : c.args.rows + 1 < 2 ^ 33 = omega (arith, c.ranges.rows.fits) in
    c.eliminate.ensures.bounds few c.requires
