use Rattle.std.proofs.Common.{refl}
use Rattle.net_decomp.proofs.Singles.{sum_is}
use Rattle.net_decomp.proofs.sums.sum_of.Goals as goal

pub returns-in_ok-copy-in-Some : goal.returns-in_ok-copy-in-Some
returns-in_ok-copy-in-Some g c =
    let literals = rw c.in-Some.is at c.in_ok-literals_in.ensures in
    (refl, λ name. sum_is c.args.table.now name _ c.len.result _ c.len.ensures c.in_ok-copy-in-Some.ensures refl c.rows.ensures.items literals)
