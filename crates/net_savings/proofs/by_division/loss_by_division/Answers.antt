use Rattle.std.proofs.Common.{subst, arith}
use Rattle.net_candidates.proofs.Sums.{AreOnce}
use Rattle.net_savings.proofs.ByDivision.{division_loss}
use Rattle.net_savings.proofs.by_division.loss_by_division.Goals as goal

pub returns : goal.returns
returns g c = λ name output free.
    division_loss c.args.table.now c.args.cover.now c.args.parts.now c.in_ok-lost.lost
    c.requires.over c.rows-rows.ensures.widths c.requires.once
    (subst AreOnce c.rows-rows.ensures.items
    (c.in_ok-are_distinct.ensures c.if-not-branch.false))
    (subst AreOnce c.rows.ensures.items
    (c.in_ok-are_distinct-2.ensures c.if-not-branch-2.false))
    (omega (arith, c.if-len-ge-MAX_INPUTS.false, c.len.ensures))
    c.requires.parts c.requires.divided c.in_ok-lost.ensures name output free
