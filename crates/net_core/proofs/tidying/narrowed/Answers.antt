use Rattle.std.proofs.Common.{map, arith}
use Rattle.net_core.specs.Tables.{named}
use Rattle.net_core.proofs.Narrowed.{narrow_full}
use Rattle.net_core.proofs.tidying.narrowed.Goals as goal

pub returns-then-len-clause-narrow : goal.returns-then-len-clause-narrow
unfolding named
returns-then-len-clause-narrow g c = λ name. rw (c.in_ok-copy.ensures, c.of.ensures)
    (narrow_full c.args.inputs.now (map g.R.Row.literals c.args.rows.items) c.args.phase name
    c.in_ok-places.places.items c.requires
    (rw (c.as_slice.ensures, c.as_slice-2.ensures.value) at c.in_ok-places.ensures)
    (omega (arith, c.if-len.true, c.len.ensures, c.len-2.ensures)))
