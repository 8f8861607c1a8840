use Rattle.std.proofs.Common.{arith}
use Rattle.kiss_format.proofs.Grouped.{in_groups}
use Rattle.kiss_format.proofs.finding.clash_of_state.Goals as goal

pub returns : goal.returns
returns c =
    let inside = c.requires.inside in
    rw (c.lesser.ensures, c.clash_among-own.ensures, c.clash_among.ensures, c.as_slice.ensures, c.as_slice-2.ensures)
    (in_groups c.args.rows.now c.args.groups.now c.args.row.now c.args.state c.args.later c.index-groups-state.result c.index-groups-rows.result (omega (arith, inside)) c.requires.grouped c.requires.state c.index-groups-state.is c.index-groups-rows.is)
