use Rattle.std.proofs.Common.{ap}
use Rattle.alg_div.specs.Steps.{literals_in}
use Rattle.alg_tables.proofs.Divided.{ended_rows}
use Rattle.alg_tables.proofs.dividing.ended_cover.Goals as goal

pub cover_of-requires : goal.cover_of-requires
cover_of-requires g c =
    ended_rows c.args.width c.args.quotient.now.width c.args.remainder.now.width c.args.bit c.args.quotient.now.rows c.args.remainder.now.rows _ _ (literals_in c.new-rows.result.items)
    (literals_in c.push_with_column.new.made.items) (literals_in c.push_with_column-2.new.made.items) (literals_in c.as_slice.result.now) c.requires.quotient c.requires.remainder c.rows.ensures.widths c.rows-2.ensures.widths
    c.rows.ensures.items c.rows-2.ensures.items (ap literals_in c.new-rows.ensures.items) c.in_ok-push_with_column.ensures c.in_ok-push_with_column-2.ensures (ap literals_in c.as_slice.ensures.value)
