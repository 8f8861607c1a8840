use Rattle.std.proofs.Common.{true}
use Rattle.sdc_simplify.proofs.Minima.{least_named, least_once}
use Rattle.sdc_simplify.proofs.turns.least_table.Goals as goal

pub returns-clause-minimized : goal.returns-clause-minimized
returns-clause-minimized g c = λ circuit local.
    least_named circuit c.args.entry.now c.args.ties.items c.in_ok-cover.cover c.in_ok-least_cover.field-0 c.in_ok-copy.field-0 c.in_ok-made.made c.requires.shaped c.in_ok-cover.ensures.rows
    c.in_ok-least_cover.ensures c.in_ok-copy.ensures c.in_ok-made.ensures.tidy local

pub returns-clause-once : goal.returns-clause-once
returns-clause-once g c =
    least_once (record { inputs = c.in_ok-copy.field-0; cover = c.in_ok-least_cover.field-0; phase = true }) c.in_ok-made.made c.args.entry.now.output (c.in_ok-made.ensures.tidy c.args.entry.now.output)
