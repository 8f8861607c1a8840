use Rattle.std.proofs.Common.{map}
use Rattle.circuit_tables.specs.Tidy.{used_places}
use Rattle.net_core.specs.Tables.{named, characters_of}
use Rattle.net_core.proofs.Narrowed.{kept_below, kept_wide, narrow_kept}
use Rattle.net_core.proofs.tidying.kept_table.Goals as goal

pub names_at-requires : goal.names_at-requires
names_at-requires g c =
    kept_below (used_places c.args.inputs.now (map characters_of (map g.R.Row.literals c.args.rows.now)))
    _ c.args.places.now c.requires.used

pub of-requires : goal.of-requires
of-requires g c =
    kept_wide g.R.Row.literals c.args.rows.now c.args.places.now
    (map g.R.Row.literals c.in_ok-kept.kept.items) c.in_ok-kept.ensures

pub returns-clause-narrow : goal.returns-clause-narrow
unfolding named
returns-clause-narrow g c = λ name. rw c.of.ensures
    (narrow_kept g.R.Row.literals c.args.inputs.now c.in_ok-names.names c.args.rows.now
    (map g.R.Row.literals c.in_ok-kept.kept.items) c.args.phase name c.args.places.now
    c.requires.widths c.requires.used c.in_ok-names.ensures c.in_ok-kept.ensures)
