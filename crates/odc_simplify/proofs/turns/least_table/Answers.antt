use Rattle.std.proofs.Common.{refl, ap, ◌∙◌}
use Rattle.cube_cover.specs.Covers.{Shape}
use Rattle.net_core.specs.Tables.{named}
use Rattle.sdc_simplify.proofs.Minima.{minimum_named}
use Rattle.odc_simplify.specs.Full.{is_dont_care}
use Rattle.odc_simplify.proofs.Least.{refused_is, list_failed}
use Rattle.odc_simplify.proofs.turns.least_table.Goals as goal

pub returns-in-Err-clause-fault : goal.returns-in-Err-clause-fault
unfolding named
returns-in-Err-clause-fault g c =
    rw c.fault_of_list.ensures
    (list_failed (g.F.Functions.limit c.args.functions.now) c.args.network.now c.args.name.now
    (named c.args.name.now c.args.table.now) c.requires.driven c.in-Err.fault refl
    c.in-Err.ensures.fault)

pub least_rows-requires-clause-short : goal.least_rows-requires-clause-short
least_rows-requires-clause-short g c =
    refused_is c.args.network.now c.args.name.now (named c.args.name.now c.args.table.now)
    c.requires.driven ∙ c.in-Ok.ensures.within

pub returns-clause-minimized : goal.returns-clause-minimized
unfolding named
returns-clause-minimized g c =
    minimum_named (named c.args.name.now c.args.table.now)
    (is_dont_care c.args.network.now (named c.args.name.now c.args.table.now))
    c.in_ok-least_rows.field-0 c.in_ok-copy.field-0 c.in_ok-tidy.field-0
    (ap (λ (shape : Shape). shape.rows) c.in_ok-least_rows.ensures.minimum)
    c.in_ok-copy.ensures c.in_ok-tidy.ensures.tidy

pub returns-clause-passed : goal.returns-clause-passed
returns-clause-passed g c = record {
  short = refused_is c.args.network.now c.args.name.now (named c.args.name.now c.args.table.now)
      c.requires.driven ∙ c.in-Ok.ensures.within;
  within = c.in_ok-least_rows.ensures.within;
}
