use Rattle.std.proofs.Common.{ap, ◌∙◌}
use Rattle.circuit_model.specs.Names.{all_different}
use Rattle.net_core.specs.declared.table.CoverTable.{CoverTable}
use Rattle.net_savings.proofs.Tabled.{cover_once}
use Rattle.net_extract.proofs.stepping.add_table.Goals as goal

pub add_known-requires-clause-once : goal.add_known-requires-clause-once
add_known-requires-clause-once g c =
    ap (λ (t : CoverTable g.row.R.Denot). all_different t.inputs) c.in_ok-table.ensures.0 ∙ cover_once c.args.cover.now c.in_ok-made.made c.in_ok-made.ensures.table
