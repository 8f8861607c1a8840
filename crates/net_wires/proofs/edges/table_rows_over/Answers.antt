use Rattle.std.proofs.Common.{◌∙◌, sym}
use Rattle.net_wires.proofs.Turning.{unmarked_rows}
use Rattle.net_wires.proofs.edges.table_rows_over.Goals as goal

pub returns : goal.returns
returns c = sym (unmarked_rows c.args.marks.now c.args.rows (sym c.is_any_marked.ensures ∙ c.if-is_any_marked.false))
