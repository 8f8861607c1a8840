use Rattle.std.proofs.Common.{◌≡◌, Some, sym, ◌∙◌, subst}
use Rattle.std.proofs.lemmas.Option.{same_Some}
use Rattle.std.proofs.lemmas.Result.{IfOk-weaker}
use Rattle.circuit_model.specs.Soundness.{IsShaped}
use Rattle.circuit_model.specs.declared.circuit.Circuit.{Circuit}
use Rattle.circuit_model.specs.declared.circuit.Table.{Table}
use Rattle.sdc_simplify.specs.Local.{is_local}
use Rattle.sdc_simplify.specs.Minimized.{minimized}
use Rattle.net_core.specs.Places.{written_of}
use Rattle.net_core.specs.Tables.{named}
use Rattle.net_work.specs.Placed.{circuit_of, table_at}
use Rattle.net_work.proofs.Indexed.{all_at}
use Rattle.sdc_simplify.specs.Turns.{AreLocal}
use Rattle.sdc_simplify.proofs.turns.least_at.Goals as goal

pub least_table-requires-clause-shaped : goal.least_table-requires-clause-shaped
unfolding named
least_table-requires-clause-shaped g c =
    (all_at IsShaped c.args.work.now.slots c.requires.sound.shaped c.args.place (written_of c.in-Some.entry.now) (sym c.in-Some.ensures.table)).0

pub least_table-requires-clause-wide : goal.least_table-requires-clause-wide
unfolding named
least_table-requires-clause-wide g c = (c.in_ok-ties.ensures (written_of c.in-Some.entry.now) (sym c.in-Some.ensures.table)).wide

pub returns-clause-minimized : goal.returns-clause-minimized
unfolding named
returns-clause-minimized g c =
    IfOk-weaker c.least_table.result
    (λ made. (circuit : Circuit) → AreLocal circuit (written_of c.in-Some.entry.now) c.in_ok-ties.ties.items
    → named c.in-Some.entry.now.output made ≡ minimized (written_of c.in-Some.entry.now) (is_local circuit (written_of c.in-Some.entry.now)))
    (λ made. (table : Table) → table_at c.args.work.now.slots c.args.place ≡ Some table → named table.output made ≡ minimized table (is_local (circuit_of c.args.work.now) table))
    (λ made least table at.
    subst (λ (t : Table). named t.output made ≡ minimized t (is_local (circuit_of c.args.work.now) t)) (same_Some (written_of c.in-Some.entry.now) table (c.in-Some.ensures.table ∙ at))
    (least (circuit_of c.args.work.now) (c.in_ok-ties.ensures (written_of c.in-Some.entry.now) (sym c.in-Some.ensures.table))))
    c.least_table.ensures.minimized
