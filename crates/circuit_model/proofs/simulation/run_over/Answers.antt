use Rattle.std.proofs.Common.{sym, ap, ◌∙◌, ◌++◌, List}
use Rattle.std.proofs.lemmas.List.{append-nil}
use Rattle.circuit_model.proofs.Levels.{run_step, run_done, state_kept}
use Rattle.circuit_model.specs.declared.circuit.Tri.{Tri}
use Rattle.circuit_model.proofs.simulation.run_over.Goals as goal

pub loop-row-preserved : goal.loop-row-preserved
loop-row-preserved c = record {
  so_far = run_step c.args.circuit.now c.loop-row.state.items c.as_slice.result.now c.in_ok-shown.field-0.state.items c.args.rows.now c.loop-row.all_shown c.push.new.self _ c.loop-row.row-index c.row-item.result
      c.as_slice-in-loop-row.result.now c.in_ok-shown.field-0.shown
      c.loop-row-test.true c.row-item.is c.as_slice.ensures.value c.as_slice-in-loop-row.ensures c.in_ok-shown.ensures.shown c.in_ok-shown.ensures.state c.in_ok-push.ensures.ok c.loop-row.invariant.so_far;
  width = state_kept c.args.circuit.now c.as_slice.result.now c.as_slice-in-loop-row.result.now c.in_ok-shown.field-0.state.items c.in_ok-shown.ensures.state;
}

pub returns : goal.returns
returns c =
    sym (append-nil c.loop-row.all_shown)
    ∙ (ap (λ (list : List (List Tri)). c.loop-row.all_shown ++ list) (sym (run_done c.args.circuit.now c.loop-row.state.items c.args.rows.now c.loop-row.row-index c.loop-row-test.false))
    ∙ c.loop-row.invariant.so_far)
