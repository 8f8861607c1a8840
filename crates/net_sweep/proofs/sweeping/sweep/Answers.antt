use Rattle.std.proofs.Common.{◌∙◌}
use Rattle.net_sweep.proofs.Chaining.{all_chained, all_kept, all_swept}
use Rattle.net_sweep.proofs.Bounds.{bounds_swept}
use Rattle.net_sweep.proofs.sweeping.sweep.Goals as goal

pub returns-clause-chain : goal.returns-clause-chain
returns-clause-chain g c = all_chained c.args.network.now c.in_ok-circuit.circuit c.in_ok-end.end
    c.in_ok-made.made c.in_ok-circuit.ensures
    c.in_ok-end.ensures.chain (c.in_ok-made.ensures ∙ c.into_it.ensures)

pub returns-clause-kept : goal.returns-clause-kept
returns-clause-kept g c = all_kept c.args.network.now c.in_ok-circuit.circuit c.in_ok-end.end
    c.in_ok-made.made c.in_ok-circuit.ensures c.sound.ensures
    c.in_ok-end.ensures.chain (c.in_ok-made.ensures ∙ c.into_it.ensures)

pub returns-clause-finished : goal.returns-clause-finished
returns-clause-finished g c = all_swept c.in_ok-circuit.circuit c.in_ok-end.end c.in_ok-made.made
    c.in_ok-end.ensures.chain (c.in_ok-made.ensures ∙ c.into_it.ensures)

pub returns-clause-counts : goal.returns-clause-counts
returns-clause-counts g c = rw (c.in_ok-made.ensures, c.into_it.ensures)
    (c.in_ok-swept.ensures.tables, c.in_ok-swept.ensures.latches)

pub returns-clause-bounds : goal.returns-clause-bounds
returns-clause-bounds g c = λ within.
    bounds_swept c.args.network.now c.in_ok-made.made
    (all_chained c.args.network.now c.in_ok-circuit.circuit c.in_ok-end.end c.in_ok-made.made
    c.in_ok-circuit.ensures
    c.in_ok-end.ensures.chain
    (c.in_ok-made.ensures ∙ c.into_it.ensures)) within
