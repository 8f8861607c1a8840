use Rattle.std.proofs.Common.{ap, sym, ◌∙◌}
use Rattle.circuit_model.specs.Names.{has}
use Rattle.circuit_laws.specs.Edits.{tables_kept, latches_kept}
use Rattle.net_wires.proofs.Taking.{dangling_none, dangling_taken}
use Rattle.net_wires.proofs.needed.dangling_step.Goals as goal

pub returns-then-are_all_among : goal.returns-then-are_all_among
returns-then-are_all_among c = dangling_none c.args.circuit.now c.in_ok-needed.needed.keys c.in_ok-needed.ensures (sym c.are_all_among.ensures ∙ c.if-are_all_among.true)

pub returns : goal.returns
returns c =
    dangling_taken c.args.circuit.now c.in_ok-needed.needed.keys c.in_ok-tables.tables c.in_ok-latches.latches c.in_ok-made.made c.in_ok-needed.ensures (sym c.are_all_among.ensures ∙ c.if-are_all_among.false)
    (c.in_ok-tables.ensures ∙ ap (tables_kept (has c.in_ok-needed.needed.keys)) c.as_slice.ensures) (c.in_ok-latches.ensures ∙ ap (latches_kept (has c.in_ok-needed.needed.keys)) c.as_slice-2.ensures) c.in_ok-made.ensures
