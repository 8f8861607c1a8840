use Rattle.std.proofs.Common.{sym, ap, ◌∙◌}
use Rattle.circuit_model.specs.Soundness.{IsShaped}
use Rattle.net_wires.specs.Rules.{only_input}
use Rattle.net_readers.proofs.Sets.{on_ok}
use Rattle.net_sweep.proofs.Changing.{all_at, tidy_applied, constant_put, constant_left, propagate_applied, collapse_applied, input_apart}
use Rattle.net_sweep.proofs.applying.apply.Goals as goal

pub returns-in-TidyTable-clause-applied : goal.returns-in-TidyTable-clause-applied
returns-in-TidyTable-clause-applied g c =
    rw (c.in-TidyTable.is)
    (on_ok c.put_table.result (tidy_applied c.args.aliased.now c.put_table.new.aliased c.args.place c.in_ok-table.table c.in_ok-tidied-in-TidyTable.tidied c.requires.sound c.in_ok-table.ensures c.in_ok-tidied-in-TidyTable.ensures)
    c.put_table.ensures.put)

pub constant_written-requires : goal.constant_written-requires
constant_written-requires g c = (all_at IsShaped c.args.aliased.now.tables c.args.place c.in_ok-table.table c.requires.sound.shaped c.in_ok-table.ensures).0

pub returns-in-None-clause-applied : goal.returns-in-None-clause-applied
returns-in-None-clause-applied g c =
    rw (c.in-WriteConstant.is) (constant_left c.args.aliased.now c.args.place c.in_ok-table.table c.in_ok-table.ensures (sym c.in-None.is ∙ c.in_ok-constant_written-in-WriteConstant.ensures))

pub returns-in-WriteConstant-clause-applied : goal.returns-in-WriteConstant-clause-applied
returns-in-WriteConstant-clause-applied g c =
    rw (c.in-WriteConstant.is)
    (on_ok c.put_table-in-Some.result
    (constant_put c.args.aliased.now c.put_table-in-Some.new.aliased c.args.place c.in_ok-table.table c.in-Some.constant c.requires.sound c.in_ok-table.ensures (sym c.in-Some.is ∙ c.in_ok-constant_written-in-WriteConstant.ensures))
    c.put_table-in-Some.ensures.put)

pub returns-in-PropagateConstant-clause-applied : goal.returns-in-PropagateConstant-clause-applied
returns-in-PropagateConstant-clause-applied g c =
    rw (c.in-PropagateConstant.is)
    (on_ok c.change_readers.result (propagate_applied c.args.aliased.now c.change_readers.new.aliased c.args.place c.in_ok-table.table c.in-Some-written_bit.bit c.in_ok-table.ensures (sym c.in-Some-written_bit.ensures))
    c.change_readers.ensures.changed)

pub rewire-requires-clause-apart : goal.rewire-requires-clause-apart
rewire-requires-clause-apart g c =
    input_apart c.args.aliased.now c.args.place c.in_ok-table.table c.in-Some-2.input c.requires.sound c.in_ok-table.ensures (ap only_input (sym c.as_slice.ensures) ∙ (sym c.in_ok-only_input-in-CollapseSingleInput.ensures ∙ c.in-Some-2.is))

pub returns-clause-applied : goal.returns-clause-applied
returns-clause-applied g c =
    rw (c.in-CollapseSingleInput.is)
    (on_ok c.rewire.result
    (collapse_applied c.args.aliased.now c.rewire.new.aliased c.args.place c.in_ok-table.table c.in-Some-2.input c.is_inverter-inverts.result c.in_ok-table.ensures
    (ap only_input (sym c.as_slice.ensures) ∙ (sym c.in_ok-only_input-in-CollapseSingleInput.ensures ∙ c.in-Some-2.is)) c.is_inverter-inverts.ensures)
    c.rewire.ensures.changed)
