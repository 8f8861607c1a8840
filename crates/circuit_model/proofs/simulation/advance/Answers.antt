use Rattle.std.proofs.Common.{refl, ◌∙◌}
use Rattle.circuit_model.proofs.LevelValues.{table_count, dont_care_count, step_shown, step_state}
use Rattle.circuit_model.proofs.simulation.advance.Goals as goal

pub settle-requires : goal.settle-requires
settle-requires c = rw (c.as_slice.ensures, c.as_slice-tables.ensures, c.requires.wired) (table_count c.args.circuit.now)

pub settle-requires-2 : goal.settle-requires-2
settle-requires-2 c = rw (c.as_slice-3.ensures, c.as_slice-part.ensures, c.requires.wired) (dont_care_count c.args.circuit.now)

pub returns-clause-shown : goal.returns-clause-shown
returns-clause-shown c =
    c.in_ok-shown.ensures
    ∙ step_shown c.args.circuit.now c.args.state.now c.args.row.now c.in_ok-leaves.leaves.items c.as_slice-6.result.now c.as_slice-7.result.now c.as_slice-5.result.now
    c.requires.state c.requires.row c.in_ok-leaves.ensures
    (rw (c.as_slice-6.ensures.value, c.in_ok-bits.ensures, c.as_slice-tables.ensures, c.as_slice.ensures, c.as_slice-2.ensures.value, c.requires.wired) refl)
    (rw (c.as_slice-7.ensures.value, c.in_ok-free_bits.ensures, c.as_slice-part.ensures, c.as_slice-3.ensures, c.as_slice-4.ensures.value, c.requires.wired) refl)
    (rw c.as_slice-5.ensures (rw c.requires.wired refl))

pub returns-clause-state : goal.returns-clause-state
returns-clause-state c =
    c.in_ok-next.ensures
    ∙ step_state c.args.circuit.now c.args.state.now c.args.row.now c.in_ok-leaves.leaves.items c.as_slice-9.result.now c.as_slice-8.result.now
    c.requires.state c.requires.row c.in_ok-leaves.ensures
    (rw (c.as_slice-9.ensures.value, c.in_ok-bits.ensures, c.as_slice-tables.ensures, c.as_slice.ensures, c.as_slice-2.ensures.value, c.requires.wired) refl)
    (rw c.as_slice-8.ensures (rw c.requires.wired refl))
