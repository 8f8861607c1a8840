use Rattle.std.proofs.Common.{◌≡◌, ℕ, drop, ◌-◌, ◌&&◌, ◌||◌, Bool, ap, ◌∙◌, arith}
use Rattle.circuit_model.specs.Names.{has}
use Rattle.circuit_model.specs.declared.circuit.Table.{Table}
use Rattle.subject_tree.specs.Tables.{is_constant}
use Rattle.subject_tree.proofs.Standing.{standing_begun, standing_more, any_from, constants_from}
use Rattle.subject_tree.proofs.judging.add_constant_inputs.Goals as goal

pub loop-place-init : goal.loop-place-init
loop-place-init c = record {
  within = omega arith;
  names = λ signal. standing_begun (λ (table : Table). is_constant table && has table.inputs signal) (has c.args.names.now.keys signal) c.args.tables.now;
}

pub loop-place-preserved : goal.loop-place-preserved
loop-place-preserved c = record {
  within = omega (arith, c.loop-place.invariant.within);
  names = λ signal. standing_more (λ (table : Table). is_constant table && has table.inputs signal) (has c.args.names.now.keys signal) (has c.loop-place.names.keys signal) (has c.add_if_constant.new.names.keys signal) c.args.tables.now (c.loop-place.place - 1) c.loop-place.place
      c.index-tables-place.result (omega arith) c.loop-place.invariant.within c.index-tables-place.is (c.loop-place.invariant.names signal) (c.in_ok-add_if_constant.ensures signal);
}

pub returns : goal.returns
returns c = λ signal.
    let e : c.loop-place.place ≡ 0 = omega arith in
    c.loop-place.invariant.names signal
    ∙ (ap (λ (k : ℕ). has c.args.names.now.keys signal || any_from (λ (table : Table). is_constant table && has table.inputs signal) (drop k c.args.tables.now)) e ∙ ap (λ (b : Bool). has c.args.names.now.keys signal || b) (constants_from signal c.args.tables.now))
