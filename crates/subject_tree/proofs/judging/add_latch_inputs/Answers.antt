use Rattle.std.proofs.Common.{◌≡◌, ℕ, drop, ◌-◌, ◌||◌, Bool, bytes_eq, sym, ap, ◌∙◌, arith}
use Rattle.circuit_model.specs.Names.{has}
use Rattle.circuit_model.specs.declared.circuit.Latch.{Latch}
use Rattle.subject_tree.proofs.Standing.{standing_begun, standing_more, any_from, latches_from}
use Rattle.subject_tree.proofs.judging.add_latch_inputs.Goals as goal

pub loop-place-init : goal.loop-place-init
loop-place-init c = record {
  within = omega arith;
  names = λ signal. standing_begun (λ (latch : Latch). bytes_eq signal latch.input) (has c.args.names.now.keys signal) c.args.latches.now;
}

pub loop-place-preserved : goal.loop-place-preserved
loop-place-preserved c = record {
  within = omega (arith, c.loop-place.invariant.within);
  names = λ signal. standing_more (λ (latch : Latch). bytes_eq signal latch.input) (has c.args.names.now.keys signal) (has c.loop-place.names.keys signal) (has c.add_name.new.names.keys signal) c.args.latches.now (c.loop-place.place - 1) c.loop-place.place
      c.index-latches-place.result (omega arith) c.loop-place.invariant.within c.index-latches-place.is (c.loop-place.invariant.names signal) (c.in_ok-add_name.ensures signal ∙ ap (λ (latch : Latch). has c.loop-place.names.keys signal || bytes_eq signal latch.input) (sym c.index-latches-place.is));
}

pub returns : goal.returns
returns c = λ signal.
    let e : c.loop-place.place ≡ 0 = omega arith in
    c.loop-place.invariant.names signal
    ∙ (ap (λ (k : ℕ). has c.args.names.now.keys signal || any_from (λ (latch : Latch). bytes_eq signal latch.input) (drop k c.args.latches.now)) e ∙ ap (λ (b : Bool). has c.args.names.now.keys signal || b) (latches_from signal c.args.latches.now))
