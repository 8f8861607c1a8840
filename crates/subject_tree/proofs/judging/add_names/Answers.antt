use Rattle.std.proofs.Common.{◌≡◌, ℕ, drop, ◌-◌, ◌||◌, Bool, bytes_eq, ap, ◌∙◌, arith}
use Rattle.circuit_model.specs.Names.{has}
use Rattle.subject_tree.proofs.Standing.{standing_begun, standing_more, any_from, names_from}
use Rattle.subject_tree.proofs.judging.add_names.Goals as goal

pub loop-place-init : goal.loop-place-init
loop-place-init c = record {
  within = omega arith;
  names = λ signal. standing_begun (bytes_eq signal) (has c.args.names.now.keys signal) c.args.more.now;
}

pub loop-place-preserved : goal.loop-place-preserved
loop-place-preserved c = record {
  within = omega (arith, c.loop-place.invariant.within);
  names = λ signal. standing_more (bytes_eq signal) (has c.args.names.now.keys signal) (has c.loop-place.names.keys signal) (has c.add_name.new.names.keys signal) c.args.more.now (c.loop-place.place - 1) c.loop-place.place
      c.index-more-place.result (omega arith) c.loop-place.invariant.within c.index-more-place.is (c.loop-place.invariant.names signal) (c.in_ok-add_name.ensures signal);
}

pub returns : goal.returns
returns c = λ signal.
    let e : c.loop-place.place ≡ 0 = omega arith in
    c.loop-place.invariant.names signal
    ∙ (ap (λ (k : ℕ). has c.args.names.now.keys signal || any_from (bytes_eq signal) (drop k c.args.more.now)) e ∙ ap (λ (b : Bool). has c.args.names.now.keys signal || b) (names_from signal c.args.more.now))
