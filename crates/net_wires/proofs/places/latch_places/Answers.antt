use Rattle.std.proofs.Common.{◌≡◌, ◌-◌, None, length, bytes_eq, refl, sym, ap, ◌∙◌, arith}
use Rattle.indexmap.specs.IndexMap.{get}
use Rattle.circuit_model.specs.declared.circuit.Latch.{Latch}
use Rattle.net_wires.specs.Places.{item_at}
use Rattle.net_wires.proofs.Searching.{noted_latch, no_latch}
use Rattle.net_wires.proofs.places.latch_places.Goals as goal

pub loop-left-init : goal.loop-left-init
loop-left-init c = (
  omega arith,
  λ name.
      let e : get bytes_eq c.new-places.result name ≡ None = rw c.new-places.ensures.empty refl in
      ap (item_at c.args.latches.now) e ∙ no_latch c.args.latches.now (length c.args.latches.now) name (omega arith),
)

pub loop-left-preserved : goal.loop-left-preserved
loop-left-preserved c = (
  omega (arith, c.loop-left.invariant.0),
  noted_latch c.args.latches.now (c.loop-left.left - 1) c.loop-left.left c.index-latches-left.result c.in_ok-output.output (get bytes_eq c.loop-left.places) (get bytes_eq c.note_place.new.places)
      (omega (arith, c.loop-left-test.true)) (omega (arith, c.loop-left.invariant.0, c.loop-left-test.true)) c.index-latches-left.is (c.in_ok-output.ensures ∙ ap (λ (x : Latch). x.output) (sym c.index-latches-left.is)) c.in_ok-note_place.ensures c.loop-left.invariant.1,
)
