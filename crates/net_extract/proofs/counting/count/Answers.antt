use Rattle.std.proofs.Common.{Option, List, take, subst, arith}
use Rattle.circuit_model.specs.declared.circuit.Table.{Table}
use Rattle.net_extract.specs.Known.{IsCounted}
use Rattle.net_extract.proofs.Gaining.{counted_none, take_slot}
use Rattle.net_extract.proofs.counting.count.Goals as goal

pub loop-place-init : goal.loop-place-init
loop-place-init g c = counted_none c.in_ok-gains.gains c.in_ok-gains.ensures.tables

pub loop-place-preserved : goal.loop-place-preserved
loop-place-preserved g c =
    subst (λ (slots : List (Option Table)). IsCounted slots c.count_at.new.gains) (take_slot c.args.work.now.slots c.loop-place.place (omega (arith, c.len-place-end.ensures, c.loop-place-test.true)))
    (c.in_ok-count_at.ensures c.if-not-branch.false (take c.loop-place.place c.args.work.now.slots) c.loop-place.invariant)
