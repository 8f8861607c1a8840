use Rattle.std.proofs.Common.{◌≡◌, ◌-◌, length, find, ap, arith}
use Rattle.std.specs.List.{range_with_len}
use Rattle.circuit_checks.specs.Graphs.{is_cyclic, first_cyclic}
use Rattle.circuit_checks.proofs.graph_cycle.first_cyclic.Goals as goal

pub loop-place-init : goal.loop-place-init
unfolding first_cyclic
loop-place-init c =
    let same : length c.args.graph.now - 0 ≡ length c.args.graph.now = omega arith in
    ap (λ n. find (is_cyclic c.args.graph.now) (range_with_len 0 n)) same
