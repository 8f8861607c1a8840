use Rattle.std.proofs.Common.{◌≡◌, ◌≤◌, ◌↔◌, drop, length}
use Rattle.net_candidates.specs.Candidates.{shared}
use Rattle.net_candidates.proofs.sharers.share_just.Given as goal

abbrev pub invariant-loop-literal : goal.invariant-loop-literal
invariant-loop-literal l = record {
  within : l.count ≤ length l.cube;
  rest : (shared (drop l.literal-index l.one) l.other ≡ drop l.count l.cube) ↔ (shared l.one l.other ≡ l.cube);
}
