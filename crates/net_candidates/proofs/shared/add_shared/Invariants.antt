use Rattle.std.proofs.Common.{map}
use Rattle.net_candidates.specs.Pairs.{shared_at}
use Rattle.net_candidates.proofs.Keeping.{HasFound}
use Rattle.net_candidates.proofs.shared.add_shared.Given as goal

abbrev pub invariant-loop-place : goal.invariant-loop-place
invariant-loop-place l = HasFound (shared_at l.earlier l.cube) (map (λ key. key.now) l.yielded) l.fn.made.keys l.made.keys
