use Rattle.std.proofs.Common.{ltb}
use Rattle.net_resub.specs.Divisions.{HasJust}
use Rattle.net_resub.specs.Pairs.{saving_at}
use Rattle.net_resub.proofs.kept.all_divisions.Given as goal

abbrev pub invariant-loop-by : goal.invariant-loop-by
invariant-loop-by g l = HasJust (λ division. ltb division.by l.by) (saving_at l.work.slots) l.divisions
