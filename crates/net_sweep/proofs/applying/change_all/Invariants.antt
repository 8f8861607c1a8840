use Rattle.std.proofs.Common.{take}
use Rattle.net_sweep.specs.Settled.{changed_by}
use Rattle.net_sweep.proofs.Changing.{IsPartly}
use Rattle.net_sweep.proofs.applying.change_all.Given as goal

abbrev pub invariant-loop-place : goal.invariant-loop-place
invariant-loop-place l = IsPartly (changed_by l.name l.change) (take l.place-index l.places) l.fn.aliased l.aliased
