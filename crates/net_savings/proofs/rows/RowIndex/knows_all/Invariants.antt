use Rattle.std.proofs.Common.{◌≡◌, drop}
use Rattle.net_savings.specs.Indexed.{is_known}
use Rattle.net_savings.proofs.rows.RowIndex.knows_all.Given as goal

abbrev pub invariant-loop-cube : goal.invariant-loop-cube
invariant-loop-cube l =
    is_known l.self.names.keys (drop l.cube-index l.cover) ≡ is_known l.self.names.keys l.cover
