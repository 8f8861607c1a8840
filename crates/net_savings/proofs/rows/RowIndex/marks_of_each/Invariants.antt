use Rattle.std.proofs.Common.{◌≡◌, map, take}
use Rattle.net_candidates.specs.Pairs.{has_all}
use Rattle.net_savings.proofs.rows.RowIndex.marks_of_each.Given as goal

abbrev pub invariant-loop-cube : goal.invariant-loop-cube
invariant-loop-cube l = map (λ marks. marks.items) l.lists.items ≡ map (λ cube. map (has_all cube) l.self.rows) (take l.cube-index l.cover)
