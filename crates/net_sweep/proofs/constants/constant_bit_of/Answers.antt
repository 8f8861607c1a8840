use Rattle.std.proofs.Common.{ap, subst, IsTrue, ◌↔◌}
use Rattle.cube_cover.specs.Covers.{Shape, IsTautology}
use Rattle.net_core.specs.Tables.{covered}
use Rattle.net_core.specs.declared.table.CoverTable.{CoverTable}
use Rattle.net_sweep.proofs.constants.constant_bit_of.Goals as goal

pub bit_by_cover-requires-clause-full : goal.bit_by_cover-requires-clause-full
unfolding covered
bit_by_cover-requires-clause-full g c =
    subst (λ (s : Shape). IsTrue c.in_ok-is_full.is_full ↔ IsTautology s) (ap (λ (t : CoverTable _). t.cover) c.in_ok-covered.ensures) c.in_ok-is_full.ensures
