use Rattle.std.proofs.Common.{sym}
use Rattle.cube_cover.proofs.Products.{same_from_contains, contains_same}
use Rattle.cube_cover.proofs.row.Row.is_equal.Goals as goal

pub returns : goal.returns
returns g c = (
  λ t. same_from_contains _ _ c.requires (c.contains.ensures.0 c.if-not-contains.false) (c.contains-2.ensures.0 t),
  λ e. c.contains-2.ensures.1 (contains_same _ _ (sym e)),
)
