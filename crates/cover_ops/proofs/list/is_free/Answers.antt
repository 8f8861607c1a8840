use Rattle.cube_cover.proofs.Dashes.{free_answer}
use Rattle.cover_ops.proofs.list.is_free.Goals as goal

pub returns : goal.returns
returns g c = free_answer _ _ _ _ c.is_none.ensures c.next_literal.ensures.none c.next_literal.ensures.found
