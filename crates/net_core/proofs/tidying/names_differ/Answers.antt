use Rattle.net_core.proofs.Narrowed.{folded_names}
use Rattle.net_core.proofs.tidying.names_differ.Goals as goal

pub returns : goal.returns
returns c = folded_names _ _ _ _ _ _ c.in_ok-names_copied.ensures c.new-2.ensures c.in_ok-folded.ensures c.len.ensures
