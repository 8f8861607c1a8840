use Rattle.std.proofs.Common.{bytes_eq, refl}
use Rattle.indexmap.specs.IndexMap.{get}
use Rattle.genlib_format.proofs.Indexing.{nothing_indexed}
use Rattle.genlib_format.proofs.library.Library.new.Goals as goal

pub invariant_of-result : goal.invariant_of-result
invariant_of-result c = rw c.new.ensures.items (nothing_indexed (get bytes_eq c.new-2.result) (λ q. rw c.new-2.ensures.empty refl))
