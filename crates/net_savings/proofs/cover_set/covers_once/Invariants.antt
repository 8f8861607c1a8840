use Rattle.std.proofs.Common.{◌≡◌, ◌↔◌, ◌++◌}
use Rattle.std.specs.Vec.Iter.{into_iter_items}
use Rattle.alg_div.specs.Cubes.{Has}
use Rattle.cover_names.specs.Literals.{NamedCover}
use Rattle.net_savings.proofs.cover_set.covers_once.Given as goal

abbrev pub invariant-loop-cover : goal.invariant-loop-cover
invariant-loop-cover l = ((cover : NamedCover) → Has cover l.made.keys ↔ Has cover l.yielded) × (l.yielded ++ into_iter_items l.cover-iterator ≡ l.fn.covers.items)
