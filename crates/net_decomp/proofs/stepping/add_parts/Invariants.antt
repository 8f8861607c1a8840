use Rattle.std.proofs.Common.{◌≡◌, ◌++◌, map}
use Rattle.std.specs.Vec.Iter.{into_iter_items}
use Rattle.net_decomp.specs.Cursor.{ArePut}
use Rattle.net_decomp.proofs.stepping.add_parts.Given as goal

abbrev pub invariant-loop-part : goal.invariant-loop-part
invariant-loop-part g l = record {
  put : ArePut l.inputs (map (λ part. map g.R.Row.literals part.items) l.yielded) l.names l.fn.work l.work;
  all : l.yielded ++ into_iter_items l.part-iterator ≡ l.fn.parts.items;
}
