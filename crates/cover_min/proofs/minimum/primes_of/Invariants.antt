use Rattle.std.proofs.Common.{◌≡◌, map, length}
use Rattle.std.specs.Vec.Iter.{into_iter_items, into_iter_len}
use Rattle.cover_min.specs.Trimming.{IsSpreading}
use Rattle.cover_min.proofs.minimum.primes_of.Given as goal

abbrev pub invariant-loop-row : goal.invariant-loop-row
invariant-loop-row g l = record {
  stays : g.O.Oracle.Stays l.fn.oracle l.oracle;
  spreading :
      IsSpreading (g.O.Oracle.meaning l.fn.oracle) (g.O.Oracle.refusals l.fn.oracle) l.fn.cover.rows
      l.primes (map g.R.Row.literals (into_iter_items l.row-iterator));
  long : into_iter_len l.row-iterator ≡ length (into_iter_items l.row-iterator);
}
