use Rattle.std.proofs.Common.{◌≡◌, ◌++◌, map, string_bytes}
use Rattle.std.specs.Vec.Iter.{into_iter_items}
use Rattle.sis_adapters.proofs.arguments.words_of.Given as goal

abbrev pub invariant-loop-argument : goal.invariant-loop-argument
invariant-loop-argument l = record {
  all : l.words.items ++ map string_bytes (into_iter_items l.argument-iterator) ≡ map string_bytes (into_iter_items l.fn.arguments);
}
