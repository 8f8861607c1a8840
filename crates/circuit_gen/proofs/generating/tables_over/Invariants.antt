use Rattle.std.proofs.Common.{◌≡◌, map}
use Rattle.std.specs.List.{range_with_len}
use Rattle.circuit_gen.specs.Generated.{number_at, table_at}
use Rattle.circuit_gen.proofs.generating.tables_over.Given as goal

abbrev pub invariant-loop-place : goal.invariant-loop-place
invariant-loop-place l = record {
  made : l.tables.items ≡ map (table_at l.seed) (range_with_len 0 l.place);
  drawn : l.draws.number ≡ number_at l.seed l.place;
}
