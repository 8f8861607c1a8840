use Rattle.std.proofs.Common.{◌≡◌, drop}
use Rattle.std.specs.List.{list_all}
use Rattle.circuit_model.specs.Names.{has}
use Rattle.cover_names.specs.declared.literal.Literal.{Literal}
use Rattle.net_savings.proofs.by_rows.is_read.Given as goal

abbrev pub invariant-loop-literal : goal.invariant-loop-literal
invariant-loop-literal l = list_all (λ (literal : Literal). has l.names literal.name) (drop l.literal-index l.cube) ≡ list_all (λ (literal : Literal). has l.names literal.name) l.cube
