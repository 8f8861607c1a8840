use Rattle.std.proofs.Common.{◌≡◌, ◌++◌, map, take}
use Rattle.cover_names.specs.declared.literal.Literal.{Literal}
use Rattle.alg_tables.proofs.dividing.push_cube_names.Given as goal

abbrev pub invariant-loop-literal : goal.invariant-loop-literal
invariant-loop-literal l = l.names.items ≡ l.initial.names.items ++ map (λ (literal : Literal). literal.name) (take l.literal-index l.cube)
