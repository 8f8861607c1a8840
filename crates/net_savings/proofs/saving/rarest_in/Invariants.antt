use Rattle.std.proofs.Common.{◌≡◌, ◌⊎◌}
use Rattle.alg_div.specs.Cubes.{Has}
use Rattle.cover_names.specs.declared.literal.Literal.{Literal}
use Rattle.net_savings.proofs.saving.rarest_in.Given as goal

abbrev pub invariant-loop-literal : goal.invariant-loop-literal
invariant-loop-literal g l = (l.rarest ≡ l.initial.name) ⊎ ((literal : Literal) × Has literal l.cube × (literal.name ≡ l.rarest))
