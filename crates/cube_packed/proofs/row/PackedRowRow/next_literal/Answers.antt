use Rattle.std.proofs.Common.{ℕ, sym, subst}
use Rattle.cube_packed.specs.Planes.{AreCube}
use Rattle.cube_packed.proofs.PlaneLiterals.{all_dashes_by_bits, found_by_bits, before_by_bits}
use Rattle.cube_packed.proofs.row.PackedRowRow.next_literal.Goals as goal

pub next_one-requires : goal.next_one-requires
next_one-requires c = subst (λ (w : ℕ). AreCube w c.planes.result.0.now c.planes.result.1.now) (sym c.width.ensures) c.planes.ensures.cube

pub returns-clause-none : goal.returns-clause-none
returns-clause-none c = λ t. all_dashes_by_bits c.args.self.now c.planes.result.0.now c.planes.result.1.now c.args.from c.planes.ensures.literals (c.next_one.ensures.none t)

pub returns-clause-found : goal.returns-clause-found
returns-clause-found c = found_by_bits c.args.self.now c.planes.result.0.now c.planes.result.1.now c.width.result c.args.from c.next_one.result c.planes.ensures.literals c.width.ensures c.next_one.ensures.found

pub returns-clause-before : goal.returns-clause-before
returns-clause-before c = before_by_bits c.args.self.now c.planes.result.0.now c.planes.result.1.now c.width.result c.args.from c.next_one.result c.planes.ensures.literals c.width.ensures c.next_one.ensures.found c.next_one.ensures.before
