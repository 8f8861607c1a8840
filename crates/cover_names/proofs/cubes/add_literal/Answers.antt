use Rattle.std.proofs.Common.{sym, append-nil}
use Rattle.cover_names.specs.Cubes.{cube_over}
use Rattle.cover_names.proofs.cubes.add_literal.Goals as goal

pub returns-in_ok-push : goal.returns-in_ok-push
unfolding cube_over
returns-in_ok-push c = rw (c.in-Some.is, sym c.in_ok-copy.ensures) c.in_ok-push.ensures.items

pub returns-in_default : goal.returns-in_default
unfolding cube_over
returns-in_default c = rw c.in_default.is (sym (append-nil c.args.literals.now.items))
