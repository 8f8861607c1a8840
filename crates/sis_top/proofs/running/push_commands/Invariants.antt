use Rattle.std.proofs.Common.{◌≡◌, ◌++◌, vec_len}
use Rattle.std.specs.Prelude.{reverse}
use Rattle.sis_top.specs.Machine.{dues}
use Rattle.sis_top.proofs.running.push_commands.Given as goal

abbrev pub invariant-rest : goal.invariant-rest
invariant-rest l = dues l.depth l.rest.items ++ reverse l.todo.items ≡ dues l.depth l.fn.commands ++ reverse l.fn.todo.items

abbrev pub decreases-rest : goal.decreases-rest
decreases-rest l = vec_len l.rest
