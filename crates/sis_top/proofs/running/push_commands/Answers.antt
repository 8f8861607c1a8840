use Rattle.std.proofs.Common.{◌∷◌, [], sym, ◌∙◌, arith}
use Rattle.sis_top.specs.Machine.{Run}
use Rattle.sis_top.proofs.Pushing.{pushed, one_pushed, all_pushed}
use Rattle.sis_top.proofs.running.push_commands.Goals as goal

pub rest-preserved : goal.rest-preserved
rest-preserved c =
    one_pushed c.args.depth c.rest.rest.items c.pop.new.self.items c.in-Some.command c.rest.todo.items c.push.new.self.items _ c.in-Some.ensures.items
    (pushed c.push.result c.rest.todo.items (record { line = c.in-Some.command.line; work = Run c.args.depth c.in-Some.command.op } ∷ []) c.push.new.self.items
    (sym c.is_err.ensures.value ∙ c.if-is_err.false) c.push.ensures.items)
    c.rest.invariant

pub returns-clause-ok : goal.returns-clause-ok
returns-clause-ok c = all_pushed c.args.depth c.rest.rest.items _ _ (omega (arith, c.in_default.ensures.cases, c.rest.rest.ok.0)) c.rest.invariant
