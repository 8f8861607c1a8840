use Rattle.std.proofs.Common.{◌∙◌, ap, not}
use Rattle.circuit_model.specs.Names.{has}
use Rattle.circuit_checks.specs.Sets.{with_name}
use Rattle.circuit_checks.proofs.Naming.{held, put_held, texts}
use Rattle.circuit_checks.proofs.name_set.NameSet.add.Goals as goal

pub returns-clause-added : goal.returns-clause-added
returns-clause-added c =
    c.in_ok-insert.ensures.added
    ∙ ap not (held c.as_slice.result.now c.self.inside.names.keys
    ∙ ap (λ name. has (texts c.self.inside.names.keys) name) c.as_slice.ensures
    ∙ ap (λ names. has names c.args.name.now) c.self.view_is)

pub returns-clause-names : goal.returns-clause-names
returns-clause-names c =
    put_held c.self.inside.names.keys c.as_slice.result c.insert.new.self.keys c.in_ok-insert.ensures.keys
    ∙ ap (λ name. with_name (texts c.self.inside.names.keys) name) c.as_slice.ensures
    ∙ ap (λ names. with_name names c.args.name.now) c.self.view_is
