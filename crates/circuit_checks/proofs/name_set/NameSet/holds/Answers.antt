use Rattle.std.proofs.Common.{◌∙◌, ap}
use Rattle.circuit_model.specs.Names.{has}
use Rattle.circuit_checks.proofs.Naming.{held, texts}
use Rattle.circuit_checks.proofs.name_set.NameSet.holds.Goals as goal

pub returns : goal.returns
returns c =
    c.contains.ensures ∙ held c.as_slice.result.now c.self.inside.names.keys
    ∙ ap (λ name. has (texts c.self.inside.names.keys) name) c.as_slice.ensures
    ∙ ap (λ names. has names c.args.name.now) c.self.view_is
