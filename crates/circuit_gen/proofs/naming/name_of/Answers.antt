use Rattle.std.proofs.Common.{◌≡◌, ◌∙◌, ℕ, List, IfOk, subst}
use Rattle.circuit_gen.proofs.Numbers.{named}
use Rattle.circuit_gen.proofs.naming.name_of.Goals as goal

pub returns : goal.returns
returns c =
    subst (λ (n : List ℕ). IfOk c.copy.result (λ name. name ≡ n))
    (c.index-names-number.is ∙ named c.args.names.now c.args.number c.index-names-number.result c.requires.names c.requires.inside) c.copy.ensures
