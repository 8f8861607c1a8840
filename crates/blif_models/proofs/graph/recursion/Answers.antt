use Rattle.std.proofs.Common.{◌∙◌, ℕ, List, Some, None, ap, sym}
use Rattle.blif_lines.specs.declared.fault.BlifFault.TheVariants.{Recursion}
use Rattle.blif_models.proofs.ModelGraph.{recursion_is}
use Rattle.blif_models.proofs.graph.recursion.Goals as goal

pub returns-in-None : goal.returns-in-None
returns-in-None c = recursion_is c.args.file.now.models c.args.graph.now None c.requires.models (sym c.in-None.is ∙ c.in_ok-first_recursive.ensures)

pub returns-in_ok-name-in-Some : goal.returns-in_ok-name-in-Some
returns-in_ok-name-in-Some c =
    ap (λ (name : List ℕ). Some (Recursion name)) (c.in_ok-name-in-Some.ensures ∙ c.name.ensures)
    ∙ recursion_is c.args.file.now.models c.args.graph.now (Some c.in-Some.place) c.requires.models (sym c.in-Some.is ∙ c.in_ok-first_recursive.ensures)
