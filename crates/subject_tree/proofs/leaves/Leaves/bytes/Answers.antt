use Rattle.std.proofs.Common.{ℕ, List, [], ◌∙◌, ap, unwrap_or, Option}
use Rattle.std.proofs.lemmas.Option.{unwrap_or-slice_get}
use Rattle.subject_tree.proofs.leaves.Leaves.bytes.Goals as goal

pub returns-in-None : goal.returns-in-None
returns-in-None c =
    ap (λ (o : Option (List ℕ)). unwrap_or o []) c.in-None.ensures ∙ unwrap_or-slice_get c.args.self.now c.args.place []
