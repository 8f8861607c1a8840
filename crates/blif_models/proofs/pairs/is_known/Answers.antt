use Rattle.std.proofs.Common.{List, ℕ, bytes_eq, ◌∙◌}
use Rattle.std.specs.Borrow.{Bor}
use Rattle.indexmap.specs.IndexMap.{get_by}
use Rattle.blif_models.proofs.Actuals.{some_mapped}
use Rattle.blif_models.proofs.pairs.is_known.Goals as goal

pub returns : goal.returns
returns c = c.contains_key.ensures ∙ some_mapped (get_by (λ (key : Bor (List ℕ)). bytes_eq c.args.formal.now key.now) c.args.actuals.now)
