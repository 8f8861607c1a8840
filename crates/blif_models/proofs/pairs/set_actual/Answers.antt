use Rattle.std.proofs.Common.{ℕ, List, bytes_eq, option_map, ap, ◌∙◌}
use Rattle.std.specs.Borrow.{Bor}
use Rattle.indexmap.specs.IndexMap.{get_by}
use Rattle.blif_models.proofs.Actuals.{set_at}
use Rattle.blif_models.proofs.pairs.set_actual.Goals as goal

pub returns : goal.returns
returns c = λ word.
    ap (option_map (λ (found : Bor (List ℕ)). found.now)) (c.in_ok-_actual.ensures.updates.0 (record c.args.formal { now = word }))
    ∙ set_at (bytes_eq c.args.formal.now word) c.args.actual (get_by (λ (key : Bor (List ℕ)). bytes_eq word key.now) c.args.actuals.now)
