use Rattle.std.proofs.Common.{MatchOption}
use Rattle.std.proofs.lemmas.Result.{IfOk-weaker}
use Rattle.net_candidates.specs.Extracting.{IsNext, IsDone}
use Rattle.net_candidates.specs.declared.rule.Rule.TheVariants.{Fx}
use Rattle.net_gains.specs.Kept.{Saves, IsFirst}
use Rattle.cover_names.specs.Literals.{NamedCover}
use Rattle.net_work.specs.Placed.{standing, circuit_of}
use Rattle.net_savings.specs.Saving.{LeavesNarrow}
use Rattle.net_extract.proofs.Gaining.{counted_found}
use Rattle.net_extract.proofs.counted.best_counted.Goals as goal

pub returns : goal.returns
returns g c =
    IfOk-weaker c.first.result
    (λ found. MatchOption found ((cover : NamedCover) → Saves c.args.gains.now cover → LeavesNarrow (standing c.args.work.now.slots) c.args.name.now cover → ⊥)
    (IsFirst (LeavesNarrow (standing c.args.work.now.slots) c.args.name.now) c.args.gains.now))
    (λ found. MatchOption found (IsDone Fx (circuit_of c.args.work.now)) (IsNext Fx (circuit_of c.args.work.now) c.args.name.now))
    (counted_found c.args.work.now c.args.name.now c.args.gains.now c.requires.sound c.requires.free c.requires.counted c.gains_are_what_tables_lose.ensures c.what_gains_is_a_candidate.ensures)
    c.first.ensures
