use Rattle.std.proofs.Common.{◌≡◌, ℕ, List, ◌⊎◌}
use Rattle.net_func.specs.declared.fault.NetFuncFault.TheVariants.{TooBig}
use Rattle.net_func.specs.Signals.{own_function, IsBigAt, IsBigSeen}
use Rattle.net_func.specs.Held.{circuit_of}
use Rattle.net_func.proofs.Adding.{blames_weaker}
use Rattle.net_func.proofs.Listed.{blamed_part}
use Rattle.net_func.proofs.Replacing.{none_kept}
use Rattle.net_func.proofs.kept.KeptFunctions.turn.Goals as goal

pub returns-in-Err-clause-big : goal.returns-in-Err-clause-big
returns-in-Err-clause-big g c =
    blames_weaker
    (λ blamed. (blamed ≡ c.args.name.now) × ((part : List ℕ) × (c.in-Err.fault ≡ TooBig part))) _
    c.renamed.result
    (λ blamed cause. (
      cause.0,
      blamed_part
          (λ blame. ((part : List ℕ) × IsBigAt (g.F.Functions.limit c.args.functions.now)
          (circuit_of c.args.self.now).tables (own_function (circuit_of c.args.self.now)) part)
          ⊎ IsBigSeen (g.F.Functions.limit c.args.functions.now) (circuit_of c.args.self.now)
          c.args.name.now)
          c.in-Err.fault cause.1.0 c.in-Err.ensures.big cause.1.1,
    ))
    c.renamed.ensures

pub returns-in-Err-clause-kept : goal.returns-in-Err-clause-kept
returns-in-Err-clause-kept g c =
    none_kept g.F.Functions.holds g.F.Functions.tree g.F.Functions.limit c.turn_of.new.functions
    c.forget.new.self c.forget.ensures.none
