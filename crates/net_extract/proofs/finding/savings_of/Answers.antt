use Rattle.std.proofs.lemmas.Result.{IfOk-weaker}
use Rattle.net_candidates.specs.declared.rule.Rule.{Rule}
use Rattle.net_savings.specs.Savings.{AreSavings}
use Rattle.net_savings.specs.declared.kept.CandidateQueue.{CandidateQueue}
use Rattle.net_extract.proofs.finding.savings_of.Goals as goal

pub returns-in-None : goal.returns-in-None
returns-in-None g c =
    IfOk-weaker c.begin.result (λ (kept : CandidateQueue). (rule : Rule) → AreSavings rule c.args.work.now kept) (AreSavings c.args.rule c.args.work.now) (λ kept all. all c.args.rule) c.begin.ensures
