use Rattle.std.proofs.Common.{◌≡◌, cond, Some, subst}
use Rattle.net_queue.specs.Queue.{value_in}
use Rattle.net_savings.specs.Orders.{cover_eq}
use Rattle.net_savings.specs.Ranking.{KnownCovers, saving_in}
use Rattle.net_savings.proofs.covers.RankedCovers.set.Goals as goal

pub returns-clause-savings : goal.returns-clause-savings
returns-clause-savings c = λ other.
    subst (λ (known : KnownCovers). value_in cover_eq c.set.new.self other ≡ cond (cover_eq c.args.cover.now other) (Some c.args.saving) (saving_in known other)) c.self.view_is
    (c.in_ok-before.ensures.values other)
