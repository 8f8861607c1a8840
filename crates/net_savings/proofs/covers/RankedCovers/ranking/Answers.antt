use Rattle.std.proofs.Common.{subst}
use Rattle.cover_names.specs.Literals.{cover_cmp}
use Rattle.net_queue.specs.Greatest.{greatest_cmp}
use Rattle.net_queue.specs.Queue.{AreRanked}
use Rattle.net_savings.specs.Ranking.{KnownCovers, rank_in}
use Rattle.net_savings.proofs.covers.RankedCovers.ranking.Goals as goal

pub returns : goal.returns
returns c = subst (λ (known : KnownCovers). AreRanked greatest_cmp cover_cmp (rank_in known) c.order.result.now.keys) c.self.view_is c.order.ensures
