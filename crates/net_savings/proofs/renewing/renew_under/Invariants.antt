use Rattle.std.proofs.Common.{take}
use Rattle.alg_div.specs.Cubes.{Has}
use Rattle.cover_names.specs.Literals.{NamedCover}
use Rattle.net_savings.specs.Ranking.{saving_in}
use Rattle.net_savings.specs.Savings.{IsRight, IsGrown}
use Rattle.net_savings.proofs.renewing.renew_under.Given as goal

abbrev pub invariant-loop-cover : goal.invariant-loop-cover
invariant-loop-cover g l = record {
  grown : IsGrown l.work l.fn.ranked l.ranked;
  right : (cover : NamedCover) → Has cover (take l.cover-index l.cover-items) → IsRight l.work (saving_in l.ranked) cover;
}
