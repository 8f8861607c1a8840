use Rattle.std.proofs.Common.{◌≡◌, ℕ, true, List, take}
use Rattle.circuit_model.specs.Names.{has}
use Rattle.alg_div.specs.Cubes.{Has}
use Rattle.cover_names.specs.Literals.{NamedCover}
use Rattle.net_savings.specs.Meeting.{is_met}
use Rattle.net_savings.specs.Ranking.{saving_in, covers_under}
use Rattle.net_savings.specs.Savings.{IsRight, AreFound, IsGrown}
use Rattle.net_savings.proofs.renewing.renew_touched.Given as goal

abbrev pub invariant-loop-one : goal.invariant-loop-one
invariant-loop-one g l = record {
  found : AreFound (saving_in l.ranked) (covers_under l.ranked);
  grown : IsGrown l.work l.fn.ranked l.ranked;
  right : (under : List ℕ) (cover : NamedCover) → has (take l.one-index l.touched) under ≡ true → is_met l.fn.changed.items cover ≡ true → Has cover (covers_under l.ranked under) → IsRight l.work (saving_in l.ranked) cover;
}
