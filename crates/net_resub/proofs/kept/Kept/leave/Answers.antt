use Rattle.std.proofs.Common.{◌&&◌, not, true, List, subst}
use Rattle.net_resub.specs.Divisions.{is_among, HasJust}
use Rattle.net_resub.specs.Pairs.{saving_at}
use Rattle.net_resub.specs.declared.divisions.Division.{Division}
use Rattle.net_resub.proofs.Keeping.{left_beside}
use Rattle.net_resub.proofs.Listing.{listed_beside}
use Rattle.net_resub.proofs.kept.Kept.leave.Goals as goal

pub returns : goal.returns
returns g c = record {
  divisions =
      left_beside c.args.work.now.slots c.args.place c.in_ok-gone.gone.items c.take_all.new.divisions c.in_ok-gone.ensures
      (subst (λ (gone : List Division). HasJust (λ division. true && not (is_among gone division)) (saving_at c.args.work.now.slots) c.take_all.new.divisions) c.as_slice.ensures.value
      (c.take_all.ensures (λ division. true) (saving_at c.args.work.now.slots) c.requires.divisions));
  lists = listed_beside c.args.work.now.slots c.args.self.now.lists c.args.place c.requires.lists;
}
