use Rattle.std.proofs.Common.{◌==◌, ◌||◌, not, Bool, List, subst}
use Rattle.net_readers.proofs.Sets.{on_ok}
use Rattle.net_resub.specs.Candidates.{is_with}
use Rattle.net_resub.specs.Divisions.{is_among, HasJust}
use Rattle.net_resub.specs.Pairs.{saving_at}
use Rattle.net_resub.specs.declared.divisions.Division.{Division}
use Rattle.net_resub.proofs.Keeping.{come_whole}
use Rattle.net_resub.proofs.Listing.{listed_whole}
use Rattle.net_resub.proofs.kept.Kept.come.Goals as goal

pub divisions_with-requires : goal.divisions_with-requires
divisions_with-requires g c = listed_whole c.args.work.now.slots c.list_divisor.new.self c.args.place (c.in_ok-list_divisor.ensures (λ at. not (c.args.place == at)) c.requires.lists)

pub returns : goal.returns
returns g c =
    on_ok c.put_all.result
    (λ (told : (test : Division → Bool) → HasJust test (saving_at c.args.work.now.slots) c.args.self.now.divisions
    → HasJust (λ division. test division || is_among c.as_slice.result.now division) (saving_at c.args.work.now.slots) c.put_all.new.divisions).
    record {
      divisions =
          come_whole c.args.work.now.slots c.args.place c.in_ok-come.come.items c.put_all.new.divisions c.in_ok-come.ensures
          (subst (λ (come : List Division). HasJust (λ division. not (is_with c.args.place division) || is_among come division) (saving_at c.args.work.now.slots) c.put_all.new.divisions) c.as_slice.ensures.value
          (told (λ division. not (is_with c.args.place division)) c.requires.divisions));
      lists = listed_whole c.args.work.now.slots c.list_divisor.new.self c.args.place (c.in_ok-list_divisor.ensures (λ at. not (c.args.place == at)) c.requires.lists);
    })
    c.put_all.ensures
