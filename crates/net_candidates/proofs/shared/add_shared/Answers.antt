use Rattle.std.proofs.Common.{◌≡◌, ℕ, List, map, rules, subst}
use Rattle.std.specs.Map.Iter.{deref}
use Rattle.std.proofs.lemmas.Map.Iter.{iter_end}
use Rattle.net_candidates.specs.Pairs.{shared_at}
use Rattle.net_candidates.proofs.Keeping.{HasFound, found_yielded}
use Rattle.net_candidates.proofs.shared.add_shared.Goals as goal

pub loop-place-preserved : goal.loop-place-preserved
loop-place-preserved c =
    found_yielded (shared_at c.args.earlier.now c.args.cube.now) c.loop-place.yielded c.in-Some.place c.in_ok-found.found c.args.made.now.keys c.loop-place.made.keys c.add_found.new.made.keys
    c.in_ok-found.ensures c.loop-place.invariant c.in_ok-add_found.ensures

pub returns : goal.returns
returns c =
    let all : map deref c.loop-place.yielded ≡ c.args.partners.now.keys = search (rules, iter_end) in
    subst (λ (places : List ℕ). HasFound (shared_at c.args.earlier.now c.args.cube.now) places c.args.made.now.keys c.loop-place.made.keys) all c.loop-place.invariant
