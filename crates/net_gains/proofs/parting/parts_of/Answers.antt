use Rattle.std.proofs.Common.{map, ◌∙◌}
use Rattle.net_gains.proofs.InSets.{cubes_of, among_as, apart_as}
use Rattle.net_gains.proofs.parting.parts_of.Goals as goal

pub returns-clause-kept : goal.returns-clause-kept
returns-clause-kept c =
    c.in_ok-kept.ensures ∙ among_as (cubes_of c.in_ok-new_set.new_set.keys) (map (λ cube. cube.items) c.args.new.now) (map (λ cube. cube.items) c.args.old.now) c.in_ok-new_set.ensures

pub returns-clause-gone : goal.returns-clause-gone
returns-clause-gone c =
    c.in_ok-gone.ensures ∙ apart_as (cubes_of c.in_ok-new_set.new_set.keys) (map (λ cube. cube.items) c.args.new.now) (map (λ cube. cube.items) c.args.old.now) c.in_ok-new_set.ensures

pub returns-clause-come : goal.returns-clause-come
returns-clause-come c =
    c.in_ok-come.ensures ∙ apart_as (cubes_of c.in_ok-old_set.old_set.keys) (map (λ cube. cube.items) c.args.old.now) (map (λ cube. cube.items) c.args.new.now) c.in_ok-old_set.ensures
