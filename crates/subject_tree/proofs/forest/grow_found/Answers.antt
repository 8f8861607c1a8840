use Rattle.std.proofs.Common.{option_copied, bytes_eq, sym, ap, ◌∙◌}
use Rattle.indexmap.specs.IndexMap.{get}
use Rattle.subject_tree.proofs.Listing.{grown-past, grown-name}
use Rattle.subject_tree.proofs.forest.grow_found.Goals as goal

pub returns-in-None-clause-grown : goal.returns-in-None-clause-grown
returns-in-None-clause-grown c circuit tree listed name trees e ready grown =
    grown-past circuit c.args.arena.now c.args.leaves.now (get bytes_eq c.args.numbers.now) tree listed name (sym e ∙ ap option_copied c.in-None.is) grown

pub returns-in_ok-grow_put-in-Some-clause-grown : goal.returns-in_ok-grow_put-in-Some-clause-grown
returns-in_ok-grow_put-in-Some-clause-grown c circuit tree listed name trees e ready grown =
    grown-name circuit c.args.arena.now c.grow_put.new.arena c.args.leaves.now c.grow_put.new.leaves (get bytes_eq c.args.numbers.now) (get bytes_eq c.grow_put.new.numbers) tree listed name c.in-Some.table.now
    (sym e ∙ ap option_copied c.in-Some.is) ready trees grown (c.in_ok-grow_put-in-Some.ensures.grown circuit tree listed)
