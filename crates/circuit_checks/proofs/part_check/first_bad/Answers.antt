use Rattle.std.proofs.Common.{◌∙◌, sym, ap}
use Rattle.std.specs.Option.{option_copied}
use Rattle.circuit_checks.proofs.Parts.{walk_begins, walk_stops, walk_goes_on, walk_ends}
use Rattle.circuit_checks.proofs.part_check.first_bad.Goals as goal

pub loop-place-init : goal.loop-place-init
loop-place-init c = walk_begins c.args.leaves.now c.args.part.now c.new-before.result c.args.cyclic c.new-before.ensures c.requires

pub returns-in-Some : goal.returns-in-Some
returns-in-Some c =
    walk_stops c.args.leaves.now c.args.part.now c.loop-place.place c.index-part-place.result c.in_ok-known.known c.loop-place.before c.args.cyclic c.is_at.result
    c.in-Some.name.now c.loop-place-test.true c.index-part-place.is c.in_ok-known.ensures c.loop-place.invariant c.is_at.ensures
    (ap option_copied (sym c.in-Some.is) ∙ c.in_ok-found.ensures.name)

pub loop-place-preserved : goal.loop-place-preserved
loop-place-preserved c =
    walk_goes_on c.args.leaves.now c.args.part.now c.loop-place.place c.index-part-place.result c.in_ok-known.known c.loop-place.before c.bad_name.new.before c.args.cyclic
    c.is_at.result c.loop-place-test.true c.index-part-place.is c.in_ok-known.ensures c.loop-place.invariant c.is_at.ensures
    (ap option_copied (sym c.in_default.is) ∙ c.in_ok-found.ensures.name) c.in_ok-found.ensures.before

pub returns : goal.returns
returns c =
    walk_ends c.args.leaves.now c.args.part.now c.loop-place.place c.loop-place.before c.args.cyclic c.loop-place.invariant c.loop-place-test.false
