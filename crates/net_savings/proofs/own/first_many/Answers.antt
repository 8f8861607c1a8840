use Rattle.std.proofs.Common.{List, Option, subst, arith}
use Rattle.std.specs.List.{AllByRecursion}
use Rattle.std.proofs.lemmas.List.{take_all}
use Rattle.circuit_model.specs.declared.circuit.Table.{Table}
use Rattle.net_candidates.specs.Extracting.{IsListable}
use Rattle.net_work.specs.Placed.{standing}
use Rattle.net_savings.proofs.Unlisted.{none_listable, listable_next, first_unlisted}
use Rattle.net_savings.proofs.own.first_many.Goals as goal

pub loop-place-init : goal.loop-place-init
loop-place-init g c = none_listable c.args.rule c.args.work.now.slots

pub loop-place-preserved : goal.loop-place-preserved
loop-place-preserved g c =
    listable_next c.args.rule c.args.work.now.slots c.loop-place.place c.in-Ok._covers.items (omega (arith, c.len-place-end.ensures, c.loop-place-test.true)) c.loop-place.invariant c.in-Ok.ensures.own

pub returns-in-Err : goal.returns-in-Err
returns-in-Err g c = first_unlisted c.args.rule c.args.work.now c.loop-place.place c.in-Err.fault c.loop-place.invariant c.in-Err.ensures.many

pub unreachable-requires : goal.unreachable-requires
unreachable-requires g c =
    c.requires (subst (λ (slots : List (Option Table)). AllByRecursion (IsListable c.args.rule) (standing slots))
    (take_all c.loop-place.place c.args.work.now.slots (omega (arith, c.len-place-end.ensures, c.loop-place-test.false))) c.loop-place.invariant)
