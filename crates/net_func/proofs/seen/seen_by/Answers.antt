use Rattle.std.proofs.Common.{List, Err, bytes_eq, ap, sym, subst, ◌≡◌, true, false}
use Rattle.indexmap.specs.IndexMap.{get}
use Rattle.func_core.specs.declared.functions.FuncFault.TheVariants.{TooBig}
use Rattle.net_func.specs.declared.seen.Change.{Change}
use Rattle.net_func.specs.Numbering.{number_in}
use Rattle.net_func.specs.Signals.{forced_function, free_function}
use Rattle.net_func.specs.Changes.{ChangesStand, HasBigChange}
use Rattle.net_func.proofs.Adding.{blames_weaker}
use Rattle.net_func.proofs.Turning.{taken_known, outputs_known, right_stands, all_stand, seen_means, seen_big}
use Rattle.net_func.proofs.seen.seen_by.Goals as goal

pub changes_of-requires-clause-low_taken : goal.changes_of-requires-clause-low_taken
changes_of-requires-clause-low_taken g c =
    taken_known c.args.circuit.now (number_in c.args.low.now) c.requires.sound c.requires.low.known

pub changes_of-requires-clause-high_taken : goal.changes_of-requires-clause-high_taken
changes_of-requires-clause-high_taken g c =
    taken_known c.args.circuit.now (number_in c.args.high.now) c.requires.sound
    c.requires.high.known

pub changes_of-requires-clause-low_shown : goal.changes_of-requires-clause-low_shown
changes_of-requires-clause-low_shown g c =
    outputs_known c.args.circuit.now (number_in c.args.low.now) c.requires.sound
    c.requires.low.known

pub changes_of-requires-clause-high_shown : goal.changes_of-requires-clause-high_shown
changes_of-requires-clause-high_shown g c =
    outputs_known c.args.circuit.now (number_in c.args.high.now) c.requires.sound
    c.requires.high.known

pub any_change-requires : goal.any_change-requires
any_change-requires g c = record {
  stand = subst (ChangesStand g.F.Functions.holds c.args.functions.now) (sym
      c.as_slice.ensures.value)
      (all_stand g.F.Functions.holds g.F.Functions.tree g.F.Functions.limit
      c.args.functions.now (number_in c.args.low.now) (number_in c.args.high.now)
      (number_in c.args.free.now)
      (get bytes_eq c.args.places.now) _ _ c.in_ok-changes.changes.items
      (right_stands g.F.Functions.holds g.F.Functions.tree g.F.Functions.limit
      c.args.functions.now (number_in c.args.low.now)
      (forced_function c.args.circuit.now c.args.name.now false) c.requires.low.right)
      (right_stands g.F.Functions.holds g.F.Functions.tree g.F.Functions.limit
      c.args.functions.now (number_in c.args.high.now)
      (forced_function c.args.circuit.now c.args.name.now true) c.requires.high.right)
      (right_stands g.F.Functions.holds g.F.Functions.tree g.F.Functions.limit
      c.args.functions.now (number_in c.args.free.now)
      (free_function c.args.circuit.now) c.requires.free.right)
      c.in_ok-changes.ensures);
}

pub returns-in-Ok-clause-ok : goal.returns-in-Ok-clause-ok
returns-in-Ok-clause-ok g c =
    seen_means g.F.Functions.holds g.F.Functions.tree g.F.Functions.limit
    c.args.functions.now c.any_change.new.functions c.args.circuit.now
    c.args.name.now (number_in c.args.low.now) (number_in c.args.high.now) (number_in
    c.args.free.now)
    (get bytes_eq c.args.places.now) c.in_ok-changes.changes.items c.as_slice.result.now
    c.in-Ok.seen
    (record {
      sound = c.requires.sound;
      low_right = c.requires.low.right;
      high_right = c.requires.high.right;
    }) c.requires.free
    c.requires.places c.in_ok-changes.ensures
    c.as_slice.ensures.value c.in-Ok.ensures.ok

pub returns-clause-big : goal.returns-clause-big
returns-clause-big g c =
    blames_weaker (λ blamed. (blamed ≡ c.args.name.now) × (c.in-Err.fault ≡ TooBig)) _
    c.fault_at.result
    (λ blamed cause.
    seen_big g.F.Functions.holds g.F.Functions.tree g.F.Functions.limit
    c.args.functions.now c.args.circuit.now c.args.name.now (number_in c.args.low.now)
    (number_in c.args.high.now)
    (number_in c.args.free.now) (get bytes_eq c.args.places.now)
    c.in_ok-changes.changes.items
    (g.F.Functions.limit c.args.functions.now)
    (record {
      sound = c.requires.sound;
      low_right = c.requires.low.right;
      high_right = c.requires.high.right;
    }) c.requires.free
    c.requires.places c.in_ok-changes.ensures
    (subst (λ (changes : List Change). HasBigChange g.F.Functions.tree c.args.functions.now
    (g.F.Functions.limit c.args.functions.now) changes) c.as_slice.ensures.value
    (c.in-Err.ensures.big (ap Err cause.1))))
    c.fault_at.ensures
