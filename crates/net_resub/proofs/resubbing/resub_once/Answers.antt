use Rattle.std.proofs.Common.{Option, is_some, refl, ap, subst}
use Rattle.circuit_model.specs.declared.circuit.Table.{Table}
use Rattle.net_core.specs.Tables.{named}
use Rattle.net_core.proofs.Removals.{tables_differ}
use Rattle.net_work.specs.Placed.{circuit_of}
use Rattle.net_resub.proofs.RuleKeeping.{step_extended}
use Rattle.net_resub.specs.Best.{worth_at, IsFirst, IsBest}
use Rattle.net_resub.proofs.Keeping.{kept_set}
use Rattle.net_resub.proofs.Saving.{saving_places}
use Rattle.net_resub.proofs.Steps.{best_saves, step_made, set_bounds}
use Rattle.net_resub.proofs.Worths.{none_done}
use Rattle.net_resub.proofs.resubbing.resub_once.Goals as goal

pub divided_at-requires : goal.divided_at-requires
divided_at-requires g c =
    let first : IsFirst (worth_at c.args.work.now.slots) c.in-Some.best = subst (IsBest (worth_at c.args.work.now.slots)) c.in-Some.is c.in_ok-best_division.ensures in
    best_saves c.args.work.now.slots c.in-Some.best first

pub set-requires-clause-there : goal.set-requires-clause-there
set-requires-clause-there g c =
    let first : IsFirst (worth_at c.args.work.now.slots) c.in-Some.best = subst (IsBest (worth_at c.args.work.now.slots)) c.in-Some.is c.in_ok-best_division.ensures in
    let at = saving_places c.args.work.now.slots c.in-Some.best.place c.in-Some.best.by (best_saves c.args.work.now.slots c.in-Some.best first) in
    ap (λ (slot : Option Table). is_some slot) at.here

pub come-requires : goal.come-requires
come-requires g c =
    let first : IsFirst (worth_at c.args.work.now.slots) c.in-Some.best = subst (IsBest (worth_at c.args.work.now.slots)) c.in-Some.is c.in_ok-best_division.ensures in
    let at = saving_places c.args.work.now.slots c.in-Some.best.place c.in-Some.best.by (best_saves c.args.work.now.slots c.in-Some.best first) in
    kept_set c.args.work.now c.set.new.self c.in-Some.best.place (named at.table.output c.in_ok-table-in-Some.table) c.leave.new.self (c.in_ok-set-in-Some.ensures at.table at.here) c.in_ok-leave-in-Some.ensures

pub returns-in-None-clause-done : goal.returns-in-None-clause-done
returns-in-None-clause-done g c = λ made. (
  refl,
  none_done c.args.work.now (tables_differ (circuit_of c.args.work.now) c.requires.sound) (subst (IsBest (worth_at c.args.work.now.slots)) c.in-None.is c.in_ok-best_division.ensures),
)

pub returns-in_ok-come-in-Some-clause-step : goal.returns-in_ok-come-in-Some-clause-step
returns-in_ok-come-in-Some-clause-step g c = λ made.
    let first : IsFirst (worth_at c.args.work.now.slots) c.in-Some.best = subst (IsBest (worth_at c.args.work.now.slots)) c.in-Some.is c.in_ok-best_division.ensures in
    step_made c.args.work.now c.set.new.self c.in-Some.best c.in_ok-table-in-Some.table (tables_differ (circuit_of c.args.work.now) c.requires.sound) first
    c.in_ok-set-in-Some.ensures c.in_ok-table-in-Some.ensures.is

pub returns-in_ok-come-in-Some-clause-sound : goal.returns-in_ok-come-in-Some-clause-sound
returns-in_ok-come-in-Some-clause-sound g c = λ made.
    let first : IsFirst (worth_at c.args.work.now.slots) c.in-Some.best = subst (IsBest (worth_at c.args.work.now.slots)) c.in-Some.is c.in_ok-best_division.ensures in
    let extended = step_extended (circuit_of c.args.work.now) (circuit_of c.set.new.self) c.requires.sound
    (step_made c.args.work.now c.set.new.self c.in-Some.best c.in_ok-table-in-Some.table (tables_differ (circuit_of c.args.work.now) c.requires.sound) first
    c.in_ok-set-in-Some.ensures c.in_ok-table-in-Some.ensures.is) in
    extended.change.sound

pub returns-in_ok-come-in-Some-clause-bounds : goal.returns-in_ok-come-in-Some-clause-bounds
returns-in_ok-come-in-Some-clause-bounds g c = λ made bounds.
    let first : IsFirst (worth_at c.args.work.now.slots) c.in-Some.best = subst (IsBest (worth_at c.args.work.now.slots)) c.in-Some.is c.in_ok-best_division.ensures in
    let at = saving_places c.args.work.now.slots c.in-Some.best.place c.in-Some.best.by (best_saves c.args.work.now.slots c.in-Some.best first) in
    set_bounds c.args.work.now c.set.new.self c.in-Some.best.place at.table (named at.table.output c.in_ok-table-in-Some.table) at.here (c.in_ok-set-in-Some.ensures at.table at.here)
    (c.in_ok-table-in-Some.ensures.bounded at.table.output) bounds
