use Rattle.std.proofs.Common.{ℕ, List, not, length, refl, sym, subst}
use Rattle.std.proofs.lemmas.Result.{on_ok_weaker}
use Rattle.circuit_laws.proofs.Drivers.{driver_none}
use Rattle.sdc_simplify.specs.Local.{differs}
use Rattle.net_core.specs.Places.{written_of}
use Rattle.net_work.specs.Placed.{standing, circuit_of}
use Rattle.sdc_simplify.specs.Turns.{IsTiedMore}
use Rattle.sdc_simplify.proofs.Kept.{tied_driven, tied_undriven}
use Rattle.sdc_simplify.proofs.Stands.{drives_found}
use Rattle.sdc_simplify.proofs.ties.push_tie_at.Goals as goal

pub returns-in-None : goal.returns-in-None
returns-in-None g c =
    tied_undriven (circuit_of c.args.work.now) c.args.entry.now c.args.input.now c.args.ties.now.items c.args.ties.now.items
    (driver_none (standing c.args.work.now.slots) c.args.input.now (sym c.in-None.ensures.known)) refl

pub returns-in-Some-entry : goal.returns-in-Some-entry
returns-in-Some-entry g c =
    on_ok_weaker c.push_tie.result
    (λ more.
    tied_driven (circuit_of c.args.work.now) c.args.entry.now c.in-Some-entry.inner.now c.args.input.now c.args.ties.now.items c.push_tie.new.ties.items
    (drives_found c.args.work.now c.in-Some.at (written_of c.in-Some-entry.inner.now) c.args.input.now c.requires.sound c.in-Some-entry.ensures.table c.in-Some.ensures.some)
    (subst (λ (name : List ℕ). IsTiedMore (length c.args.entry.now.table.inputs) c.args.ties.now.items c.push_tie.new.ties.items (λ point. not (differs (written_of c.args.entry.now) point name (written_of c.in-Some-entry.inner.now))))
    (sym c.requires.input) more))
    c.push_tie.ensures
