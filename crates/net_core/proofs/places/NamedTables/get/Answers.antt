use Rattle.std.proofs.Common.{◌≡◌, ℕ, List, Some, ap, ◌∙◌, sym, bytes_eq}
use Rattle.std.specs.List.{slice_get}
use Rattle.std.proofs.lemmas.Option.{same_Some}
use Rattle.indexmap.specs.IndexMap.{get}
use Rattle.circuit_model.specs.Values.{driver}
use Rattle.circuit_model.specs.declared.circuit.Table.{Table}
use Rattle.net_core.specs.Tables.{named}
use Rattle.net_core.specs.Places.{present}
use Rattle.net_core.proofs.Indexing.{driver_at, driver_absent, absent_from_index, alone, over_at}
use Rattle.net_core.proofs.places.NamedTables.get.Goals as goal

pub entry_at-requires : goal.entry_at-requires
entry_at-requires g c =
    let (t, a, b) = c.self.invariant.0.only c.args.name.now c.in-Some.place (sym c.in-Some.ensures) in
    (t, rw c.as_slice.ensures.value a)

pub returns-in-None-clause-driver : goal.returns-in-None-clause-driver
returns-in-None-clause-driver g c =
    ap (λ (ts : List Table). driver ts c.args.name.now) (sym c.self.view_is)
    ∙ driver_absent c.self.inside.slots.items c.args.name.now (absent_from_index c.self.inside.slots.items (get bytes_eq c.self.inside.places) c.self.invariant.0 c.args.name.now (sym c.in-None.ensures))

pub returns-in-Some-clause-driver : goal.returns-in-Some-clause-driver
returns-in-Some-clause-driver g c =
    let (t, a, b) = c.self.invariant.0.only c.args.name.now c.in-Some.place (sym c.in-Some.ensures) in
    let at : slice_get c.self.inside.slots.items c.in-Some.place ≡ Some (Some c.entry_at.result.now) = rw (← c.as_slice.ensures.value) c.entry_at.ensures in
    let name : c.entry_at.result.now.output ≡ c.args.name.now = ap (λ e. e.output) (same_Some c.entry_at.result.now t (same_Some (Some c.entry_at.result.now) (Some t) (sym at ∙ a))) ∙ b in
    let one = alone c.self.inside.slots.items (get bytes_eq c.self.inside.places) c.self.invariant.0 c.entry_at.result.now.output c.in-Some.place (ap (get bytes_eq c.self.inside.places) name ∙ sym c.in-Some.ensures) in
    ap (λ (ts : List Table). driver ts c.args.name.now) (sym c.self.view_is)
    ∙ (ap (driver (present c.self.inside.slots.items)) (sym name)
    ∙ (driver_at c.self.inside.slots.items c.in-Some.place c.entry_at.result.now at one ∙ ap (λ (n : List ℕ). Some (named n c.entry_at.result.now.table)) name))

pub returns-in-Some-clause-over : goal.returns-in-Some-clause-over
returns-in-Some-clause-over g c = over_at c.self.inside.slots.items c.in-Some.place c.entry_at.result.now c.self.invariant.1 (rw (← c.as_slice.ensures.value) c.entry_at.ensures)
