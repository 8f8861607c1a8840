use Rattle.std.proofs.Common.{ℕ, None, List, is_some, bytes_eq, if◌then◌else◌, ap, ◌∙◌, sym}
use Rattle.indexmap.specs.IndexMap.{get}
use Rattle.circuit_model.specs.Names.{has}
use Rattle.circuit_model.specs.Soundness.{outputs_of}
use Rattle.circuit_model.specs.declared.circuit.Table.{Table}
use Rattle.circuit_laws.specs.Edits.{without}
use Rattle.net_core.specs.Places.{present}
use Rattle.net_core.proofs.Indexing.{known_name, indexed_removal, over_removal, present_without, without_absent, absent_from_index, alone}
use Rattle.net_core.proofs.places.NamedTables.remove.Goals as goal

pub invariant_of-self : goal.invariant_of-self
invariant_of-self g c =
    let (t, a, b) = c.self.invariant.0.only c.args.name.now c.in-Some.place (sym c.in-Some.ensures) in (
      indexed_removal c.self.inside.slots.items (get bytes_eq c.self.inside.places) (get bytes_eq c.unplace.new.places) c.in-Some.place t c.self.invariant.0 a
          (λ q. c.unplace.ensures q ∙ ap (λ (n : List ℕ). if bytes_eq n q then None else get bytes_eq c.self.inside.places q) (sym b)),
      over_removal c.self.inside.slots.items c.in-Some.place t c.self.invariant.1 a,
    )

pub returns-in-None-clause-tables : goal.returns-in-None-clause-tables
returns-in-None-clause-tables g c =
    sym c.self.view_is
    ∙ (sym (without_absent c.self.inside.slots.items c.args.name.now (absent_from_index c.self.inside.slots.items (get bytes_eq c.self.inside.places) c.self.invariant.0 c.args.name.now (sym c.in-None.ensures)))
    ∙ ap (λ (ts : List Table). without ts c.args.name.now) c.self.view_is)

pub returns-in-None-clause-found : goal.returns-in-None-clause-found
returns-in-None-clause-found g c =
    ap is_some c.in-None.ensures ∙ (known_name c.self.inside.slots.items _ c.self.invariant.0 c.args.name.now ∙ ap (λ (ts : List Table). has (outputs_of ts) c.args.name.now) c.self.view_is)

pub returns-in-Some-clause-tables : goal.returns-in-Some-clause-tables
returns-in-Some-clause-tables g c =
    let (t, a, b) = c.self.invariant.0.only c.args.name.now c.in-Some.place (sym c.in-Some.ensures) in
    let one = alone c.self.inside.slots.items (get bytes_eq c.self.inside.places) c.self.invariant.0 t.output c.in-Some.place (ap (get bytes_eq c.self.inside.places) b ∙ sym c.in-Some.ensures) in
    present_without c.self.inside.slots.items c.in-Some.place t a one
    ∙ (ap (without (present c.self.inside.slots.items)) b ∙ ap (λ (ts : List Table). without ts c.args.name.now) c.self.view_is)

pub returns-in-Some-clause-found : goal.returns-in-Some-clause-found
returns-in-Some-clause-found g c =
    ap is_some c.in-Some.ensures ∙ (known_name c.self.inside.slots.items _ c.self.invariant.0 c.args.name.now ∙ ap (λ (ts : List Table). has (outputs_of ts) c.args.name.now) c.self.view_is)
