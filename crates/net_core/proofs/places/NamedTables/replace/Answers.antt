use Rattle.std.proofs.Common.{ℕ, List, ap, ◌∙◌, bytes_eq, refl}
use Rattle.indexmap.specs.IndexMap.{get}
use Rattle.circuit_model.specs.Names.{has}
use Rattle.circuit_model.specs.Soundness.{outputs_of}
use Rattle.circuit_model.specs.declared.circuit.Table.{Table}
use Rattle.circuit_laws.specs.Edits.{replaced}
use Rattle.net_core.specs.Tables.{named}
use Rattle.net_core.specs.Places.{present}
use Rattle.net_core.proofs.Indexing.{known_name, indexed_write, over_write, present_replaced, alone}
use Rattle.net_core.proofs.places.NamedTables.replace.Goals as goal

pub known_place-place-requires : goal.known_place-place-requires
known_place-place-requires g c =
    known_name c.self.inside.slots.items _ c.self.invariant.0 c.args.name.now ∙ (ap (λ (ts : List Table). has (outputs_of ts) c.args.name.now) c.self.view_is ∙ c.requires.known)

pub invariant_of-self : goal.invariant_of-self
invariant_of-self g c =
    let (t, a, b) = c.self.invariant.0.only c.args.name.now c.known_place-place.result c.known_place-place.ensures in
    rw (c.set_table.ensures t a) (
      indexed_write c.self.inside.slots.items _ c.known_place-place.result t (record { output = t.output; table = c.args.table }) c.self.invariant.0 a refl,
      over_write c.self.inside.slots.items c.known_place-place.result t (record { output = t.output; table = c.args.table }) c.self.invariant.1 a c.requires.over,
    )

pub returns : goal.returns
returns g c =
    let (t, a, b) = c.self.invariant.0.only c.args.name.now c.known_place-place.result c.known_place-place.ensures in
    let one = alone c.self.inside.slots.items (get bytes_eq c.self.inside.places) c.self.invariant.0 t.output c.known_place-place.result (ap (get bytes_eq c.self.inside.places) b ∙ c.known_place-place.ensures) in
    ap present (c.set_table.ensures t a)
    ∙ (present_replaced c.self.inside.slots.items c.known_place-place.result t (record { output = t.output; table = c.args.table }) a refl one
    ∙ (ap (λ (n : List ℕ). replaced (present c.self.inside.slots.items) (named n c.args.table)) b
    ∙ ap (λ (ts : List Table). replaced ts (named c.args.name.now c.args.table)) c.self.view_is))
