use Rattle.std.proofs.Common.{◌≡◌, ℕ, false, List, Some, [], ◌∷◌, ◌++◌, length, bytes_eq, if◌then◌else◌, sym, ap, ◌∙◌}
use Rattle.indexmap.specs.IndexMap.{get}
use Rattle.circuit_model.specs.Names.{has}
use Rattle.circuit_model.specs.Soundness.{outputs_of}
use Rattle.circuit_model.specs.declared.circuit.Table.{Table}
use Rattle.net_core.specs.Tables.{named}
use Rattle.net_core.specs.Places.{present}
use Rattle.net_core.proofs.Indexing.{indexed_push, over_push, present_push}
use Rattle.net_core.proofs.places.NamedTables.push.Goals as goal

pub invariant_of-self-2 : goal.invariant_of-self-2
invariant_of-self-2 g c =
    let absent : has (outputs_of (present c.self.inside.slots.items)) c.in_ok-output.output ≡ false =
    ap (has (outputs_of (present c.self.inside.slots.items))) c.in_ok-output.ensures
    ∙ (ap (λ (ts : List Table). has (outputs_of ts) c.args.name.now) c.self.view_is ∙ c.requires.new) in
    rw c.in_ok-put_last.ensures.slots_ok (
      indexed_push c.self.inside.slots.items (get bytes_eq c.self.inside.places) (get bytes_eq c.put_last.new.places) (record { output = c.in_ok-output.output; table = c.args.table }) c.self.invariant.0 absent
          (λ q. c.in_ok-put_last.ensures.places_ok q
          ∙ ap (λ (n : List ℕ). if bytes_eq n q then Some (length c.self.inside.slots.items) else get bytes_eq c.self.inside.places q) (c.in_ok-key.ensures ∙ sym c.in_ok-output.ensures)),
      over_push c.self.inside.slots.items (record { output = c.in_ok-output.output; table = c.args.table }) c.self.invariant.1 c.requires.over,
    )

pub returns-clause-ok : goal.returns-clause-ok
returns-clause-ok g c =
    ap present c.in_ok-put_last.ensures.slots_ok
    ∙ (present_push c.self.inside.slots.items (record { output = c.in_ok-output.output; table = c.args.table })
    ∙ (ap (λ (n : List ℕ). present c.self.inside.slots.items ++ named n c.args.table ∷ []) c.in_ok-output.ensures
    ∙ ap (λ (ts : List Table). ts ++ named c.args.name.now c.args.table ∷ []) c.self.view_is))
