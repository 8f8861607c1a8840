use Rattle.std.proofs.Common.{◌≡◌, ℕ, pos, ◌*◌, ◌-ℤ◌, Some, bytes_eq, sym, ap, ap₂, ◌∙◌, subst}
use Rattle.std.proofs.lemmas.Option.{same_Some}
use Rattle.std.proofs.lemmas.Result.{IfOk-weaker}
use Rattle.indexmap.specs.IndexMap.{get}
use Rattle.circuit_model.specs.Counts.{literals_of_table}
use Rattle.circuit_model.specs.declared.circuit.Table.{Table}
use Rattle.net_core.specs.Places.{written_of}
use Rattle.net_core.specs.Reads.{value_of}
use Rattle.net_core.specs.Tables.{named}
use Rattle.net_work.specs.Uses.{told_uses}
use Rattle.net_work.specs.Placed.{Placed, standing, table_at}
use Rattle.net_work.proofs.Kept.{value_there}
use Rattle.net_work.proofs.work.WorkingNetwork.value.Goals as goal

pub returns-in-Some : goal.returns-in-Some
unfolding named
returns-in-Some g c =
    IfOk-weaker c.worth.result (λ value. value ≡ pos (c.uses.result * c.literal_count.result) -ℤ pos c.uses.result -ℤ pos c.literal_count.result)
    (λ value. (table : Table) → table_at c.args.self.now.slots c.args.place ≡ Some table → value ≡ value_of (standing c.args.self.now.slots) table.output)
    (λ value is table at.
    let same : written_of c.in-Some.entry.now ≡ table = same_Some (written_of c.in-Some.entry.now) table (c.in-Some.ensures.table ∙ at) in
    is
    ∙ (ap₂ (λ (u l : ℕ). pos (u * l) -ℤ pos u -ℤ pos l) (c.uses.ensures ∙ ap (λ (t : Table). told_uses c.self.inside.links.uses t.output) same)
    (c.literal_count.ensures c.in-Some.entry.now.output ∙ ap literals_of_table same)
    ∙ sym (subst
    (λ (p : Placed). (t : Table) → table_at p.slots c.args.place ≡ Some t
    → value_of (standing p.slots) t.output ≡ pos (told_uses c.self.inside.links.uses t.output * literals_of_table t) -ℤ pos (told_uses c.self.inside.links.uses t.output) -ℤ pos (literals_of_table t)) c.self.view_is
    (value_there c.self.inside.frame c.self.inside.slots.items (get bytes_eq c.self.inside.places) c.self.inside.links c.self.inside.number c.self.invariant c.args.place) table at)))
    c.worth.ensures
