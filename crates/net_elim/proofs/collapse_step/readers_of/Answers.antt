use Rattle.std.proofs.Common.{List, ℕ, sym, ap, ◌∙◌, subst}
use Rattle.std.specs.List.Sorted.{IsNonDecreasing}
use Rattle.std.proofs.lemmas.Map.Keys.{non_decreasing_from_sorted, sorted_from_strictly_increasing}
use Rattle.std.proofs.lemmas.Option.{same_Some}
use Rattle.circuit_model.specs.Names.{has}
use Rattle.circuit_model.specs.declared.circuit.Table.{Table}
use Rattle.net_readers.specs.Fanouts.{is_in}
use Rattle.net_core.specs.Places.{written_of}
use Rattle.net_core.specs.Tables.{named}
use Rattle.net_work.specs.Slots.{inputs_at}
use Rattle.net_elim.proofs.collapse_step.readers_of.Goals as goal

pub returns-clause-exact : goal.returns-clause-exact
unfolding named
returns-clause-exact g c = λ inner there at.
    ap (λ (places : List ℕ). is_in places at) c.into_vec.ensures
    ∙ (c.in_ok-readers-in-Some.ensures.exact at
    ∙ ap (λ (table : Table). has (inputs_at c.args.work.now.slots at) table.output)
    (same_Some (written_of c.in-Some.inner.now) inner (c.in-Some.ensures.table ∙ there)))

pub returns-clause-rising : goal.returns-clause-rising
returns-clause-rising g c =
    subst IsNonDecreasing (sym c.into_vec.ensures)
    (non_decreasing_from_sorted c.in_ok-readers-in-Some.readers
    (sorted_from_strictly_increasing c.in_ok-readers-in-Some.readers
    c.in_ok-readers-in-Some.ensures.rising))
