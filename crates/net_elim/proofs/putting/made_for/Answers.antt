use Rattle.std.proofs.Common.{◌≡◌, ℕ, true, false, Some, List, is_some, sym, ap, ◌∙◌, ◌⊎◌}
use Rattle.std.specs.List.{AllByRecursion}
use Rattle.std.proofs.lemmas.Result.{IfErr-weaker, on_ok_weaker}
use Rattle.circuit_model.specs.declared.circuit.Table.{Table}
use Rattle.net_elim.specs.Eliminating.{all_take}
use Rattle.net_readers.specs.Fanouts.{is_in}
use Rattle.net_core.specs.Places.{written_of}
use Rattle.net_core.specs.Tables.{named}
use Rattle.net_work.specs.Placed.{circuit_of, table_at}
use Rattle.alg_tables.specs.Taking.{take_refusal}
use Rattle.net_elim.specs.Putting.{IsMade, AreMade, places_made}
use Rattle.net_elim.specs.declared.putting.PutFault.TheVariants.{Refused, Memory}
use Rattle.net_elim.proofs.Places.{ok_both}
use Rattle.net_elim.proofs.Fanouts.{own_apart, made_all, entry_takes, entry_refused}
use Rattle.net_elim.proofs.putting.made_for.Goals as goal
use Rattle.sis_base.specs.declared.limits.TheConstants.{MAX_ROWS}

pub all_made-requires-clause-apart : goal.all_made-requires-clause-apart
unfolding named
all_made-requires-clause-apart g c = own_apart c.args.work.now c.args.place
    (written_of c.in-Some.inner.now) c.requires.sound (sym c.in-Some.ensures.table)

pub returns-clause-made : goal.returns-clause-made
returns-clause-made g c =
    ok_both c.all_made.result (λ made. places_made made.items ≡ c.as_slice.result.now)
    (λ made. AllByRecursion (IsMade (written_of c.in-Some.inner.now) c.args.work.now.slots)
    made.items)
    (λ made. (inner : Table) → table_at c.args.work.now.slots c.args.place ≡ Some inner
    → AreMade inner c.args.work.now.slots made.items)
    (λ made places all.
    made_all c.args.work.now c.args.place c.in-Some.inner.now c.as_slice.result.now made.items
    c.in-Some.ensures.table
    (λ at. ap (λ (ps : List ℕ). is_in ps at) c.as_slice.ensures
    ∙ c.in_ok-readers-in-Some.ensures.exact at) places all)
    c.all_made.ensures.places c.all_made.ensures.made

pub returns-clause-within : goal.returns-clause-within
returns-clause-within g c =
    on_ok_weaker c.all_made.result
    (λ fits.
    entry_takes c.args.rows c.args.work.now c.args.place c.in-Some.inner.now c.as_slice.result.now
    c.in-Some.ensures.table
    (λ at. ap (λ (ps : List ℕ). is_in ps at) c.as_slice.ensures
    ∙ c.in_ok-readers-in-Some.ensures.exact at) fits)
    c.all_made.ensures.within

pub returns-clause-fault : goal.returns-clause-fault
returns-clause-fault g c =
    IfErr-weaker c.all_made.result
    (λ fault. (fault ≡ Memory) ⊎ ((fault ≡ Refused)
    × ((place : ℕ) × ((outer : Table) → table_at c.args.work.now.slots place ≡ Some outer
    → is_some (take_refusal MAX_ROWS c.args.rows (written_of c.in-Some.inner.now) outer) ≡ true)
    × (is_some (table_at c.args.work.now.slots place) ≡ true))))
    (λ fault. (fault ≡ Memory) ⊎ ((fault ≡ Refused)
    × ((inner : Table) → table_at c.args.work.now.slots c.args.place ≡ Some inner
    → all_take c.args.rows (circuit_of c.args.work.now) inner ≡ false)))
    (λ fault h. entry_refused c.args.rows c.args.work.now c.args.place c.in-Some.inner.now fault
    c.in-Some.ensures.table h)
    c.all_made.ensures.fault
