use Rattle.std.proofs.Common.{◌≡◌, ℕ, true, Some, None, take}
use Rattle.std.specs.List.{AllByRecursion}
use Rattle.circuit_model.specs.declared.circuit.Table.{Table}
use Rattle.net_readers.specs.Fanouts.{is_in}
use Rattle.net_core.specs.Places.{written_of}
use Rattle.net_work.specs.Placed.{table_at}
use Rattle.alg_tables.specs.Taking.{take_refusal}
use Rattle.net_elim.specs.Putting.{IsMade, IsFit, places_made}
use Rattle.net_elim.proofs.putting.all_made.Given as goal
use Rattle.sis_base.specs.declared.limits.TheConstants.{MAX_ROWS}

abbrev pub invariant-loop-place : goal.invariant-loop-place
invariant-loop-place g l = record {
  places : places_made l.made.items ≡ take l.place-index l.readers;
  made : AllByRecursion (IsMade (written_of l.inner) l.work.slots) l.made.items;
  fit : AllByRecursion IsFit l.made.items;
  within : (place : ℕ) (outer : Table) → is_in (take l.place-index l.readers) place ≡ true → table_at l.work.slots place ≡ Some outer → take_refusal MAX_ROWS l.rows (written_of l.inner) outer ≡ None;
}
