use Rattle.std.proofs.Common.{ℕ, List, ◌++◌, map, bytes_eq, ap, ◌∙◌, subst}
use Rattle.indexmap.specs.IndexMap.{get}
use Rattle.circuit_model.specs.declared.circuit.Latch.{Latch}
use Rattle.net_func.specs.declared.seen.Change.{Change}
use Rattle.net_func.specs.Numbering.{number_in, no_numbers}
use Rattle.net_func.specs.Changes.{free_in, AreChanges}
use Rattle.net_func.proofs.seen.changes_of.Goals as goal

pub latch_changes-requires-clause-low : goal.latch_changes-requires-clause-low
latch_changes-requires-clause-low c = rw c.as_slice.ensures c.requires.low_taken

pub latch_changes-requires-clause-high : goal.latch_changes-requires-clause-high
latch_changes-requires-clause-high c = rw c.as_slice.ensures c.requires.high_taken

pub output_changes-requires-clause-low : goal.output_changes-requires-clause-low
output_changes-requires-clause-low c = rw c.as_slice-2.ensures c.requires.low_shown

pub output_changes-requires-clause-high : goal.output_changes-requires-clause-high
output_changes-requires-clause-high c = rw c.as_slice-2.ensures c.requires.high_shown

pub returns : goal.returns
returns c = record {
  front = c.in_ok-changes.changes.items;
  back = c.in_ok-more.more.items;
  whole = c.in_ok-extend_from_slice.ensures.items
      ∙ ap (λ (more : List Change). c.in_ok-changes.changes.items ++ more)
      c.as_slice-3.ensures.value;
  latches = subst (λ (latches : List Latch). AreChanges (number_in c.args.low.now)
      (number_in c.args.high.now) no_numbers (map (λ (latch : Latch). latch.input) latches)
      c.in_ok-changes.changes.items) c.as_slice.ensures c.in_ok-changes.ensures;
  outputs = subst (λ (outputs : List (List ℕ)). AreChanges (number_in c.args.low.now)
      (number_in c.args.high.now) (free_in (number_in c.args.free.now) (get bytes_eq
      c.args.places.now))
      outputs c.in_ok-more.more.items) c.as_slice-2.ensures c.in_ok-more.ensures;
}
