use Rattle.std.proofs.Common.{ℕ, List, sym, ap, ◌∙◌}
use Rattle.circuit_model.specs.Names.{has}
use Rattle.net_core.specs.Tables.{named}
use Rattle.net_core.specs.Places.{written_of}
use Rattle.net_resub.proofs.reaching.reads_all.Goals as goal

pub returns-in-Some-entry : goal.returns-in-Some-entry
unfolding named
returns-in-Some-entry g c = λ yes. record {
  table = written_of c.in-Some.entry.now;
  other = written_of c.in-Some-entry.by.now;
  here = sym c.in-Some.ensures.table;
  there = sym c.in-Some-entry.ensures.table;
  all = λ name among.
      ap (λ (ns : List (List ℕ)). has ns name) (sym c.as_slice-in-Some-entry.ensures)
      ∙ c.are_all_among.ensures yes name (ap (λ (ns : List (List ℕ)). has ns name) c.as_slice.ensures ∙ among);
}
