use Rattle.std.proofs.Common.{◌≡◌, ◌<◌, ℕ, false, None, IfSome}
use Rattle.std.specs.Prelude.{slice_index_or, is_some}
use Rattle.std.specs.List.{list_any}
use Rattle.net_core.specs.Places.{written_of}
use Rattle.net_resub.specs.Resubbed.{row_cubes}
use Rattle.net_resub.specs.Listed.{IsNeeded}
use Rattle.net_resub.proofs.listed.rarest_name.Given as goal

abbrev pub invariant-loop-place : goal.invariant-loop-place
invariant-loop-place g l = record {
  some : IfSome l.rarest (λ name. IsNeeded (row_cubes (written_of l.entry)) name.now);
  none : l.rarest ≡ None → (at : ℕ) → at < l.place → list_any (λ row. is_some (slice_index_or (g.R.Row.literals row) at None)) l.rows ≡ false;
}
