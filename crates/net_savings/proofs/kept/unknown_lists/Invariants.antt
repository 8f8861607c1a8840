use Rattle.std.proofs.Common.{◌≡◌, ℕ, ◌<◌, true, Some, List, length, slice_get}
use Rattle.net_readers.specs.Fanouts.{is_in}
use Rattle.cover_names.specs.Literals.{NamedCover}
use Rattle.net_savings.proofs.kept.unknown_lists.Given as goal

abbrev pub invariant-loop-place : goal.invariant-loop-place
invariant-loop-place l = record {
  long : length l.lists.items ≡ l.place;
  none : (at : ℕ) (covers : List NamedCover) → slice_get l.lists.items at ≡ Some (Some covers) → ⊥;
  all : (at : ℕ) → at < l.place → is_in l.places.items at ≡ true;
}
