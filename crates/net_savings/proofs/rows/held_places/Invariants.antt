use Rattle.std.proofs.Common.{◌≡◌, true, take}
use Rattle.std.specs.List.{list_all}
use Rattle.alg_div.specs.Cubes.{Has}
use Rattle.net_readers.specs.Fanouts.{is_in}
use Rattle.net_savings.specs.Indexed.{marks_in}
use Rattle.net_savings.specs.declared.rows.RowSpan.{RowSpan}
use Rattle.net_savings.proofs.rows.held_places.Given as goal

abbrev pub invariant-loop-span : goal.invariant-loop-span
invariant-loop-span l = (span : RowSpan) → Has span (take l.span-index l.spans) → list_all (λ marks. marks_in span marks.items) l.lists ≡ true → is_in l.places.items span.place ≡ true
