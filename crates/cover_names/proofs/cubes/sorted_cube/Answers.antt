use Rattle.std.proofs.Common.{sym, ap, ◌∙◌}
use Rattle.std.proofs.lemmas.List.Filters.{dedup_is}
use Rattle.cover_names.specs.Literals.{sorted_cube}
use Rattle.cover_names.specs.Orders.{literal_eq, literal_ties}
use Rattle.cover_names.proofs.Orders.{literal_order}
use Rattle.cover_names.proofs.Sorts.{sorted_deduped}
use Rattle.cover_names.proofs.cubes.sorted_cube.Goals as goal

pub returns : goal.returns
returns c =
    c.from_vec.ensures
    ∙ dedup_is literal_eq _ _ c.dedup.ensures.filtered
    ∙ sym (sorted_deduped literal_order literal_eq literal_ties c.into_vec-literals.result.items c.sort_unstable.new.self.items c.sort_unstable.ensures.permutation c.sort_unstable.ensures.sorted)
    ∙ ap sorted_cube c.into_vec-literals.ensures
