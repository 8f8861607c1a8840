use Rattle.std.proofs.Common.{sym, ap, ◌∙◌, rules}
use Rattle.std.specs.Cmp.Lexicographic.{pointwise, lists_ties}
use Rattle.std.proofs.lemmas.List.Filters.{dedup_is}
use Rattle.cover_names.specs.Literals.{literal_cmp, cube_cmp, sorted}
use Rattle.cover_names.specs.Orders.{literal_eq, literal_ties}
use Rattle.cover_names.proofs.Orders.{cube_order}
use Rattle.cover_names.proofs.Sorts.{sorted_deduped, sorted_by_calls}
use Rattle.cover_names.proofs.cubes.sorted_cover.Goals as goal

pub returns : goal.returns
returns c =
    c.from_vec.ensures
    ∙ dedup_is (pointwise literal_eq) _ _ c.dedup.ensures.filtered
    ∙ sym (sorted_deduped cube_order (pointwise literal_eq) (lists_ties literal_cmp literal_ties) c.into_vec-cubes.result.items c.sort_unstable_by.new.self.items
    c.sort_unstable_by.ensures.permutation (sorted_by_calls cube_order.total _ c.sort_unstable_by.ensures.sorted (λ a r q k. search rules)))
    ∙ ap (sorted cube_cmp) c.into_vec-cubes.ensures
