use Rattle.std.proofs.Common.{sym, ap, ◌∙◌, rules, nat_eq, nat_cmp}
use Rattle.std.specs.Cmp.Lexicographic.{pointwise, texts_ties, slice_cmp}
use Rattle.std.proofs.lemmas.List.Filters.{dedup_is}
use Rattle.cover_names.specs.Literals.{sorted}
use Rattle.cover_names.proofs.Sorts.{sorted_deduped, sorted_by_calls}
use Rattle.alg_tables.proofs.Divided.{name_order}
use Rattle.alg_tables.proofs.dividing.names_of.Goals as goal

pub returns : goal.returns
returns c =
    c.from_vec.ensures
    ∙ dedup_is (pointwise nat_eq) _ _ c.dedup.ensures.filtered
    ∙ sym (sorted_deduped name_order (pointwise nat_eq) texts_ties c.in_ok-names.names.items c.sort_unstable_by.new.self.items c.sort_unstable_by.ensures.permutation
    (sorted_by_calls name_order.total _ c.sort_unstable_by.ensures.sorted (λ a r q k. search rules)))
    ∙ ap (sorted (slice_cmp nat_cmp)) c.in_ok-names.ensures
