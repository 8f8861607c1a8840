use Rattle.std.proofs.Common.{nat_eq, sym, ◌∙◌}
use Rattle.std.specs.Cmp.{unsigned_ties}
use Rattle.std.proofs.lemmas.List.Filters.{dedup_is}
use Rattle.cover_names.proofs.Sorts.{sorted_deduped}
use Rattle.net_gains.proofs.Coded.{number_order}
use Rattle.net_gains.proofs.rows.in_order.Goals as goal

pub returns : goal.returns
returns c =
    dedup_is nat_eq _ _ c.dedup.ensures.filtered
    ∙ sym (sorted_deduped number_order nat_eq unsigned_ties c.args.numbers.items c.sort_unstable.new.self.items c.sort_unstable.ensures.permutation c.sort_unstable.ensures.sorted)
