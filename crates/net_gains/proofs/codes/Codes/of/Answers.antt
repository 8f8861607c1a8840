use Rattle.std.proofs.Common.{◌≡◌, length, sym, ap, ◌∙◌, subst, rules, arith, nat_eq}
use Rattle.std.specs.Cmp.Lexicographic.{pointwise, texts_ties}
use Rattle.std.proofs.lemmas.List.Filters.{dedup_is}
use Rattle.cover_names.proofs.Sorting.{sorted_rises}
use Rattle.cover_names.proofs.Sorts.{sorted_deduped, sorted_by_calls}
use Rattle.alg_tables.proofs.Divided.{name_order}
use Rattle.net_gains.specs.Codes.{AreRising, in_order}
use Rattle.net_gains.proofs.codes.Codes.of.Goals as goal
use Rattle.net_gains.proofs.codes.Codes.of.Goals.{After-dedup}

put_in_order : (c : After-dedup) → c.dedup.new.self.items ≡ in_order c.args.names.items
put_in_order c =
    dedup_is (pointwise nat_eq) _ _ c.dedup.ensures.filtered
    ∙ sym (sorted_deduped name_order (pointwise nat_eq) texts_ties c.args.names.items c.sort_unstable_by.new.self.items c.sort_unstable_by.ensures.permutation
    (sorted_by_calls name_order.total _ c.sort_unstable_by.ensures.sorted (λ a r q k. search rules)))

pub invariant_of-result : goal.invariant_of-result
invariant_of-result c = (
  subst AreRising (sym (put_in_order (goal.at.invariant_of-result c).After-dedup)) (sorted_rises name_order c.args.names.items),
  omega (arith, c.len.ensures),
)

pub returns-then-len-lt-NAMES_LIMIT-clause-codes : goal.returns-then-len-lt-NAMES_LIMIT-clause-codes
returns-then-len-lt-NAMES_LIMIT-clause-codes c = put_in_order (goal.at.returns-then-len-lt-NAMES_LIMIT-clause-codes c).After-dedup

pub returns-else-len-lt-NAMES_LIMIT-clause-over : goal.returns-else-len-lt-NAMES_LIMIT-clause-over
returns-else-len-lt-NAMES_LIMIT-clause-over c =
    omega (arith, c.len.ensures, ap length (put_in_order (goal.at.returns-else-len-lt-NAMES_LIMIT-clause-over c).After-dedup))
