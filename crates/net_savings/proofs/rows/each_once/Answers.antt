use Rattle.std.proofs.Common.{◌==◌, ℕ, List, eqb, sym, ap, ◌∙◌, subst}
use Rattle.std.specs.List.Sorted.{IsStrictlyIncreasing}
use Rattle.std.proofs.lemmas.List.Filters.{dedup_is}
use Rattle.std.proofs.lemmas.List.Sorted.{list_any-IsPermutation}
use Rattle.std.proofs.lemmas.Map.Keys.{IsStrictlyIncreasing-dedup}
use Rattle.net_readers.specs.Fanouts.{is_in}
use Rattle.net_savings.proofs.Naming.{dedup_kept}
use Rattle.net_savings.proofs.Summing.{rising_once}
use Rattle.net_savings.proofs.rows.each_once.Goals as goal

pub returns-clause-all : goal.returns-clause-all
returns-clause-all c = λ at h.
    ap (λ (ps : List ℕ). is_in ps at) (dedup_is eqb c.sort_unstable.new.self.items c.dedup.new.self.items c.dedup.ensures.filtered)
    ∙ dedup_kept c.sort_unstable.new.self.items at
    (sym (list_any-IsPermutation (λ (other : ℕ). other == at) c.args.places.items c.sort_unstable.new.self.items c.sort_unstable.ensures.permutation) ∙ h)

pub returns-clause-once : goal.returns-clause-once
returns-clause-once c =
    rising_once c.dedup.new.self.items
    (subst IsStrictlyIncreasing (sym (dedup_is eqb c.sort_unstable.new.self.items c.dedup.new.self.items c.dedup.ensures.filtered)) (IsStrictlyIncreasing-dedup c.sort_unstable.new.self.items c.sort_unstable.ensures.sorted))
