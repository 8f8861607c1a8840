use Rattle.std.proofs.Common.{eqb}
use Rattle.std.proofs.lemmas.List.Filters.{dedup_is}
use Rattle.net_resub.proofs.Visiting.{risen_all}
use Rattle.net_resub.proofs.candidates.risen.Goals as goal

pub returns : goal.returns
returns c =
    risen_all c.args.places.items c.sort_unstable.new.self.items c.dedup.new.self.items c.sort_unstable.ensures.permutation
    (dedup_is eqb c.sort_unstable.new.self.items c.dedup.new.self.items c.dedup.ensures.filtered)
