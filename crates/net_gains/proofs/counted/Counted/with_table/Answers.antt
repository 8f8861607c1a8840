use Rattle.std.proofs.Common.{ℕ, List, ◌+◌, ◌∷◌, [], Vec, Global, ap, ◌∙◌}
use Rattle.std.proofs.lemmas.List.{map-append}
use Rattle.net_gains.specs.CodedGains.{gains}
use Rattle.net_gains.specs.Totals.{total_of}
use Rattle.net_gains.specs.Numbers.{lists_in, tables_in}
use Rattle.net_gains.proofs.Summed.{counted_more}
use Rattle.net_gains.proofs.counted.Counted.with_table.Goals as goal

pub returns-clause-counted : goal.returns-clause-counted
returns-clause-counted c =
    counted_more c.args.self _ (lists_in c.args.cubes.items) c.requires.counted c.requires.apart
    (ap tables_in c.in_ok-push.ensures.items ∙ map-append (λ (table : Vec (Vec ℕ Global) Global). lists_in table.items) c.args.self.tables.items (c.args.cubes ∷ []))
    (λ cover. c.in_ok-add.ensures cover ∙ ap (λ (cubes : List (Vec ℕ Global)). total_of c.args.self.totals cover + gains cover (lists_in cubes)) c.as_slice.ensures.value)
