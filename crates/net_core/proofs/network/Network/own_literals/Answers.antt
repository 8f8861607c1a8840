use Rattle.std.proofs.Common.{◌≤◌, ◌^◌, ℕ, sym, subst}
use Rattle.net_core.specs.Tables.{named}
use Rattle.net_core.specs.Reads.{IsBounded}
use Rattle.net_core.proofs.Counting.{driver_has, few_rows_named, literals_bound}
use Rattle.net_core.proofs.network.Network.own_literals.Goals as goal

pub table_literals-requires : goal.table_literals-requires
table_literals-requires g c =
    few_rows_named c.args.name.now c.in-Some.table.now (driver_has IsBounded c.args.self.now.tables c.args.name.now (named c.args.name.now c.in-Some.table.now) c.requires.tables c.in-Some.ensures.driver)

pub returns-in-Some-clause-bound : goal.returns-in-Some-clause-bound
returns-in-Some-clause-bound g c =
    subst (λ (n : ℕ). n ≤ 2 ^ 63) (sym (c.table_literals.ensures.literals c.args.name.now))
    (literals_bound c.args.self.now c.args.name.now (named c.args.name.now c.in-Some.table.now) c.sound.ensures c.requires c.in-Some.ensures.driver)
