use Rattle.std.proofs.Common.{List, [], ap}
use Rattle.cover_names.specs.Literals.{Cube}
use Rattle.net_core.specs.Tables.{named}
use Rattle.net_gains.specs.Kept.{Kept}
use Rattle.net_gains.specs.Numbers.{lists_in}
use Rattle.net_gains.proofs.Taken.{kept_more, cubes_more}
use Rattle.net_gains.proofs.kept.DivisorGains.push.Goals as goal

pub with_table-requires-clause-apart : goal.with_table-requires-clause-apart
with_table-requires-clause-apart g c = let are = rw c.in-Some.is at c.in_ok-numbers_of.ensures in (are []).apart

pub invariant_of-self-in-Some : goal.invariant_of-self-in-Some
invariant_of-self-in-Some g c =
    let are = rw c.in-Some.is at c.in_ok-numbers_of.ensures in
    kept_more c.self.inside.codes c.self.inside.counted c.replace-counted.result c.in_ok-self-inside-in-Some.field-0 c.self.invariant c.replace-counted.ensures.value
    c.in_ok-self-inside-in-Some.ensures.counted (named [] c.args.table.now) (lists_in c.in-Some.cubes.items) (are []) c.in_ok-self-inside-in-Some.ensures.tables

pub returns-in_ok-self-inside-in-Some-clause-taken : goal.returns-in_ok-self-inside-in-Some-clause-taken
returns-in_ok-self-inside-in-Some-clause-taken g c =
    let are = rw c.in-Some.is at c.in_ok-numbers_of.ensures in
    λ _ output.
    rw (← c.self.view_is)
    (ap (λ (tables : List (List Cube)). let kept : Kept = record { names = c.self.inside.codes; tables = tables } in kept)
    (cubes_more c.self.inside.codes c.self.inside.counted c.replace-counted.result c.in_ok-self-inside-in-Some.field-0 c.self.invariant c.replace-counted.ensures.value
    c.in_ok-self-inside-in-Some.ensures.counted (named output c.args.table.now) (lists_in c.in-Some.cubes.items) (are output) c.in_ok-self-inside-in-Some.ensures.tables))
