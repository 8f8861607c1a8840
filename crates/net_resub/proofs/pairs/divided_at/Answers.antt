use Rattle.std.proofs.Common.{◌≡◌, ◌<◌, ℕ, Some, true, ap, sym, ◌∙◌, subst}
use Rattle.std.proofs.lemmas.Option.{none-some}
use Rattle.std.proofs.lemmas.Result.{IfOk-weaker}
use Rattle.circuit_model.specs.Names.{all_different}
use Rattle.circuit_model.specs.declared.circuit.Table.{Table}
use Rattle.net_core.specs.Tables.{named}
use Rattle.net_core.specs.Places.{written_of}
use Rattle.net_work.specs.Placed.{table_at}
use Rattle.net_resub.specs.Resubbed.{row_cubes, resubbed}
use Rattle.alg_tables.proofs.Divisions.{divided_once}
use Rattle.net_resub.proofs.Rows.{divided_is}
use Rattle.net_resub.proofs.Saving.{saving_places, saving_placed}
use Rattle.net_resub.proofs.pairs.divided_at.Goals as goal

pub unreachable-requires : goal.unreachable-requires
unreachable-requires g c =
    let at = saving_places c.args.work.now.slots c.args.place c.args.by c.requires in
    none-some at.table (c.in-None.ensures.table ∙ at.here)

pub unreachable-requires-in-None-entry : goal.unreachable-requires-in-None-entry
unreachable-requires-in-None-entry g c =
    let at = saving_places c.args.work.now.slots c.args.place c.args.by c.requires in
    none-some at.divisor (c.in-None-entry.ensures.table ∙ at.there)

pub divided_by-requires-clause-saves : goal.divided_by-requires-clause-saves
divided_by-requires-clause-saves g c =
    let at = saving_places c.args.work.now.slots c.args.place c.args.by c.requires in
    subst (λ (n : ℕ). 0 < n)
    (saving_placed c.args.work.now.slots c.args.place c.args.by (written_of c.in-Some.entry.now) (written_of c.in-Some-entry.by.now) at.apart (sym c.in-Some.ensures.table) (sym c.in-Some-entry.ensures.table))
    c.requires

pub returns-clause-is : goal.returns-clause-is
returns-clause-is g c =
    IfOk-weaker c.divided_by.result (λ made. named c.in-Some.entry.now.output made ≡ resubbed (written_of c.in-Some-entry.by.now) (written_of c.in-Some.entry.now))
    (λ made. (table other : Table) → table_at c.args.work.now.slots c.args.place ≡ Some table → table_at c.args.work.now.slots c.args.by ≡ Some other → named table.output made ≡ resubbed other table)
    (λ made is.
    divided_is c.args.work.now.slots c.args.place c.args.by c.in-Some.entry.now c.in-Some-entry.by.now made c.in-Some.ensures.table c.in-Some-entry.ensures.table is)
    c.divided_by.ensures.is

pub returns-clause-once : goal.returns-clause-once
unfolding named
returns-clause-once g c =
    IfOk-weaker c.divided_by.result (λ made. named c.in-Some.entry.now.output made ≡ resubbed (written_of c.in-Some-entry.by.now) (written_of c.in-Some.entry.now))
    (λ made. all_different made.inputs ≡ true)
    (λ made is.
    ap (λ (table : Table). all_different table.inputs) is
    ∙ divided_once c.in-Some-entry.by.now.output c.in-Some-entry.by.now.table.phase (row_cubes (written_of c.in-Some-entry.by.now)) (written_of c.in-Some.entry.now) c.in-Some.ensures.once)
    c.divided_by.ensures.is
