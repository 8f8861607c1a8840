use Rattle.std.proofs.Common.{◌≡◌, ◌+◌, ◌<◌, Option, List, length, drop, sym, ap, subst, ◌∙◌, arith}
use Rattle.std.specs.Option.{is_some}
use Rattle.std.proofs.lemmas.List.{length-append}
use Rattle.std.proofs.lemmas.Result.{err_from_is_err_and}
use Rattle.circuit_model.specs.declared.circuit.Table.{Table}
use Rattle.net_core.specs.Tables.{named}
use Rattle.net_decomp.specs.Sums.{IsListed}
use Rattle.net_decomp.specs.declared.sums.Literal.{Literal}
use Rattle.net_decomp.proofs.Summing.{sum_begin, sum_more, sum_over, sum_set}
use Rattle.net_decomp.proofs.sums.part_literals.Goals as goal

pub loop-first-init : goal.loop-first-init
loop-first-init g c = record {
  nodes = c.requires.next.nodes;
  within = omega arith;
  on = sum_begin c.args.rule c.args.place c.args.sum c.args.work.now c.requires.next.sound c.requires.next.done c.requires.next.tidy c.requires.sum;
}

pub overflow_sub-len : goal.overflow_sub-len
overflow_sub-len g c = omega (arith, c.loop-first.invariant.within, c.len.ensures, c.loop-first.literals.ok.0)

pub loop-first-preserved : goal.loop-first-preserved
loop-first-preserved g c =
    let more : c.loop-first.first + c.args.sum.most < length c.loop-first.literals.items = omega (arith, c.loop-first-test.true, c.loop-first.invariant.within, c.len.ensures, c.loop-first.literals.ok.0) in
    let parted = c.in_ok-part_first.ensures.parted in
    let all = sum_more c.args.rule c.loop-first.first c.args.sum.most c.args.place c.args.sum.phase c.args.work.now c.loop-first.work c.part_first.new.work c.loop-first.names c.part_first.new.names
    c.loop-first.literals.items c.part_first.new.literals.items c.requires.sum.bound c.loop-first.invariant.on more parted in
    let longer = ap length parted.literals_are ∙ length-append c.loop-first.literals.items _ in
    record { nodes = omega (arith, all.1, c.loop-first.invariant.nodes); within = omega (arith, longer, more); on = all.0 }

pub returns-in_err-part_first : goal.returns-in_err-part_first
returns-in_err-part_first g c =
    let more : c.loop-first.first + c.args.sum.most < length c.loop-first.literals.items = omega (arith, c.loop-first-test.true, c.loop-first.invariant.within, c.len.ensures, c.loop-first.literals.ok.0) in
    let p = err_from_is_err_and c.from_residual.result c.from_residual.ensures.1 in
    rw (p.1, p.2)
    (λ e. sum_over c.args.rule c.loop-first.first c.args.sum.most c.args.place c.args.sum.phase c.args.work.now c.loop-first.work c.loop-first.names c.loop-first.literals.items
    c.requires.sum.bound c.loop-first.invariant.on more (c.in_err-part_first.ensures.limit e))

pub set-requires-clause-there : goal.set-requires-clause-there
set-requires-clause-there g c = ap (λ (o : Option Table). is_some o) c.loop-first.invariant.on.there

pub part_first-requires-clause-listed : goal.part_first-requires-clause-listed
part_first-requires-clause-listed g c =
    let on = c.loop-first.invariant.on in record { different = on.different; below = on.below; differ = on.differ }

pub sum_table-requires : goal.sum_table-requires
sum_table-requires g c =
    let on = c.loop-first.invariant.on in
    let left : c.split_at.result.1.now ≡ drop c.loop-first.first c.loop-first.literals.items =
    ◌∙◌ {b = drop c.loop-first.first c.as_slice.result.now} c.split_at.ensures.back (ap (λ (list : List Literal). drop c.loop-first.first list) c.as_slice.ensures.value) in
    subst (IsListed c.loop-first.names) (sym left) (record { different = on.different; below = on.below; differ = on.differ })

pub returns : goal.returns
returns g c =
    let left = c.split_at.ensures.back ∙ ap (λ (list : List Literal). drop c.loop-first.first list) c.as_slice.ensures.value in
    let ended = sum_set c.args.rule c.args.place c.args.sum.phase c.args.work.now c.loop-first.work c.set.new.self c.loop-first.names (drop c.loop-first.first c.loop-first.literals.items) c.split_at.result.1.now
    (λ name. named name c.in_ok-table.table) c.loop-first.invariant.on left c.in_ok-table.ensures.tidy c.in_ok-set.ensures in
    (c.loop-first.invariant.nodes ∙ sym ended.nodes, ended.along, ended.light)
