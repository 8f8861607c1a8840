use Rattle.std.proofs.Common.{List, ap, drop, ◌∙◌, arith}
use Rattle.net_core.specs.Tables.{named}
use Rattle.net_decomp.specs.declared.sums.Literal.{Literal}
use Rattle.net_decomp.proofs.Middle.{first_listed}
use Rattle.net_decomp.proofs.Summing.{first_parted}
use Rattle.net_decomp.proofs.sums.part_first.Goals as goal

pub sum_table-requires : goal.sum_table-requires
sum_table-requires g c =
    first_listed c.args.names.now c.args.most (drop c.args.first c.args.literals.now.items) c.split_at.result.1.now c.split_at-2.result.0.now c.requires.listed
    (c.split_at.ensures.back ∙ ap (λ (list : List Literal). drop c.args.first list) c.as_slice.ensures.value) c.split_at-2.ensures.front

pub returns-clause-parted : goal.returns-clause-parted
returns-clause-parted g c =
    first_parted c.args.first c.args.most c.args.names.now _ c.args.literals.now.items c.split_at.result.1.now c.split_at-2.result.0.now _ c.args.work.now _ c.in_ok-name.name
    (λ name. named name c.in_ok-part.part) (c.split_at.ensures.back ∙ ap (λ (list : List Literal). drop c.args.first list) c.as_slice.ensures.value) c.split_at-2.ensures.front c.in_ok-part.ensures.tidy
    c.in_ok-part.ensures.bounded c.in_ok-name.ensures c.in_ok-push_signal.ensures.names c.in_ok-push_signal.ensures.literals
    (omega (arith, c.in_ok-check_bounds.ensures.0, c.len.ensures), omega (arith, c.in_ok-check_bounds.ensures.1, c.len-2.ensures, c.args.literals.now.ok.0))
