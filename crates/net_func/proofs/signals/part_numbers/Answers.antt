use Rattle.std.proofs.Common.{◌≡◌, ℕ, List, true, sym, ◌∙◌, subst}
use Rattle.std.proofs.lemmas.Result.{err_from_is_err_and}
use Rattle.circuit_model.specs.Names.{all_different}
use Rattle.net_func.specs.Numbering.{number_in, AreSettled, AreOver, IsBlamed, FitsOver}
use Rattle.net_func.proofs.Adding.{blames_weaker}
use Rattle.net_func.proofs.LeafBits.{empty_stands}
use Rattle.net_func.proofs.Circuits.{leaves_once, part_settled, part_over, part_made, part_blamed}
use Rattle.net_func.proofs.signals.part_numbers.Goals as goal

pub add_over-requires-clause-once : goal.add_over-requires-clause-once
add_over-requires-clause-once g c =
    subst (λ (names : List (List ℕ)). all_different names ≡ true)
    (sym (c.as_slice.ensures ∙ c.in_ok-leaves.ensures)) (leaves_once c.args.circuit.now
    c.requires.sound)

pub add_over-requires-clause-tables : goal.add_over-requires-clause-tables
add_over-requires-clause-tables g c =
    subst AreSettled (sym c.tables_of-tables.ensures)
    (part_settled c.args.part c.args.circuit.now c.requires.sound)

pub add_over-requires-clause-over : goal.add_over-requires-clause-over
add_over-requires-clause-over g c =
    subst (λ (names : List (List ℕ)). AreOver names c.tables_of-tables.result.now)
    (sym (c.as_slice.ensures ∙ c.in_ok-leaves.ensures))
    (subst (AreOver _) (sym c.tables_of-tables.ensures)
    (part_over c.args.part c.args.circuit.now c.requires.sound))

pub add_over-requires-clause-stand : goal.add_over-requires-clause-stand
add_over-requires-clause-stand g c =
    empty_stands g.F.Functions.holds g.F.Functions.tree g.F.Functions.limit c.args.functions.now
    (number_in c.new-numbers.result) c.new-numbers.ensures

pub returns-in_err-add_over-clause-big : goal.returns-in_err-add_over-clause-big
returns-in_err-add_over-clause-big g c =
    let p = err_from_is_err_and c.from_residual-in_err-add_over.result
    c.from_residual-in_err-add_over.ensures.1 in
    rw (p.1, p.2)
    (blames_weaker
    (IsBlamed g.F.Functions.holds g.F.Functions.tree g.F.Functions.limit c.args.functions.now
    c.tables_of-tables.result.now (number_in c.new-numbers.result)
    (FitsOver c.as_slice.result.now c.tables_of-tables.result.now
    (number_in c.new-numbers.result))) _ c.in_err-add_over.field-0.0
    (part_blamed g.F.Functions.holds g.F.Functions.tree g.F.Functions.limit c.args.functions.now
    c.args.part c.args.circuit.now c.as_slice.result.now c.tables_of-tables.result.now
    (number_in c.new-numbers.result) c.requires.sound c.new-numbers.ensures
    (c.as_slice.ensures ∙ c.in_ok-leaves.ensures) c.tables_of-tables.ensures)
    c.in_err-add_over.ensures.big)

pub returns-clause-ok : goal.returns-clause-ok
returns-clause-ok g c =
    part_made g.F.Functions.holds g.F.Functions.tree g.F.Functions.limit c.args.functions.now
    c.add_over.new.functions c.args.part c.args.circuit.now c.as_slice.result.now
    c.tables_of-tables.result.now (number_in c.new-numbers.result)
    (number_in c.add_over.new.numbers) c.requires.sound c.new-numbers.ensures
    (c.as_slice.ensures ∙ c.in_ok-leaves.ensures) c.tables_of-tables.ensures
    c.in_ok-add_over.ensures.ok
