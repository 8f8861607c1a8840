use Rattle.std.proofs.Common.{◌≡◌, ℕ, List, true, sym, ◌∙◌, subst}
use Rattle.std.proofs.lemmas.Result.{on_ok_weaker, IfErr-weaker}
use Rattle.circuit_model.specs.Names.{all_different}
use Rattle.circuit_model.specs.Soundness.{leaf_names}
use Rattle.circuit_model.specs.declared.circuit.Table.{Table}
use Rattle.net_func.specs.Numbering.{number_in, AreSettled, AreOver, IsOrderOf, IsBlamed, FitsOver}
use Rattle.net_func.specs.Parts.{part_tables, part_function, is_part_signal}
use Rattle.net_func.proofs.Adding.{blames_weaker}
use Rattle.net_func.proofs.Circuits.{leaves_once, part_settled, part_over}
use Rattle.net_func.proofs.Keeping.{some_stands, part_fits_over, completed, completed_big}
use Rattle.net_func.proofs.ordered.add_part.Goals as goal

pub add_ordered-requires-clause-once : goal.add_ordered-requires-clause-once
add_ordered-requires-clause-once g c =
    subst (λ (names : List (List ℕ)). all_different names ≡ true)
    (sym (c.as_slice-leaves.ensures ∙ c.requires.ready.leaves))
    (leaves_once c.args.ordered.now.circuit c.requires.ready.sound)

pub add_ordered-requires-clause-tables : goal.add_ordered-requires-clause-tables
add_ordered-requires-clause-tables g c =
    subst AreSettled (sym c.tables_of-tables.ensures)
    (part_settled c.args.part c.args.ordered.now.circuit c.requires.ready.sound)

pub add_ordered-requires-clause-order : goal.add_ordered-requires-clause-order
add_ordered-requires-clause-order g c =
    subst (λ (tables : List Table). IsOrderOf tables c.order_in-order.result.now)
    (sym c.tables_of-tables.ensures) c.order_in-order.ensures

pub add_ordered-requires-clause-over : goal.add_ordered-requires-clause-over
add_ordered-requires-clause-over g c =
    subst (λ (names : List (List ℕ)). AreOver names c.tables_of-tables.result.now)
    (sym (c.as_slice-leaves.ensures ∙ c.requires.ready.leaves))
    (subst (AreOver (leaf_names c.args.ordered.now.circuit)) (sym c.tables_of-tables.ensures)
    (part_over c.args.part c.args.ordered.now.circuit c.requires.ready.sound))

pub add_ordered-requires-clause-stand : goal.add_ordered-requires-clause-stand
add_ordered-requires-clause-stand g c =
    some_stands g.F.Functions.holds g.F.Functions.tree g.F.Functions.limit c.args.functions.now
    (is_part_signal c.args.part c.args.ordered.now.circuit) (part_function c.args.part c.args.ordered.now.circuit)
    (number_in c.args.numbers.now) c.requires.some

pub returns-clause-ok : goal.returns-clause-ok
returns-clause-ok g c =
    on_ok_weaker c.add_ordered.result
    (completed g.F.Functions.holds g.F.Functions.tree g.F.Functions.limit c.args.functions.now
    c.as_slice-leaves.result.now (leaf_names c.args.ordered.now.circuit)
    c.tables_of-tables.result.now (part_tables c.args.part c.args.ordered.now.circuit)
    (part_function c.args.part c.args.ordered.now.circuit) (number_in c.args.numbers.now)
    (c.as_slice-leaves.ensures ∙ c.requires.ready.leaves) c.tables_of-tables.ensures
    (part_fits_over c.args.part c.args.ordered.now.circuit c.requires.ready.sound
    (number_in c.args.numbers.now)) c.requires.some c.add_ordered.new.functions
    (number_in c.add_ordered.new.numbers))
    c.add_ordered.ensures.ok

pub returns-clause-big : goal.returns-clause-big
returns-clause-big g c =
    IfErr-weaker c.add_ordered.result _ _
    (λ fault.
    blames_weaker
    (IsBlamed g.F.Functions.holds g.F.Functions.tree g.F.Functions.limit c.args.functions.now
    c.tables_of-tables.result.now (number_in c.args.numbers.now)
    (FitsOver c.as_slice-leaves.result.now c.tables_of-tables.result.now
    (number_in c.args.numbers.now))) _ fault
    (λ blamed cause.
    (completed_big g.F.Functions.holds g.F.Functions.tree g.F.Functions.limit
    c.args.functions.now c.as_slice-leaves.result.now (leaf_names c.args.ordered.now.circuit)
    c.tables_of-tables.result.now (part_tables c.args.part c.args.ordered.now.circuit)
    (part_function c.args.part c.args.ordered.now.circuit) (number_in c.args.numbers.now)
    (c.as_slice-leaves.ensures ∙ c.requires.ready.leaves) c.tables_of-tables.ensures
    (part_fits_over c.args.part c.args.ordered.now.circuit c.requires.ready.sound
    (number_in c.args.numbers.now)) c.requires.some blamed cause).1))
    c.add_ordered.ensures.big
