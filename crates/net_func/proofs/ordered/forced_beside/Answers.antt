use Rattle.std.proofs.Common.{◌≡◌, ℕ, List, true, sym, ◌∙◌, subst}
use Rattle.std.proofs.lemmas.Result.{err_from_is_err_and}
use Rattle.circuit_model.specs.Names.{all_different}
use Rattle.circuit_model.specs.Soundness.{leaf_names}
use Rattle.circuit_model.specs.declared.circuit.Table.{Table}
use Rattle.net_func.specs.Numbering.{number_in, AreSettled, AreOver, IsOrderOf, IsBlamed, FitsOver}
use Rattle.net_func.specs.Signals.{forced_function, IsBigAt}
use Rattle.net_func.specs.Kept.{is_signal}
use Rattle.net_func.proofs.Adding.{blames_weaker}
use Rattle.net_func.proofs.Circuits.{leaves_once, own_settled, own_over}
use Rattle.net_func.proofs.Keeping.{some_stands, forced_start, forced_some, fixed_known, forced_fits_over, completed, completed_big, other_blamed}
use Rattle.net_func.proofs.ordered.forced_beside.Goals as goal

pub add_constant-requires : goal.add_constant-requires
add_constant-requires g c = record {
  stand = some_stands g.F.Functions.holds g.F.Functions.tree g.F.Functions.limit
      c.args.functions.now (is_signal c.args.ordered.now.circuit)
      (forced_function c.args.ordered.now.circuit c.args.name.now c.args.bit)
      (number_in c.in_ok-numbers.numbers)
      (forced_start g.F.Functions.holds g.F.Functions.tree g.F.Functions.limit
      c.args.ordered.now.circuit c.requires.ready.sound c.args.name.now c.args.bit
      c.args.functions.now (number_in c.args.own.now) (number_in c.in_ok-numbers.numbers)
      c.in_ok-numbers.ensures c.requires.own);
}

pub add_ordered-requires-clause-once : goal.add_ordered-requires-clause-once
add_ordered-requires-clause-once g c =
    subst (λ (names : List (List ℕ)). all_different names ≡ true)
    (sym (c.as_slice-leaves.ensures ∙ c.requires.ready.leaves))
    (leaves_once c.args.ordered.now.circuit c.requires.ready.sound)

pub add_ordered-requires-clause-tables : goal.add_ordered-requires-clause-tables
add_ordered-requires-clause-tables g c =
    subst AreSettled (sym c.as_slice-tables.ensures)
    (own_settled c.args.ordered.now.circuit c.requires.ready.sound)

pub add_ordered-requires-clause-order : goal.add_ordered-requires-clause-order
add_ordered-requires-clause-order g c =
    subst (λ (tables : List Table). IsOrderOf tables c.args.ordered.now.tables)
    (sym c.as_slice-tables.ensures) c.requires.ready.tables

pub add_ordered-requires-clause-over : goal.add_ordered-requires-clause-over
add_ordered-requires-clause-over g c =
    subst (λ (names : List (List ℕ)). AreOver names c.as_slice-tables.result.now)
    (sym (c.as_slice-leaves.ensures ∙ c.requires.ready.leaves))
    (subst (AreOver (leaf_names c.args.ordered.now.circuit)) (sym c.as_slice-tables.ensures)
    (own_over c.args.ordered.now.circuit c.requires.ready.sound))

pub add_ordered-requires-clause-stand : goal.add_ordered-requires-clause-stand
add_ordered-requires-clause-stand g c =
    some_stands g.F.Functions.holds g.F.Functions.tree g.F.Functions.limit
    c.add_constant.new.functions (is_signal c.args.ordered.now.circuit)
    (forced_function c.args.ordered.now.circuit c.args.name.now c.args.bit)
    (number_in c.add_constant.new.numbers)
    (forced_some g.F.Functions.holds g.F.Functions.tree g.F.Functions.limit
    c.args.ordered.now.circuit c.requires.ready.sound c.args.name.now c.args.bit
    c.args.functions.now c.add_constant.new.functions (number_in c.args.own.now)
    (number_in c.in_ok-numbers.numbers) (number_in c.add_constant.new.numbers)
    c.in_ok-numbers.ensures c.requires.driven c.requires.own c.in_ok-add_constant.ensures.ok)

pub returns-in_err-add_ordered-clause-big : goal.returns-in_err-add_ordered-clause-big
returns-in_err-add_ordered-clause-big g c =
    let p = err_from_is_err_and c.from_residual-in_err-add_ordered.result
    c.from_residual-in_err-add_ordered.ensures.1 in
    rw (p.1, p.2)
    (blames_weaker
    (IsBlamed g.F.Functions.holds g.F.Functions.tree g.F.Functions.limit
    c.add_constant.new.functions c.as_slice-tables.result.now
    (number_in c.add_constant.new.numbers)
    (FitsOver c.as_slice-leaves.result.now c.as_slice-tables.result.now
    (number_in c.add_constant.new.numbers))) _ c.in_err-add_ordered.field-0.0
    (λ blamed cause.
    let both = completed_big g.F.Functions.holds g.F.Functions.tree g.F.Functions.limit
    c.add_constant.new.functions c.as_slice-leaves.result.now
    (leaf_names c.args.ordered.now.circuit) c.as_slice-tables.result.now
    c.args.ordered.now.circuit.tables
    (forced_function c.args.ordered.now.circuit c.args.name.now c.args.bit)
    (number_in c.add_constant.new.numbers)
    (c.as_slice-leaves.ensures ∙ c.requires.ready.leaves) c.as_slice-tables.ensures
    (forced_fits_over c.args.ordered.now.circuit c.requires.ready.sound c.args.name.now c.args.bit
    (number_in c.add_constant.new.numbers) c.requires.driven
    (fixed_known g.F.Functions.holds g.F.Functions.tree g.F.Functions.limit
    c.args.ordered.now.circuit c.requires.ready.sound c.args.name.now c.args.bit
    c.args.functions.now c.add_constant.new.functions (number_in c.in_ok-numbers.numbers)
    (number_in c.add_constant.new.numbers) c.in_ok-add_constant.ensures.ok))
    (forced_some g.F.Functions.holds g.F.Functions.tree g.F.Functions.limit
    c.args.ordered.now.circuit c.requires.ready.sound c.args.name.now c.args.bit
    c.args.functions.now c.add_constant.new.functions (number_in c.args.own.now)
    (number_in c.in_ok-numbers.numbers) (number_in c.add_constant.new.numbers)
    c.in_ok-numbers.ensures c.requires.driven c.requires.own c.in_ok-add_constant.ensures.ok) blamed cause
    in (
      other_blamed g.F.Functions.holds g.F.Functions.tree g.F.Functions.limit
          c.args.ordered.now.circuit c.requires.ready.sound c.args.name.now c.args.bit
          (number_in c.add_constant.new.numbers) blamed
          (fixed_known g.F.Functions.holds g.F.Functions.tree g.F.Functions.limit
          c.args.ordered.now.circuit c.requires.ready.sound c.args.name.now c.args.bit
          c.args.functions.now c.add_constant.new.functions (number_in c.in_ok-numbers.numbers)
          (number_in c.add_constant.new.numbers) c.in_ok-add_constant.ensures.ok) both.0,
      subst (λ (l : ℕ). IsBigAt l c.args.ordered.now.circuit.tables
          (forced_function c.args.ordered.now.circuit c.args.name.now c.args.bit) blamed)
          c.in_ok-add_constant.ensures.stays.same both.1,
    ))
    c.in_err-add_ordered.ensures.big)

pub returns-clause-ok : goal.returns-clause-ok
returns-clause-ok g c =
    completed g.F.Functions.holds g.F.Functions.tree g.F.Functions.limit
    c.add_constant.new.functions c.as_slice-leaves.result.now
    (leaf_names c.args.ordered.now.circuit) c.as_slice-tables.result.now
    c.args.ordered.now.circuit.tables
    (forced_function c.args.ordered.now.circuit c.args.name.now c.args.bit)
    (number_in c.add_constant.new.numbers)
    (c.as_slice-leaves.ensures ∙ c.requires.ready.leaves) c.as_slice-tables.ensures
    (forced_fits_over c.args.ordered.now.circuit c.requires.ready.sound c.args.name.now c.args.bit
    (number_in c.add_constant.new.numbers) c.requires.driven
    (fixed_known g.F.Functions.holds g.F.Functions.tree g.F.Functions.limit
    c.args.ordered.now.circuit c.requires.ready.sound c.args.name.now c.args.bit
    c.args.functions.now c.add_constant.new.functions (number_in c.in_ok-numbers.numbers)
    (number_in c.add_constant.new.numbers) c.in_ok-add_constant.ensures.ok))
    (forced_some g.F.Functions.holds g.F.Functions.tree g.F.Functions.limit
    c.args.ordered.now.circuit c.requires.ready.sound c.args.name.now c.args.bit
    c.args.functions.now c.add_constant.new.functions (number_in c.args.own.now)
    (number_in c.in_ok-numbers.numbers) (number_in c.add_constant.new.numbers)
    c.in_ok-numbers.ensures c.requires.driven c.requires.own c.in_ok-add_constant.ensures.ok)
    c.add_ordered.new.functions (number_in c.add_ordered.new.numbers)
    c.in_ok-add_ordered.ensures.ok
