use Rattle.std.proofs.Common.{ℕ, inl, inr, ◌∙◌, subst}
use Rattle.std.proofs.lemmas.Bool.{or_right}
use Rattle.std.proofs.lemmas.Result.{err_from_is_err_and}
use Rattle.circuit_model.specs.Names.{has}
use Rattle.circuit_model.specs.Soundness.{outputs_of, leaf_names}
use Rattle.func_core.proofs.Meanings.{Stays-chain}
use Rattle.net_func.specs.Numbering.{number_in}
use Rattle.net_func.specs.Signals.{own_function, free_function, IsBigAt, IsBigSeen}
use Rattle.net_func.specs.Kept.{is_signal, is_free_signal}
use Rattle.net_func.proofs.Adding.{blames_weaker}
use Rattle.net_func.proofs.Turning.{all_later}
use Rattle.net_func.proofs.Keeping.{all_some, some_later}
use Rattle.net_func.proofs.Listed.{meant_from, all_fit}
use Rattle.net_func.proofs.turn.turn_of.Goals as goal

pub add_part-requires-2-clause-some : goal.add_part-requires-2-clause-some
add_part-requires-2-clause-some g c =
    some_later g.F.Functions.holds g.F.Functions.tree g.F.Functions.limit c.args.functions.now
    c.add_part.new.functions (is_free_signal c.args.ordered.now.circuit)
    (free_function c.args.ordered.now.circuit)
    (number_in c.args.free.now) c.in_ok-add_part.ensures.stays c.requires.free

pub seen_beside-requires-clause-own : goal.seen_beside-requires-clause-own
seen_beside-requires-clause-own g c =
    all_later g.F.Functions.holds g.F.Functions.tree g.F.Functions.limit c.add_part.new.functions
    c.add_part-2.new.functions (is_signal c.args.ordered.now.circuit)
    (own_function c.args.ordered.now.circuit)
    (number_in c.add_part.new.numbers) c.in_ok-add_part-2.ensures.stays c.in_ok-add_part.ensures.ok

pub input_numbers-requires-clause-known : goal.input_numbers-requires-clause-known
input_numbers-requires-clause-known g c = c.in_ok-add_part.ensures.ok.known

pub known-own-requires : goal.known-own-requires
known-own-requires g c =
    c.in_ok-add_part.ensures.ok.known c.args.name.now
    ∙ or_right (has (leaf_names c.args.ordered.now.circuit) c.args.name.now)
    (has (outputs_of c.args.ordered.now.circuit.tables) c.args.name.now) c.requires.driven

pub returns-in_err-add_part-clause-big : goal.returns-in_err-add_part-clause-big
returns-in_err-add_part-clause-big g c =
    let p = err_from_is_err_and c.from_residual.result c.from_residual.ensures.1 in
    rw (p.1, p.2)
    (blames_weaker
    (IsBigAt (g.F.Functions.limit c.args.functions.now) c.args.ordered.now.circuit.tables
    (own_function c.args.ordered.now.circuit)) _ c.in_err-add_part.field-0.0
    (λ blamed big. inl (blamed, big)) c.in_err-add_part.ensures.big)

pub returns-in_err-add_part-2-clause-big : goal.returns-in_err-add_part-2-clause-big
returns-in_err-add_part-2-clause-big g c =
    let p = err_from_is_err_and c.from_residual-in_err-add_part-2.result
    c.from_residual-in_err-add_part-2.ensures.1 in
    rw (p.1, p.2)
    (blames_weaker
    (IsBigAt (g.F.Functions.limit c.add_part.new.functions) c.args.ordered.now.circuit.dont_care
    (free_function c.args.ordered.now.circuit)) _ c.in_err-add_part-2.field-0.0
    (λ blamed big.
    inr (subst (λ (l : ℕ). IsBigSeen l c.args.ordered.now.circuit c.args.name.now)
    c.in_ok-add_part.ensures.stays.same (inl (blamed, big)))) c.in_err-add_part-2.ensures.big)

pub returns-in_err-seen-clause-big : goal.returns-in_err-seen-clause-big
returns-in_err-seen-clause-big g c =
    let p = err_from_is_err_and c.from_residual-in_err-seen.result
    c.from_residual-in_err-seen.ensures.1 in
    rw (p.1, p.2)
    (blames_weaker
    (λ blamed. IsBigSeen (g.F.Functions.limit c.add_part-2.new.functions) c.args.ordered.now.circuit
    c.args.name.now) _
    c.in_err-seen.field-0.0
    (λ blamed big.
    inr (subst (λ (l : ℕ). IsBigSeen l c.args.ordered.now.circuit c.args.name.now)
    (c.in_ok-add_part-2.ensures.stays.same ∙ c.in_ok-add_part.ensures.stays.same) big))
    c.in_err-seen.ensures.big)

pub returns-clause-inputs : goal.returns-clause-inputs
returns-clause-inputs g c = λ table at.
    meant_from g.F.Functions.holds g.F.Functions.tree g.F.Functions.limit
    c.seen_beside.new.functions (number_in c.add_part.new.numbers)
    (own_function c.args.ordered.now.circuit) table.inputs c.in_ok-inputs.inputs.items
    (all_later g.F.Functions.holds g.F.Functions.tree g.F.Functions.limit
    c.add_part.new.functions c.seen_beside.new.functions (is_signal c.args.ordered.now.circuit)
    (own_function c.args.ordered.now.circuit) (number_in c.add_part.new.numbers)
    (Stays-chain g.F.Functions.holds g.F.Functions.tree g.F.Functions.limit
    c.add_part.new.functions c.add_part-2.new.functions c.seen_beside.new.functions
    c.in_ok-add_part-2.ensures.stays c.in_ok-seen.ensures.stays)
    c.in_ok-add_part.ensures.ok).right
    (c.in_ok-inputs.ensures table at)

pub returns-clause-own : goal.returns-clause-own
returns-clause-own g c =
    (all_later g.F.Functions.holds g.F.Functions.tree g.F.Functions.limit
    c.add_part.new.functions c.seen_beside.new.functions (is_signal c.args.ordered.now.circuit)
    (own_function c.args.ordered.now.circuit) (number_in c.add_part.new.numbers)
    (Stays-chain g.F.Functions.holds g.F.Functions.tree g.F.Functions.limit
    c.add_part.new.functions c.add_part-2.new.functions c.seen_beside.new.functions
    c.in_ok-add_part-2.ensures.stays c.in_ok-seen.ensures.stays)
    c.in_ok-add_part.ensures.ok).right
    c.args.name.now c.known-own.result c.known-own.ensures

pub returns-clause-fits : goal.returns-clause-fits
returns-clause-fits g c =
    all_fit g.F.Functions.holds g.F.Functions.tree g.F.Functions.limit
    c.add_part.new.functions (g.F.Functions.limit c.args.functions.now)
    (leaf_names c.args.ordered.now.circuit) (outputs_of c.args.ordered.now.circuit.tables)
    (own_function c.args.ordered.now.circuit) (number_in c.add_part.new.numbers)
    c.in_ok-add_part.ensures.ok c.in_ok-add_part.ensures.stays.same

pub returns-clause-own_kept : goal.returns-clause-own_kept
returns-clause-own_kept g c =
    some_later g.F.Functions.holds g.F.Functions.tree g.F.Functions.limit c.add_part.new.functions
    c.seen_beside.new.functions (is_signal c.args.ordered.now.circuit)
    (own_function c.args.ordered.now.circuit)
    (number_in c.add_part.new.numbers)
    (Stays-chain g.F.Functions.holds g.F.Functions.tree g.F.Functions.limit
    c.add_part.new.functions c.add_part-2.new.functions c.seen_beside.new.functions
    c.in_ok-add_part-2.ensures.stays c.in_ok-seen.ensures.stays)
    (all_some g.F.Functions.holds g.F.Functions.tree g.F.Functions.limit c.add_part.new.functions
    (is_signal c.args.ordered.now.circuit) (own_function c.args.ordered.now.circuit)
    (number_in c.add_part.new.numbers) c.in_ok-add_part.ensures.ok)

pub returns-clause-free_kept : goal.returns-clause-free_kept
returns-clause-free_kept g c =
    some_later g.F.Functions.holds g.F.Functions.tree g.F.Functions.limit c.add_part-2.new.functions
    c.seen_beside.new.functions (is_free_signal c.args.ordered.now.circuit)
    (free_function c.args.ordered.now.circuit)
    (number_in c.add_part-2.new.numbers) c.in_ok-seen.ensures.stays
    (all_some g.F.Functions.holds g.F.Functions.tree g.F.Functions.limit c.add_part-2.new.functions
    (is_free_signal c.args.ordered.now.circuit) (free_function c.args.ordered.now.circuit)
    (number_in c.add_part-2.new.numbers) c.in_ok-add_part-2.ensures.ok)
