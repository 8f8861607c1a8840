use Rattle.std.proofs.Common.{◌≡◌, ℕ, List, true, false, bytes_eq, inl, inr, ◌∙◌, subst}
use Rattle.std.proofs.lemmas.Result.{err_from_is_err_and, IfErr-weaker}
use Rattle.indexmap.specs.IndexMap.{get}
use Rattle.circuit_model.specs.declared.circuit.Table.{Table}
use Rattle.circuit_order.specs.Places.{IsIndex}
use Rattle.func_core.proofs.Meanings.{Stays-chain}
use Rattle.net_func.specs.Numbering.{number_in}
use Rattle.net_func.specs.Signals.{forced_function, free_function, IsBigAt, IsBigSeen}
use Rattle.net_func.specs.Kept.{is_signal}
use Rattle.net_func.proofs.Adding.{blames_weaker}
use Rattle.net_func.proofs.Turning.{all_later}
use Rattle.net_func.proofs.seen.seen_function.Goals as goal

pub places_of-requires : goal.places_of-requires
places_of-requires g c = rw c.as_slice.ensures c.requires.sound.dont_care_once

pub seen_by-requires-clause-low : goal.seen_by-requires-clause-low
seen_by-requires-clause-low g c =
    all_later g.F.Functions.holds g.F.Functions.tree g.F.Functions.limit
    c.forced_numbers.new.functions c.part_numbers.new.functions (is_signal c.args.circuit.now)
    (forced_function c.args.circuit.now c.args.name.now false) (number_in c.in_ok-low.low)
    (Stays-chain g.F.Functions.holds g.F.Functions.tree g.F.Functions.limit
    c.forced_numbers.new.functions c.forced_numbers-2.new.functions c.part_numbers.new.functions
    c.in_ok-high.ensures.stays c.in_ok-free.ensures.stays)
    c.in_ok-low.ensures.ok

pub seen_by-requires-clause-high : goal.seen_by-requires-clause-high
seen_by-requires-clause-high g c =
    all_later g.F.Functions.holds g.F.Functions.tree g.F.Functions.limit
    c.forced_numbers-2.new.functions c.part_numbers.new.functions (is_signal c.args.circuit.now)
    (forced_function c.args.circuit.now c.args.name.now true) (number_in c.in_ok-high.high)
    c.in_ok-free.ensures.stays c.in_ok-high.ensures.ok

pub seen_by-requires-clause-places : goal.seen_by-requires-clause-places
seen_by-requires-clause-places g c =
    subst (λ (tables : List Table). IsIndex tables (get bytes_eq c.in_ok-places_of.field-0))
    c.as_slice.ensures c.in_ok-places_of.ensures

pub returns-in_err-low-clause-big : goal.returns-in_err-low-clause-big
returns-in_err-low-clause-big g c =
    let p = err_from_is_err_and c.from_residual.result c.from_residual.ensures.1 in
    rw (p.1, p.2)
    (blames_weaker
    (λ blamed. (bytes_eq blamed c.args.name.now ≡ false)
    × IsBigAt (g.F.Functions.limit c.args.functions.now) c.args.circuit.now.tables
    (forced_function c.args.circuit.now c.args.name.now false) blamed) _ c.in_err-low.field-0.0
    (λ blamed cause. inr (inl (false, (blamed, cause.0, cause.1)))) c.in_err-low.ensures.big)

pub returns-in_err-high-clause-big : goal.returns-in_err-high-clause-big
returns-in_err-high-clause-big g c =
    let p = err_from_is_err_and c.from_residual-in_err-high.result
    c.from_residual-in_err-high.ensures.1 in
    rw (p.1, p.2)
    (blames_weaker
    (λ blamed. (bytes_eq blamed c.args.name.now ≡ false)
    × IsBigAt (g.F.Functions.limit c.forced_numbers.new.functions) c.args.circuit.now.tables
    (forced_function c.args.circuit.now c.args.name.now true) blamed) _ c.in_err-high.field-0.0
    (λ blamed cause.
    subst (λ (l : ℕ). IsBigSeen l c.args.circuit.now c.args.name.now) c.in_ok-low.ensures.stays.same
    (inr (inl (true, (blamed, cause.0, cause.1))))) c.in_err-high.ensures.big)

pub returns-in_err-free-clause-big : goal.returns-in_err-free-clause-big
returns-in_err-free-clause-big g c =
    let p = err_from_is_err_and c.from_residual-in_err-free.result
    c.from_residual-in_err-free.ensures.1 in
    rw (p.1, p.2)
    (blames_weaker
    (IsBigAt (g.F.Functions.limit c.forced_numbers-2.new.functions)
    c.args.circuit.now.dont_care (free_function c.args.circuit.now)) _ c.in_err-free.field-0.0
    (λ blamed big.
    subst (λ (l : ℕ). IsBigSeen l c.args.circuit.now c.args.name.now)
    (c.in_ok-high.ensures.stays.same ∙ c.in_ok-low.ensures.stays.same) (inl (blamed, big)))
    c.in_err-free.ensures.big)

pub returns-clause-big : goal.returns-clause-big
returns-clause-big g c =
    IfErr-weaker c.seen_by.result _ _
    (λ fault.
    blames_weaker
    (λ blamed. IsBigSeen (g.F.Functions.limit c.part_numbers.new.functions) c.args.circuit.now
    c.args.name.now) _ fault
    (λ blamed big.
    subst (λ (l : ℕ). IsBigSeen l c.args.circuit.now c.args.name.now)
    (c.in_ok-free.ensures.stays.same ∙ (c.in_ok-high.ensures.stays.same
    ∙ c.in_ok-low.ensures.stays.same)) big))
    c.seen_by.ensures.big
