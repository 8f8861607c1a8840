use Rattle.std.proofs.Common.{◌∙◌, ℕ, List, bytes_eq, position, sym, ap}
use Rattle.std.proofs.lemmas.Result.{err_from_is_err_and}
use Rattle.net_core.specs.Tables.{named}
use Rattle.alg_tables.proofs.Steps.{taken_there, taken_nowhere, refusal_there, refusal_nowhere, apart_there, fault_there}
use Rattle.alg_tables.proofs.taking.compose_into.Goals as goal

pub taken_at-requires-clause-apart : goal.taken_at-requires-clause-apart
taken_at-requires-clause-apart g c =
    apart_there c.args.outer.now.inputs c.args.inner.now.inputs c.args.name.now c.in-Some.place
    (sym (ap (λ (names : List (List ℕ)). position (bytes_eq c.args.name.now) names) c.as_slice.ensures) ∙ sym c.place_among.ensures ∙ c.in-Some.is) c.requires.apart

pub returns-in_ok-same-in-None-clause-ok : goal.returns-in_ok-same-in-None-clause-ok
returns-in_ok-same-in-None-clause-ok g c = λ output.
    ap (λ table. named output table) c.in_ok-same-in-None.ensures
    ∙ sym (taken_nowhere c.args.name.now output c.args.inner.now c.args.outer.now
    (sym (ap (λ (names : List (List ℕ)). position (bytes_eq c.args.name.now) names) c.as_slice.ensures) ∙ sym c.place_among.ensures ∙ c.in-None.is))

pub returns-in_ok-same-in-None-clause-within : goal.returns-in_ok-same-in-None-clause-within
returns-in_ok-same-in-None-clause-within g c = λ output.
    refusal_nowhere c.args.list_limit c.args.row_limit c.args.name.now output c.args.inner.now c.args.outer.now
    (sym (ap (λ (names : List (List ℕ)). position (bytes_eq c.args.name.now) names) c.as_slice.ensures) ∙ sym c.place_among.ensures ∙ c.in-None.is)

pub returns-in_err-taken-in-Some-clause-fault : goal.returns-in_err-taken-in-Some-clause-fault
returns-in_err-taken-in-Some-clause-fault g c =
    let p = err_from_is_err_and c.from_residual-in_err-taken-in-Some.result c.from_residual-in_err-taken-in-Some.ensures.1 in
    rw (p.1, p.2)
    (fault_there c.args.list_limit c.args.row_limit c.args.name.now c.args.inner.now c.args.outer.now c.in-Some.place c.in_err-taken-in-Some.field-0.0
    (sym (ap (λ (names : List (List ℕ)). position (bytes_eq c.args.name.now) names) c.as_slice.ensures) ∙ sym c.place_among.ensures ∙ c.in-Some.is) c.in_err-taken-in-Some.ensures.fault)

pub returns-in_ok-taken-in-Some-clause-ok : goal.returns-in_ok-taken-in-Some-clause-ok
returns-in_ok-taken-in-Some-clause-ok g c = λ output.
    c.in_ok-taken-in-Some.ensures.ok c.args.name.now output
    ∙ sym (taken_there c.args.name.now output c.args.inner.now c.args.outer.now c.in-Some.place
    (sym (ap (λ (names : List (List ℕ)). position (bytes_eq c.args.name.now) names) c.as_slice.ensures) ∙ sym c.place_among.ensures ∙ c.in-Some.is))

pub returns-in_ok-taken-in-Some-clause-within : goal.returns-in_ok-taken-in-Some-clause-within
returns-in_ok-taken-in-Some-clause-within g c = λ output.
    refusal_there c.args.list_limit c.args.row_limit c.args.name.now output c.args.inner.now c.args.outer.now c.in-Some.place
    (sym (ap (λ (names : List (List ℕ)). position (bytes_eq c.args.name.now) names) c.as_slice.ensures) ∙ sym c.place_among.ensures ∙ c.in-Some.is)
    ∙ c.in_ok-taken-in-Some.ensures.within c.args.name.now output
