use Rattle.std.proofs.Common.{◌≡◌, ℕ, true, List, [], map, sym, ap, ◌∙◌, subst}
use Rattle.std.proofs.lemmas.Result.{IfOk-weaker}
use Rattle.circuit_model.specs.Names.{all_different}
use Rattle.circuit_model.specs.declared.circuit.Table.{Table}
use Rattle.cube_cover.specs.Covers.{Shape}
use Rattle.net_core.specs.Reads.{IsBounded}
use Rattle.net_core.specs.Tables.{named, characters_of}
use Rattle.net_core.specs.declared.table.CoverTable.{CoverTable}
use Rattle.circuit_tables.specs.Tidy.{tidied}
use Rattle.circuit_tables.proofs.Tidied.{tidied_once}
use Rattle.net_decomp.proofs.stepping.tidy_table.Goals as goal

pub returns-clause-tidy : goal.returns-clause-tidy
unfolding named
returns-clause-tidy g c =
    IfOk-weaker c.bounded.result (λ made. (made ≡ c.in_ok-made.made) × ((name : List ℕ) → IsBounded (named name c.in_ok-made.made)))
    (λ made. (name : List ℕ) → named name made ≡ tidied (record { inputs = c.args.inputs; output = name; rows = map characters_of (map g.R.Row.literals c.args.rows.items); phase = c.args.phase }))
    (λ made h. λ name.
    ap (λ (t : CoverTable g.row.R.Denot). named name t) h.0 ∙ c.in_ok-made.ensures.tidy name
    ∙ ap (λ (cover : Shape). tidied (record { inputs = c.args.inputs; output = name; rows = map characters_of cover.rows; phase = c.args.phase })) c.of-cover.ensures)
    c.bounded.ensures

pub returns-clause-once : goal.returns-clause-once
unfolding named
returns-clause-once g c =
    IfOk-weaker c.bounded.result (λ made. (made ≡ c.in_ok-made.made) × ((name : List ℕ) → IsBounded (named name c.in_ok-made.made)))
    (λ made. all_different made.inputs ≡ true)
    (λ made h.
    ap (λ (t : CoverTable g.row.R.Denot). all_different t.inputs) h.0 ∙ ap (λ (t : Table). all_different t.inputs) (c.in_ok-made.ensures.tidy []) ∙ tidied_once _)
    c.bounded.ensures

pub returns-clause-bounded : goal.returns-clause-bounded
returns-clause-bounded g c =
    IfOk-weaker c.bounded.result (λ made. (made ≡ c.in_ok-made.made) × ((name : List ℕ) → IsBounded (named name c.in_ok-made.made)))
    (λ made. (name : List ℕ) → IsBounded (named name made))
    (λ made h. λ name. subst (λ (t : CoverTable g.row.R.Denot). IsBounded (named name t)) (sym h.0) (h.1 name))
    c.bounded.ensures
