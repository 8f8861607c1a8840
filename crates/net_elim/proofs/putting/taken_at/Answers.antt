use Rattle.std.proofs.Common.{◌≡◌, Some, List, ℕ, true}
use Rattle.std.proofs.lemmas.Result.{IfOk-weaker}
use Rattle.circuit_model.specs.Names.{all_different}
use Rattle.circuit_model.specs.declared.circuit.Table.{Table}
use Rattle.net_core.specs.Places.{written_of}
use Rattle.net_core.specs.Tables.{named}
use Rattle.net_work.specs.Placed.{table_at}
use Rattle.alg_tables.specs.Taking.{composed_into}
use Rattle.net_elim.proofs.Fanouts.{made_is, made_once}
use Rattle.net_elim.proofs.putting.taken_at.Goals as goal

pub returns-clause-ok : goal.returns-clause-ok
returns-clause-ok g c =
    IfOk-weaker c.compose_into.result (λ made. (output : List ℕ) → named output made ≡ composed_into (written_of c.args.inner.now) (named output c.in-Some.outer.now.table))
    (λ made. (outer : Table) → table_at c.args.work.now.slots c.args.place ≡ Some outer → named outer.output made ≡ composed_into (written_of c.args.inner.now) outer)
    (λ made ok. made_is c.args.work.now.slots c.args.place (written_of c.args.inner.now) c.in-Some.outer.now made c.in-Some.ensures.table ok)
    c.compose_into.ensures.ok

pub returns-clause-once : goal.returns-clause-once
returns-clause-once g c =
    IfOk-weaker c.compose_into.result (λ made. (output : List ℕ) → named output made ≡ composed_into (written_of c.args.inner.now) (named output c.in-Some.outer.now.table)) (λ made. all_different made.inputs ≡ true)
    (λ made ok. made_once (written_of c.args.inner.now) c.in-Some.outer.now made c.in-Some.ensures.once ok)
    c.compose_into.ensures.ok
