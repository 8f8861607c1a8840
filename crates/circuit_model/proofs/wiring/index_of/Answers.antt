use Rattle.std.specs.Prelude.{◌≡◌, None, [], length, bytes_eq}
use Rattle.std.proofs.Common.{refl, sym, ◌∙◌}
use Rattle.std.proofs.Math.Path.{fun_ext}
use Rattle.std.proofs.lemmas.List.{nil_from_length}
use Rattle.indexmap.specs.IndexMap.{get}
use Rattle.circuit_model.specs.Levels.{place_in}
use Rattle.circuit_model.proofs.Levels.{index_first, index_more, index_last}
use Rattle.circuit_model.proofs.wiring.index_of.Goals as goal

pub loop-name-init : goal.loop-name-init
loop-name-init c = λ name.
    let e : get bytes_eq c.new-index.result name ≡ None = rw c.new-index.ensures.empty refl in
    rw e (index_first (place_in c.args.names.items name))

pub loop-name-preserved : goal.loop-name-preserved
loop-name-preserved c =
    let place : c.len.result ≡ length c.pop.new.self.items = c.len.ensures ∙ c.pop.new.self.ok.0 in
    index_more c.pop.new.self.items c.in-Some.name (get bytes_eq c.loop-name.index) (get bytes_eq c.insert.new.self) c.args.names.items
    (λ name. rw (← c.in-Some.ensures.items) (c.loop-name.invariant name))
    (λ name. rw (← place) (c.in_ok-insert.ensures.updates.0 name))

pub returns : goal.returns
returns c =
    let none : c.loop-name.left.items ≡ [] = nil_from_length _ (sym c.loop-name.left.ok.0 ∙ c.in_default.ensures.cases.0) in
    fun_ext (index_last (get bytes_eq c.loop-name.index) c.loop-name.left.items c.args.names.items none c.loop-name.invariant)
