use Rattle.std.proofs.Common.{◌≡◌, List, refl, ap, ◌∙◌, sym, length, ◌++◌, ◌∷◌, [], append_assoc, arith}
use Rattle.std.specs.Vec.Iter.{into_iter_items}
use Rattle.circuit_model.specs.Names.{all_different}
use Rattle.circuit_model.specs.Soundness.{outputs_of}
use Rattle.circuit_model.specs.declared.circuit.Table.{Table}
use Rattle.net_core.specs.Tables.{named, covered}
use Rattle.net_core.proofs.Rows.{written_back}
use Rattle.net_core.proofs.Indexing.{next_is_new}
use Rattle.net_core.proofs.network.tables_from.Goals as goal

pub push-requires-clause-new : goal.push-requires-clause-new
push-requires-clause-new g c =
    let at = c.loop-written in
    let rest = into_iter_items c.next.new.self in
    let whole : at.made ++ c.in-Some.written ∷ rest ≡ c.args.tables.items =
    ap (λ (ts : List Table). at.made ++ ts) (sym c.in-Some.ensures.steps.0)
    ∙ (at.invariant.0 ∙ c.into_iter-written-iterator.ensures.into_iter_gives.0) in
    next_is_new at.made c.in-Some.written rest
    (ap (λ (ts : List Table). all_different (outputs_of ts)) whole ∙ c.requires.distinct)

pub loop-written-preserved : goal.loop-written-preserved
unfolding covered
loop-written-preserved g c =
    let at = c.loop-written in
    let written = c.in-Some.written in
    let rest = into_iter_items c.next.new.self in
    let steps : into_iter_items at.written-iterator ≡ written ∷ rest = c.in-Some.ensures.steps.0 in
    let same : c.in_ok-table.table ≡ covered written =
    rw (c.in_ok-table.ensures, c.as_slice.ensures) refl in
    let last : named written.output c.in_ok-table.table ≡ written =
    ap (named written.output) same ∙ written_back _ written in (
      rw c.in_ok-push.ensures.ok (append_assoc at.made (named written.output c.in_ok-table.table ∷ []) rest)
          ∙ (ap (λ (t : Table). at.made ++ t ∷ rest) last
          ∙ (ap (λ (ts : List Table). at.made ++ ts) (sym steps) ∙ at.invariant.0)),
      let was = at.invariant.1 in
          let gone = c.in-Some.ensures.steps.1 in
          let short = ap length steps in
          omega arith,
    )
