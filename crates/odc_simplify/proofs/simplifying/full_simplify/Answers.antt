use Rattle.std.proofs.Common.{sym, ◌∙◌}
use Rattle.odc_simplify.proofs.Serving.{serves_first}
use Rattle.odc_simplify.proofs.Whole.{whole_driven, whole_failed, whole_passed, whole_made}
use Rattle.odc_simplify.proofs.Whole.{whole_kept, whole_refines, whole_bounded}
use Rattle.odc_simplify.proofs.simplifying.full_simplify.Goals as goal

pub minimize_along-requires : goal.minimize_along-requires
minimize_along-requires g c = record {
  driven = whole_driven (g.F.Functions.limit c.args.functions.now) c.args.network.now
      c.in_ok-made.made c.as_slice-names.result.now c.in_ok-made.ensures
      (c.as_slice-names.ensures ∙ c.in_ok-order.ensures) c.sound.ensures;
  serves = serves_first g.F.Functions.holds g.F.Functions.tree g.F.Functions.limit
      c.args.functions.now c.in_ok-made.made c.in_ok-kept.kept c.in_ok-kept.ensures.ready
      (c.in_ok-kept.ensures.same ∙ sym c.in_ok-made.ensures) c.in_ok-kept.ensures.none;
}

pub returns-in-Ok-clause-simplified : goal.returns-in-Ok-clause-simplified
returns-in-Ok-clause-simplified g c = (
  whole_passed (g.F.Functions.limit c.args.functions.now) c.args.network.now
      c.in_ok-made.made c.as_slice-names.result.now c.in_ok-made.ensures
      (c.as_slice-names.ensures ∙ c.in_ok-order.ensures) c.minimize_along.new.network
      c.in-Ok.ensures.turned,
  whole_made (g.F.Functions.limit c.args.functions.now) c.args.network.now
      c.in_ok-made.made c.as_slice-names.result.now c.in_ok-made.ensures
      (c.as_slice-names.ensures ∙ c.in_ok-order.ensures) c.minimize_along.new.network
      c.in-Ok.ensures.turned,
)

pub returns-in-Ok-clause-kept : goal.returns-in-Ok-clause-kept
returns-in-Ok-clause-kept g c =
    whole_kept (g.F.Functions.limit c.args.functions.now) c.args.network.now
    c.in_ok-made.made c.as_slice-names.result.now c.in_ok-made.ensures
    (c.as_slice-names.ensures ∙ c.in_ok-order.ensures) c.minimize_along.new.network
    c.in-Ok.ensures.turned c.sound.ensures

pub returns-in-Ok-clause-refines : goal.returns-in-Ok-clause-refines
returns-in-Ok-clause-refines g c =
    whole_refines (g.F.Functions.limit c.args.functions.now) c.args.network.now
    c.in_ok-made.made c.as_slice-names.result.now c.in_ok-made.ensures
    (c.as_slice-names.ensures ∙ c.in_ok-order.ensures) c.minimize_along.new.network
    c.in-Ok.ensures.turned c.sound.ensures

pub returns-in-Ok-clause-bounds : goal.returns-in-Ok-clause-bounds
returns-in-Ok-clause-bounds g c = λ bounds.
    whole_bounded (g.F.Functions.limit c.args.functions.now) c.args.network.now
    c.in_ok-made.made c.as_slice-names.result.now c.in_ok-made.ensures
    (c.as_slice-names.ensures ∙ c.in_ok-order.ensures) c.minimize_along.new.network
    c.in-Ok.ensures.turned c.sound.ensures bounds

pub returns-clause-simplified : goal.returns-clause-simplified
returns-clause-simplified g c =
    whole_failed (g.F.Functions.limit c.args.functions.now) c.args.network.now
    c.in_ok-made.made c.as_slice-names.result.now c.in_ok-made.ensures
    (c.as_slice-names.ensures ∙ c.in_ok-order.ensures) c.in-Err.fault c.in-Err.ensures.fault
