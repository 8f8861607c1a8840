use Rattle.std.proofs.Common.{ℕ, List, ◌+◌, sym, ap, ◌∙◌, subst, nat_cmp}
use Rattle.std.specs.List.{sum_by}
use Rattle.std.specs.List.Sorted.{IsStrictlySortedBy}
use Rattle.std.proofs.lemmas.Result.{on_ok_weaker}
use Rattle.net_gains.specs.Totals.{total_of}
use Rattle.net_gains.specs.Gains.{over_pairs}
use Rattle.net_gains.specs.CodedGains.{own, shared}
use Rattle.net_gains.specs.Turning.{either_gain, own_products}
use Rattle.net_gains.proofs.Paired.{own_rises, own_products_split}
use Rattle.net_gains.proofs.Pairing.{all_units}
use Rattle.net_gains.proofs.Turned.{allowed_first, allowed_then, turned_then}
use Rattle.net_gains.proofs.pairs.note_own_products.Goals as goal

pub own_parts-requires-2-clause-other : goal.own_parts-requires-2-clause-other
own_parts-requires-2-clause-other c = subst (IsStrictlySortedBy nat_cmp) (sym (c.as_slice.ensures ∙ c.in_ok-ours.ensures.0)) (own_rises c.args.cube.now c.args.partner.now c.requires.cube)

pub note_within-requires-clause-items : goal.note_within-requires-clause-items
note_within-requires-clause-items c = all_units c.as_slice-2.result.now

pub note_within-requires-clause-allowed : goal.note_within-requires-clause-allowed
note_within-requires-clause-allowed c =
    allowed_first c.args.change (total_of c.args.totals.now) (λ cover. own_products cover c.args.cube.now c.args.partner.now) (λ cover. over_pairs (either_gain cover) c.as_slice-2.result.now)
    (λ cover. sum_by (λ number. sum_by (either_gain cover number) (shared c.args.cube.now c.args.partner.now)) (own c.args.cube.now c.args.partner.now)) c.requires.allowed
    (λ cover. ap (λ (xs : List ℕ). over_pairs (either_gain cover) xs + sum_by (λ number. sum_by (either_gain cover number) (shared c.args.cube.now c.args.partner.now)) (own c.args.cube.now c.args.partner.now)) (sym (c.as_slice-2.ensures ∙ c.in_ok-ours.ensures.0)))

pub note_across-requires-clause-items : goal.note_across-requires-clause-items
note_across-requires-clause-items c = all_units c.as_slice-3.result.now

pub note_across-requires-clause-others : goal.note_across-requires-clause-others
note_across-requires-clause-others c = all_units c.as_slice-4.result.now

pub note_across-requires-clause-allowed : goal.note_across-requires-clause-allowed
note_across-requires-clause-allowed c =
    allowed_then c.args.change (total_of c.args.totals.now) (total_of c.note_within.new.totals) (λ cover. own_products cover c.args.cube.now c.args.partner.now) (λ cover. over_pairs (either_gain cover) c.as_slice-2.result.now)
    (λ cover. sum_by (λ number. sum_by (either_gain cover number) c.as_slice-4.result.now) c.as_slice-3.result.now) c.requires.allowed c.in_ok-note_within.ensures
    (λ cover. own_products_split cover c.args.cube.now c.args.partner.now c.as_slice-2.result.now c.as_slice-3.result.now c.as_slice-4.result.now (c.as_slice-2.ensures ∙ c.in_ok-ours.ensures.0) (c.as_slice-3.ensures ∙ c.in_ok-ours.ensures.0) (c.as_slice-4.ensures ∙ (c.in_ok-both.ensures.0 ∙ ap (own c.args.cube.now) (c.as_slice.ensures ∙ c.in_ok-ours.ensures.0))))

pub returns : goal.returns
returns c =
    on_ok_weaker c.note_across.result
    (λ turned.
    turned_then c.args.change (total_of c.args.totals.now) (total_of c.note_within.new.totals) (total_of c.note_across.new.totals) (λ cover. own_products cover c.args.cube.now c.args.partner.now) (λ cover. over_pairs (either_gain cover) c.as_slice-2.result.now)
    (λ cover. sum_by (λ number. sum_by (either_gain cover number) c.as_slice-4.result.now) c.as_slice-3.result.now) c.in_ok-note_within.ensures turned
    (λ cover. own_products_split cover c.args.cube.now c.args.partner.now c.as_slice-2.result.now c.as_slice-3.result.now c.as_slice-4.result.now (c.as_slice-2.ensures ∙ c.in_ok-ours.ensures.0) (c.as_slice-3.ensures ∙ c.in_ok-ours.ensures.0) (c.as_slice-4.ensures ∙ (c.in_ok-both.ensures.0 ∙ ap (own c.args.cube.now) (c.as_slice.ensures ∙ c.in_ok-ours.ensures.0)))))
    c.note_across.ensures
