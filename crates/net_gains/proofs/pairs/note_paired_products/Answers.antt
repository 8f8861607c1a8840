use Rattle.std.proofs.Common.{◌+◌, map, refl, sym, ap, ◌∙◌, subst, arith, drop, nat_cmp}
use Rattle.std.specs.List.Sorted.{IsStrictlySortedBy}
use Rattle.std.proofs.lemmas.List.{length-map}
use Rattle.net_gains.specs.Totals.{total_of}
use Rattle.net_gains.specs.Turning.{own_products, paired_products}
use Rattle.net_gains.proofs.Paired.{paired_next, paired_past, partner_rises}
use Rattle.net_gains.proofs.Pairing.{all_mapped}
use Rattle.net_gains.proofs.Summed.{all_at}
use Rattle.net_gains.proofs.Turned.{partly_begun, partly_allowed, partly_more, partly_ended}
use Rattle.net_gains.proofs.pairs.note_paired_products.Goals as goal

pub loop-place-init : goal.loop-place-init
loop-place-init c =
    partly_begun c.args.change (total_of c.args.totals.now) (λ cover. paired_products cover (map (λ cube. cube.items) c.args.cubes.now) (map (λ cube. cube.items) c.args.partners.now)) (λ cover. paired_products cover (drop 0 (map (λ cube. cube.items) c.args.cubes.now)) (drop 0 (map (λ cube. cube.items) c.args.partners.now))) (λ cover. refl)

pub note_own_products-requires-clause-cube : goal.note_own_products-requires-clause-cube
note_own_products-requires-clause-cube c =
    subst (IsStrictlySortedBy nat_cmp) (sym (c.as_slice-cube.ensures.value ∙ ap (λ cube. cube.items) c.index-cubes-place.is))
    (all_at (λ cube. IsStrictlySortedBy nat_cmp cube.items) c.args.cubes.now c.loop-place.place c.index-cubes-place.result c.loop-place-test.true (all_mapped (λ cube. cube.items) (IsStrictlySortedBy nat_cmp) c.args.cubes.now c.requires.cubes))

pub note_own_products-requires-clause-partner : goal.note_own_products-requires-clause-partner
note_own_products-requires-clause-partner c =
    subst (IsStrictlySortedBy nat_cmp) (sym c.partner_at.ensures) (partner_rises (map (λ cube. cube.items) c.args.partners.now) c.loop-place.place c.requires.partners)

pub note_own_products-requires-clause-allowed : goal.note_own_products-requires-clause-allowed
note_own_products-requires-clause-allowed c =
    partly_allowed c.args.change (total_of c.args.totals.now) (total_of c.loop-place.totals) (λ cover. paired_products cover (map (λ cube. cube.items) c.args.cubes.now) (map (λ cube. cube.items) c.args.partners.now))
    (λ cover. paired_products cover (drop c.loop-place.place (map (λ cube. cube.items) c.args.cubes.now)) (drop c.loop-place.place (map (λ cube. cube.items) c.args.partners.now)))
    (λ cover. own_products cover c.as_slice-cube.result.now c.partner_at.result.now)
    (λ cover. paired_products cover (drop (c.loop-place.place + 1) (map (λ cube. cube.items) c.args.cubes.now)) (drop (c.loop-place.place + 1) (map (λ cube. cube.items) c.args.partners.now))) c.requires.allowed c.loop-place.invariant
    (λ cover. paired_next cover (λ cube. cube.items) c.args.cubes.now (map (λ cube. cube.items) c.args.partners.now) c.loop-place.place c.index-cubes-place.result c.index-cubes-place.result c.as_slice-cube.result.now c.partner_at.result.now c.loop-place-test.true c.index-cubes-place.is c.as_slice-cube.ensures.value c.partner_at.ensures)

pub loop-place-preserved : goal.loop-place-preserved
loop-place-preserved c =
    partly_more c.args.change (total_of c.args.totals.now) (total_of c.loop-place.totals) (total_of c.note_own_products.new.totals) (λ cover. paired_products cover (map (λ cube. cube.items) c.args.cubes.now) (map (λ cube. cube.items) c.args.partners.now))
    (λ cover. paired_products cover (drop c.loop-place.place (map (λ cube. cube.items) c.args.cubes.now)) (drop c.loop-place.place (map (λ cube. cube.items) c.args.partners.now)))
    (λ cover. own_products cover c.as_slice-cube.result.now c.partner_at.result.now)
    (λ cover. paired_products cover (drop (c.loop-place.place + 1) (map (λ cube. cube.items) c.args.cubes.now)) (drop (c.loop-place.place + 1) (map (λ cube. cube.items) c.args.partners.now))) c.loop-place.invariant
    (λ cover. paired_next cover (λ cube. cube.items) c.args.cubes.now (map (λ cube. cube.items) c.args.partners.now) c.loop-place.place c.index-cubes-place.result c.index-cubes-place.result c.as_slice-cube.result.now c.partner_at.result.now c.loop-place-test.true c.index-cubes-place.is c.as_slice-cube.ensures.value c.partner_at.ensures) c.in_ok-note_own_products.ensures

pub returns : goal.returns
returns c =
    partly_ended c.args.change (total_of c.args.totals.now) (total_of c.loop-place.totals) (λ cover. paired_products cover (map (λ cube. cube.items) c.args.cubes.now) (map (λ cube. cube.items) c.args.partners.now))
    (λ cover. paired_products cover (drop c.loop-place.place (map (λ cube. cube.items) c.args.cubes.now)) (drop c.loop-place.place (map (λ cube. cube.items) c.args.partners.now))) c.loop-place.invariant
    (λ cover. paired_past cover (map (λ cube. cube.items) c.args.cubes.now) (drop c.loop-place.place (map (λ cube. cube.items) c.args.partners.now)) c.loop-place.place (let long = length-map c.args.cubes.now (λ cube. cube.items) in omega (arith, long, c.loop-place-test.false)))
