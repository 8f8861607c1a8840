use Rattle.std.proofs.Common.{◌≡◌, ℕ, ◌-◌, suc, Some, List, length, sym, subst, arith}
use Rattle.cover_names.specs.Literals.{NamedCover}
use Rattle.net_work.specs.Placed.{standing}
use Rattle.net_savings.specs.Indexed.{IsLostIn}
use Rattle.net_savings.specs.Saving.{AreLosses}
use Rattle.net_savings.proofs.Told.{told_lost, wide_lost}
use Rattle.net_savings.proofs.saving.lost_by_rows.Goals as goal

pub returns-in-None : goal.returns-in-None
returns-in-None g c =
    let losses = rw c.in-None.is at c.in_ok-losses_at.ensures in
    wide_lost c.args.work.now c.args.name.now c.args.cover.now c.as_slice.result.now losses

pub returns-in_ok-lost-in-Some : goal.returns-in_ok-lost-in-Some
returns-in_ok-lost-in-Some g c =
    let losses = rw c.in-Some.is at c.in_ok-losses_at.ensures in
    subst (λ (cover : NamedCover). IsLostIn (standing c.args.work.now.slots) c.args.name.now cover (Some c.in_ok-lost-in-Some.lost)) (sym c.requires.one)
    (told_lost c.args.work.now c.args.index.now.names.keys c.args.index.now.rows c.args.index.now.spans.items c.args.index.now.others.items c.requires.index c.args.name.now c.requires.free c.args.cube.now c.requires.known c.requires.apart
    c.requires.some c.in-Some.rest c.in_ok-count.count (length c.args.cube.now - 1) c.in_ok-product-in-Some.product c.in_ok-lost-in-Some.lost
    (subst (λ (cover : NamedCover). AreLosses c.args.name.now cover c.args.work.now.slots c.args.index.now.others.items (Some c.in-Some.rest)) c.requires.one
    (subst (λ (places : List ℕ). AreLosses c.args.name.now c.args.cover.now c.args.work.now.slots places (Some c.in-Some.rest)) c.as_slice.ensures.value losses))
    c.in_ok-count.ensures (let long : length c.args.cube.now ≡ suc (length c.args.cube.now - 1) = omega (arith, c.requires.some) in long) c.in_ok-product-in-Some.ensures c.in_ok-lost-in-Some.ensures)
