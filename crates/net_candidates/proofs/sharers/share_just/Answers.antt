use Rattle.std.proofs.Common.{◌≡◌, ◌∙◌, ◌<◌, length, get_or, true, false, sym, ap, arith}
use Rattle.cover_names.specs.Literals.{Cube}
use Rattle.std.proofs.lemmas.Bool.{false≢true, not-true, not-false}
use Rattle.std.proofs.lemmas.Bool.Decides.{Decides-eqb}
use Rattle.std.specs.List.{list_any}
use Rattle.net_candidates.specs.Candidates.{same_literal}
use Rattle.net_candidates.proofs.JustShared.{far_passed, far_met, far_differs, far_ended, far_all}
use Rattle.net_candidates.proofs.sharers.share_just.Goals as goal
use Rattle.net_candidates.proofs.sharers.share_just.Goals.{then-has_literal+else-count-wanted+else-ne, else-has_literal}
use Rattle.net_candidates.proofs.sharers.share_just.Goals.{then-count-wanted-via-then-count-wanted, then-count-wanted-via-else-count-wanted+then-ne}

pub returns-then-count-wanted : goal.returns-then-count-wanted
returns-then-count-wanted c =
    let lt : c.loop-literal.literal-index < length c.args.one.now = omega (arith, ap (λ (xs : Cube). length xs) c.as_slice-literal-items.ensures) in
    let is : c.literal-item.result ≡ get_or c.args.one.now c.loop-literal.literal-index c.literal-item.result = cc in
    let there : list_any (same_literal c.literal-item.result) c.args.other.now ≡ true = cc in
    elim c.then-count-wanted.branch [
      | then-count-wanted-via-then-count-wanted w ↦ (
        λ h. absurd (false≢true h),
        λ k. absurd (far_ended c.args.one.now c.args.other.now c.args.cube.now c.loop-literal.literal-index c.loop-literal.count c.literal-item.result lt is there (omega (arith, ap (λ (xs : Cube). length xs) c.as_slice-wanted.ensures)) c.loop-literal.invariant.rest k),
      )
      | then-count-wanted-via-else-count-wanted+then-ne w ↦ (
        λ h. absurd (false≢true h),
        λ k.
            let at : w.index-wanted-count.result ≡ get_or c.args.cube.now c.loop-literal.count w.index-wanted-count.result = cc in
            absurd (far_differs c.args.one.now c.args.other.now c.args.cube.now c.loop-literal.literal-index c.loop-literal.count c.literal-item.result w.index-wanted-count.result lt is there (omega (arith, ap (λ (xs : Cube). length xs) c.as_slice-wanted.ensures)) at
            (not-true (same_literal w.index-wanted-count.result c.literal-item.result) (sym w.ne.ensures ∙ w.if-ne.true)) c.loop-literal.invariant.rest k),
      )
    ]

pub loop-literal-preserved : goal.loop-literal-preserved
loop-literal-preserved c =
    let lt : c.loop-literal.literal-index < length c.args.one.now = omega (arith, ap (λ (xs : Cube). length xs) c.as_slice-literal-items.ensures) in
    let is : c.literal-item.result ≡ get_or c.args.one.now c.loop-literal.literal-index c.literal-item.result = cc in
    elim c.if-has_literal.branch [
      | then-has_literal+else-count-wanted+else-ne w ↦ (
          let there : list_any (same_literal c.literal-item.result) c.args.other.now ≡ true = cc in
          let at : w.index-wanted-count.result ≡ get_or c.args.cube.now c.loop-literal.count w.index-wanted-count.result = cc in
          rw w.count-is (record {
            within = omega (arith, ap (λ (xs : Cube). length xs) c.as_slice-wanted.ensures);
            rest = far_met c.args.one.now c.args.other.now c.args.cube.now c.loop-literal.literal-index c.loop-literal.count c.literal-item.result w.index-wanted-count.result lt is there (omega (arith, ap (λ (xs : Cube). length xs) c.as_slice-wanted.ensures)) at
                (not-false (same_literal w.index-wanted-count.result c.literal-item.result) (sym w.ne.ensures ∙ w.if-ne.false)) c.loop-literal.invariant.rest;
          })
          )
      | else-has_literal w ↦ (
          let away : list_any (same_literal c.literal-item.result) c.args.other.now ≡ false = cc in
          rw w.count-is (record {
            within = c.loop-literal.invariant.within;
            rest = far_passed c.args.one.now c.args.other.now c.args.cube.now c.loop-literal.literal-index c.loop-literal.count c.literal-item.result lt is away c.loop-literal.invariant.rest;
          })
          )
    ]

pub returns : goal.returns
returns c =
    let all = far_all c.args.one.now c.args.other.now c.args.cube.now c.loop-literal.literal-index c.loop-literal.count (omega (arith, ap (λ (xs : Cube). length xs) c.as_slice-literal-items.ensures)) c.loop-literal.invariant.within c.loop-literal.invariant.rest in
    let same = Decides-eqb c.loop-literal.count (length c.as_slice-wanted.result.now) in
    (λ h. let e = same.0 h in all.0 (cc), λ k. let e = all.1 k in same.1 (cc))
