use Rattle.std.proofs.Common.{ℕ, Bool, true, List, [], length, map, replicate, ap, arith, ◌∙◌}
use Rattle.std.specs.List.{list_any}
use Rattle.net_candidates.specs.Candidates.{same_literal}
use Rattle.net_candidates.specs.Pairs.{has_all}
use Rattle.std.specs.Simd.Lanes.{zip2}
use Rattle.net_savings.specs.Meeting.{both}
use Rattle.net_savings.proofs.Marking.{all_marked, refilled, holders_next, holders_all}
use Rattle.net_savings.proofs.marks.RowMarks.holders.Goals as goal

pub loop-literal-init : goal.loop-literal-init
loop-literal-init c =
    c.in_ok-held.ensures
    ∙ (ap (λ (n : ℕ). replicate n true) (c.len.ensures ∙ c.self.inside.rows.ok.0) ∙ (all_marked c.self.inside.rows.items ∙ ap (map (has_all [])) c.self.view_is))

pub loop-literal-preserved : goal.loop-literal-preserved
loop-literal-preserved c =
    refilled c.loop-literal.held.len c.loop-literal.held.items c.keep_with.new.held (omega (arith, c.keep_with.auto.held, ap length c.as_mut_slice.ensures.value, c.loop-literal.held.ok.0))
    ∙ holders_next c.args.self.now c.args.cube.now c.loop-literal.literal-index c.literal-item.result c.literal-item.result c.loop-literal.held.items c.keep_with.new.held c.loop-literal-test.true c.literal-item.is
    c.loop-literal.invariant (c.in_ok-keep_with.ensures ∙ ap (λ (held : List Bool). zip2 both held (map (list_any (same_literal c.literal-item.result)) c.args.self.now)) c.as_mut_slice.ensures.value)

pub returns : goal.returns
returns c = holders_all c.args.self.now c.args.cube.now c.loop-literal.literal-index c.loop-literal.held.items c.loop-literal-test.false c.loop-literal.invariant
