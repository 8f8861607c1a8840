use Rattle.std.proofs.Common.{◌≡◌, ◌+◌, Option, Bool, List, ◌∷◌, drop, length, ap, sym, subst, ◌∙◌}
use Rattle.std.proofs.lemmas.List.{drop_all}
use Rattle.cube_cover.proofs.Points.{width_read}
use Rattle.alg_div.specs.Cubes.{Has}
use Rattle.alg_div.specs.Steps.{literals_in}
use Rattle.alg_div.proofs.Lists.{map-drop, has-read}
use Rattle.alg_kernel.specs.Search.{both_rows, common_cube_from}
use Rattle.alg_kernel.proofs.Parts.{length-both, common_cube-in, common_cube-more, common_cube-last}
use Rattle.alg_kernel.proofs.rows.common_of.Goals as goal

pub loop-row-init : goal.loop-row-init
loop-row-init c =
    let first : c.in_ok-cube.cube.items ≡ c.index-rows-0.result.items = c.in_ok-cube.ensures ∙ c.as_slice.ensures.value in
    let m : Has c.in_ok-cube.cube.items (literals_in c.args.rows.now) = subst (λ (x : List (Option Bool)). Has x (literals_in c.args.rows.now)) (sym first) (has-read (λ v. v.items) c.args.rows.now 0 c.index-rows-0.result c.requires.some c.index-rows-0.is) in
    record {
      shared_literal = common_cube-in c.args.width (literals_in c.args.rows.now) c.in_ok-cube.cube.items c.requires.width m;
      wide = ap length first ∙ width_read (λ v. v.items) c.args.width c.args.rows.now 0 c.index-rows-0.result c.requires.width c.requires.some c.index-rows-0.is;
    }

pub meet-requires : goal.meet-requires
meet-requires c =
    c.loop-row.invariant.wide ∙ sym (ap length c.as_slice-in-loop-row.ensures.value ∙ width_read (λ v. v.items) c.args.width c.args.rows.now c.loop-row.row-index c.row-item.result c.requires.width c.loop-row-test.true c.row-item.is)

pub loop-row-preserved : goal.loop-row-preserved
loop-row-preserved c =
    let next : literals_in (drop c.loop-row.row-index c.args.rows.now) ≡ c.row-item.result.items ∷ literals_in (drop (c.loop-row.row-index + 1) c.args.rows.now) = map-drop (λ v. v.items) c.args.rows.now c.loop-row.row-index c.row-item.result c.loop-row-test.true c.row-item.is in
    let wide : length c.row-item.result.items ≡ c.args.width = width_read (λ v. v.items) c.args.width c.args.rows.now c.loop-row.row-index c.row-item.result c.requires.width c.loop-row-test.true c.row-item.is in
    let met : c.meet.new.cube.items ≡ both_rows c.loop-row.cube.items c.row-item.result.items = c.meet.ensures ∙ ap (both_rows c.loop-row.cube.items) c.as_slice-in-loop-row.ensures.value in
    record {
      shared_literal = ap (λ (x : List (Option Bool)). common_cube_from x (literals_in (drop (c.loop-row.row-index + 1) c.args.rows.now))) met ∙ common_cube-more c.loop-row.cube.items _ c.row-item.result.items _ next ∙ c.loop-row.invariant.shared_literal;
      wide = ap length met ∙ length-both c.loop-row.cube.items c.row-item.result.items (c.loop-row.invariant.wide ∙ sym wide) ∙ c.loop-row.invariant.wide;
    }

pub returns : goal.returns
returns c =
    sym (common_cube-last c.loop-row.cube.items (literals_in (drop c.loop-row.row-index c.args.rows.now)) (ap literals_in (drop_all c.loop-row.row-index c.args.rows.now c.loop-row-test.false))) ∙ c.loop-row.invariant.shared_literal
