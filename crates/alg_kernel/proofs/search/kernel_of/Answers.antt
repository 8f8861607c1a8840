use Rattle.std.proofs.Common.{◌≡◌, List, Option, Bool, map, length, ap, sym, subst, ◌∙◌, arith}
use Rattle.std.proofs.lemmas.List.{length-map}
use Rattle.sis_base.specs.Rows.{HasWidth}
use Rattle.alg_div.specs.Steps.{strip, literals_in}
use Rattle.alg_kernel.specs.Search.{holding_rows, common_cube}
use Rattle.alg_kernel.proofs.Parts.{holding_rows-width, kernel-rows}
use Rattle.alg_kernel.proofs.search.kernel_of.Goals as goal

pub make_cube_free-requires : goal.make_cube_free-requires
make_cube_free-requires c =
    let chosen : literals_in c.as_slice.result.now ≡ holding_rows c.args.place c.args.bit (literals_in c.args.rows.now) = ap literals_in c.as_slice.ensures.value ∙ c.in_ok-chosen.ensures in
    record {
      width = subst (HasWidth c.args.width) (sym chosen) (holding_rows-width c.args.width c.args.place c.args.bit (literals_in c.args.rows.now) c.requires.width);
      some = omega (arith, c.count_at.ensures, c.if-count_at-lt2.false, ap (λ (l : List (List (Option Bool))). length l) chosen, length-map c.as_slice.result.now (λ v. v.items));
    }

pub returns : goal.returns
returns c =
    let chosen : literals_in c.as_slice.result.now ≡ holding_rows c.args.place c.args.bit (literals_in c.args.rows.now) = ap literals_in c.as_slice.ensures.value ∙ c.in_ok-chosen.ensures in (
      omega (arith, c.count_at.ensures, c.if-count_at-lt2.false),
      c.in_ok-kernel.ensures ∙ ap (λ (l : List (List (Option Bool))). map (strip (common_cube l)) l) chosen ∙ sym (kernel-rows c.args.place c.args.bit (literals_in c.args.rows.now) (omega (arith, c.count_at.ensures, c.if-count_at-lt2.false))),
    )

pub returns-then-count_at-lt2 : goal.returns-then-count_at-lt2
returns-then-count_at-lt2 c = omega (arith, c.count_at.ensures, c.if-count_at-lt2.true)
