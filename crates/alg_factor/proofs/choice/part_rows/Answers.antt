use Rattle.std.proofs.Common.{◌≡◌, Bool, true, false, Option, None, sym, ap, ◌∙◌, get_or}
use Rattle.std.proofs.lemmas.List.{map_push}
use Rattle.cube_cover.specs.Literals.{has_literal}
use Rattle.alg_factor.proofs.PartedRows.{with_keep, with_skip, others_keep, others_skip}
use Rattle.alg_factor.proofs.choice.part_rows.Goals as goal

pub loop-row-preserved-in-Continue-1 : goal.loop-row-preserved-in-Continue-1
loop-row-preserved-in-Continue-1 g c =
    let e : has_literal (get_or (g.R.Row.literals c.in-Some.row) c.args.place None) c.args.bit ≡ true = ap (λ (x : Option Bool). has_literal x c.args.bit) (sym c.at.ensures) ∙ sym c.is_literal.ensures ∙ c.if-is_literal.true in (
      rw (c.in_ok-push.ensures.items, map_push g.R.Row.literals c.loop-row.with.items c.clear_literal.result, c.loop-row.invariant.0, c.clear_literal.ensures)
          (sym (with_keep g.R.Row.literals c.args.place c.args.bit c.loop-row.yielded c.in-Some.row e)),
      c.loop-row.invariant.1 ∙ sym (others_skip g.R.Row.literals c.args.place c.args.bit c.loop-row.yielded c.in-Some.row e),
    )

pub loop-row-preserved : goal.loop-row-preserved
loop-row-preserved g c =
    let e : has_literal (get_or (g.R.Row.literals c.in-Some.row) c.args.place None) c.args.bit ≡ false = ap (λ (x : Option Bool). has_literal x c.args.bit) (sym c.at.ensures) ∙ sym c.is_literal.ensures ∙ c.if-is_literal.false in (
      c.loop-row.invariant.0 ∙ sym (with_skip g.R.Row.literals c.args.place c.args.bit c.loop-row.yielded c.in-Some.row e),
      rw (c.in_ok-push-2.ensures.items, map_push g.R.Row.literals c.loop-row.others.items c.in-Some.row, c.loop-row.invariant.1)
          (sym (others_keep g.R.Row.literals c.args.place c.args.bit c.loop-row.yielded c.in-Some.row e)),
    )
