use Rattle.std.proofs.Common.{◌<◌, length, refl, sym, subst, inl, arith}
use Rattle.net_candidates.proofs.Sums.{AreOnce}
use Rattle.net_core.specs.Tables.{named}
use Rattle.net_core.proofs.Rows.{all_places_back}
use Rattle.net_savings.proofs.rows.add_entry.Goals as goal
use Rattle.sis_base.specs.declared.limits.TheConstants.{MAX_INPUTS}

pub returns-in_ok-push : goal.returns-in_ok-push
unfolding named
returns-in_ok-push g c =
    inl (
      record {
        once = subst AreOnce (sym (all_places_back c.args.entry.now.table.cover.rows)) (subst AreOnce c.rows.ensures.items (c.in_ok-are_distinct.ensures c.if-branch.true));
        few = (let few : length c.args.entry.now.table.inputs < MAX_INPUTS = omega (arith, c.len.ensures, c.if-len-lt-MAX_INPUTS.true) in few);
        rows_are = c.in_ok-push_rows.ensures c.args.entry.now.output;
        span = record { place = c.args.place; start = c.len-start.result; end = c.len-end.result };
        spans_are = c.in_ok-push.ensures.items;
        there = refl;
        start = omega (arith, c.len-start.ensures);
        end = omega (arith, c.len-end.ensures);
      },
      refl,
    )
