use Rattle.std.proofs.Common.{◌+◌, ◌-◌, ℕ, List, length, inl, inr, sym, ap, ◌∙◌}
use Rattle.std.proofs.lemmas.Result.{on_ok_weaker}
use Rattle.net_gains.specs.Totals.{total_of}
use Rattle.net_gains.specs.CodedGains.{is_one, own, sum_gain}
use Rattle.net_gains.specs.Turning.{saved_by}
use Rattle.net_gains.proofs.Pairing.{long_or_one, sums_as, sum_saved, sum_unsaved}
use Rattle.net_gains.proofs.Turned.{allowed_as, turned_as, turned_none}
use Rattle.net_gains.proofs.pairs.note_sum.Goals.{then-is_empty-via-then-is_empty, then-is_empty-via-else-is_empty+then-is_empty-2}
use Rattle.net_gains.proofs.pairs.note_sum.Goals as goal

pub returns-then-is_empty : goal.returns-then-is_empty
returns-then-is_empty c =
    turned_none c.args.change (total_of c.args.totals.now) (λ cover. sum_gain cover c.args.one.now c.args.other.now)
    (λ cover. sum_unsaved cover c.args.one.now c.args.other.now
    (elim c.then-is_empty.branch [
      | then-is_empty-via-then-is_empty w ↦ inl (ap is_one (sym c.in_ok-ours.ensures.0) ∙ (long_or_one c.in_ok-ours.ours ∙ (sym c.is_empty.ensures ∙ w.if-is_empty.true)))
      | then-is_empty-via-else-is_empty+then-is_empty-2 w ↦ inr (ap is_one (sym c.in_ok-ours.ensures.1) ∙ (long_or_one c.in_ok-ours.theirs ∙ (sym w.is_empty-else-is_empty.ensures ∙ w.if-is_empty-2.true)))
    ]))

pub note-requires : goal.note-requires
note-requires c =
    allowed_as c.args.change (total_of c.args.totals.now) (λ cover. sum_gain cover c.args.one.now c.args.other.now) (saved_by c.of_sum.result (length c.args.one.now + (length c.as_slice.result.now - 1)))
    (λ cover. sym
    (sum_saved cover c.args.one.now c.args.other.now c.of_sum.result (length c.args.one.now + (length c.as_slice.result.now - 1))
    (ap is_one (sym c.in_ok-ours.ensures.0) ∙ (long_or_one c.in_ok-ours.ours ∙ (sym c.is_empty.ensures ∙ c.if-is_empty.false)))
    (ap is_one (sym c.in_ok-ours.ensures.1) ∙ (long_or_one c.in_ok-ours.theirs ∙ (sym c.is_empty-else-is_empty.ensures ∙ c.if-is_empty-2.false)))
    (sums_as c.in_ok-ours.ours c.in_ok-ours.theirs (own c.args.one.now c.args.other.now) (own c.args.other.now c.args.one.now) c.of_sum.result c.in_ok-ours.ensures.0 c.in_ok-ours.ensures.1 c.of_sum.ensures)
    (ap (λ (ys : List ℕ). length c.args.one.now + (length ys - 1)) (c.as_slice.ensures ∙ c.in_ok-ours.ensures.1))))
    c.requires.allowed

pub returns : goal.returns
returns c =
    on_ok_weaker c.note.result
    (λ turned.
    turned_as c.args.change (total_of c.args.totals.now) (total_of c.note.new.totals) (saved_by c.of_sum.result (length c.args.one.now + (length c.as_slice.result.now - 1))) (λ cover. sum_gain cover c.args.one.now c.args.other.now)
    (λ cover.
    sum_saved cover c.args.one.now c.args.other.now c.of_sum.result (length c.args.one.now + (length c.as_slice.result.now - 1))
    (ap is_one (sym c.in_ok-ours.ensures.0) ∙ (long_or_one c.in_ok-ours.ours ∙ (sym c.is_empty.ensures ∙ c.if-is_empty.false)))
    (ap is_one (sym c.in_ok-ours.ensures.1) ∙ (long_or_one c.in_ok-ours.theirs ∙ (sym c.is_empty-else-is_empty.ensures ∙ c.if-is_empty-2.false)))
    (sums_as c.in_ok-ours.ours c.in_ok-ours.theirs (own c.args.one.now c.args.other.now) (own c.args.other.now c.args.one.now) c.of_sum.result c.in_ok-ours.ensures.0 c.in_ok-ours.ensures.1 c.of_sum.ensures)
    (ap (λ (ys : List ℕ). length c.args.one.now + (length ys - 1)) (c.as_slice.ensures ∙ c.in_ok-ours.ensures.1)))
    turned)
    c.note.ensures
