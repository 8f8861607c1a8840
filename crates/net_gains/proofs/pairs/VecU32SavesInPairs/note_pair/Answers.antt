use Rattle.std.proofs.Common.{sym, ap₂, subst, nat_cmp}
use Rattle.std.specs.List.Sorted.{IsStrictlySortedBy}
use Rattle.std.proofs.lemmas.Result.{on_ok_weaker}
use Rattle.net_gains.specs.CodedGains.{sum_gain}
use Rattle.net_gains.specs.Totals.{total_of}
use Rattle.net_gains.proofs.Turned.{allowed_as, turned_as}
use Rattle.net_gains.proofs.pairs.VecU32SavesInPairs.note_pair.Goals as goal

pub note_sum-requires-clause-one : goal.note_sum-requires-clause-one
note_sum-requires-clause-one c = subst (IsStrictlySortedBy nat_cmp) (sym c.as_slice.ensures.value) c.requires.one

pub note_sum-requires-clause-other : goal.note_sum-requires-clause-other
note_sum-requires-clause-other c = subst (IsStrictlySortedBy nat_cmp) (sym c.as_slice-2.ensures.value) c.requires.other

pub note_sum-requires-clause-allowed : goal.note_sum-requires-clause-allowed
note_sum-requires-clause-allowed c =
    allowed_as c.args.change (total_of c.args.totals.now) (λ cover. sum_gain cover c.args.one.now.items c.args.other.now.items) (λ cover. sum_gain cover c.as_slice.result.now c.as_slice-2.result.now)
    (λ cover. ap₂ (sum_gain cover) (sym c.as_slice.ensures.value) (sym c.as_slice-2.ensures.value)) c.requires.allowed

pub returns : goal.returns
returns c =
    on_ok_weaker c.note_sum.result
    (λ turned.
    turned_as c.args.change (total_of c.args.totals.now) (total_of c.note_sum.new.totals) (λ cover. sum_gain cover c.as_slice.result.now c.as_slice-2.result.now) (λ cover. sum_gain cover c.args.one.now.items c.args.other.now.items)
    (λ cover. ap₂ (sum_gain cover) c.as_slice.ensures.value c.as_slice-2.ensures.value) turned)
    c.note_sum.ensures
