use Rattle.std.proofs.Common.{◌≡◌, sym, ◌∙◌}
use Rattle.std.proofs.lemmas.Result.{IfOk-weaker}
use Rattle.net_core.specs.Places.{written_of}
use Rattle.net_resub.specs.Pairs.{saving_of, saving_at}
use Rattle.net_resub.proofs.Saving.{same_saves, none_saves, saves_by_none, saving_placed}
use Rattle.net_resub.proofs.pairs.saving_at.Goals as goal

pub returns-then-place-by : goal.returns-then-place-by
returns-then-place-by g c = sym (same_saves c.args.work.now.slots c.args.place c.args.by c.if-place-by.true)

pub returns-in-None : goal.returns-in-None
returns-in-None g c = sym (none_saves c.args.work.now.slots c.args.place c.args.by (sym c.in-None.ensures.table))

pub returns-in-None-entry : goal.returns-in-None-entry
returns-in-None-entry g c = sym (saves_by_none c.args.work.now.slots c.args.place c.args.by (sym c.in-None-entry.ensures.table))

pub returns-in-Some-entry : goal.returns-in-Some-entry
returns-in-Some-entry g c =
    IfOk-weaker c.saving_of.result (λ saving. saving ≡ saving_of (written_of c.in-Some-entry.by.now) (written_of c.in-Some.entry.now))
    (λ saving. saving ≡ saving_at c.args.work.now.slots c.args.place c.args.by)
    (λ saving is.
    is
    ∙ sym (saving_placed c.args.work.now.slots c.args.place c.args.by (written_of c.in-Some.entry.now) (written_of c.in-Some-entry.by.now) c.if-place-by.false (sym c.in-Some.ensures.table)
    (sym c.in-Some-entry.ensures.table)))
    c.saving_of.ensures
