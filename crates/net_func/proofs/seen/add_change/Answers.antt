use Rattle.std.proofs.Common.{rules, ◌≡◌, Err, ap, inl, inr}
use Rattle.std.proofs.lemmas.Result.{IfOk-weaker}
use Rattle.func_core.specs.declared.functions.FuncFault.TheVariants.{TooBig}
use Rattle.func_core.proofs.Meanings.{Means-own, Means-same, Stays-chain}
use Rattle.net_func.specs.Numbered.{computed}
use Rattle.net_func.specs.Changes.{shown_by}
use Rattle.net_func.proofs.Making.{big_before}
use Rattle.net_func.proofs.Seeing.{free_stays, outside_point, either_point, unchanged_point}
use Rattle.net_func.proofs.seen.add_change.Goals as goal

pub outside-requires-clause-free : goal.outside-requires-clause-free
outside-requires-clause-free g c =
    free_stays g.F.Functions.holds g.F.Functions.tree g.F.Functions.limit c.args.functions.now
    c.xor.new.self c.args.change.free c.in_ok-changed.ensures.stays
    c.requires.change.free

pub or-requires-clause-f : goal.or-requires-clause-f
or-requires-clause-f g c =
    ((Stays-chain g.F.Functions.holds g.F.Functions.tree g.F.Functions.limit c.args.functions.now
    c.xor.new.self c.outside.new.functions
    c.in_ok-changed.ensures.stays c.in_ok-shown.ensures.stays).kept c.args.seen.0 c.requires.seen).0

pub returns-in_err-changed-clause-big : goal.returns-in_err-changed-clause-big
returns-in_err-changed-clause-big g c = λ h.
    let same : c.from_residual.result ≡ Err c.in_err-changed.field-0.0 = search rules in
    let gone : c.in_err-changed.field-0.0 ≡ TooBig = cc in
    inl (c.in_err-changed.ensures.big (ap Err gone))

pub returns-in_err-shown-clause-big : goal.returns-in_err-shown-clause-big
returns-in_err-shown-clause-big g c = λ h.
    let same : c.from_residual-in_err-shown.result ≡ Err c.in_err-shown.field-0.0 = search rules in
    let gone : c.in_err-shown.field-0.0 ≡ TooBig = cc in
    inr (inl (
    big_before g.F.Functions.holds g.F.Functions.tree g.F.Functions.limit c.args.functions.now
    c.xor.new.self _ (shown_by g.F.Functions.tree c.args.functions.now c.args.change)
    c.in_ok-changed.ensures.stays (c.in_err-shown.ensures.big (ap Err gone))
    (outside_point g.F.Functions.holds g.F.Functions.tree g.F.Functions.limit
    c.args.functions.now c.xor.new.self c.args.change c.in_ok-changed.changed
    c.in_ok-changed.ensures.stays c.requires.change.free c.in_ok-changed.ensures.ok)
    ))

pub returns-clause-ok : goal.returns-clause-ok
returns-clause-ok g c =
    IfOk-weaker c.or.result _ _
    (λ made means.
    Means-same g.F.Functions.holds g.F.Functions.tree g.F.Functions.limit c.or.new.self made.0 _ _
    means
    (either_point g.F.Functions.holds g.F.Functions.tree g.F.Functions.limit c.args.functions.now
    c.outside.new.functions c.args.seen c.in_ok-shown.shown
    (shown_by g.F.Functions.tree c.args.functions.now c.args.change)
    (Stays-chain g.F.Functions.holds g.F.Functions.tree g.F.Functions.limit c.args.functions.now
    c.xor.new.self c.outside.new.functions
    c.in_ok-changed.ensures.stays c.in_ok-shown.ensures.stays)
    c.requires.seen
    (Means-same g.F.Functions.holds g.F.Functions.tree g.F.Functions.limit c.outside.new.functions
    c.in_ok-shown.shown.0 _ _ c.in_ok-shown.ensures.ok
    (outside_point g.F.Functions.holds g.F.Functions.tree g.F.Functions.limit c.args.functions.now
    c.xor.new.self c.args.change c.in_ok-changed.changed
    c.in_ok-changed.ensures.stays c.requires.change.free c.in_ok-changed.ensures.ok))))
    c.or.ensures.ok

pub returns-clause-big : goal.returns-clause-big
returns-clause-big g c = λ h.
    inr (inr (
    big_before g.F.Functions.holds g.F.Functions.tree g.F.Functions.limit c.args.functions.now
    c.outside.new.functions _ _
    (Stays-chain g.F.Functions.holds g.F.Functions.tree g.F.Functions.limit
    c.args.functions.now c.xor.new.self c.outside.new.functions
    c.in_ok-changed.ensures.stays c.in_ok-shown.ensures.stays)
    (c.or.ensures.big h)
    (either_point g.F.Functions.holds g.F.Functions.tree g.F.Functions.limit
    c.args.functions.now c.outside.new.functions c.args.seen c.in_ok-shown.shown
    (shown_by g.F.Functions.tree c.args.functions.now c.args.change)
    (Stays-chain g.F.Functions.holds g.F.Functions.tree g.F.Functions.limit
    c.args.functions.now c.xor.new.self c.outside.new.functions
    c.in_ok-changed.ensures.stays c.in_ok-shown.ensures.stays)
    c.requires.seen
    (Means-same g.F.Functions.holds g.F.Functions.tree g.F.Functions.limit
    c.outside.new.functions c.in_ok-shown.shown.0 _ _ c.in_ok-shown.ensures.ok
    (outside_point g.F.Functions.holds g.F.Functions.tree g.F.Functions.limit
    c.args.functions.now c.xor.new.self c.args.change c.in_ok-changed.changed
    c.in_ok-changed.ensures.stays c.requires.change.free c.in_ok-changed.ensures.ok)))
    ))

pub returns-then-change-clause-ok : goal.returns-then-change-clause-ok
returns-then-change-clause-ok g c =
    Means-same g.F.Functions.holds g.F.Functions.tree g.F.Functions.limit c.args.functions.now
    c.args.seen.0 (computed g.F.Functions.tree c.args.functions.now c.args.seen) _
    (Means-own g.F.Functions.holds g.F.Functions.tree g.F.Functions.limit c.args.functions.now
    c.args.seen.0 c.requires.seen
    (g.met.F.Functions.reduced c.args.functions.now c.args.seen.0 c.requires.seen)
    (g.met.F.Functions.bounded c.args.functions.now c.args.seen.0 c.requires.seen))
    (λ point. unchanged_point g.F.Functions.tree c.args.functions.now c.args.change
    c.if-change.true (computed g.F.Functions.tree c.args.functions.now c.args.seen point) point)
