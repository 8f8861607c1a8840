use Rattle.std.proofs.Common.{◌+◌, [], ◌∷◌, drop}
use Rattle.std.proofs.lemmas.Result.{err_from_is_err_and}
use Rattle.blif_models.specs.Instances.{instance_in, frames_in}
use Rattle.blif_models.specs.Makings.{own_names}
use Rattle.blif_models.proofs.Making.{part_made, part_unmade, none_unmade, own_left, own_end}
use Rattle.blif_models.proofs.made.make_own.Goals as goal

pub returns-in_err-make_signal : goal.returns-in_err-make_signal
returns-in_err-make_signal c =
    let p = err_from_is_err_and c.from_residual.result c.from_residual.ensures.1 in
    let i = c.loop-signal.signal-index in
    let own = own_names (frames_in c.args.frames.now) (instance_in c.args.instance.now) in
    rw (p.1, p.2) (part_unmade c.in_err-make_signal.field-0.0 c.loop-signal.made c.make_signal.new.made (own (c.signal-item.result ∷ [])) (own (drop (i + 1) c.args.signals.now)) (own (drop i c.args.signals.now)) _
    (own_left (frames_in c.args.frames.now) (instance_in c.args.instance.now) c.args.signals.now i c.signal-item.result c.loop-signal-test.true c.signal-item.is) c.in_err-make_signal.ensures c.loop-signal.invariant)

pub loop-signal-preserved : goal.loop-signal-preserved
loop-signal-preserved c =
    let i = c.loop-signal.signal-index in
    let own = own_names (frames_in c.args.frames.now) (instance_in c.args.instance.now) in
    part_made c.loop-signal.made c.make_signal.new.made (own (c.signal-item.result ∷ [])) (own (drop (i + 1) c.args.signals.now)) (own (drop i c.args.signals.now)) _
    (own_left (frames_in c.args.frames.now) (instance_in c.args.instance.now) c.args.signals.now i c.signal-item.result c.loop-signal-test.true c.signal-item.is) c.in_ok-make_signal.ensures c.loop-signal.invariant

pub returns : goal.returns
returns c =
    none_unmade c.loop-signal.made _ _ (own_end (frames_in c.args.frames.now) (instance_in c.args.instance.now) c.args.signals.now c.loop-signal.signal-index c.loop-signal-test.false) c.loop-signal.invariant
