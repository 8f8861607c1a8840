use Rattle.std.proofs.Common.{ap, sym, ◌∙◌}
use Rattle.blif_models.specs.Flat.{is_formal, outside}
use Rattle.blif_models.specs.Instances.{instance_in, frames_in}
use Rattle.blif_models.specs.Makings.{outside_all}
use Rattle.blif_models.proofs.Making.{nothing_made, own_formal, signal_made}
use Rattle.blif_models.proofs.made.make_signal.Goals as goal

pub returns-then-is_formal : goal.returns-then-is_formal
returns-then-is_formal c =
    nothing_made c.args.made.now _
    (own_formal (frames_in c.args.frames.now) (instance_in c.args.instance.now) c.args.signal.now
    (ap (is_formal (instance_in c.args.instance.now)) (sym c.as_slice-signal.ensures) ∙ sym c.is_formal.ensures ∙ c.if-is_formal.true))

pub returns : goal.returns
returns c =
    let frames = frames_in c.args.frames.now in
    let instance = instance_in c.args.instance.now in
    signal_made c.make_one.result frames instance c.args.signal.now c.in_ok-name.name c.args.made.now c.make_one.new.made
    (ap (is_formal instance) (sym c.as_slice-signal.ensures) ∙ sym c.is_formal.ensures ∙ c.if-is_formal.false)
    (c.in_ok-name.ensures ∙ ap (outside_all frames) (c.as_slice.ensures ∙ c.in_ok-own.ensures ∙ ap (outside instance) c.as_slice-signal.ensures)) c.make_one.ensures
