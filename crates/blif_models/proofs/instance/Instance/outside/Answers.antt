use Rattle.std.proofs.Common.{append_assoc}
use Rattle.blif_models.specs.Instances.{instance_in}
use Rattle.blif_models.proofs.Outside.{outside_formal, outside_other}
use Rattle.blif_models.proofs.instance.Instance.outside.Goals as goal

pub returns-in-Some : goal.returns-in-Some
returns-in-Some c = rw (outside_formal (instance_in c.args.self.now) c.args.signal.now _ c.in-Some.ensures) c.name_of.ensures

pub returns-in-None : goal.returns-in-None
returns-in-None c = rw (outside_other (instance_in c.args.self.now) c.args.signal.now c.in-None.ensures, append_assoc, ← c.as_slice.ensures) c.joined_by.ensures
