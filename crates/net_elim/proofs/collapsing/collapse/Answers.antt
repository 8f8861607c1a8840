use Rattle.std.proofs.Common.{◌∙◌}
use Rattle.net_work.specs.Placed.{circuit_of}
use Rattle.net_elim.proofs.Leaving.{sound_collapsed}
use Rattle.net_elim.proofs.Bounds.{bounds_kept}
use Rattle.net_elim.proofs.collapsing.collapse.Goals as goal

pub into_network-requires : goal.into_network-requires
into_network-requires g c =
    sound_collapsed c.args.network.now (circuit_of c.in_ok-work.work)
    (circuit_of c.collapse_tables.new.work) c.in_ok-work.ensures.sound
    c.in_ok-work.ensures.circuit c.in-Ok.ensures.collapsed

pub returns-in-Ok-clause-bounds : goal.returns-in-Ok-clause-bounds
returns-in-Ok-clause-bounds g c =
    bounds_kept c.args.network.now (circuit_of c.in_ok-work.work) c.into_network.result
    c.in_ok-work.ensures.sound c.in_ok-work.ensures.circuit
    (c.into_network.ensures ∙ c.in-Ok.ensures.collapsed) c.in-Ok.ensures.none
