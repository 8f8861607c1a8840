use Rattle.std.proofs.Common.{◌+◌, sym}
use Rattle.tree_cover.proofs.Keeping.{pins_in, starts_within}
use Rattle.tree_cover.proofs.choices.Choices.pins.Goals as goal

pub pins_between-requires : goal.pins_between-requires
pins_between-requires c =
    rw (c.end_at-end.ensures, c.as_slice-starts.ensures.value, c.as_slice-pins.ensures.value)
    (starts_within c.self.inside.costs.items c.self.inside.places.items c.self.inside.starts.items c.self.inside.pins.items c.self.invariant (c.args.number + 1))

pub returns : goal.returns
returns c =
    rw (c.pins_between.ensures, c.start_at-start.ensures, c.end_at-end.ensures, c.as_slice-starts.ensures.value, c.as_slice-pins.ensures.value, ← c.self.view_is)
    (sym (pins_in c.self.inside.costs.items c.self.inside.places.items c.self.inside.starts.items c.self.inside.pins.items c.self.invariant c.args.number))
