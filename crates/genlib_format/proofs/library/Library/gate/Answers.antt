use Rattle.std.proofs.Common.{List, slice_get, bytes_eq, sym, ◌∙◌, ap}
use Rattle.indexmap.specs.IndexMap.{get}
use Rattle.genlib_format.specs.declared.gate.Gate.{Gate}
use Rattle.genlib_format.specs.Reader.{gate_named}
use Rattle.genlib_format.proofs.Indexing.{named_at, named_none, looked_up}
use Rattle.genlib_format.proofs.library.Library.gate.Goals as goal

pub returns-in-None : goal.returns-in-None
returns-in-None c =
    sym (ap (λ (gates : List Gate). gate_named gates c.args.name.now) (sym c.self.view_is)
    ∙ named_none c.self.inside.gates.items (get bytes_eq c.self.inside.firsts) c.args.name.now c.self.invariant (sym c.in-None.ensures))

pub returns-in-Some : goal.returns-in-Some
returns-in-Some c =
    looked_up c.get.result c.as_slice.result.now c.in-Some.place c.get.ensures.lookup.0 c.get.ensures.lookup.1
    ∙ (ap (λ (gates : List Gate). slice_get gates c.in-Some.place) c.as_slice.ensures.value
    ∙ (named_at c.self.inside.gates.items (get bytes_eq c.self.inside.firsts) c.args.name.now c.in-Some.place c.self.invariant (sym c.in-Some.ensures)
    ∙ ap (λ (gates : List Gate). gate_named gates c.args.name.now) c.self.view_is))
