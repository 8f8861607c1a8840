use Rattle.std.proofs.Common.{List, length, sym, ap, subst, ◌∙◌}
use Rattle.std.specs.List.{AllByRecursion}
use Rattle.std.proofs.lemmas.Result.{IfOk-weaker}
use Rattle.net_core.specs.Fresh.{used_names}
use Rattle.subject_tree.specs.declared.forest.Root.{Root}
use Rattle.map_net.specs.declared.covers.TreeCover.{TreeCover}
use Rattle.map_net.specs.Working.{IsReady}
use Rattle.map_net.proofs.Parting.{placed_of}
use Rattle.map_net.proofs.mapping.gates_of.Goals as goal

pub place_all-requires-clause-ready : goal.place_all-requires-clause-ready
place_all-requires-clause-ready c =
    subst (AllByRecursion (IsReady (length c.args.library.now)))
    (sym c.as_slice-covers.ensures.value) c.requires.ready

pub place_all-requires-clause-count : goal.place_all-requires-clause-count
place_all-requires-clause-count c =
    ap (λ (roots : List Root). length roots) c.as_slice-roots.ensures.value
    ∙ (c.requires.count
    ∙ ap (λ (covers : List TreeCover). length covers) (sym c.as_slice-covers.ensures.value))

pub returns : goal.returns
returns c =
    IfOk-weaker c.place_all.result _ _
    (λ gates. placed_of c.args.library.now c.args.covered.now.forest.leaves
    c.in_ok-used.used.keys (used_names c.args.circuit.now)
    c.args.covered.now.forest.roots.items c.as_slice-roots.result.now
    c.args.covered.now.covers.items c.as_slice-covers.result.now gates c.in_ok-used.ensures
    c.as_slice-roots.ensures.value c.as_slice-covers.ensures.value)
    c.place_all.ensures
