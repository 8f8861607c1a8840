use Rattle.std.proofs.Common.{ℕ, List, length, sym, subst, rules}
use Rattle.std.specs.List.{AllByRecursion}
use Rattle.std.proofs.lemmas.Slice.Zip.{Zip-more, either_empty_from_Zip}
use Rattle.genlib_format.specs.declared.gate.Gate.{Gate}
use Rattle.map_net.specs.Naming.{AreNew}
use Rattle.map_net.specs.Mapping.{ArePlaced}
use Rattle.map_net.specs.Working.{IsReady}
use Rattle.map_net.proofs.Placements.{covers_begun, next_ready, covers_more, covers_all}
use Rattle.map_net.proofs.placing.place_all.Goals as goal

pub loop-root-init : goal.loop-root-init
loop-root-init c =
    covers_begun c.gates-cells.result.now c.args.leaves.now c.args.used.now.keys c.args.roots.now
    c.args.covers.now _ _ c.new-gates.result c.new-gates.ensures (search rules) (search rules)
    c.requires.count
    (subst (λ (library : List Gate). AllByRecursion (IsReady (length library)) c.args.covers.now)
    (sym c.gates-cells.ensures) c.requires.ready)

pub place_cover-requires : goal.place_cover-requires
place_cover-requires c =
    let (first, second) = Zip-more c.loop-root.root-iterator c.next.new.self c.next.result
    (c.in-Some.root, c.in-Some.cover) c.in-Some.is c.next.ensures.steps in
    next_ready c.gates-cells.result.now c.args.leaves.now c.args.used.now.keys c.args.roots.now
    c.args.covers.now _ _ _ c.loop-root.start c.loop-root.gates c.in-Some.cover.now second
    c.loop-root.invariant

pub loop-root-preserved : goal.loop-root-preserved
loop-root-preserved c =
    let (first, second) = Zip-more c.loop-root.root-iterator c.next.new.self c.next.result
    (c.in-Some.root, c.in-Some.cover) c.in-Some.is c.next.ensures.steps in
    covers_more c.gates-cells.result.now c.args.leaves.now c.args.used.now.keys c.args.roots.now
    c.args.covers.now _ _ _ _ c.loop-root.start _ c.loop-root.gates _ c.in-Some.root.now
    c.in-Some.cover.now first second c.in_ok-place_cover.ensures c.loop-root.invariant

pub returns : goal.returns
returns c =
    subst (λ (library : List Gate). (fresh : List (List ℕ)) × AreNew c.args.used.now.keys fresh
    × ArePlaced library c.args.leaves.now c.args.roots.now c.args.covers.now fresh
    c.loop-root.gates) c.gates-cells.ensures
    (covers_all c.gates-cells.result.now c.args.leaves.now c.args.used.now.keys c.args.roots.now
    c.args.covers.now _ _ c.loop-root.start c.loop-root.gates
    (either_empty_from_Zip c.loop-root.root-iterator c.next.new.self c.next.result c.in-None.is
    c.next.ensures.steps) c.loop-root.invariant)
