use Rattle.std.proofs.Common.{◌++◌, List, ℕ, Bool, refl, sym, ap, ◌∙◌, arith}
use Rattle.std.proofs.lemmas.List.{append-nil}
use Rattle.func_shared.specs.Vertices.{IsNumber}
use Rattle.func_shared.proofs.Visiting.{path-to-high, path-to-low, path-end}
use Rattle.func_shared.proofs.walking.path_of.Goals as goal

pub loop-vertex-preserved-then-vertex-eq0 : goal.loop-vertex-preserved-then-vertex-eq0
loop-vertex-preserved-then-vertex-eq0 c = (
  omega (arith, c.loop-vertex.invariant.0, c.in-Some.ensures.below.1),
  path-to-high c.args.table.now c.loop-vertex.at c.in-Some.vertex.place c.in-Some.vertex.low
      c.in-Some.vertex.high c.loop-vertex.literals.items c.push.new.self.items _
      c.in-Some.ensures.tree c.if-vertex-eq0.true c.in_ok-push.ensures.items
      c.loop-vertex.invariant.1,
)

pub loop-vertex-preserved : goal.loop-vertex-preserved
loop-vertex-preserved c =
    let is : IsNumber c.args.table.now c.in-Some.vertex.low =
    omega (arith, c.loop-vertex.invariant.0, c.in-Some.ensures.below.0) in (
      is,
      path-to-low c.args.table.now c.loop-vertex.at c.in-Some.vertex.place c.in-Some.vertex.low
          c.in-Some.vertex.high c.loop-vertex.literals.items
          c.push-else-vertex-eq0.new.self.items _ c.in-Some.ensures.tree c.sound.ensures is
          c.if-vertex-eq0.false c.in_ok-push-2.ensures.items c.loop-vertex.invariant.1,
    )

pub returns : goal.returns
returns c =
    sym (append-nil c.loop-vertex.literals.items)
    ∙ ap (λ (ls : List (ℕ × Bool)). c.loop-vertex.literals.items ++ ls)
    (sym (path-end c.args.table.now c.loop-vertex.at (c.in_default.ensures.constant refl)))
    ∙ c.loop-vertex.invariant.1
