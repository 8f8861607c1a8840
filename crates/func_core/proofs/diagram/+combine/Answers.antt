use Rattle.std.proofs.Common.{◌≡◌, ℕ, Bool, false, true, ap, arith}
use Rattle.func_core.specs.Trees.{Node, eval}
use Rattle.func_core.specs.Operations.{bits}
use Rattle.func_core.specs.PlainTrees.{shape}
use Rattle.func_core.proofs.Steps.{eval-Zero, eval-One, node-at, above-Node, made-first, made-second, made-one, made-both}
use Rattle.func_core.proofs.Steps.{made-reduced-left, made-reduced-right, made-reduced-both}
use Rattle.func_core.proofs.diagram.+combine.Goals as goal

pub returns-in-Zero-clause-computes : goal.returns-in-Zero-clause-computes
returns-in-Zero-clause-computes t c =
    made-first _ (bits c.args.operation) false _ _ (λ point. eval-Zero _ point (ap shape c.in-Zero.is))
    c.with_constant.ensures.computes

pub returns-in-One-clause-computes : goal.returns-in-One-clause-computes
returns-in-One-clause-computes t c =
    made-first _ (bits c.args.operation) true _ _ (λ point. eval-One _ point (ap shape c.in-One.is))
    c.with_constant-in-One.ensures.computes

pub returns-in-Zero-right-clause-computes : goal.returns-in-Zero-right-clause-computes
returns-in-Zero-right-clause-computes t c =
    made-second _ c.args.operation false _ _ (λ point. eval-Zero _ point (ap shape c.in-Zero-right.is))
    c.with_constant-in-Zero-right.ensures.computes

pub returns-in-One-right-clause-computes : goal.returns-in-One-right-clause-computes
returns-in-One-right-clause-computes t c =
    made-second _ c.args.operation true _ _ (λ point. eval-One _ point (ap shape c.in-One-right.is))
    c.with_constant-in-One-right.ensures.computes

pub returns-then-place-other-clause-computes : goal.returns-then-place-other-clause-computes
returns-then-place-other-clause-computes t c =
    let left : shape c.args.left.now
    ≡ Node c.in-Branch.place (shape c.deref.result.now) (shape c.deref-then-place-other.result.now) =
    node-at _ _ _ _ _ _ (ap shape c.in-Branch.is) (ap shape c.deref.ensures) (ap shape c.deref-then-place-other.ensures) in
    made-one _ (λ (point : ℕ → Bool) (b : Bool). bits c.args.operation b (eval (shape c.args.right.now) point))
    c.in-Branch.place _ _ _ _ _ left c.join_halves.ensures.computes
    c.in_ok-l-in-Branch-right.ensures.computes c.in_ok-h-in-Branch-right.ensures.computes

pub returns-then-place-other-clause-reduced : goal.returns-then-place-other-clause-reduced
returns-then-place-other-clause-reduced t c =
    let left : shape c.args.left.now
    ≡ Node c.in-Branch.place (shape c.deref.result.now) (shape c.deref-then-place-other.result.now) =
    node-at _ _ _ _ _ _ (ap shape c.in-Branch.is) (ap shape c.deref.ensures) (ap shape c.deref-then-place-other.ensures) in
    made-reduced-left _ c.in-Branch.place _ _ _ _ _ _ left c.join_halves.ensures.reduced
    (λ least. above-Node least c.in-Branch.place c.in-Branch-right.other _ _ _ (ap shape c.in-Branch-right.is) c.if-place-other.true)
    c.in_ok-l-in-Branch-right.ensures.reduced c.in_ok-h-in-Branch-right.ensures.reduced

pub returns-then-other-place-clause-computes : goal.returns-then-other-place-clause-computes
returns-then-other-place-clause-computes t c =
    let right : shape c.args.right.now
    ≡ Node c.in-Branch-right.other (shape c.deref-then-other-place.result.now) (shape c.deref-then-other-place-2.result.now) =
    node-at _ _ _ _ _ _ (ap shape c.in-Branch-right.is) (ap shape c.deref-then-other-place.ensures) (ap shape c.deref-then-other-place-2.ensures) in
    made-one _ (λ (point : ℕ → Bool). bits c.args.operation (eval (shape c.args.left.now) point))
    c.in-Branch-right.other _ _ _ _ _ right c.join_halves-then-other-place.ensures.computes
    c.in_ok-l-in-Branch-right-2.ensures.computes c.in_ok-h-in-Branch-right-2.ensures.computes

pub returns-then-other-place-clause-reduced : goal.returns-then-other-place-clause-reduced
returns-then-other-place-clause-reduced t c =
    let right : shape c.args.right.now
    ≡ Node c.in-Branch-right.other (shape c.deref-then-other-place.result.now) (shape c.deref-then-other-place-2.result.now) =
    node-at _ _ _ _ _ _ (ap shape c.in-Branch-right.is) (ap shape c.deref-then-other-place.ensures) (ap shape c.deref-then-other-place-2.ensures) in
    made-reduced-right _ c.in-Branch-right.other _ _ _ _ _ _ right c.join_halves-then-other-place.ensures.reduced
    (λ least. above-Node least c.in-Branch-right.other c.in-Branch.place _ _ _ (ap shape c.in-Branch.is) c.if-other-place.true)
    c.in_ok-l-in-Branch-right-2.ensures.reduced c.in_ok-h-in-Branch-right-2.ensures.reduced

pub returns-in_ok-h-in-Branch-right-3-clause-computes : goal.returns-in_ok-h-in-Branch-right-3-clause-computes
returns-in_ok-h-in-Branch-right-3-clause-computes t c =
    let left : shape c.args.left.now
    ≡ Node c.in-Branch.place (shape c.deref-in-Branch-right.result.now) (shape c.deref-in-Branch-right-3.result.now) =
    node-at _ _ _ _ _ _ (ap shape c.in-Branch.is) (ap shape c.deref-in-Branch-right.ensures) (ap shape c.deref-in-Branch-right-3.ensures) in
    let right : shape c.args.right.now
    ≡ Node c.in-Branch-right.other (shape c.deref-in-Branch-right-2.result.now) (shape c.deref-in-Branch-right-4.result.now) =
    node-at _ _ _ _ _ _ (ap shape c.in-Branch-right.is) (ap shape c.deref-in-Branch-right-2.ensures) (ap shape c.deref-in-Branch-right-4.ensures) in
    let same : c.in-Branch.place ≡ c.in-Branch-right.other = omega arith in
    made-both _ (bits c.args.operation) c.in-Branch.place c.in-Branch-right.other _ _ _ _ _ _ _ _ left right same
    c.join_halves-in-Branch-right.ensures.computes
    c.in_ok-l-in-Branch-right-3.ensures.computes c.in_ok-h-in-Branch-right-3.ensures.computes

pub returns-in_ok-h-in-Branch-right-3-clause-reduced : goal.returns-in_ok-h-in-Branch-right-3-clause-reduced
returns-in_ok-h-in-Branch-right-3-clause-reduced t c =
    let left : shape c.args.left.now
    ≡ Node c.in-Branch.place (shape c.deref-in-Branch-right.result.now) (shape c.deref-in-Branch-right-3.result.now) =
    node-at _ _ _ _ _ _ (ap shape c.in-Branch.is) (ap shape c.deref-in-Branch-right.ensures) (ap shape c.deref-in-Branch-right-3.ensures) in
    let right : shape c.args.right.now
    ≡ Node c.in-Branch-right.other (shape c.deref-in-Branch-right-2.result.now) (shape c.deref-in-Branch-right-4.result.now) =
    node-at _ _ _ _ _ _ (ap shape c.in-Branch-right.is) (ap shape c.deref-in-Branch-right-2.ensures) (ap shape c.deref-in-Branch-right-4.ensures) in
    let same : c.in-Branch.place ≡ c.in-Branch-right.other = omega arith in
    made-reduced-both _ c.in-Branch.place c.in-Branch-right.other _ _ _ _ _ _ _ _ left right same
    c.join_halves-in-Branch-right.ensures.reduced
    c.in_ok-l-in-Branch-right-3.ensures.reduced c.in_ok-h-in-Branch-right-3.ensures.reduced
