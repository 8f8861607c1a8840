-- The recursion by which Bryant's "apply" builds the tree of an operation: one step, over its two
-- trees' top variables, given the halves' trees. What the result computes, and that it is reduced.
use Rattle.std.proofs.Common.{Result, IfOk, ◌≡◌, ℕ, suc, ◌<◌, ◌≤◌, Bool, true, false, if◌then◌else◌, refl, ap, sym, ◌∙◌, subst, arith}
use Rattle.std.proofs.lemmas.Result.{IfOk-weaker}
use Rattle.func_core.specs.Trees.{Tree, Zero, One, Node, eval, IsReduced}
use Rattle.func_core.proofs.Trees.{tree_eq-same, tree_eq-other, IsReduced-weaker}
use Rattle.func_core.specs.Sizes.{tree_eq}
use Rattle.func_core.specs.Operations.{bits}
use Rattle.func_core.specs.PlainTrees.{shape}
use Rattle.func_core.specs.declared.diagram.Diagram.{Diagram}
use Rattle.func_core.specs.declared.operation.Operation.{Operation}
use Rattle.func_core.specs.declared.operation.Operation.TheVariants.{And, Or, Xor}

-- a tree takes one of two halves by a variable
abbrev pub Splits : ℕ → Tree → Tree → Tree → Type 0
Splits place lo hi made =
    (point : ℕ → Bool) → eval made point ≡ (if point place then eval hi point else eval lo point)

-- a made tree is reduced where its halves are, above their variable
abbrev pub StaysReduced : ℕ → Tree → Tree → Tree → Type 0
StaysReduced place lo hi made =
    (least : ℕ) → least ≤ place → IsReduced (suc place) lo → IsReduced (suc place) hi → IsReduced least made

-- a half represents both if they are equal
pub splits-same : (place : ℕ) (lo hi : Tree) → tree_eq lo hi ≡ true → Splits place lo hi lo
splits-same place lo hi e point = cases (point place) (ap (λ (t : Tree). eval t point) (tree_eq-same lo hi e))
  where
    cases : (b : Bool) → eval lo point ≡ eval hi point → eval lo point ≡ (if b then eval hi point else eval lo point)
    cases true h = h
    cases false h = refl

pub reduced-same : (place : ℕ) (lo hi : Tree) → StaysReduced place lo hi lo
reduced-same place lo hi least h r s = IsReduced-weaker least (suc place) lo (omega arith) r

pub splits-node : (place : ℕ) (lo hi made : Tree) → made ≡ Node place lo hi → Splits place lo hi made
unfolding eval
splits-node place lo hi made e point = ap (λ (t : Tree). eval t point) e

pub reduced-node : (place : ℕ) (lo hi made : Tree) → made ≡ Node place lo hi → tree_eq lo hi ≡ false →
    StaysReduced place lo hi made
unfolding IsReduced
reduced-node place lo hi made e other least h r s =
    subst (λ (t : Tree). IsReduced least t) (sym e) (h, tree_eq-other lo hi other, r, s)

pub eval-Zero : (t : Tree) (point : ℕ → Bool) → t ≡ Zero → eval t point ≡ false
unfolding eval
eval-Zero t point e = ap (λ (u : Tree). eval u point) e

pub eval-One : (t : Tree) (point : ℕ → Bool) → t ≡ One → eval t point ≡ true
unfolding eval
eval-One t point e = ap (λ (u : Tree). eval u point) e

eval-Node : (t lo hi : Tree) (place : ℕ) (point : ℕ → Bool) → t ≡ Node place lo hi →
    eval t point ≡ (if point place then eval hi point else eval lo point)
unfolding eval
eval-Node t lo hi place point e = ap (λ (u : Tree). eval u point) e

pub IsReduced-Zero : (least : ℕ) (t : Tree) → t ≡ Zero → IsReduced least t
unfolding IsReduced
IsReduced-Zero least t e = subst (λ (u : Tree). IsReduced least u) (sym e) tt

pub IsReduced-One : (least : ℕ) (t : Tree) → t ≡ One → IsReduced least t
unfolding IsReduced
IsReduced-One least t e = subst (λ (u : Tree). IsReduced least u) (sym e) tt

pub IsReduced-Node : (least : ℕ) (t lo hi : Tree) (place : ℕ) → t ≡ Node place lo hi → IsReduced least t →
    (least ≤ place) × (lo ≡ hi → ⊥) × IsReduced (suc place) lo × IsReduced (suc place) hi
unfolding IsReduced
IsReduced-Node least t lo hi place e r = subst (λ (u : Tree). IsReduced least u) e r

-- a tree whose top variable comes after another one is reduced from there on
pub above-Node : (least place other : ℕ) (t lo hi : Tree) → t ≡ Node other lo hi → place < other →
    IsReduced least t → IsReduced (suc place) t
unfolding IsReduced
above-Node least place other t lo hi e below r =
    let k : (least ≤ other) × (lo ≡ hi → ⊥) × IsReduced (suc other) lo × IsReduced (suc other) hi =
    IsReduced-Node least t lo hi other e r in
    let up : suc place ≤ other = omega arith in
    subst (λ (u : Tree). IsReduced (suc place) u) (sym e) (up, k.1, k.2, k.3)

by-half : (change : Bool → Bool) (b : Bool) (x y l h v t : Bool) → v ≡ (if b then h else l) →
    t ≡ (if b then y else x) → l ≡ change x → h ≡ change y → v ≡ change t
by-half change true x y l h v t e f p q = e ∙ q ∙ ap change (sym f)
by-half change false x y l h v t e f p q = e ∙ p ∙ ap change (sym f)

both-halves : (join : Bool → Bool → Bool) (b : Bool) (x y r s l h v t u : Bool) → v ≡ (if b then h else l) →
    t ≡ (if b then y else x) → u ≡ (if b then s else r) → l ≡ join x r → h ≡ join y s → v ≡ join t u
both-halves join true x y r s l h v t u e f g p q = e ∙ q ∙ ap (λ (a : Bool). join a s) (sym f) ∙ ap (join t) (sym g)
both-halves join false x y r s l h v t u e f g p q = e ∙ p ∙ ap (λ (a : Bool). join a r) (sym f) ∙ ap (join t) (sym g)

-- one tree splits at the variable, and a change of bits is applied to each half
computes-one : (change : (ℕ → Bool) → Bool → Bool) (place : ℕ) (t lo hi l h made : Tree) → t ≡ Node place lo hi →
    Splits place l h made →
    ((point : ℕ → Bool) → eval l point ≡ change point (eval lo point)) →
    ((point : ℕ → Bool) → eval h point ≡ change point (eval hi point)) →
    (point : ℕ → Bool) → eval made point ≡ change point (eval t point)
computes-one change place t lo hi l h made e m p q point =
    by-half (change point) (point place) (eval lo point) (eval hi point) (eval l point) (eval h point) (eval made point) (eval t point)
    (m point) (eval-Node t lo hi place point e) (p point) (q point)

-- both trees split at the variable
computes-both : (join : Bool → Bool → Bool) (place other : ℕ) (t u lo hi low high l h made : Tree) →
    t ≡ Node place lo hi → u ≡ Node other low high → place ≡ other → Splits place l h made →
    ((point : ℕ → Bool) → eval l point ≡ join (eval lo point) (eval low point)) →
    ((point : ℕ → Bool) → eval h point ≡ join (eval hi point) (eval high point)) →
    (point : ℕ → Bool) → eval made point ≡ join (eval t point) (eval u point)
computes-both join place other t u lo hi low high l h made e f same m p q point =
    both-halves join (point place) (eval lo point) (eval hi point) (eval low point) (eval high point) (eval l point) (eval h point)
    (eval made point) (eval t point) (eval u point)
    (m point) (eval-Node t lo hi place point e)
    (eval-Node u low high place point (f ∙ ap (λ (n : ℕ). Node n low high) (sym same))) (p point) (q point)

-- the operations commute
bits-turn : (operation : Operation) (a b : Bool) → bits operation a b ≡ bits operation b a
bits-turn And true true = refl
bits-turn And true false = refl
bits-turn And false true = refl
bits-turn And false false = refl
bits-turn Or true true = refl
bits-turn Or true false = refl
bits-turn Or false true = refl
bits-turn Or false false = refl
bits-turn Xor true true = refl
bits-turn Xor true false = refl
bits-turn Xor false true = refl
bits-turn Xor false false = refl

-- the first tree has one bit everywhere, and so does the second
computes-first : (join : Bool → Bool → Bool) (bit : Bool) (t u made : Tree) → ((point : ℕ → Bool) → eval t point ≡ bit) →
    ((point : ℕ → Bool) → eval made point ≡ join bit (eval u point)) →
    (point : ℕ → Bool) → eval made point ≡ join (eval t point) (eval u point)
computes-first join bit t u made e m point = m point ∙ ap (λ (b : Bool). join b (eval u point)) (sym (e point))

computes-second : (operation : Operation) (bit : Bool) (t u made : Tree) → ((point : ℕ → Bool) → eval u point ≡ bit) →
    ((point : ℕ → Bool) → eval made point ≡ bits operation bit (eval t point)) →
    (point : ℕ → Bool) → eval made point ≡ bits operation (eval t point) (eval u point)
computes-second operation bit t u made e m point =
    m point ∙ bits-turn operation bit (eval t point) ∙ ap (bits operation (eval t point)) (sym (e point))

-- one tree splits: the halves are made of its halves and the whole other tree
reduced-one : (place : ℕ) (t u lo hi l h made : Tree) → t ≡ Node place lo hi → StaysReduced place l h made →
    ((least : ℕ) → IsReduced least u → IsReduced (suc place) u) →
    ((least : ℕ) → IsReduced least lo → IsReduced least u → IsReduced least l) →
    ((least : ℕ) → IsReduced least hi → IsReduced least u → IsReduced least h) →
    (least : ℕ) → IsReduced least t → IsReduced least u → IsReduced least made
reduced-one place t u lo hi l h made e m up p q least r s =
    let k : (least ≤ place) × (lo ≡ hi → ⊥) × IsReduced (suc place) lo × IsReduced (suc place) hi =
    IsReduced-Node least t lo hi place e r in
    m least k.0 (p (suc place) k.2 (up least s)) (q (suc place) k.3 (up least s))

-- the only tree splits
reduced-alone : (place : ℕ) (t lo hi l h made : Tree) → t ≡ Node place lo hi → StaysReduced place l h made →
    ((least : ℕ) → IsReduced least lo → IsReduced least l) →
    ((least : ℕ) → IsReduced least hi → IsReduced least h) →
    (least : ℕ) → IsReduced least t → IsReduced least made
reduced-alone place t lo hi l h made e m p q least r =
    let k : (least ≤ place) × (lo ≡ hi → ⊥) × IsReduced (suc place) lo × IsReduced (suc place) hi =
    IsReduced-Node least t lo hi place e r in
    m least k.0 (p (suc place) k.2) (q (suc place) k.3)

-- both trees split
reduced-both : (place other : ℕ) (t u lo hi low high l h made : Tree) → t ≡ Node place lo hi → u ≡ Node other low high →
    place ≡ other → StaysReduced place l h made →
    ((least : ℕ) → IsReduced least lo → IsReduced least low → IsReduced least l) →
    ((least : ℕ) → IsReduced least hi → IsReduced least high → IsReduced least h) →
    (least : ℕ) → IsReduced least t → IsReduced least u → IsReduced least made
reduced-both place other t u lo hi low high l h made e f same m p q least r s =
    let k : (least ≤ place) × (lo ≡ hi → ⊥) × IsReduced (suc place) lo × IsReduced (suc place) hi =
    IsReduced-Node least t lo hi place e r in
    let j : (least ≤ place) × (low ≡ high → ⊥) × IsReduced (suc place) low × IsReduced (suc place) high =
    IsReduced-Node least u low high place (f ∙ ap (λ (n : ℕ). Node n low high) (sym same)) s in
    m least k.0 (p (suc place) k.2 j.2) (q (suc place) k.3 j.3)

-- the same of what a call gives
module _ {E : Type 0} (r : Result Diagram E) where
  pub made-first : (join : Bool → Bool → Bool) (bit : Bool) (t u : Tree) → ((point : ℕ → Bool) → eval t point ≡ bit) →
      IfOk r (λ made. (point : ℕ → Bool) → eval (shape made) point ≡ join bit (eval u point)) →
      IfOk r (λ made. (point : ℕ → Bool) → eval (shape made) point ≡ join (eval t point) (eval u point))
  made-first join bit t u e h =
      IfOk-weaker r (λ made. (point : ℕ → Bool) → eval (shape made) point ≡ join bit (eval u point))
      (λ made. (point : ℕ → Bool) → eval (shape made) point ≡ join (eval t point) (eval u point))
      (λ made m. computes-first join bit t u (shape made) e m) h

  pub made-second : (operation : Operation) (bit : Bool) (t u : Tree) → ((point : ℕ → Bool) → eval u point ≡ bit) →
      IfOk r (λ made. (point : ℕ → Bool) → eval (shape made) point ≡ bits operation bit (eval t point)) →
      IfOk r (λ made. (point : ℕ → Bool) → eval (shape made) point ≡ bits operation (eval t point) (eval u point))
  made-second operation bit t u e h =
      IfOk-weaker r (λ made. (point : ℕ → Bool) → eval (shape made) point ≡ bits operation bit (eval t point))
      (λ made. (point : ℕ → Bool) → eval (shape made) point ≡ bits operation (eval t point) (eval u point))
      (λ made m. computes-second operation bit t u (shape made) e m) h

  pub made-one : (change : (ℕ → Bool) → Bool → Bool) (place : ℕ) (t lo hi l h : Tree) → t ≡ Node place lo hi →
      IfOk r (λ made. Splits place l h (shape made)) →
      ((point : ℕ → Bool) → eval l point ≡ change point (eval lo point)) →
      ((point : ℕ → Bool) → eval h point ≡ change point (eval hi point)) →
      IfOk r (λ made. (point : ℕ → Bool) → eval (shape made) point ≡ change point (eval t point))
  made-one change place t lo hi l h is j p q =
      IfOk-weaker r (λ made. Splits place l h (shape made))
      (λ made. (point : ℕ → Bool) → eval (shape made) point ≡ change point (eval t point))
      (λ made m. computes-one change place t lo hi l h (shape made) is m p q) j

  pub made-both : (join : Bool → Bool → Bool) (place other : ℕ) (t u lo hi low high l h : Tree) → t ≡ Node place lo hi →
      u ≡ Node other low high → place ≡ other → IfOk r (λ made. Splits place l h (shape made)) →
      ((point : ℕ → Bool) → eval l point ≡ join (eval lo point) (eval low point)) →
      ((point : ℕ → Bool) → eval h point ≡ join (eval hi point) (eval high point)) →
      IfOk r (λ made. (point : ℕ → Bool) → eval (shape made) point ≡ join (eval t point) (eval u point))
  made-both join place other t u lo hi low high l h e f same j p q =
      IfOk-weaker r (λ made. Splits place l h (shape made))
      (λ made. (point : ℕ → Bool) → eval (shape made) point ≡ join (eval t point) (eval u point))
      (λ made m. computes-both join place other t u lo hi low high l h (shape made) e f same m p q) j

  pub made-reduced-alone : (place : ℕ) (t lo hi l h : Tree) → t ≡ Node place lo hi →
      IfOk r (λ made. StaysReduced place l h (shape made)) →
      ((least : ℕ) → IsReduced least lo → IsReduced least l) →
      ((least : ℕ) → IsReduced least hi → IsReduced least h) →
      IfOk r (λ made. (least : ℕ) → IsReduced least t → IsReduced least (shape made))
  made-reduced-alone place t lo hi l h is j p q =
      IfOk-weaker r (λ made. StaysReduced place l h (shape made))
      (λ made. (least : ℕ) → IsReduced least t → IsReduced least (shape made))
      (λ made m. reduced-alone place t lo hi l h (shape made) is m p q) j

  pub made-reduced-left : (place : ℕ) (t u lo hi l h : Tree) → t ≡ Node place lo hi →
      IfOk r (λ made. StaysReduced place l h (shape made)) →
      ((least : ℕ) → IsReduced least u → IsReduced (suc place) u) →
      ((least : ℕ) → IsReduced least lo → IsReduced least u → IsReduced least l) →
      ((least : ℕ) → IsReduced least hi → IsReduced least u → IsReduced least h) →
      IfOk r (λ made. (least : ℕ) → IsReduced least t → IsReduced least u → IsReduced least (shape made))
  made-reduced-left place t u lo hi l h is j up p q =
      IfOk-weaker r (λ made. StaysReduced place l h (shape made))
      (λ made. (least : ℕ) → IsReduced least t → IsReduced least u → IsReduced least (shape made))
      (λ made m. reduced-one place t u lo hi l h (shape made) is m up p q) j

  pub made-reduced-right : (place : ℕ) (t u low high l h : Tree) → u ≡ Node place low high →
      IfOk r (λ made. StaysReduced place l h (shape made)) →
      ((least : ℕ) → IsReduced least t → IsReduced (suc place) t) →
      ((least : ℕ) → IsReduced least t → IsReduced least low → IsReduced least l) →
      ((least : ℕ) → IsReduced least t → IsReduced least high → IsReduced least h) →
      IfOk r (λ made. (least : ℕ) → IsReduced least t → IsReduced least u → IsReduced least (shape made))
  made-reduced-right place t u low high l h is j up p q =
      IfOk-weaker r (λ made. StaysReduced place l h (shape made))
      (λ made. (least : ℕ) → IsReduced least t → IsReduced least u → IsReduced least (shape made))
      (λ made m least a b. reduced-one place u t low high l h (shape made) is m up
      (λ n x y. p n y x) (λ n x y. q n y x) least b a) j

  pub made-reduced-both : (place other : ℕ) (t u lo hi low high l h : Tree) → t ≡ Node place lo hi →
      u ≡ Node other low high → place ≡ other → IfOk r (λ made. StaysReduced place l h (shape made)) →
      ((least : ℕ) → IsReduced least lo → IsReduced least low → IsReduced least l) →
      ((least : ℕ) → IsReduced least hi → IsReduced least high → IsReduced least h) →
      IfOk r (λ made. (least : ℕ) → IsReduced least t → IsReduced least u → IsReduced least (shape made))
  made-reduced-both place other t u lo hi low high l h e f same j p q =
      IfOk-weaker r (λ made. StaysReduced place l h (shape made))
      (λ made. (least : ℕ) → IsReduced least t → IsReduced least u → IsReduced least (shape made))
      (λ made m. reduced-both place other t u lo hi low high l h (shape made) e f same m p q) j

-- the tree of a variable
variable-bit : (b : Bool) → (if b then true else false) ≡ b
variable-bit true = refl
variable-bit false = refl

pub eval_variable : (place : ℕ) (lo hi : Tree) (point : ℕ → Bool) → lo ≡ Zero → hi ≡ One →
    eval (Node place lo hi) point ≡ point place
unfolding eval
eval_variable place lo hi point e f =
    ap (λ (t : Tree). if point place then eval hi point else eval t point) e
    ∙ ap (λ (t : Tree). if point place then eval t point else false) f ∙ variable-bit (point place)

pub reduced_variable : (place : ℕ) (lo hi : Tree) → lo ≡ Zero → hi ≡ One → IsReduced 0 (Node place lo hi)
unfolding IsReduced
reduced_variable place lo hi e f = (
  omega arith,
  λ (same : lo ≡ hi). let k : Zero ≡ One = sym e ∙ same ∙ f in cc,
  IsReduced-Zero (suc place) lo e,
  IsReduced-One (suc place) hi f,
)

-- a node whose halves are copied
pub node-at : (t lo hi low high : Tree) (place : ℕ) → t ≡ Node place lo hi → low ≡ lo → high ≡ hi → t ≡ Node place low high
node-at t lo hi low high place e f g = cc

pub node-same : (place : ℕ) (lo hi low high : Tree) → lo ≡ low → hi ≡ high → Node place lo hi ≡ Node place low high
node-same place lo hi low high e f = cc
