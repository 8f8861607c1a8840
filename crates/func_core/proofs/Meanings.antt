-- Consequences of what numbers mean: the laws, and the steps that callers of any object take.
use Rattle.std.proofs.Common.{◌≡◌, ℕ, suc, ◌<◌, ◌≤◌, Bool, true, false, not, if◌then◌else◌, refl, ap, sym, ◌∙◌, subst, arith}
use Rattle.func_core.specs.Trees.{BooleanFunction, Tree, Zero, One, Node, eval, IsReduced, IsTreeOf, constant, variable, complement}
use Rattle.func_core.specs.Sizes.{inner, size}
use Rattle.func_core.specs.Points.{is_constant_zero}
use Rattle.func_core.specs.Numbers.{Means, IsBig, Stays}
use Rattle.func_core.proofs.Unique.{one_tree, put, eval-low, eval-high}
use Rattle.func_core.proofs.Points.{high-stands}
use Rattle.func_core.proofs.Complements.{flip, IsReduced-flip, eval-flip, size-flip}

pub same-tree : (f g : BooleanFunction) (t u : Tree) → IsTreeOf f t → IsTreeOf g u →
    ((point : ℕ → Bool) → f point ≡ g point) → t ≡ u
same-tree f g t u a b e =
    one_tree 0 t u a.reduced b.reduced (λ point. a.computes point ∙ e point ∙ sym (b.computes point))

pub not-both : (limit : ℕ) (f : BooleanFunction) (t : Tree) → IsTreeOf f t → size t ≤ limit → IsBig limit f → ⊥
not-both limit f t a fits b =
    let e : size b.tree ≡ size t = ap size (same-tree f f b.tree t b.is_tree a (λ point. refl)) in
    let k : limit < size b.tree = b.above in
    omega arith

pub complement-tree : (f : BooleanFunction) (t : Tree) → IsTreeOf f t → IsTreeOf (complement f) (flip t)
complement-tree f t a = record {
  reduced = IsReduced-flip 0 t a.reduced;
  computes = λ point. eval-flip t point ∙ ap not (a.computes point);
}

pub complement-size : (f : BooleanFunction) (t u : Tree) → IsTreeOf f t → IsTreeOf (complement f) u → size u ≡ size t
complement-size f t u a b =
    ap size (same-tree (complement f) (complement f) u (flip t) b (complement-tree f t a) (λ point. refl)) ∙ size-flip t

-- a constant has no inner subtree
size-Zero : size Zero ≡ 0
unfolding size inner
size-Zero = refl

size-One : size One ≡ 0
unfolding size inner
size-One = refl

tree-Zero : IsTreeOf (constant false) Zero
unfolding eval IsReduced
tree-Zero = record { reduced = tt; computes = λ point. refl }

tree-One : IsTreeOf (constant true) One
unfolding eval IsReduced
tree-One = record { reduced = tt; computes = λ point. refl }

pub constant-size : (bit : Bool) (t : Tree) → IsTreeOf (constant bit) t → size t ≡ 0
constant-size false t a =
    ap size (same-tree (constant false) (constant false) t Zero a tree-Zero (λ point. refl)) ∙ size-Zero
constant-size true t a =
    ap size (same-tree (constant true) (constant true) t One a tree-One (λ point. refl)) ∙ size-One

-- a variable has one inner subtree
size-variable : (place : ℕ) → size (Node place Zero One) ≡ 1
unfolding size inner
size-variable place = refl

tree-variable : (place : ℕ) → IsTreeOf (variable place) (Node place Zero One)
unfolding eval IsReduced
tree-variable place = record {
  reduced = (omega arith, λ e. cc, tt, tt);
  computes = λ point. test (point place);
}
  where
    test : (b : Bool) → (if b then true else false) ≡ b
    test true = refl
    test false = refl

pub variable-size : (place : ℕ) (t : Tree) → IsTreeOf (variable place) t → size t ≡ 1
variable-size place t a =
    ap size
    (same-tree (variable place) (variable place) t (Node place Zero One) a (tree-variable place) (λ point. refl))
    ∙ size-variable place

-- a variable is too big for no limit of 1 or more
pub variable-fits : (limit place : ℕ) (t : Tree) → 1 ≤ limit → IsTreeOf (variable place) t → limit < size t → ⊥
variable-fits limit place t some a above =
    let e : size t ≡ 1 = variable-size place t a in
    omega arith

-- a reduced tree that isn't Zero is true somewhere
some-point : (least : ℕ) (t : Tree) → IsReduced least t → is_constant_zero t ≡ false →
    (point : ℕ → Bool) × (eval t point ≡ true)
unfolding eval IsReduced
some-point least Zero r z = cc
some-point least One r z = (λ n. false, refl)
some-point least (Node place lo hi) r z =
    cases (is_constant_zero lo) refl (some-point (suc place) lo r.2) (some-point (suc place) hi r.3)
  where
    cases : (b : Bool) → is_constant_zero lo ≡ b →
        (is_constant_zero lo ≡ false → (point : ℕ → Bool) × (eval lo point ≡ true)) →
        (is_constant_zero hi ≡ false → (point : ℕ → Bool) × (eval hi point ≡ true)) →
        (point : ℕ → Bool) × (eval (Node place lo hi) point ≡ true)
    cases true e p q =
        let (point, h) = q (high-stands lo hi r.1 e) in
        (put point place true, eval-high place lo hi point r.3 ∙ h)
    cases false e p q =
        let (point, h) = p e in
        (put point place false, eval-low place lo hi point r.2 ∙ h)

is-Zero : (t : Tree) → (t ≡ Zero → ⊥) → is_constant_zero t ≡ false
is-Zero Zero h = absurd (h refl)
is-Zero One h = refl
is-Zero (Node place lo hi) h = refl

pub true-somewhere : (f : BooleanFunction) (t : Tree) → IsTreeOf f t → (t ≡ Zero → ⊥) →
    (point : ℕ → Bool) × (f point ≡ true)
true-somewhere f t a h =
    let (point, e) = some-point 0 t a.reduced (is-Zero t h) in
    (point, sym (a.computes point) ∙ e)

-- a tree is one of its own function
pub own-tree : (t : Tree) → IsReduced 0 t → IsTreeOf (eval t) t
own-tree t r = record { reduced = r; computes = λ point. refl }

-- equal functions have a tree in common, and are too big together
pub IsTreeOf-same : (f g : BooleanFunction) (t : Tree) → IsTreeOf f t → ((point : ℕ → Bool) → f point ≡ g point) →
    IsTreeOf g t
IsTreeOf-same f g t a e = record { reduced = a.reduced; computes = λ point. a.computes point ∙ e point }

pub IsBig-same : (limit : ℕ) (f g : BooleanFunction) → IsBig limit f → ((point : ℕ → Bool) → f point ≡ g point) →
    IsBig limit g
IsBig-same limit f g b e = record { tree = b.tree; is_tree = IsTreeOf-same f g b.tree b.is_tree e; above = b.above }

module _ {S : Type 0} (holds : S → ℕ → Type 0) (tree : S → ℕ → Tree) (limit : S → ℕ) where
  -- a valid number means the function of its tree
  pub Means-own : (state : S) (n : ℕ) → holds state n → IsReduced 0 (tree state n) → size (tree state n) ≤ limit state →
      Means holds tree limit state n (eval (tree state n))
  Means-own state n h r k = record { stands = h; is_tree = own-tree (tree state n) r; fits = k }

  -- equal functions are meant alike
  pub Means-same : (state : S) (n : ℕ) (f g : BooleanFunction) → Means holds tree limit state n f →
      ((point : ℕ → Bool) → f point ≡ g point) → Means holds tree limit state n g
  Means-same state n f g m e =
      record { stands = m.stands; is_tree = IsTreeOf-same f g (tree state n) m.is_tree e; fits = m.fits }

  -- a number means its function from then on
  pub Means-kept : (before after : S) (n : ℕ) (f : BooleanFunction) → Stays holds tree limit before after →
      Means holds tree limit before n f → Means holds tree limit after n f
  Means-kept before after n f s m =
      let k : holds after n × (tree after n ≡ tree before n) = s.kept n m.stands in
      record {
        stands = k.0;
        is_tree = subst (λ (t : Tree). IsTreeOf f t) (sym k.1) m.is_tree;
        fits = subst (λ (t : Tree). size t ≤ limit after) (sym k.1)
            (subst (λ (l : ℕ). size (tree before n) ≤ l) (sym s.same) m.fits);
      }

  -- what a number means is not too big
  pub Means-fits : (state : S) (n : ℕ) (f : BooleanFunction) → Means holds tree limit state n f →
      IsBig (limit state) f → ⊥
  Means-fits state n f m b = not-both (limit state) f (tree state n) m.is_tree m.fits b

  pub Stays-none : (state : S) → Stays holds tree limit state state
  Stays-none state = record { kept = λ n h. (h, refl); same = refl }

  pub Stays-chain : (first second third : S) → Stays holds tree limit first second →
      Stays holds tree limit second third → Stays holds tree limit first third
  Stays-chain first second third a b = record {
    kept = λ n h.
        let k : holds second n × (tree second n ≡ tree first n) = a.kept n h in
        let l : holds third n × (tree third n ≡ tree second n) = b.kept n k.0 in
        (l.0, l.1 ∙ k.1);
    same = b.same ∙ a.same;
  }
