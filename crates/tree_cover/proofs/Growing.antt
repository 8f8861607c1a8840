-- What bindings grow to, by the vertices of a pattern and of a tree.
use Rattle.std.proofs.Common.{◌≡◌, ℕ, ◌==◌, Bool, true, false, if◌then◌else◌, Option, Some, None, List, [], ◌∷◌, ◌++◌, length, set, slice_get, refl, sym, ap, ◌∙◌, arith, append-nil}
use borrow.Author.Tests.{eqb-true, eq-eqb}
use Rattle.std.specs.List.{flat_map}
use Rattle.subject_tree.specs.Trees.{Tree, Leaf, Inv, Nand}
use Rattle.subject_tree.specs.Arenas.{trees, tree_at, built, vertex_at, IsArena}
use Rattle.subject_tree.specs.declared.arena.Vertex.{Vertex}
use Rattle.subject_tree.specs.declared.arena.Vertex.TheVariants.{Leaf as AtLeaf, Inv as AtInv, Nand as AtNand}
use Rattle.subject_tree.proofs.Arenas.{reads_all}
use Rattle.tree_cover.specs.declared.binding.Binding.{Binding}
use Rattle.tree_cover.specs.Bindings.{bound_as, bind, under_inverter, under_nand, grown}

no_inverter : (v : Vertex) (f : ℕ → List Binding) → ((m : ℕ) → f m ≡ []) → under_inverter v f ≡ []
no_inverter (AtLeaf place) f none = refl
no_inverter (AtInv m) f none = none m
no_inverter (AtNand m k) f none = refl

no_nand : (v : Vertex) (f : ℕ → ℕ → List Binding) → ((m k : ℕ) → f m k ≡ []) → under_nand v f ≡ []
no_nand (AtLeaf place) f none = refl
no_nand (AtInv m) f none = refl
no_nand (AtNand m k) f none = none m k

pub grown_none : (vs : List Vertex) (p : Tree ℕ) (n : ℕ) → grown vs p n [] ≡ []
unfolding grown
grown_none vs (Leaf pin) n = refl
grown_none vs (Inv p) n = no_inverter (vertex_at vs n) (λ m. grown vs p m []) (λ m. grown_none vs p m)
grown_none vs (Nand p q) n =
    no_nand (vertex_at vs n) (λ m k. grown vs q k (grown vs p m []) ++ grown vs q m (grown vs p k []))
    (λ m k.
    ap (λ (bs : List Binding). grown vs q k bs ++ grown vs q m (grown vs p k [])) (grown_none vs p m)
    ∙ (ap (λ (bs : List Binding). bs ++ grown vs q m (grown vs p k [])) (grown_none vs q k) ∙ (ap (grown vs q m) (grown_none vs p k) ∙ grown_none vs q m)))

-- bindings that are empty stay so
pub grown_empty : (vs : List Vertex) (p : Tree ℕ) (n : ℕ) (bs made : List Binding) → length bs ≡ 0 → made ≡ [] → made ≡ grown vs p n bs
grown_empty vs p n [] made none is = is ∙ sym (grown_none vs p n)
grown_empty vs p n (b ∷ bs) made none is = absurd (omega (arith, none))

-- one pin of one binding
pub bind_absent : (pin n : ℕ) (b : Binding) (made : List Binding) (slot : Option (Option ℕ)) → slot ≡ slice_get b.pins pin → slot ≡ None → made ≡ made ++ bind pin n b
bind_absent pin n b made slot is none = sym (ap (λ (o : Option (Option ℕ)). made ++ bound_as pin n b o) (sym is ∙ none) ∙ append-nil made)

pub bind_free : (pin n : ℕ) (b : Binding) (made pushed : List Binding) (slot : Option (Option ℕ)) → slot ≡ slice_get b.pins pin → slot ≡ Some None → pushed ≡ made ++ (record { pins = set b.pins pin (Some n) }) ∷ [] → pushed ≡ made ++ bind pin n b
bind_free pin n b made pushed slot is free done = done ∙ sym (ap (λ (o : Option (Option ℕ)). made ++ bound_as pin n b o) (sym is ∙ free))

pub bind_kept : (pin n other : ℕ) (b : Binding) (made pushed : List Binding) (slot : Option (Option ℕ)) → slot ≡ slice_get b.pins pin → slot ≡ Some (Some other) → other ≡ n → pushed ≡ made ++ b ∷ [] → pushed ≡ made ++ bind pin n b
bind_kept pin n other b made pushed slot is bound same done =
    done
    ∙ sym (ap (λ (o : Option (Option ℕ)). made ++ bound_as pin n b o) (sym is ∙ bound)
    ∙ ap (λ (t : Bool). made ++ (if t then b ∷ [] else [])) (eq-eqb other n same))

pub bind_refused : (pin n other : ℕ) (b : Binding) (made : List Binding) (slot : Option (Option ℕ)) → slot ≡ slice_get b.pins pin → slot ≡ Some (Some other) → (other ≡ n → ⊥) → made ≡ made ++ bind pin n b
bind_refused pin n other b made slot is bound apart =
    sym (ap (λ (o : Option (Option ℕ)). made ++ bound_as pin n b o) (sym is ∙ bound)
    ∙ (ap (λ (t : Bool). made ++ (if t then b ∷ [] else [])) (not_equal (other == n) refl) ∙ append-nil made))
  where
    not_equal : (t : Bool) → (other == n) ≡ t → (other == n) ≡ false
    not_equal true e = absurd (apart (eqb-true other n e))
    not_equal false e = e

-- the tree of a number, by the vertex that is read there
pub told : (vs : List Vertex) (n : ℕ) (v w : Vertex) → IsArena vs → v ≡ vertex_at vs n → v ≡ w → tree_at vs n ≡ built (trees vs) w
told vs n v w arena e f = reads_all vs arena n ∙ ap (built (trees vs)) (sym e ∙ f)

module _ (vs shapes : List Vertex) (pattern n : ℕ) (bs : List Binding) (arena : IsArena shapes) where
  pub grown_leaf : (pin : ℕ) (v : Vertex) (made : List Binding) → v ≡ vertex_at shapes pattern → v ≡ AtLeaf pin → made ≡ flat_map (bind pin n) bs → made ≡ grown vs (tree_at shapes pattern) n bs
  unfolding grown
  grown_leaf pin v made e f is = is ∙ sym (ap (λ (t : Tree ℕ). grown vs t n bs) (told shapes pattern v (AtLeaf pin) arena e f))

  pub grown_inverter : (below under : ℕ) (v w : Vertex) (made : List Binding) → v ≡ vertex_at shapes pattern → v ≡ AtInv below → w ≡ vertex_at vs n → w ≡ AtInv under → made ≡ grown vs (tree_at shapes below) under bs
      → made ≡ grown vs (tree_at shapes pattern) n bs
  unfolding grown
  grown_inverter below under v w made e f g h is =
      is
      ∙ sym (ap (λ (t : Tree ℕ). grown vs t n bs) (told shapes pattern v (AtInv below) arena e f)
      ∙ ap (λ (x : Vertex). under_inverter x (λ m. grown vs (tree_at shapes below) m bs)) (sym g ∙ h))

  pub grown_no_inverter : (below : ℕ) (v w : Vertex) (made : List Binding) → v ≡ vertex_at shapes pattern → v ≡ AtInv below → w ≡ vertex_at vs n
      → ((m : ℕ) → w ≡ AtInv m → ⊥) → made ≡ [] → made ≡ grown vs (tree_at shapes pattern) n bs
  unfolding grown
  grown_no_inverter below v w made e f g other is =
      is
      ∙ sym (ap (λ (t : Tree ℕ). grown vs t n bs) (told shapes pattern v (AtInv below) arena e f)
      ∙ (ap (λ (x : Vertex). under_inverter x (λ m. grown vs (tree_at shapes below) m bs)) (sym g) ∙ by_vertex w other))
    where
      by_vertex : (x : Vertex) → ((m : ℕ) → x ≡ AtInv m → ⊥) → under_inverter x (λ m. grown vs (tree_at shapes below) m bs) ≡ []
      by_vertex (AtLeaf place) no_one = refl
      by_vertex (AtInv m) no_one = absurd (no_one m refl)
      by_vertex (AtNand m k) no_one = refl

  pub grown_nand : (left right first second : ℕ) (v w : Vertex) (made straight crossed : List Binding) → v ≡ vertex_at shapes pattern → v ≡ AtNand left right → w ≡ vertex_at vs n → w ≡ AtNand first second
      → straight ≡ grown vs (tree_at shapes right) second (grown vs (tree_at shapes left) first bs) → crossed ≡ grown vs (tree_at shapes right) first (grown vs (tree_at shapes left) second bs) → made ≡ straight ++ crossed
      → made ≡ grown vs (tree_at shapes pattern) n bs
  unfolding grown
  grown_nand left right first second v w made straight crossed e f g h s c is =
      is
      ∙ (ap (λ (xs : List Binding). xs ++ crossed) s ∙ ap (λ (xs : List Binding). grown vs (tree_at shapes right) second (grown vs (tree_at shapes left) first bs) ++ xs) c)
      ∙ sym (ap (λ (t : Tree ℕ). grown vs t n bs) (told shapes pattern v (AtNand left right) arena e f)
      ∙ ap (λ (x : Vertex). under_nand x (λ m k. grown vs (tree_at shapes right) k (grown vs (tree_at shapes left) m bs) ++ grown vs (tree_at shapes right) m (grown vs (tree_at shapes left) k bs))) (sym g ∙ h))

  pub grown_no_nand : (left right : ℕ) (v w : Vertex) (made : List Binding) → v ≡ vertex_at shapes pattern → v ≡ AtNand left right → w ≡ vertex_at vs n
      → ((m k : ℕ) → w ≡ AtNand m k → ⊥) → made ≡ [] → made ≡ grown vs (tree_at shapes pattern) n bs
  unfolding grown
  grown_no_nand left right v w made e f g other is =
      is
      ∙ sym (ap (λ (t : Tree ℕ). grown vs t n bs) (told shapes pattern v (AtNand left right) arena e f)
      ∙ (ap (λ (x : Vertex). under_nand x (λ m k. grown vs (tree_at shapes right) k (grown vs (tree_at shapes left) m bs) ++ grown vs (tree_at shapes right) m (grown vs (tree_at shapes left) k bs))) (sym g) ∙ by_vertex w other))
    where
      by_vertex : (x : Vertex) → ((m k : ℕ) → x ≡ AtNand m k → ⊥)
          → under_nand x (λ m k. grown vs (tree_at shapes right) k (grown vs (tree_at shapes left) m bs) ++ grown vs (tree_at shapes right) m (grown vs (tree_at shapes left) k bs)) ≡ []
      by_vertex (AtLeaf place) no_one = refl
      by_vertex (AtInv m) no_one = refl
      by_vertex (AtNand m k) no_one = absurd (no_one m k refl)
