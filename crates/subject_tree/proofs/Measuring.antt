-- The sizes of trees as words, one vertex after the other.
use Rattle.std.proofs.Common.{◌≡◌, ℕ, zero, suc, ◌+◌, ◌<◌, ◌≤◌, List, [], ◌∷◌, ◌++◌, map, length, take, get_or, refl, sym, ap, ◌∙◌, arith}
use Rattle.std.proofs.lemmas.List.{take_more}
use Rattle.subject_tree.specs.Trees.{Tree, size_of}
use Rattle.subject_tree.specs.Arenas.{nowhere, trees, tree_at, tree_in, built, vertex_at, IsOver, IsArena}
use Rattle.subject_tree.specs.Sizes.{word_count, word_size, size_over}
use Rattle.subject_tree.specs.declared.arena.Vertex.{Vertex}
use Rattle.subject_tree.specs.declared.arena.Vertex.TheVariants.{Leaf, Inv, Nand}
use Rattle.subject_tree.proofs.Arenas.{length-trees}

take_past : {X : Type 0} (xs : List X) (n : ℕ) → length xs ≤ n → take n xs ≡ xs
take_past [] zero le = refl
take_past [] (suc n) le = refl
take_past (x ∷ xs) zero le = absurd (omega (arith, le))
take_past {X} (x ∷ xs) (suc n) le = ap (λ (ys : List X). x ∷ ys) (take_past xs n (omega (arith, le)))

map_push : {X Y : Type 0} (f : X → Y) (xs : List X) (x : X) → map f (xs ++ x ∷ []) ≡ map f xs ++ f x ∷ []
map_push f [] x = refl
map_push {X} {Y} f (y ∷ ys) x = ap (λ (zs : List Y). f y ∷ zs) (map_push f ys x)

word_inv : (a : ℕ) → word_count (word_count a + 1) ≡ word_count (a + 1)
word_inv a = omega arith

word_nand : (a b : ℕ) → word_count (word_count (word_count a + word_count b) + 1) ≡ word_count (a + b + 1)
word_nand a b = omega arith

leaf_size : word_size nowhere ≡ 1
unfolding size_of
leaf_size = refl

-- the word that is known for a lower number
size_known : (ts : List (Tree ℕ)) (n k : ℕ) → k < n → get_or (map word_size (take n ts)) k 1 ≡ word_size (tree_in ts k)
size_known [] zero k lt = sym leaf_size
size_known [] (suc n) k lt = sym leaf_size
size_known (t ∷ ts) zero k lt = absurd (omega (arith, lt))
size_known (t ∷ ts) (suc n) zero lt = refl
size_known (t ∷ ts) (suc n) (suc k) lt = size_known ts n k (omega (arith, lt))

pub size_built : (ts : List (Tree ℕ)) (n : ℕ) (v : Vertex) → IsOver n v → size_over (map word_size (take n ts)) v ≡ word_size (built ts v)
unfolding size_of
size_built ts n (Leaf place) over = sym leaf_size
size_built ts n (Inv i) over =
    ap (λ (k : ℕ). word_count (k + 1)) (size_known ts n i over) ∙ word_inv (size_of (tree_in ts i))
size_built ts n (Nand i j) over =
    ap (λ (k : ℕ). word_count (word_count (k + get_or (map word_size (take n ts)) j 1) + 1)) (size_known ts n i over.0)
    ∙ (ap (λ (k : ℕ). word_count (word_count (word_size (tree_in ts i) + k) + 1)) (size_known ts n j over.1) ∙ word_nand (size_of (tree_in ts i)) (size_of (tree_in ts j)))

pub sizes_more : (vs : List Vertex) (n size : ℕ) (v : Vertex) (sizes more : List ℕ) → IsArena vs → n < length vs → v ≡ vertex_at vs n → sizes ≡ map word_size (take n (trees vs)) → size ≡ size_over sizes v → more ≡ sizes ++ size ∷ []
    → more ≡ map word_size (take (n + 1) (trees vs))
sizes_more vs n size v sizes more arena lt at known is pushed =
    let one : size ≡ word_size (tree_at vs n) =
    is ∙ (ap (λ (xs : List ℕ). size_over xs v) known ∙ (ap (size_over (map word_size (take n (trees vs)))) at
    ∙ (size_built (trees vs) n (vertex_at vs n) (arena.over n lt) ∙ ap word_size (sym (arena.reads n lt))))) in
    pushed ∙ (ap (λ (xs : List ℕ). xs ++ size ∷ []) known ∙ (ap (λ (k : ℕ). map word_size (take n (trees vs)) ++ k ∷ []) one
    ∙ (sym (map_push word_size (take n (trees vs)) (tree_at vs n)) ∙ ap (map word_size) (sym (take_more (trees vs) n nowhere (omega (arith, lt, length-trees vs)))))))

pub sizes_all : (vs : List Vertex) (n : ℕ) (sizes : List ℕ) → length vs ≤ n → sizes ≡ map word_size (take n (trees vs)) → sizes ≡ map word_size (trees vs)
sizes_all vs n sizes le is =
    is ∙ ap (map word_size) (take_past (trees vs) n (omega (arith, le, length-trees vs)))
