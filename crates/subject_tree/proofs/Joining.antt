-- Numbers of joined trees, one more tree in front.
use Rattle.std.proofs.Common.{◌≡◌, ℕ, zero, suc, ◌+◌, ◌<◌, ◌≤◌, Option, Some, None, IfSome, List, [], ◌∷◌, ◌++◌, length, drop, get_or, option_map, option_to_list, refl, sym, ap, ◌∙◌, subst, arith}
use Rattle.std.specs.List.{AllByRecursion}
use Rattle.std.proofs.lemmas.List.{drop_more}
use Rattle.circuit_model.specs.declared.circuit.Tri.{Tri}
use Rattle.subject_tree.specs.Trees.{Tree, product_of, sum_of}
use Rattle.subject_tree.specs.declared.arena.Vertex.{Vertex}
use Rattle.subject_tree.specs.Arenas.{tree_at, KeepsTrees}
use Rattle.subject_tree.specs.Tables.{with_front, joined, literal_tree, literal_trees, row_tree, row_trees, trees_of, AreTaken, Finds}
use Rattle.subject_tree.proofs.Counting.{drop_all}

-- what is found stays found
pub finds-kept : (old new : List Vertex) (made : Option ℕ) (t : Option (Tree ℕ)) → KeepsTrees old new → Finds old made t → Finds new made t
finds-kept old new None t kept finds = finds
finds-kept old new (Some n) t kept finds =
    ((kept n finds.0).0, finds.1 ∙ ap (λ (u : Tree ℕ). Some u) (sym (kept n finds.0).1))

pub finds-within : (vs : List Vertex) (made : Option ℕ) (t : Option (Tree ℕ)) → Finds vs made t → IfSome made (λ n. n < length vs)
finds-within vs None t finds = tt
finds-within vs (Some n) t finds = finds.0

-- the option of a tree that was found
found-tree : (vs : List Vertex) (made : Option ℕ) (t : Option (Tree ℕ)) → Finds vs made t → option_map (tree_at vs) made ≡ t
found-tree vs None t finds = sym finds
found-tree vs (Some n) t finds = sym finds.1

pub join-none : (join : Tree ℕ → Tree ℕ → Tree ℕ) (old new : List Vertex) (behind : Option ℕ) (t : Option (Tree ℕ)) (ts : List (Tree ℕ)) → KeepsTrees old new → t ≡ None
    → Finds old behind (joined join ts) → Finds new behind (joined join (option_to_list t ++ ts))
join-none join old new behind t ts kept none finds =
    subst (λ (o : Option (Tree ℕ)). Finds new behind (joined join (option_to_list o ++ ts))) (sym none) (finds-kept old new behind (joined join ts) kept finds)

pub join-some : (join : Tree ℕ → Tree ℕ → Tree ℕ) (old mid new : List Vertex) (front number : ℕ) (behind : Option ℕ) (t : Option (Tree ℕ)) (ts : List (Tree ℕ)) → KeepsTrees old mid → t ≡ Some (tree_at mid front)
    → (number < length new) × (tree_at new number ≡ with_front join (tree_at mid front) (option_map (tree_at mid) behind))
    → Finds old behind (joined join ts) → Finds new (Some number) (joined join (option_to_list t ++ ts))
unfolding joined
join-some join old mid new front number behind t ts kept some made finds = (
  made.0,
  ap (λ (o : Option (Tree ℕ)). joined join (option_to_list o ++ ts)) some
      ∙ ap (λ (u : Tree ℕ). Some u) (ap (with_front join (tree_at mid front)) (sym (found-tree mid behind (joined join ts) (finds-kept old mid behind (joined join ts) kept finds))) ∙ sym made.1),
)

pub join-found : (join : Tree ℕ → Tree ℕ → Tree ℕ) (old mid new : List Vertex) (found : Option ℕ) (front number : ℕ) (behind : Option ℕ) (t : Option (Tree ℕ)) (ts : List (Tree ℕ)) → KeepsTrees old mid → found ≡ Some front
    → Finds mid found t → (number < length new) × (tree_at new number ≡ with_front join (tree_at mid front) (option_map (tree_at mid) behind))
    → Finds old behind (joined join ts) → Finds new (Some number) (joined join (option_to_list t ++ ts))
join-found join old mid new found front number behind t ts kept is finds made rest =
    let here : Finds mid (Some front) t = subst (λ (o : Option ℕ). Finds mid o t) is finds in
    join-some join old mid new front number behind t ts kept here.1 made rest

-- a fact of each number, at a place
pub all_at : (P : ℕ → Type 0) (ns : List ℕ) (k d : ℕ) → AllByRecursion P ns → k < length ns → P (get_or ns k d)
all_at P [] k d h lt = absurd (omega (arith, lt))
all_at P (n ∷ ns) zero d h lt = h.0
all_at P (n ∷ ns) (suc k) d h lt = all_at P ns k d h.1 (omega (arith, lt))

pub all_mapped : (P Q : ℕ → Type 0) → ((n : ℕ) → P n → Q n) → (ns : List ℕ) → AllByRecursion P ns → AllByRecursion Q ns
all_mapped P Q f [] h = tt
all_mapped P Q f (n ∷ ns) h = (f n h.0, all_mapped P Q f ns h.1)

pub taken-kept : (old new : List Vertex) (ns : List ℕ) → KeepsTrees old new → AreTaken old ns → AreTaken new ns
taken-kept old new ns kept taken = all_mapped (λ n. n < length old) (λ n. n < length new) (λ n lt. (kept n lt).0) ns taken

pub trees-kept : (old new : List Vertex) (ns : List ℕ) → KeepsTrees old new → AreTaken old ns → trees_of new ns ≡ trees_of old ns
trees-kept old new [] kept taken = refl
trees-kept old new (n ∷ ns) kept taken =
    ap (λ (t : Tree ℕ). t ∷ trees_of new ns) (kept n taken.0).1 ∙ ap (λ (ts : List (Tree ℕ)). tree_at old n ∷ ts) (trees-kept old new ns kept taken.1)

-- one literal more, from the back
literals-more : (vs : List Vertex) (ns : List ℕ) (row : List Tri) (k : ℕ) (c : Tri) → k < length ns → k < length row
    → literal_trees (trees_of vs (drop k ns)) (drop k row) ≡ option_to_list (literal_tree (get_or row k c) (tree_at vs (get_or ns k 0))) ++ literal_trees (trees_of vs (drop (k + 1) ns)) (drop (k + 1) row)
unfolding literal_trees
literals-more vs ns row k c lt at =
    ap (λ (ms : List ℕ). literal_trees (trees_of vs ms) (drop k row)) (drop_more ns k 0 lt)
    ∙ ap (literal_trees (trees_of vs (get_or ns k 0 ∷ drop (k + 1) ns))) (drop_more row k c at)

pub row_step : (old now new : List Vertex) (ns : List ℕ) (row : List Tri) (k place : ℕ) (c : Tri) (behind made : Option ℕ) → k + 1 ≡ place → place ≤ length ns → length row ≡ length ns → KeepsTrees old now → AreTaken old ns
    → Finds now behind (row_tree (trees_of old (drop place ns)) (drop place row))
    → ((ts : List (Tree ℕ)) → Finds now behind (joined product_of ts) → Finds new made (joined product_of (option_to_list (literal_tree (get_or row k c) (tree_at now (get_or ns k 0))) ++ ts)))
    → Finds new made (row_tree (trees_of old (drop k ns)) (drop k row))
row_step old now new ns row k place c behind made next within width kept taken finds join =
    let lt : k < length ns = omega (arith, next, within) in
    let same : tree_at now (get_or ns k 0) ≡ tree_at old (get_or ns k 0) = (kept (get_or ns k 0) (all_at (λ n. n < length old) ns k 0 taken lt)).1 in
    let back : Finds now behind (row_tree (trees_of old (drop (k + 1) ns)) (drop (k + 1) row)) =
    subst (λ (p : ℕ). Finds now behind (row_tree (trees_of old (drop p ns)) (drop p row))) (sym next) finds in
    subst (λ (ts : List (Tree ℕ)). Finds new made (joined product_of ts)) (sym (literals-more old ns row k c lt (omega (arith, lt, width))))
    (subst (λ (t : Tree ℕ). Finds new made (joined product_of (option_to_list (literal_tree (get_or row k c) t) ++ literal_trees (trees_of old (drop (k + 1) ns)) (drop (k + 1) row)))) same
    (join (literal_trees (trees_of old (drop (k + 1) ns)) (drop (k + 1) row)) back))

-- one row more, from the back
rows-more : (ts : List (Tree ℕ)) (rows : List (List Tri)) (k : ℕ) (row : List Tri) → k < length rows → row_trees ts (drop k rows) ≡ option_to_list (row_tree ts (get_or rows k row)) ++ row_trees ts (drop (k + 1) rows)
unfolding row_trees
rows-more ts rows k row lt = ap (row_trees ts) (drop_more rows k row lt)

pub rows_step : (old now mid new : List Vertex) (ns : List ℕ) (rows : List (List Tri)) (k place : ℕ) (row : List Tri) (found behind made : Option ℕ) → k + 1 ≡ place → place ≤ length rows → KeepsTrees old now → KeepsTrees now mid → AreTaken old ns
    → row ≡ get_or rows k row
    → Finds now behind (joined sum_of (row_trees (trees_of old ns) (drop place rows)))
    → Finds mid found (row_tree (trees_of now ns) row)
    → ((t : Option (Tree ℕ)) (ts : List (Tree ℕ)) → Finds mid found t → Finds mid behind (joined sum_of ts) → Finds new made (joined sum_of (option_to_list t ++ ts)))
    → Finds new made (joined sum_of (row_trees (trees_of old ns) (drop k rows)))
rows_step old now mid new ns rows k place row found behind made next within kept keeps taken is finds at join =
    let lt : k < length rows = omega (arith, next, within) in
    let back : Finds mid behind (joined sum_of (row_trees (trees_of old ns) (drop (k + 1) rows))) =
    finds-kept now mid behind (joined sum_of (row_trees (trees_of old ns) (drop (k + 1) rows))) keeps
    (subst (λ (p : ℕ). Finds now behind (joined sum_of (row_trees (trees_of old ns) (drop p rows)))) (sym next) finds) in
    let here : Finds mid found (row_tree (trees_of old ns) (get_or rows k row)) =
    subst (λ (r : List Tri). Finds mid found (row_tree (trees_of old ns) r)) is (subst (λ (ts : List (Tree ℕ)). Finds mid found (row_tree ts row)) (trees-kept old now ns kept taken) at) in
    subst (λ (ts : List (Tree ℕ)). Finds new made (joined sum_of ts)) (sym (rows-more (trees_of old ns) rows k row lt))
    (join (row_tree (trees_of old ns) (get_or rows k row)) (row_trees (trees_of old ns) (drop (k + 1) rows)) here back)

pub kept_on : (a b c : List Vertex) → KeepsTrees a b → KeepsTrees b c → KeepsTrees a c
kept_on a b c first second n lt =
    let (p, e) = first n lt in
    let (q, f) = second n p in
    (q, f ∙ e)

pub row_begun : (vs : List Vertex) (ns : List ℕ) (row : List Tri) → row_tree (trees_of vs (drop (length ns) ns)) (drop (length ns) row) ≡ None
unfolding literal_trees joined
row_begun vs ns row = ap (λ (ms : List ℕ). row_tree (trees_of vs ms) (drop (length ns) row)) (drop_all ns)

pub rows_begun : (ts : List (Tree ℕ)) (rows : List (List Tri)) → joined sum_of (row_trees ts (drop (length rows) rows)) ≡ None
unfolding row_trees joined
rows_begun ts rows = ap (λ (rs : List (List Tri)). joined sum_of (row_trees ts rs)) (drop_all rows)
