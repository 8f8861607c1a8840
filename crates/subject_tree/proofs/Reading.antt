-- Trees by the names of their leaves, as vertices and names come behind, and the trees of signals where they are read.
use Rattle.std.proofs.Common.{◌≡◌, ℕ, zero, suc, ◌+◌, ◌<◌, Option, Some, None, IfSome, List, [], ◌∷◌, ◌++◌, map, length, take, get_or, slice_get, unwrap_or, option_map, sym, ap, ◌∙◌, subst, arith}
use Rattle.std.specs.List.{AllByRecursion}
use Rattle.std.proofs.lemmas.List.{take_more, map-append, length_push}
use Rattle.std.proofs.lemmas.Option.{unwrap_or-slice_get}
use Rattle.circuit_model.specs.declared.circuit.Table.{Table}
use Rattle.subject_tree.specs.Trees.{Tree, Leaf, renamed}
use Rattle.subject_tree.specs.Arenas.{tree_at, KeepsTrees, Has}
use Rattle.subject_tree.specs.Order.{name_at, KeepsNames}
use Rattle.subject_tree.specs.Tables.{table_tree, trees_of, AreTaken, Finds}
use Rattle.subject_tree.specs.Reading.{HasTree, IsRead, AreRead, IsMade, AllTaken}
use Rattle.subject_tree.specs.Roots.{tree_over}
use Rattle.subject_tree.specs.declared.arena.Vertex.{Vertex}
use Rattle.subject_tree.proofs.Joining.{trees-kept}
use Rattle.subject_tree.proofs.Renaming.{table-renamed}

pub named_on : (a b c : List (List ℕ)) → KeepsNames a b → KeepsNames b c → KeepsNames a c
named_on a b c first second place name at = second place name (first place name at)

pub tree-kept : (old new : List Vertex) (names more : List (List ℕ)) (n : ℕ) (t : Tree (List ℕ)) → KeepsTrees old new → KeepsNames names more → n < length old → HasTree old names n t → HasTree new more n t
tree-kept old new names more n t kept named lt has others keeps =
    ap (renamed (name_at others)) (kept n lt).1 ∙ has others (named_on names more others named keeps)

-- a new leaf is the tree of its name
pub leaf-named : (vs : List Vertex) (names : List (List ℕ)) (signal : List ℕ) (place n : ℕ) (t : Tree (List ℕ)) → slice_get names place ≡ Some signal → Has vs n (Leaf place) → t ≡ Leaf signal → HasTree vs names n t
unfolding renamed
leaf-named vs names signal place n t at has is more keeps =
    ap (renamed (name_at more)) has.1 ∙ (ap (λ (name : List ℕ). Leaf name) (sym (unwrap_or-slice_get more place []) ∙ ap (λ (o : Option (List ℕ)). unwrap_or o []) (keeps place signal at)) ∙ sym is)

pub read-kept : (old new : List Vertex) (names more : List (List ℕ)) (signal : List ℕ) (found : Option ℕ) (t : Tree (List ℕ)) → KeepsTrees old new → KeepsNames names more → IfSome found (λ n. n < length old) → IsRead old names signal found t → IsRead new more signal found t
read-kept old new names more signal None t kept named lt read = read
read-kept old new names more signal (Some n) t kept named lt read = tree-kept old new names more n t kept named lt read

pub taken-all : (old new : List Vertex) (found : Option ℕ) → KeepsTrees old new → IfSome found (λ n. n < length old) → IfSome found (λ n. n < length new)
taken-all old new None kept lt = tt
taken-all old new (Some n) kept lt = (kept n lt).0

-- one number more behind the last
pub taken-push : (vs : List Vertex) (ns : List ℕ) (n : ℕ) → AreTaken vs ns → n < length vs → AreTaken vs (ns ++ n ∷ [])
taken-push vs [] n taken lt = (lt, tt)
taken-push vs (m ∷ ns) n taken lt = (taken.0, taken-push vs ns n taken.1 lt)

all_signals : (P : List ℕ → Type 0) (xs : List (List ℕ)) (k : ℕ) (d : List ℕ) → AllByRecursion P xs → k < length xs → P (get_or xs k d)
all_signals P [] k d h lt = absurd (omega (arith, lt))
all_signals P (x ∷ xs) zero d h lt = h.0
all_signals P (x ∷ xs) (suc k) d h lt = all_signals P xs k d h.1 (omega (arith, lt))

pub read_more : (first old new : List Vertex) (firsts names more : List (List ℕ)) (numbers : List ℕ → Option ℕ) (signals : List (List ℕ)) (k n : ℕ) (signal : List ℕ) (found : List ℕ)
    → AllTaken first numbers → KeepsTrees first old → KeepsNames firsts names → KeepsTrees old new → KeepsNames names more → AreTaken old found → k < length signals → signal ≡ get_or signals k signal
    → ((t : Tree (List ℕ)) → IsRead old names signal (numbers signal) t → HasTree new more n t)
    → ((tree : List ℕ → Tree (List ℕ)) → AreRead first firsts numbers tree signals → (others : List (List ℕ)) → KeepsNames names others → map (renamed (name_at others)) (trees_of old found) ≡ map tree (take k signals))
    → (tree : List ℕ → Tree (List ℕ)) → AreRead first firsts numbers tree signals → (others : List (List ℕ)) → KeepsNames more others → map (renamed (name_at others)) (trees_of new (found ++ n ∷ [])) ≡ map tree (take (k + 1) signals)
read_more first old new firsts names more numbers signals k n signal found taken kept named keeps names_kept before lt is one many tree read others rest =
    let here : IsRead first firsts signal (numbers signal) (tree signal) =
    subst (λ (s : List ℕ). IsRead first firsts s (numbers s) (tree s)) (sym is) (all_signals (λ s. IsRead first firsts s (numbers s) (tree s)) signals k signal read lt) in
    let mine : renamed (name_at others) (tree_at new n) ≡ tree signal =
    one (tree signal) (read-kept first old firsts names signal (numbers signal) (tree signal) kept named (taken signal) here) others rest in
    let old_ones : map (renamed (name_at others)) (trees_of new found) ≡ map tree (take k signals) =
    ap (map (renamed (name_at others))) (trees-kept old new found keeps before) ∙ many tree read others (named_on names more others names_kept rest) in
    ap (map (renamed (name_at others))) (map-append (tree_at new) found (n ∷ []))
    ∙ (map-append (renamed (name_at others)) (trees_of new found) (tree_at new n ∷ [])
    ∙ (ap (λ (ts : List (Tree (List ℕ))). ts ++ renamed (name_at others) (tree_at new n) ∷ []) old_ones
    ∙ (ap (λ (t : Tree (List ℕ)). map tree (take k signals) ++ t ∷ []) (mine ∙ ap tree is)
    ∙ (sym (map-append tree (take k signals) (get_or signals k signal ∷ [])) ∙ ap (map tree) (sym (take_more signals k signal lt))))))

-- the tree of a table by names, where its number is found over those of its inputs
pub made-named : (old new : List Vertex) (names : List (List ℕ)) (ns : List ℕ) (table : Table) (made : Option ℕ) (tree : List ℕ → Tree (List ℕ)) → Finds new made (table_tree (trees_of old ns) table)
    → ((more : List (List ℕ)) → KeepsNames names more → map (renamed (name_at more)) (trees_of old ns) ≡ map tree table.inputs) → IsMade new names made (tree_over tree table)
made-named old new names ns table None tree finds same =
    ap (λ (ts : List (Tree (List ℕ))). table_tree ts table) (sym (same names (λ place name at. at))) ∙ (table-renamed (name_at names) (trees_of old ns) table ∙ ap (option_map (renamed (name_at names))) finds)
made-named old new names ns table (Some n) tree finds same = λ more keeps.
    ap (λ (ts : List (Tree (List ℕ))). table_tree ts table) (sym (same more keeps)) ∙ (table-renamed (name_at more) (trees_of old ns) table ∙ ap (option_map (renamed (name_at more))) finds.1)

pub made-within : (vs : List Vertex) (made : Option ℕ) (t : Option (Tree ℕ)) → Finds vs made t → IfSome made (λ n. n < length vs)
made-within vs None t finds = tt
made-within vs (Some n) t finds = finds.0

pub leaf-told : (vs old : List Vertex) (names olds : List (List ℕ)) (signal copy : List ℕ) (place n : ℕ) (noted found : Option ℕ) (t : Tree (List ℕ)) → copy ≡ signal → found ≡ noted → found ≡ None → slice_get names place ≡ Some copy → Has vs n (Leaf place)
    → IsRead old olds signal noted t → HasTree vs names n t
leaf-told vs old names olds signal copy place n noted found t same is none at has read =
    leaf-named vs names signal place n t (at ∙ ap (λ (name : List ℕ). Some name) same) has (subst (λ (o : Option ℕ). IsRead old olds signal o t) (sym is ∙ none) read)

pub count_more : (found : List ℕ) (n k : ℕ) → length found ≡ k → length (found ++ n ∷ []) ≡ k + 1
count_more found n k e = length_push found n ∙ omega (arith, e)

pub table-told : (first old new : List Vertex) (firsts names : List (List ℕ)) (numbers : List ℕ → Option ℕ) (inputs : List (List ℕ)) (ns ms : List ℕ) (table : Table) (made : Option ℕ) (tree : List ℕ → Tree (List ℕ)) → inputs ≡ table.inputs → ms ≡ ns
    → Finds new made (table_tree (trees_of old ms) table)
    → ((trees : List ℕ → Tree (List ℕ)) → AreRead first firsts numbers trees inputs → (more : List (List ℕ)) → KeepsNames names more → map (renamed (name_at more)) (trees_of old ns) ≡ map trees inputs)
    → AreRead first firsts numbers tree table.inputs → IsMade new names made (tree_over tree table)
table-told first old new firsts names numbers inputs ns ms table made tree is same finds told read =
    made-named old new names ns table made tree (subst (λ (xs : List ℕ). Finds new made (table_tree (trees_of old xs) table)) same finds)
    (λ more keeps. told tree (subst (λ (xs : List (List ℕ)). AreRead first firsts numbers tree xs) (sym is) read) more keeps ∙ ap (map tree) is)
