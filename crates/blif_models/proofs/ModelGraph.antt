-- The graph of the models of a file: how it is made, that it is a graph, and what is wrong with it.
use Rattle.std.specs.Prelude.{◌≡◌, ℕ, zero, suc, ◌+◌, ◌<◌, ◌≤◌, Bool, true, false, not, ◌&&◌, ◌||◌, cond, Option, Some, None, is_some, option_map, List, [], ◌∷◌, ◌++◌, All, map, length, take, drop, find, filter_map, flat_map, bytes_eq, slice_index_or, replicate, if◌then◌else◌}
use Rattle.std.specs.List.{AllByRecursion, cons_option, filter, list_any, range_with_len, position_from}
use Rattle.std.specs.Option.{option_or}
use Rattle.std.proofs.Common.{refl, sym, ◌∙◌, ap, subst, arith, get_or}
use Rattle.std.proofs.lemmas.Iterator.Adapters.{position_from-zero}
use Rattle.std.proofs.lemmas.List.{take_more, take_all, drop_more, drop_all, map-append, length-map, same_lists, get_or-map, get_or_default}
use Rattle.std.proofs.lemmas.List.Elements.{All-map, All-from_recursion}
use Rattle.std.proofs.lemmas.List.Folds.{find-append}
use Rattle.std.proofs.lemmas.List.FromFn.{length-map-range_with_len, get_or-map-range_with_len}
use Rattle.std.proofs.lemmas.List.Quantifiers.{position-Some}
use Rattle.sis_text.specs.declared.places.Line.{Line}
use Rattle.sis_text.specs.Entries.{Entry, entry_at}
use Rattle.circuit_model.specs.Names.{has}
use Rattle.circuit_checks.specs.Graphs.{IsGraph, reads_of, first_cyclic}
use Rattle.circuit_checks.specs.Searching.{is_seen}
use Rattle.blif_lines.specs.Reader.{model_lines, model_name}
use Rattle.blif_lines.specs.declared.fault.BlifFault.TheVariants.{Recursion}
use Rattle.blif_models.specs.Files.{lines_at, edge_of}
use Rattle.blif_models.specs.Models.{is_instance, model_of, index_of, instances_in, model_graph, is_used, used_graph, nests}
use Rattle.blif_models.specs.Reader.{recursion}

-- the edges of the lines of a model
pub edges_are : (models : List (List Entry)) (text : List ℕ) (lines : List Line)
    → filter_map (λ (line : Line). edge_of models (entry_at text line)) lines ≡ filter_map (λ (line : Entry). index_of models (model_of line)) (filter is_instance (lines_at text lines))
edges_are models text [] = refl
edges_are models text (line ∷ lines) = by (is_instance (entry_at text line)) (edges_are models text lines)
  where
    by : (b : Bool)
        → filter_map (λ (one : Line). edge_of models (entry_at text one)) lines ≡ filter_map (λ (one : Entry). index_of models (model_of one)) (filter is_instance (lines_at text lines))
        → cons_option (if b then index_of models (model_of (entry_at text line)) else None) (filter_map (λ (one : Line). edge_of models (entry_at text one)) lines)
        ≡ filter_map (λ (one : Entry). index_of models (model_of one)) (cond b (entry_at text line ∷ filter is_instance (lines_at text lines)) (filter is_instance (lines_at text lines)))
    by true rec = ap (cons_option (index_of models (model_of (entry_at text line)))) rec
    by false rec = rec

-- what a function gives of one item more
pub mapped_more : {A B : Type 0} (f : A → B) (items : List A) (place : ℕ) (none : A) (made : B) (done after : List B) → place < length items → made ≡ f (get_or items place none)
    → done ≡ map f (take place items) → after ≡ done ++ made ∷ [] → after ≡ map f (take (place + 1) items)
mapped_more {B = B} f items place none made done after below is before e =
    e ∙ ap (λ (front : List B). front ++ made ∷ []) before
    ∙ ap (λ (one : B). map f (take place items) ++ one ∷ []) is
    ∙ sym (map-append f (take place items) (get_or items place none ∷ []))
    ∙ ap (map f) (sym (take_more items place none below))

small_edges : (n : ℕ) (edge : Entry → Option ℕ) → ((line : Entry) (place : ℕ) → edge line ≡ Some place → place < n) → (lines : List Entry) → AllByRecursion (λ (place : ℕ). place < n) (filter_map edge lines)
small_edges n edge small [] = tt
small_edges n edge small (line ∷ lines) = by (edge line) refl (small_edges n edge small lines)
  where
    by : (one : Option ℕ) → edge line ≡ one → AllByRecursion (λ (place : ℕ). place < n) (filter_map edge lines) → AllByRecursion (λ (place : ℕ). place < n) (cons_option one (filter_map edge lines))
    by None e rec = rec
    by (Some place) e rec = (small line place e, rec)

-- each edge leads to a model
pub graph_is : (models : List (List Entry)) → IsGraph (model_graph models)
unfolding model_graph
graph_is models =
    subst (λ (n : ℕ). All (All (λ (place : ℕ). place < n)) (map edges models)) (sym (length-map models edges))
    (All-map (All (λ (place : ℕ). place < length models)) edges models
    (λ k d below. All-from_recursion (λ (place : ℕ). place < length models) (edges (get_or models k d)) (small_edges (length models) edge small (instances_in (get_or models k d)))))
  where
    edge : Entry → Option ℕ
    edge line = index_of models (model_of line)

    edges : List Entry → List ℕ
    edges model = filter_map edge (instances_in model)

    small : (line : Entry) (place : ℕ) → edge line ≡ Some place → place < length models
    small line place e = (position-Some (λ (model : List Entry). bytes_eq (model_of line) (model_name model)) models place [] e).0

found_from : {A : Type 0} (test : A → Bool) (start : ℕ) (items : List A) → is_some (position_from test start items) ≡ list_any test items
found_from test start [] = refl
found_from test start (item ∷ items) = by (test item) (found_from test (start + 1) items)
  where
    by : (b : Bool) → is_some (position_from test (start + 1) items) ≡ list_any test items → is_some (cond b (Some start) (position_from test (start + 1) items)) ≡ (b || list_any test items)
    by true rec = refl
    by false rec = rec

named : (name : List ℕ) (models : List (List Entry)) → list_any (λ (model : List Entry). bytes_eq name (model_name model)) models ≡ has (map model_name models) name
named name [] = refl
named name (model ∷ models) = ap (λ (b : Bool). bytes_eq name (model_name model) || b) (named name models)

-- a name has an index if it is a model's
pub index_known : (models : List (List Entry)) (name : List ℕ) → is_some (index_of models name) ≡ has (map model_name models) name
index_known models name =
    ap (λ (place : Option ℕ). is_some place) (position_from-zero test models) ∙ found_from test 0 models ∙ named name models
  where
    test : List Entry → Bool
    test model = bytes_eq name (model_name model)

-- the first line of a text that is of a kind and passes a test
pub first_of_kind : (kind test : Entry → Bool) (text : List ℕ) (lines : List Line)
    → option_map (entry_at text) (find (λ (line : Line). kind (entry_at text line) && test (entry_at text line)) lines) ≡ find test (filter kind (lines_at text lines))
first_of_kind kind test text [] = refl
first_of_kind kind test text (line ∷ lines) = by (kind (entry_at text line)) (test (entry_at text line)) refl (first_of_kind kind test text lines)
  where
    rest : Option Entry
    rest = option_map (entry_at text) (find (λ (one : Line). kind (entry_at text one) && test (entry_at text one)) lines)

    passes : (b : Bool) → test (entry_at text line) ≡ b → rest ≡ find test (filter kind (lines_at text lines))
        → option_map (entry_at text) (cond b (Some line) (find (λ (one : Line). kind (entry_at text one) && test (entry_at text one)) lines))
        ≡ cond (test (entry_at text line)) (Some (entry_at text line)) (find test (filter kind (lines_at text lines)))
    passes true e rec = rw e refl
    passes false e rec = rw e rec

    by : (a b : Bool) → test (entry_at text line) ≡ b → rest ≡ find test (filter kind (lines_at text lines))
        → option_map (entry_at text) (cond (a && b) (Some line) (find (λ (one : Line). kind (entry_at text one) && test (entry_at text one)) lines))
        ≡ find test (cond a (entry_at text line ∷ filter kind (lines_at text lines)) (filter kind (lines_at text lines)))
    by true b e rec = passes b e rec
    by false b e rec = rec

-- the first line that passes a test, from one model on
pub found_behind : (parts : List Entry → List Entry) (test : Entry → Bool) (models : List (List Entry)) (place : ℕ) → place < length models
    → find test (flat_map parts (drop place models)) ≡ option_or (find test (parts (get_or models place []))) (find test (flat_map parts (drop (place + 1) models)))
found_behind parts test models place below =
    ap (λ (rest : List (List Entry)). find test (flat_map parts rest)) (drop_more models place [] below)
    ∙ find-append test (parts (get_or models place [])) (flat_map parts (drop (place + 1) models))

-- the edges of one model more, as far as it is used
pub used_more : (graph : List (List ℕ)) (used : List Bool) (place : ℕ) (reads : List ℕ) → used ≡ map (is_used graph) (range_with_len 0 (length graph)) → place < length graph
    → reads ≡ get_or graph place reads → (if is_seen used place then reads else []) ≡ (if is_used graph place then reads_of graph place else [])
unfolding is_seen reads_of
used_more graph used place reads is below at =
    ap (λ (b : Bool). if b then reads else [])
    (ap (λ (marks : List Bool). get_or marks place false) is ∙ get_or-map-range_with_len (is_used graph) 0 (length graph) place place false below (omega arith))
    ∙ ap (λ (edges : List ℕ). if is_used graph place then edges else []) (at ∙ get_or_default graph place reads [] below)

-- before the first step each walk of no step begins
pub first_row : (graph : List (List ℕ)) (start count : ℕ) → replicate count true ≡ map (nests graph 0) (range_with_len start count)
unfolding nests
first_row graph start zero = refl
first_row graph start (suc count) = ap (λ (rest : List Bool). true ∷ rest) (first_row graph (start + 1) count)

any_alike : (one other : ℕ → Bool) (places : List ℕ) → ((k : ℕ) → k < length places → one (get_or places k 0) ≡ other (get_or places k 0)) → list_any one places ≡ list_any other places
any_alike one other [] same = refl
any_alike one other (place ∷ places) same =
    ap (λ (b : Bool). b || list_any one places) (same 0 (omega arith))
    ∙ ap (λ (b : Bool). other place || b) (any_alike one other places (λ k below. same (suc k) (omega (arith, below))))

-- the walks of one step more
pub next_row : (graph : List (List ℕ)) (row : List Bool) (depth : ℕ) → IsGraph graph → row ≡ map (nests graph depth) (range_with_len 0 (length graph))
    → map (list_any (is_seen row)) graph ≡ map (nests graph (depth + 1)) (range_with_len 0 (length graph))
unfolding nests reads_of is_seen
next_row graph row depth is before =
    same_lists _ _ (length-map graph (list_any (is_seen row)) ∙ sym (length-map-range_with_len (nests graph (depth + 1)) 0 (length graph)))
    (λ k d some. let below : k < length graph = subst (λ (n : ℕ). k < n) (length-map graph (list_any (is_seen row))) some in
    get_or-map (list_any (is_seen row)) graph k [] d below
    ∙ any_alike (is_seen row) (nests graph depth) (get_or graph k []) (λ j small. seen (get_or (get_or graph k []) j 0) (is k [] below j 0 small))
    ∙ ap (λ (n : ℕ). nests graph n k) one_more
    ∙ sym (get_or-map-range_with_len (nests graph (depth + 1)) 0 (length graph) k k d below (omega arith)))
  where
    one_more : suc depth ≡ depth + 1
    one_more = omega arith

    seen : (place : ℕ) → place < length graph → is_seen row place ≡ nests graph depth place
    seen place below = ap (λ (marks : List Bool). get_or marks place false) before ∙ get_or-map-range_with_len (nests graph depth) 0 (length graph) place place false below (omega arith)

-- the first model's mark
pub first_mark : (graph : List (List ℕ)) (row : List Bool) (depth : ℕ) → 0 < depth → row ≡ map (nests graph depth) (range_with_len 0 (length graph)) → is_seen row 0 ≡ nests graph depth 0
unfolding nests reads_of is_seen
first_mark graph row zero some is = absurd (omega (arith, some))
first_mark [] row (suc depth) some is = ap (λ (marks : List Bool). get_or marks 0 false) is
first_mark (reads ∷ graph) row (suc depth) some is =
    ap (λ (marks : List Bool). get_or marks 0 false) is ∙ get_or-map-range_with_len (nests (reads ∷ graph) (suc depth)) 0 (length (reads ∷ graph)) 0 0 false (omega arith) refl

-- the first line that passes a test is in this model, or it is not
pub found_here : (parts : List Entry → List Entry) (test : Entry → Bool) (models : List (List Entry)) (place : ℕ) (line : Entry) → place < length models
    → find test (flat_map parts (drop place models)) ≡ find test (flat_map parts models) → find test (parts (get_or models place [])) ≡ Some line → find test (flat_map parts models) ≡ Some line
found_here parts test models place line below before e =
    sym before ∙ found_behind parts test models place below ∙ ap (λ (found : Option Entry). option_or found (find test (flat_map parts (drop (place + 1) models)))) e

pub not_here : (parts : List Entry → List Entry) (test : Entry → Bool) (models : List (List Entry)) (place : ℕ) → place < length models
    → find test (flat_map parts (drop place models)) ≡ find test (flat_map parts models) → find test (parts (get_or models place [])) ≡ None
    → find test (flat_map parts (drop (place + 1) models)) ≡ find test (flat_map parts models)
not_here parts test models place below before e =
    sym (found_behind parts test models place below ∙ ap (λ (found : Option Entry). option_or found (find test (flat_map parts (drop (place + 1) models)))) e) ∙ before

pub not_found : (parts : List Entry → List Entry) (test : Entry → Bool) (models : List (List Entry)) (place : ℕ) → length models ≤ place
    → find test (flat_map parts (drop place models)) ≡ find test (flat_map parts models) → find test (flat_map parts models) ≡ None
not_found parts test models place end before = sym before ∙ ap (λ (rest : List (List Entry)). find test (flat_map parts rest)) (drop_all place models end)

-- the first line of a model that puts in one that is missing
pub unknown_at : (models : List (List Entry)) (text : List ℕ) (body : List Line) (model : List Entry) (found : Option Line) → lines_at text body ≡ model_lines model
    → found ≡ find (λ (line : Line). is_instance (entry_at text line) && not (has (map model_name models) (model_of (entry_at text line)))) body
    → find (λ (line : Entry). not (has (map model_name models) (model_of line))) (instances_in model) ≡ option_map (entry_at text) found
unfolding instances_in
unknown_at models text body model found is first =
    ap (λ (lines : List Entry). find test (filter is_instance lines)) (sym is)
    ∙ sym (first_of_kind is_instance test text body)
    ∙ ap (option_map (entry_at text)) (sym first)
  where
    test : Entry → Bool
    test line = not (has (map model_name models) (model_of line))

twice_not : (b : Bool) → b ≡ not (not b)
twice_not true = refl
twice_not false = refl

-- an instance whose model is missing
pub missing : (models : List (List Entry)) (name : List ℕ) (kind none : Bool) → kind ≡ true → is_some (index_of models name) ≡ not none
    → none ≡ (kind && not (has (map model_name models) name))
missing models name kind none is found =
    twice_not none ∙ ap not (sym found ∙ index_known models name) ∙ ap (λ (b : Bool). b && not (has (map model_name models) name)) (sym is)

-- the edges of all models are a graph
pub graph_made : (models : List (List Entry)) (place : ℕ) (items : List (List ℕ)) → length models ≤ place
    → items ≡ map (λ (model : List Entry). filter_map (λ (line : Entry). index_of models (model_of line)) (instances_in model)) (take place models) → IsGraph items
unfolding model_graph
graph_made models place items end is =
    subst (λ (graph : List (List ℕ)). IsGraph graph)
    (sym (is ∙ ap (map (λ (model : List Entry). filter_map (λ (line : Entry). index_of models (model_of line)) (instances_in model))) (take_all place models end))) (graph_is models)

small_reads : (graph : List (List ℕ)) (n : ℕ) → All (All (λ (place : ℕ). place < n)) graph → (place : ℕ) → All (λ (one : ℕ). one < n) (get_or graph place [])
small_reads [] n is zero = λ k d below. absurd (omega (arith, below))
small_reads [] n is (suc place) = λ k d below. absurd (omega (arith, below))
small_reads (reads ∷ graph) n is zero = is 0 [] (omega arith)
small_reads (reads ∷ graph) n is (suc place) = small_reads graph n (λ k d below. is (suc k) d (omega (arith, below))) place

-- the graph of the models that are used is a graph
pub used_is : (graph : List (List ℕ)) → IsGraph graph → IsGraph (used_graph graph)
unfolding used_graph reads_of
used_is graph is =
    subst (λ (n : ℕ). All (All (λ (place : ℕ). place < n)) (map edges (range_with_len 0 (length graph)))) (sym (length-map-range_with_len edges 0 (length graph)))
    (All-map (All (λ (place : ℕ). place < length graph)) edges (range_with_len 0 (length graph)) (λ k d below. small (get_or (range_with_len 0 (length graph)) k d)))
  where
    edges : ℕ → List ℕ
    edges place = if is_used graph place then get_or graph place [] else []

    by : (place : ℕ) (b : Bool) → All (λ (one : ℕ). one < length graph) (if b then get_or graph place [] else [])
    by place true = small_reads graph (length graph) is place
    by place false = λ k d below. absurd (omega (arith, below))

    small : (place : ℕ) → All (λ (one : ℕ). one < length graph) (edges place)
    small place = by place (is_used graph place)

-- the first model that is in itself, as a fault
pub recursion_is : (models : List (List Entry)) (graph : List (List ℕ)) (found : Option ℕ) → graph ≡ model_graph models → found ≡ first_cyclic (used_graph graph)
    → option_map (λ (place : ℕ). Recursion (model_name (slice_index_or models place []))) found ≡ recursion models
unfolding recursion
recursion_is models graph found is first =
    ap (option_map (λ (place : ℕ). Recursion (model_name (slice_index_or models place [])))) (first ∙ ap (λ (edges : List (List ℕ)). first_cyclic (used_graph edges)) is)
