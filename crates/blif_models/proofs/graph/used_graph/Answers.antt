use Rattle.std.proofs.Common.{◌≡◌, ◌∙◌, ◌++◌, ◌∷◌, [], ℕ, Bool, List, ap, sym, map, length, arith, if◌then◌else◌}
use Rattle.std.specs.List.{range_with_len}
use Rattle.std.proofs.lemmas.List.FromFn.{map-range_with_len_more}
use Rattle.circuit_checks.specs.Graphs.{reads_of}
use Rattle.circuit_checks.specs.Searching.{is_seen}
use Rattle.blif_models.specs.Models.{is_used, used_graph}
use Rattle.blif_models.proofs.ModelGraph.{used_more}
use Rattle.blif_models.proofs.graph.used_graph.Goals as goal

pub loop-place-preserved : goal.loop-place-preserved
loop-place-preserved c =
    let edges = λ (place : ℕ). if is_used c.args.graph.now place then reads_of c.args.graph.now place else [] in
    c.in_ok-push.ensures.items
    ∙ ap (λ (front : List (List ℕ)). front ++ c.in_ok-used_edges.field-0 ∷ []) c.loop-place.invariant
    ∙ ap (λ (one : List ℕ). map edges (range_with_len 0 c.loop-place.place) ++ one ∷ [])
    (c.in_ok-used_edges.ensures
    ∙ ap (λ (b : Bool). if b then c.as_slice.result.now else []) c.is_seen.ensures
    ∙ ap (λ (reads : List ℕ). if is_seen c.args.used.now c.loop-place.place then reads else []) c.as_slice.ensures
    ∙ used_more c.args.graph.now c.args.used.now c.loop-place.place c.index-graph-place.result c.requires c.loop-place-test.true c.index-graph-place.is)
    ∙ sym (map-range_with_len_more edges 0 c.loop-place.place c.loop-place.place (omega arith))

pub returns : goal.returns
unfolding used_graph
returns c =
    let edges = λ (place : ℕ). if is_used c.args.graph.now place then reads_of c.args.graph.now place else [] in
    let all : c.loop-place.place ≡ length c.args.graph.now = omega arith in
    c.loop-place.invariant ∙ ap (λ (n : ℕ). map edges (range_with_len 0 n)) all
