use Rattle.std.proofs.Common.{◌≡◌, ◌∙◌, ℕ, Bool, List, ap, subst, map, length, arith}
use Rattle.std.specs.List.{list_any}
use Rattle.circuit_checks.specs.Searching.{is_seen}
use Rattle.blif_models.specs.Models.{nests}
use Rattle.blif_models.proofs.ModelGraph.{first_row, next_row, first_mark}
use Rattle.blif_models.proofs.graph.nests.Goals as goal

pub loop-depth-init : goal.loop-depth-init
loop-depth-init c = record {
  within = omega arith;
  row = c.in_ok-row.ensures ∙ first_row c.args.graph.now 0 (length c.args.graph.now);
}

pub loop-depth-preserved : goal.loop-depth-preserved
loop-depth-preserved c = record {
  within = omega arith;
  row =
      c.in_ok-row-2.ensures ∙ ap (λ (row : List Bool). map (list_any (is_seen row)) c.args.graph.now) c.as_slice.ensures.value
      ∙ next_row c.args.graph.now c.loop-depth.row.items c.loop-depth.depth c.requires c.loop-depth.invariant.row;
}

pub returns : goal.returns
returns c =
    let last : c.loop-depth.depth ≡ 65 = omega arith in
    c.is_seen.ensures ∙ ap (λ (row : List Bool). is_seen row 0) c.as_slice-2.ensures.value
    ∙ subst (λ (n : ℕ). is_seen c.loop-depth.row.items 0 ≡ nests c.args.graph.now n 0) last
    (first_mark c.args.graph.now c.loop-depth.row.items c.loop-depth.depth (omega arith) c.loop-depth.invariant.row)
