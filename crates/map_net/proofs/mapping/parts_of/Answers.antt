use Rattle.std.proofs.Common.{List, length, sum_by, ap, ap₂, ◌∙◌}
use Rattle.subject_tree.specs.Sizes.{word_count}
use Rattle.subject_tree.specs.declared.forest.Root.{Root}
use Rattle.map_net.specs.declared.covers.TreeCover.{TreeCover}
use Rattle.map_net.specs.Mapping.{figures_of}
use Rattle.map_net.proofs.Parting.{memory_parts, covered_ready, covered_count, too_many}
use Rattle.map_net.proofs.Parting.{not_over, parts_are}
use Rattle.map_net.proofs.mapping.parts_of.Goals as goal

pub returns-in_err-left : goal.returns-in_err-left
returns-in_err-left c =
    memory_parts c.args.circuit.now c.args.library.now c.from_residual.result
    c.from_residual.ensures.1

pub returns-then-is_over : goal.returns-then-is_over
returns-then-is_over c =
    too_many c.args.circuit.now c.args.library.now c.args.covered.now c.in_ok-left.left
    c.gate_count.result c.len.result c.in_ok-left.ensures
    (c.gate_count.ensures ∙ ap (λ (covers : List TreeCover). word_count
    (sum_by (λ (cover : TreeCover). length cover.gates) covers)) c.as_slice.ensures.value)
    c.len.ensures (c.is_over.ensures.0 c.if-is_over.true) c.requires.covered

pub returns-in_err-gates : goal.returns-in_err-gates
returns-in_err-gates c =
    memory_parts c.args.circuit.now c.args.library.now c.from_residual-in_err-gates.result
    c.from_residual-in_err-gates.ensures.1

pub returns-in_err-trees : goal.returns-in_err-trees
returns-in_err-trees c =
    memory_parts c.args.circuit.now c.args.library.now c.from_residual-in_err-trees.result
    c.from_residual-in_err-trees.ensures.1

pub gates_of-requires-clause-ready : goal.gates_of-requires-clause-ready
gates_of-requires-clause-ready c =
    covered_ready c.args.circuit.now c.args.library.now c.args.covered.now c.requires.library
    c.requires.covered

pub gates_of-requires-clause-count : goal.gates_of-requires-clause-count
gates_of-requires-clause-count c =
    covered_count c.args.circuit.now c.args.library.now c.args.covered.now c.requires.covered

pub returns : goal.returns
returns c =
    parts_are c.args.circuit.now c.args.library.now c.args.covered.now
    (record {
      left = c.in_ok-left.left;
      gates = c.in_ok-gates.gates;
      trees = c.in_ok-trees.trees;
    })
    c.gate_count.result c.len.result c.in_ok-left.ensures
    (c.gate_count.ensures ∙ ap (λ (covers : List TreeCover). word_count
    (sum_by (λ (cover : TreeCover). length cover.gates) covers)) c.as_slice.ensures.value)
    c.len.ensures (not_over c.is_over.result _ _ c.is_over.ensures c.if-is_over.false)
    c.in_ok-gates.ensures
    (c.in_ok-trees.ensures ∙ ap₂ (λ (roots : List Root) (covers : List TreeCover). figures_of roots
    covers) c.as_slice-roots.ensures.value c.as_slice-2.ensures.value)
    c.requires.covered
