use Rattle.std.proofs.Common.{bytes_eq}
use Rattle.indexmap.specs.IndexMap.{get}
use Rattle.subject_tree.proofs.Counting.{all_judged}
use Rattle.subject_tree.proofs.judging.fates.Goals as goal

pub returns : goal.returns
returns c =
    all_judged c.args.circuit.now c.in_ok-outer.outer.keys (get bytes_eq c.in_ok-counts.counts) c.as_slice-tables.result.now c.in_ok-fates.fates.items c.as_slice-tables.ensures c.in_ok-outer.ensures c.in_ok-counts.ensures c.in_ok-fates.ensures
