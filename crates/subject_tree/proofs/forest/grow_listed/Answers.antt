use Rattle.std.proofs.Common.{◌≡◌, ℕ, List, None, option_copied, bytes_eq, take, subst, arith, rules}
use Rattle.indexmap.specs.IndexMap.{get}
use Rattle.subject_tree.specs.Reading.{IsGrown}
use Rattle.subject_tree.proofs.Listing.{taken-nothing, grown-nothing, found-shaped, next_ready, next_listed, listed_all, all-read}
use Rattle.subject_tree.proofs.forest.grow_listed.Goals as goal

pub loop-name-init : goal.loop-name-init
loop-name-init c = record {
  taken = taken-nothing c.args.arena.now (get bytes_eq c.new-numbers.result) (λ signal. let e : get bytes_eq c.new-numbers.result signal ≡ None = search rules in e);
  grown = λ tree trees. grown-nothing c.args.circuit.now c.args.arena.now c.args.leaves.now (get bytes_eq c.new-numbers.result) tree (λ signal. let e : get bytes_eq c.new-numbers.result signal ≡ None = search rules in e);
}

pub grow_found-requires-clause-shaped : goal.grow_found-requires-clause-shaped
grow_found-requires-clause-shaped c =
    found-shaped c.args.circuit.now c.name-item.result (option_copied c.put_table-found.result) c.put_table-found.ensures c.requires.shaped

pub loop-name-preserved : goal.loop-name-preserved
loop-name-preserved c = record {
  taken = c.in_ok-grow_found.ensures.taken;
  grown = λ tree trees.
      subst (λ (listed : List (List ℕ)). IsGrown c.args.circuit.now c.grow_found.new.arena c.grow_found.new.leaves (get bytes_eq c.grow_found.new.numbers) tree listed)
      (next_listed c.args.names.now c.loop-name.name-index c.name-item.result c.loop-name-test.true c.name-item.is)
      (c.in_ok-grow_found.ensures.grown c.args.circuit.now tree (take c.loop-name.name-index c.args.names.now) c.name-item.result trees c.put_table-found.ensures
      (next_ready c.args.circuit.now.tables c.args.names.now c.loop-name.name-index c.name-item.result c.requires.ordered c.loop-name-test.true c.name-item.is) (c.loop-name.invariant.grown tree trees));
}

pub returns-clause-read : goal.returns-clause-read
returns-clause-read c tree trees =
    all-read c.args.circuit.now c.loop-name.arena c.loop-name.leaves (get bytes_eq c.loop-name.numbers) c.args.names.now tree c.requires.ordered trees
    (subst (λ (listed : List (List ℕ)). IsGrown c.args.circuit.now c.loop-name.arena c.loop-name.leaves (get bytes_eq c.loop-name.numbers) tree listed) (listed_all c.args.names.now c.loop-name.name-index (omega arith)) (c.loop-name.invariant.grown tree trees))
