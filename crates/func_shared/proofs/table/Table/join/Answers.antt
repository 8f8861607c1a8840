use Rattle.std.proofs.Common.{List, length, sym, ap, ◌∙◌, subst, arith}
use Rattle.func_shared.specs.declared.vertex.Vertex.{Vertex}
use Rattle.func_shared.specs.Vertices.{IsTable, tree_at}
use Rattle.func_shared.specs.Merging.{joined}
use Rattle.func_shared.proofs.Numbered.{MayFollow, IsPut, vertex_of, joined-same, put-table, put-has, put-added, set-put, set-at}
use Rattle.func_shared.proofs.table.Table.join.Goals as goal

pub returns-then-low-high-clause-ok : goal.returns-then-low-high-clause-ok
returns-then-low-high-clause-ok c = (
  c.requires.low,
  sym (ap (λ n. joined c.args.place (tree_at c.args.self.now c.args.low)
      (tree_at c.args.self.now n)) (sym c.if-low-high.true)
      ∙ joined-same c.args.place (tree_at c.args.self.now c.args.low)),
)

table : (c : goal.In_ok-index) → IsTable c.args.self.now
table c = subst IsTable c.self.view_is c.self.invariant

may : (c : goal.In_ok-index) →
    MayFollow c.args.self.now (vertex_of c.args.place c.args.low c.args.high)
may c = record {
  low = c.requires.low;
  high = c.requires.high;
  low_reduced = c.requires.low_reduced;
  high_reduced = c.requires.high_reduced;
  apart = c.if-low-high.false;
  room = omega (
    arith,
    c.if-len-ge4294967294.false,
    c.len.ensures.len,
    ap
        (λ (vs : List Vertex). length vs) c.self.view_is,
  );
}

put : (c : goal.In_ok-index) →
    IsPut c.args.self.now c.insert_full.new.self.keys
    (vertex_of c.args.place c.args.low c.args.high)
put c = set-put _ _ _ (rw c.self.view_is at c.in_ok-index.ensures.keys)

pub invariant_of-self-2 : goal.invariant_of-self-2
invariant_of-self-2 c = put-table _ _ _ (put c) (table c) (may c)

pub returns-clause-ok : goal.returns-clause-ok
returns-clause-ok c = put-has _ _ _ _ (put c) (table c) (may c)
    (set-at c.insert_full.new.self.keys (vertex_of c.args.place c.args.low c.args.high)
    c.in_ok-index.index c.in_ok-index.ensures.stored)

pub returns-clause-added : goal.returns-clause-added
returns-clause-added c = put-added _ _ _ (put c) (table c) (may c)
