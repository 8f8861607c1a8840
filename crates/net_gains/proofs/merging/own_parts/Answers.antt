use Rattle.std.proofs.Common.{get_or, inl, inr, sym, ◌∙◌, arith}
use Rattle.net_gains.specs.CodedGains.{own}
use Rattle.net_gains.proofs.Merged.{turned_less, turned_same, merged_less, merged_beside, merged_same, merged_all}
use Rattle.net_gains.proofs.merging.own_parts.Goals.{then-loop-i-test+else-j-other, else-loop-i-test}
use Rattle.net_gains.proofs.merging.own_parts.Goals as goal

pub loop-i-preserved-in-Less : goal.loop-i-preserved-in-Less
loop-i-preserved-in-Less c =
    let less = sym c.cmp.ensures ∙ c.in-Less.is in (
      merged_less c.args.one.now c.args.other.now (own c.args.one.now c.args.other.now) c.loop-i.ours.items c.push_reserved.new.self.items c.loop-i.i c.loop-i.j 0 0 c.loop-i-test.true c.if-j-other.true c.requires.other less
          c.push_reserved.ensures.items c.loop-i.invariant.0,
      merged_beside c.args.one.now c.args.other.now (own c.args.other.now c.args.one.now) c.loop-i.theirs.items c.loop-i.i c.loop-i.j 0 0 c.loop-i-test.true c.if-j-other.true c.requires.other less c.loop-i.invariant.1,
      omega arith,
      c.loop-i.invariant.3,
      omega (arith, c.push_reserved.ensures.len, c.loop-i.invariant.4),
      c.loop-i.invariant.5,
      omega (arith, c.push_reserved.ensures.capacity, c.loop-i.invariant.6),
      c.loop-i.invariant.7,
    )

pub loop-i-preserved-in-Equal : goal.loop-i-preserved-in-Equal
loop-i-preserved-in-Equal c =
    let same = sym c.cmp.ensures ∙ c.in-Equal.is in (
      merged_same c.args.one.now c.args.other.now (own c.args.one.now c.args.other.now) c.loop-i.ours.items c.loop-i.i c.loop-i.j 0 0 c.loop-i-test.true c.if-j-other.true c.requires.one same c.loop-i.invariant.0,
      merged_same c.args.other.now c.args.one.now (own c.args.other.now c.args.one.now) c.loop-i.theirs.items c.loop-i.j c.loop-i.i 0 0 c.if-j-other.true c.loop-i-test.true c.requires.other (turned_same (get_or c.args.one.now c.loop-i.i 0) (get_or c.args.other.now c.loop-i.j 0) same) c.loop-i.invariant.1,
      omega arith,
      omega arith,
      omega (arith, c.loop-i.invariant.4),
      omega (arith, c.loop-i.invariant.5),
      c.loop-i.invariant.6,
      c.loop-i.invariant.7,
    )

pub loop-i-preserved : goal.loop-i-preserved
loop-i-preserved c =
    let less = turned_less (get_or c.args.one.now c.loop-i.i 0) (get_or c.args.other.now c.loop-i.j 0) (sym c.cmp.ensures ∙ c.in-Greater.is) in (
      merged_beside c.args.other.now c.args.one.now (own c.args.one.now c.args.other.now) c.loop-i.ours.items c.loop-i.j c.loop-i.i 0 0 c.if-j-other.true c.loop-i-test.true c.requires.one less c.loop-i.invariant.0,
      merged_less c.args.other.now c.args.one.now (own c.args.other.now c.args.one.now) c.loop-i.theirs.items c.push_reserved-in-Greater.new.self.items c.loop-i.j c.loop-i.i 0 0 c.if-j-other.true c.loop-i-test.true c.requires.one less
          c.push_reserved-in-Greater.ensures.items c.loop-i.invariant.1,
      c.loop-i.invariant.2,
      omega arith,
      c.loop-i.invariant.4,
      omega (arith, c.push_reserved-in-Greater.ensures.len, c.loop-i.invariant.5),
      c.loop-i.invariant.6,
      omega (arith, c.push_reserved-in-Greater.ensures.capacity, c.loop-i.invariant.7),
    )

pub returns : goal.returns
returns c = (
  merged_all c.args.one.now c.args.other.now (own c.args.one.now c.args.other.now) c.loop-i.ours.items c.in_ok-of_one.of_one c.loop-i.i c.loop-i.j
      (elim c.loop-i-test.branch [ then-loop-i-test+else-j-other w ↦ inr w.if-j-other.false | else-loop-i-test w ↦ inl w.loop-i-test.false ])
      (c.in_ok-of_one.ensures ∙ c.in_ok-extend_from_slice.ensures.items) c.loop-i.invariant.0,
  merged_all c.args.other.now c.args.one.now (own c.args.other.now c.args.one.now) c.loop-i.theirs.items c.in_ok-of_other.of_other c.loop-i.j c.loop-i.i
      (elim c.loop-i-test.branch [ then-loop-i-test+else-j-other w ↦ inl w.if-j-other.false | else-loop-i-test w ↦ inr w.loop-i-test.false ])
      (c.in_ok-of_other.ensures ∙ c.in_ok-extend_from_slice-2.ensures.items) c.loop-i.invariant.1,
)
