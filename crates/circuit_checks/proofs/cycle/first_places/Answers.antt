use Rattle.std.proofs.Common.{◌≡◌, None, length, bytes_eq, refl, arith}
use Rattle.indexmap.specs.IndexMap.{get}
use Rattle.circuit_checks.proofs.Placing.{places_begin, place_more, places_end}
use Rattle.circuit_checks.proofs.cycle.first_places.Goals as goal

pub loop-left-init : goal.loop-left-init
loop-left-init c = record {
  within = omega arith;
  places = λ name.
      let e : get bytes_eq c.new-firsts.result name ≡ None = rw c.new-firsts.ensures.empty refl in
      places_begin c.args.tables.now (length c.args.tables.now) (get bytes_eq c.new-firsts.result) name refl e;
}

pub loop-left-preserved : goal.loop-left-preserved
loop-left-preserved c = record {
  within = omega (arith, c.loop-left.invariant.within);
  places =
      place_more c.args.tables.now c.loop-left.left c.index-tables-left.result c.in_ok-name.name (get bytes_eq c.loop-left.firsts) (get bytes_eq c.insert.new.self)
      (omega (arith, c.loop-left-test.true)) c.loop-left.invariant.within c.index-tables-left.is c.in_ok-name.ensures c.loop-left.invariant.places c.in_ok-_later.ensures.updates.0;
}

pub returns : goal.returns
returns c =
    places_end c.args.tables.now c.loop-left.left (get bytes_eq c.loop-left.firsts) (omega (arith, c.loop-left-test.false)) c.loop-left.invariant.places
