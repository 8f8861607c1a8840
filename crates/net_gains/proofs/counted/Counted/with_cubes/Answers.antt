use Rattle.std.proofs.Common.{◌≡◌, ◌<◌, ℕ, ◌+◌, List, [], Vec, Global, length, get_or, sym, ap, ◌∙◌, subst, arith}
use Rattle.std.proofs.lemmas.List.{length-map, get_or-map, map-set}
use Rattle.net_gains.specs.CodedGains.{gains}
use Rattle.net_gains.specs.Totals.{total_of}
use Rattle.net_gains.specs.Numbers.{lists_in, tables_in, AreApart}
use Rattle.net_gains.proofs.Summed.{all_at, counted_changed, counted_enough}
use Rattle.net_gains.proofs.counted.Counted.with_cubes.Goals.{After-as_slice}
use Rattle.net_gains.proofs.counted.Counted.with_cubes.Goals as goal

within : (c : After-as_slice) → c.args.place < length (tables_in c.args.self.tables.items)
within c = omega (arith, c.requires.place, length-map c.args.self.tables.items (λ (table : Vec (Vec ℕ Global) Global). lists_in table.items))

gone : (c : After-as_slice) → lists_in c.as_slice.result.now ≡ get_or (tables_in c.args.self.tables.items) c.args.place []
gone c =
    ap lists_in (c.as_slice.ensures.value ∙ ap (λ (table : Vec (Vec ℕ Global) Global). table.items) c.index.ensures)
    ∙ sym (get_or-map (λ (table : Vec (Vec ℕ Global) Global). lists_in table.items) c.args.self.tables.items c.args.place c.index.result.now [] c.requires.place)

apart : (c : After-as_slice) → AreApart (lists_in c.as_slice.result.now)
apart c = subst AreApart (sym (gone c)) (all_at AreApart (tables_in c.args.self.tables.items) c.args.place [] (within c) c.requires.counted.apart)

pub exchange-requires-clause-old : goal.exchange-requires-clause-old
exchange-requires-clause-old c = (apart (goal.at.exchange-requires-clause-old c).After-as_slice).rise

pub exchange-requires-clause-old_once : goal.exchange-requires-clause-old_once
exchange-requires-clause-old_once c = (apart (goal.at.exchange-requires-clause-old_once c).After-as_slice).once

pub exchange-requires-clause-enough : goal.exchange-requires-clause-enough
exchange-requires-clause-enough c =
    let at = (goal.at.exchange-requires-clause-enough c).After-as_slice in
    counted_enough c.args.self c.args.place (lists_in c.as_slice.result.now) c.requires.counted (within at) (gone at)

pub returns-clause-counted : goal.returns-clause-counted
returns-clause-counted c =
    let at = (goal.at.returns-clause-counted c).After-as_slice in
    counted_changed c.args.self _ c.args.place (lists_in c.as_slice.result.now) (lists_in c.args.cubes.items) c.requires.counted c.requires.apart (within at) (gone at)
    (map-set (λ (table : Vec (Vec ℕ Global) Global). lists_in table.items) c.args.self.tables.items c.args.place c.args.cubes)
    (λ cover. c.in_ok-exchange.ensures cover ∙ ap (λ (cubes : List (Vec ℕ Global)). total_of c.args.self.totals cover + gains cover (lists_in cubes)) c.as_slice-2.ensures.value)

pub returns-clause-tables : goal.returns-clause-tables
returns-clause-tables c = map-set (λ (table : Vec (Vec ℕ Global) Global). lists_in table.items) c.args.self.tables.items c.args.place c.args.cubes
