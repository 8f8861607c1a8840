use Rattle.std.proofs.Common.{bytes_eq}
use Rattle.indexmap.specs.IndexMap.{get}
use Rattle.net_func.proofs.Finding.{output_found, driver_placed}
use Rattle.net_func.proofs.building.table_at.Goals as goal

pub unreachable-requires : goal.unreachable-requires
unreachable-requires c =
    output_found c.args.tables.now (get bytes_eq c.args.places.now) c.args.name.now
    c.requires.places
    c.requires.driven c.in-None.ensures

pub returns : goal.returns
returns c =
    driver_placed c.args.tables.now (get bytes_eq c.args.places.now) c.args.name.now c.in-Some.place
    c.index-tables-place.result c.requires.once c.requires.places c.in-Some.ensures
    c.index-tables-place.is
