use Rattle.std.proofs.Common.{refl, sym}
use Rattle.net_readers.proofs.Sets.{on_ok}
use Rattle.net_core.specs.Places.{written_of}
use Rattle.net_resub.specs.Listed.{HasPut, HasPutUnder, is_under}
use Rattle.net_resub.specs.declared.listed.DivisorLists.{DivisorLists}
use Rattle.net_resub.proofs.Listing.{unnamed_listed, named_listed}
use Rattle.net_resub.proofs.listed.DivisorLists.list_divisor.Goals as goal

pub returns-in-None-rarest_name : goal.returns-in-None-rarest_name
returns-in-None-rarest_name g c =
    let made : DivisorLists = record { unnamed = c.push_place.new.places; named = c.args.self.now.named } in
    on_ok c.push_place.result
    (λ (put : HasPut c.args.place c.args.self.now.unnamed.items c.push_place.new.places.items).
    λ test are.
    unnamed_listed test c.args.work.now.slots c.args.self.now made c.args.place (written_of c.in-Some.entry.now) (sym c.in-Some.ensures.table) (c.in-None-rarest_name.ensures.none refl) put
    (λ name at m. m) are)
    c.push_place.ensures

pub returns-in-Some-rarest_name : goal.returns-in-Some-rarest_name
returns-in-Some-rarest_name g c =
    let made : DivisorLists = record { unnamed = c.args.self.now.unnamed; named = c.put_under.new.named } in
    on_ok c.put_under.result
    (λ (put : HasPutUnder c.in-Some-rarest_name.name.now c.args.place (is_under c.args.self.now) (is_under made)).
    λ test are.
    named_listed test c.args.work.now.slots c.args.self.now made c.args.place (written_of c.in-Some.entry.now) c.in-Some-rarest_name.name.now (sym c.in-Some.ensures.table) c.in-Some-rarest_name.ensures.some
    (λ at m. m) put are)
    c.put_under.ensures
