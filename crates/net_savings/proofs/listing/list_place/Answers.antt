use Rattle.std.proofs.Common.{◌<◌, sym, subst}
use Rattle.alg_div.specs.Cubes.{Has}
use Rattle.cover_names.specs.Literals.{NamedCover}
use Rattle.std.proofs.Common.{List}
use Rattle.net_work.specs.Placed.{table_at}
use Rattle.net_savings.specs.Listing.{IsListed}
use Rattle.net_savings.proofs.CoverSets.{own_same}
use Rattle.net_savings.proofs.Refreshed.{grown_both, own_literal, true_put, list_stays, list_here}
use Rattle.net_savings.proofs.listing.list_place.Goals as goal

pub note_all-requires-clause-some : goal.note_all-requires-clause-some
note_all-requires-clause-some g c = λ cover m.
    own_literal c.args.rule c.args.work.now c.args.name.now c.requires.sound c.requires.free c.args.place c.in_ok-covers.covers.items c.in_ok-covers.ensures.own cover
    (subst (λ (covers : List NamedCover). Has cover covers) c.as_slice.ensures.value m)

pub note_all-requires-2-clause-some : goal.note_all-requires-2-clause-some
note_all-requires-2-clause-some g c = λ cover m. c.in_ok-shared.ensures.some cover (subst (λ (covers : List NamedCover). Has cover covers) c.as_slice-2.ensures.value m)

pub returns-clause-known : goal.returns-clause-known
returns-clause-known g c =
    true_put c.args.rule c.args.work.now c.args.ranked.now c.note_all-2.new.ranked c.args.own.now.items c.args.place c.in_ok-listed.listed c.in_ok-shared.shared.items c.requires.known
    (grown_both c.args.work.now c.args.ranked.now c.note_all.new.ranked c.note_all-2.new.ranked c.in_ok-note_all.ensures.grown c.in_ok-note_all-2.ensures.grown)
    (own_same c.args.rule (table_at c.args.work.now.slots c.args.place) c.in_ok-covers.covers.items c.in_ok-listed.listed c.in_ok-listed.ensures c.in_ok-covers.ensures.own)
    (λ cover m. c.in_ok-note_all-2.ensures.grown.noted cover (c.in_ok-note_all.ensures.noted cover (subst (λ (covers : List NamedCover). Has cover covers) (sym c.as_slice.ensures.value) ((c.in_ok-listed.ensures cover).0 m))))
    c.in_ok-shared.ensures (λ cover m. c.in_ok-note_all-2.ensures.noted cover (subst (λ (covers : List NamedCover). Has cover covers) (sym c.as_slice-2.ensures.value) m)) c.put_list.new.own.items c.put_list.ensures

pub returns-clause-stays : goal.returns-clause-stays
returns-clause-stays g c = λ at listed. subst (λ own. IsListed own at) (sym c.put_list.ensures) (list_stays c.args.own.now.items c.args.place at c.in_ok-listed.listed listed)

pub returns-clause-listed : goal.returns-clause-listed
returns-clause-listed g c = λ within.
    subst (λ own. IsListed own c.args.place) (sym c.put_list.ensures)
    (list_here c.args.own.now.items c.args.place c.in_ok-listed.listed (subst (λ n. c.args.place < n) (sym c.requires.known.long) within))

pub returns-then-is_listed-clause-listed : goal.returns-then-is_listed-clause-listed
returns-then-is_listed-clause-listed g c = λ within. c.is_listed.ensures.0 c.if-is_listed.true
