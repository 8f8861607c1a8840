use Rattle.std.proofs.Common.{List, sym, subst}
use Rattle.std.proofs.lemmas.List.{take_all}
use Rattle.alg_div.specs.Cubes.{Has}
use Rattle.alg_div.proofs.Lists.{Has-at}
use Rattle.cover_names.specs.Literals.{NamedCover}
use Rattle.net_savings.proofs.Refreshed.{grown_both, noted_next}
use Rattle.net_savings.proofs.renewing.note_all.Goals as goal

pub note-requires-clause-some : goal.note-requires-clause-some
note-requires-clause-some g c =
    c.requires.some c.cover-item.result
    (subst (λ (cover : NamedCover). Has cover c.args.covers.now) (sym c.cover-item.is) (Has-at c.args.covers.now c.loop-cover.cover-index c.cover-item.result c.loop-cover-test.true))

pub loop-cover-preserved : goal.loop-cover-preserved
loop-cover-preserved g c = record {
  grown = grown_both c.args.work.now c.args.ranked.now c.loop-cover.ranked c.note.new.ranked c.loop-cover.invariant.grown c.in_ok-note.ensures.grown;
  noted = noted_next c.args.work.now c.loop-cover.ranked c.note.new.ranked c.in_ok-note.ensures.grown c.args.covers.now c.loop-cover.cover-index c.cover-item.result c.cover-item.result c.loop-cover-test.true
      c.cover-item.is c.loop-cover.invariant.noted c.in_ok-note.ensures.noted;
}

pub returns-clause-noted : goal.returns-clause-noted
returns-clause-noted g c = λ cover m.
    c.loop-cover.invariant.noted cover (subst (λ (covers : List NamedCover). Has cover covers) (sym (take_all c.loop-cover.cover-index c.args.covers.now c.loop-cover-test.false)) m)
