use Rattle.std.proofs.Common.{ℕ, List, ap, ◌∙◌, subst}
use Rattle.std.proofs.lemmas.List.{take_all}
use Rattle.net_readers.specs.Fanouts.{is_in}
use Rattle.net_elim.proofs.Touched.{ArePartly, partly_next, touched_all}
use Rattle.net_elim.proofs.touching.touched_by.Goals as goal

pub loop-reader-preserved : goal.loop-reader-preserved
loop-reader-preserved g c =
    partly_next c.args.work.now.slots c.args.place c.as_slice-reader-items.result.now
    c.loop-reader.reader-index 0 c.loop-reader.places.items
    c.push_reader-in-loop-reader.new.places.items c.loop-reader-test.true
    c.loop-reader.invariant c.in_ok-push_reader-in-Some-2.ensures

pub returns : goal.returns
returns g c =
    touched_all c.args.work.now.slots c.args.place c.in-Some.inner.now
    c.as_slice-reader-items.result.now c.loop-reader.places.items c.in-Some.ensures.table
    (λ at. ap (λ (ps : List ℕ). is_in ps at) c.as_slice-reader-items.ensures
    ∙ c.in_ok-readers-in-Some.ensures.exact at)
    (subst (λ (ps : List ℕ). ArePartly c.args.work.now.slots c.args.place ps
    c.loop-reader.places.items) (take_all c.loop-reader.reader-index
    c.as_slice-reader-items.result.now c.loop-reader-test.false) c.loop-reader.invariant)
