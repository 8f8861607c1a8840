use Rattle.std.proofs.Common.{◌≡◌, ◌∙◌, ◌++◌, ◌∷◌, [], Bool, false, ℕ, List, length, ap, sym}
use Rattle.std.proofs.lemmas.List.{length-replicate, nil_from_length}
use Rattle.circuit_checks.specs.Searching.{marks, fresh}
use Rattle.circuit_checks.proofs.Marking.{at_start, at_step, at_end, step_below, step_falls}
use Rattle.circuit_checks.proofs.search.reached.Goals as goal

pub note_all-requires : goal.note_all-requires
note_all-requires c =
    rw c.reads_at.ensures
    (step_below c.args.graph.now c.requires c.args.from c.in_ok-seen.seen.items
    (ap (λ (xs : List Bool). length xs) c.in_ok-seen.ensures ∙ length-replicate (length c.args.graph.now) false))

pub loop-place-init : goal.loop-place-init
loop-place-init c =
    at_start c.args.graph.now c.requires c.args.from (length c.args.graph.now) (λ i. length c.args.graph.now) c.in_ok-seen.seen.items
    c.note_all.new.seen.items c.note_all.new.pending.items c.in_ok-seen.ensures
    (c.in_ok-note_all.ensures.marks ∙ ap (λ (reads : List ℕ). marks c.in_ok-seen.seen.items reads) c.reads_at.ensures)
    (c.in_ok-note_all.ensures.fresh
    ∙ ap (λ (xs : List ℕ). xs ++ fresh c.in_ok-seen.seen.items c.reads_at.result.now) c.new-pending.ensures.items
    ∙ ap (λ (reads : List ℕ). fresh c.in_ok-seen.seen.items reads) c.reads_at.ensures)

pub note_all-requires-in-Some : goal.note_all-requires-in-Some
note_all-requires-in-Some c =
    rw c.reads_at-in-Some.ensures (step_below c.args.graph.now c.requires c.in-Some.place c.loop-place.seen.items c.loop-place.invariant.long)

pub loop-place-smaller : goal.loop-place-smaller
loop-place-smaller c =
    step_falls c.args.graph.now c.requires c.in-Some.place c.loop-place.seen.items c.note_all-in-Some.new.seen.items
    c.loop-place.pending.items c.pop.new.self.items c.note_all-in-Some.new.pending.items c.loop-place.invariant.long
    c.in-Some.ensures.items
    (c.in_ok-note_all-2.ensures.marks ∙ ap (λ (reads : List ℕ). marks c.loop-place.seen.items reads) c.reads_at-in-Some.ensures)
    (c.in_ok-note_all-2.ensures.fresh ∙ ap (λ (reads : List ℕ). c.pop.new.self.items ++ fresh c.loop-place.seen.items reads) c.reads_at-in-Some.ensures)

pub loop-place-preserved : goal.loop-place-preserved
loop-place-preserved c =
    at_step c.args.graph.now c.requires c.args.from c.in-Some.place c.loop-place.seen.items c.note_all-in-Some.new.seen.items
    c.loop-place.pending.items c.pop.new.self.items c.note_all-in-Some.new.pending.items c.loop-place.invariant
    c.in-Some.ensures.items
    (c.in_ok-note_all-2.ensures.marks ∙ ap (λ (reads : List ℕ). marks c.loop-place.seen.items reads) c.reads_at-in-Some.ensures)
    (c.in_ok-note_all-2.ensures.fresh ∙ ap (λ (reads : List ℕ). c.pop.new.self.items ++ fresh c.loop-place.seen.items reads) c.reads_at-in-Some.ensures)

pub returns : goal.returns
returns c =
    at_end c.args.graph.now c.requires c.args.from c.loop-place.seen.items c.loop-place.pending.items c.loop-place.invariant
    (nil_from_length _ (sym c.loop-place.pending.ok.0 ∙ c.in_default.ensures.cases.0))
