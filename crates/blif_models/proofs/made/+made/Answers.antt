use Rattle.std.proofs.Common.{ℕ, ◌+◌, ◌-◌, ◌++◌, [], ◌∷◌, List, Err, map, drop, refl, sym, ap, arith, ◌∙◌}
use Rattle.std.proofs.lemmas.Result.{err_from_is_err_and}
use Rattle.sis_text.specs.Entries.{entry_at}
use Rattle.blif_models.specs.Files.{lines_at}
use Rattle.blif_models.specs.Made.{signals_in, made_in}
use Rattle.blif_models.specs.Instances.{frames_in}
use Rattle.blif_models.specs.Tables.{place_after}
use Rattle.blif_models.specs.Makings.{make_all, outside_all, own_names, bare_instance, item_names, names_from}
use Rattle.blif_models.specs.Contexts.{library_in, models_in, text_in}
use Rattle.blif_models.proofs.Flattening.{place_within}
use Rattle.blif_models.proofs.Making.{nothing_made, none_unmade, part_made, part_unmade, rest_made, both_made, frames_cut, made_zero, made_some, names_left, names_end, names_other, names_empty, names_split}
use Rattle.blif_models.proofs.made.+made.Goals as goal

pub make_in-returns-then-depth-eq0-clause-made : goal.make_in-returns-then-depth-eq0-clause-made
make_in-returns-then-depth-eq0-clause-made t c =
    nothing_made c.args.made.now _
    (ap (map (outside_all (frames_in c.args.frames.now.items)))
    (made_zero (library_in c.args.models.now) (models_in c.args.models.now) c.args.depth (lines_at (text_in c.args.models.now) c.args.lines.now) c.if-depth-eq0.true))

pub make_in-loop-line-init : goal.make_in-loop-line-init
make_in-loop-line-init t c = record {
  within = omega arith;
  frames = refl;
  made = ap (λ (names : List (List ℕ)). make_all c.args.made.now (map (outside_all (frames_in c.args.frames.now.items)) names))
      (sym (made_some (library_in c.args.models.now) (models_in c.args.models.now) c.args.depth (lines_at (text_in c.args.models.now) c.args.lines.now) c.if-depth-eq0.false));
}

pub make_in-returns-in_err-make_item-clause-made : goal.make_in-returns-in_err-make_item-clause-made
make_in-returns-in_err-make_item-clause-made t c =
    let p = err_from_is_err_and c.from_residual.result c.from_residual.ensures.1 in
    let library = library_in c.args.models.now in
    let models = models_in c.args.models.now in
    let text = text_in c.args.models.now in
    let frames = frames_in c.args.frames.now.items in
    let depth = c.args.depth - 1 in
    let place = c.loop-line.place in
    let i = c.loop-line.line-index in
    let line = entry_at text c.line-item.result in
    let lines = lines_at text c.args.lines.now in
    let failed = rw c.loop-line.invariant.frames at c.in_err-make_item.ensures.made in
    rw (p.1, p.2) (part_unmade c.in_err-make_item.field-0.0 c.loop-line.made c.make_item.new.made (map (outside_all frames) (item_names library models depth place line))
    (map (outside_all frames) (names_from library models depth (place_after place line) (drop (i + 1) lines))) (map (outside_all frames) (names_from library models depth place (drop i lines))) _
    (names_left library models frames depth place (place_after place line) text c.args.lines.now i c.line-item.result c.loop-line-test.true c.line-item.is refl) failed c.loop-line.invariant.made)

pub make_in-loop-line-preserved : goal.make_in-loop-line-preserved
make_in-loop-line-preserved t c =
    let library = library_in c.args.models.now in
    let models = models_in c.args.models.now in
    let text = text_in c.args.models.now in
    let frames = frames_in c.args.frames.now.items in
    let depth = c.args.depth - 1 in
    let place = c.loop-line.place in
    let next = c.place_after-place.result in
    let i = c.loop-line.line-index in
    let line = entry_at text c.line-item.result in
    let lines = lines_at text c.args.lines.now in
    let done = rw c.loop-line.invariant.frames at c.in_ok-make_item.ensures.made in
    record {
      within = place_within line place i next c.loop-line.invariant.within c.place_after-place.ensures;
      frames = c.in_ok-make_item.ensures.frames ∙ c.loop-line.invariant.frames;
      made = part_made c.loop-line.made c.make_item.new.made (map (outside_all frames) (item_names library models depth place line)) (map (outside_all frames) (names_from library models depth next (drop (i + 1) lines)))
          (map (outside_all frames) (names_from library models depth place (drop i lines))) _
          (names_left library models frames depth place next text c.args.lines.now i c.line-item.result c.loop-line-test.true c.line-item.is c.place_after-place.ensures) done c.loop-line.invariant.made;
    }

pub make_in-returns-clause-made : goal.make_in-returns-clause-made
make_in-returns-clause-made t c =
    let library = library_in c.args.models.now in
    let models = models_in c.args.models.now in
    let text = text_in c.args.models.now in
    let frames = frames_in c.args.frames.now.items in
    none_unmade c.loop-line.made (map (outside_all frames) (names_from library models (c.args.depth - 1) c.loop-line.place (drop c.loop-line.line-index (lines_at text c.args.lines.now)))) _
    (names_end library models frames (c.args.depth - 1) c.loop-line.place text c.args.lines.now c.loop-line.line-index c.loop-line-test.false) c.loop-line.invariant.made

pub make_item-returns-then-not-is_instance-clause-made : goal.make_item-returns-then-not-is_instance-clause-made
make_item-returns-then-not-is_instance-clause-made t c =
    nothing_made c.args.made.now _
    (ap (map (outside_all (frames_in c.args.frames.now.items)))
    (names_other (library_in c.args.models.now) (models_in c.args.models.now) c.args.depth c.args.place (entry_at (text_in c.args.models.now) c.args.line.now) (sym c.is_instance.ensures ∙ c.if-not-is_instance.true)))

pub make_item-returns-in-None-clause-made : goal.make_item-returns-in-None-clause-made
make_item-returns-in-None-clause-made t c =
    nothing_made c.args.made.now _
    (ap (map (outside_all (frames_in c.args.frames.now.items)))
    (names_empty (library_in c.args.models.now) (models_in c.args.models.now) c.args.depth c.args.place (entry_at (text_in c.args.models.now) c.args.line.now) (sym c.is_instance.ensures ∙ c.if-not-is_instance.false) c.in-None.ensures))

pub make_item-returns-in_err-enter-in-Some-clause-made : goal.make_item-returns-in_err-enter-in-Some-clause-made
make_item-returns-in_err-enter-in-Some-clause-made t c =
    let p = err_from_is_err_and c.from_residual.result c.from_residual.ensures.1 in
    let library = library_in c.args.models.now in
    let models = models_in c.args.models.now in
    let text = text_in c.args.models.now in
    let frames = frames_in c.args.frames.now.items in
    let line = entry_at text c.args.line.now in
    let body = lines_at text c.body-body.result.now in
    let last = bare_instance c.args.place line in
    rw (p.1, p.2) (part_unmade c.in_err-enter-in-Some.field-0.0 c.args.made.now c.enter.new.made (own_names frames last (signals_in body)) (map (outside_all (frames ++ last ∷ [])) (made_in library models c.args.depth body))
    (map (outside_all frames) (item_names library models c.args.depth c.args.place line)) _
    (names_split library models frames c.args.depth c.args.place line body (sym c.is_instance.ensures ∙ c.if-not-is_instance.false) c.in-Some.ensures.filled (c.body-body.ensures ∙ c.in-Some.ensures.body))
    c.in_err-enter-in-Some.ensures.made refl)

pub make_item-returns-in_err-make_in-in-Some-clause-made : goal.make_item-returns-in_err-make_in-in-Some-clause-made
make_item-returns-in_err-make_in-in-Some-clause-made t c =
    let p = err_from_is_err_and c.from_residual-in_err-make_in-in-Some.result c.from_residual-in_err-make_in-in-Some.ensures.1 in
    let library = library_in c.args.models.now in
    let models = models_in c.args.models.now in
    let text = text_in c.args.models.now in
    let frames = frames_in c.args.frames.now.items in
    let line = entry_at text c.args.line.now in
    let body = lines_at text c.body-body.result.now in
    let last = bare_instance c.args.place line in
    let failed = rw c.in_ok-enter-in-Some.ensures.frames at c.in_err-make_in-in-Some.ensures.made in
    rw (p.1, p.2) (rest_made (Err c.in_err-make_in-in-Some.field-0.0) c.args.made.now c.enter.new.made c.make_in.new.made (own_names frames last (signals_in body)) (map (outside_all (frames ++ last ∷ [])) (made_in library models c.args.depth body))
    (map (outside_all frames) (item_names library models c.args.depth c.args.place line))
    (names_split library models frames c.args.depth c.args.place line body (sym c.is_instance.ensures ∙ c.if-not-is_instance.false) c.in-Some.ensures.filled (c.body-body.ensures ∙ c.in-Some.ensures.body))
    c.in_ok-enter-in-Some.ensures.made failed)

pub make_item-returns-in_ok-make_in-in-Some-clause-frames : goal.make_item-returns-in_ok-make_in-in-Some-clause-frames
make_item-returns-in_ok-make_in-in-Some-clause-frames t c =
    frames_cut c.args.frames.now.items c.make_in.new.frames.items c.truncate.new.self.items c.len-count.result _ c.truncate.ensures.items (c.len-count.ensures ∙ c.args.frames.now.ok.0)
    (c.in_ok-make_in-in-Some.ensures.frames ∙ c.in_ok-enter-in-Some.ensures.frames)

pub make_item-returns-in_ok-make_in-in-Some-clause-made : goal.make_item-returns-in_ok-make_in-in-Some-clause-made
make_item-returns-in_ok-make_in-in-Some-clause-made t c =
    let library = library_in c.args.models.now in
    let models = models_in c.args.models.now in
    let text = text_in c.args.models.now in
    let frames = frames_in c.args.frames.now.items in
    let line = entry_at text c.args.line.now in
    let body = lines_at text c.body-body.result.now in
    let last = bare_instance c.args.place line in
    let done = rw c.in_ok-enter-in-Some.ensures.frames at c.in_ok-make_in-in-Some.ensures.made in
    both_made c.args.made.now c.enter.new.made c.make_in.new.made (own_names frames last (signals_in body)) (map (outside_all (frames ++ last ∷ [])) (made_in library models c.args.depth body))
    (map (outside_all frames) (item_names library models c.args.depth c.args.place line))
    (names_split library models frames c.args.depth c.args.place line body (sym c.is_instance.ensures ∙ c.if-not-is_instance.false) c.in-Some.ensures.filled (c.body-body.ensures ∙ c.in-Some.ensures.body))
    c.in_ok-enter-in-Some.ensures.made done
