use Rattle.std.proofs.Common.{◌≡◌, ◌<◌, Option, Bool, None, List, set, get_or, length, ap, sym, ◌∙◌, arith}
use Rattle.alg_div.proofs.Cubes.{fill_more}
use Rattle.alg_kernel.specs.Search.{both, both_rows}
use Rattle.alg_kernel.proofs.Parts.{get_or-both, length-both, get_or-filled, filled-all, default-other}
use Rattle.alg_kernel.proofs.rows.meet.Goals as goal

pub loop-place-preserved : goal.loop-place-preserved
loop-place-preserved c =
    let old : List (Option Bool) = c.args.cube.now.items in
    let new : List (Option Bool) = both_rows c.args.cube.now.items c.args.row.now in
    let len : length old ≡ length new = sym (length-both old c.args.row.now c.requires) in
    let lt : c.loop-place.place < length new = omega (arith, len, c.requires, c.loop-place-test.true) in
    let here : c.loop-place.place < length old = omega (arith, len, lt) in
    let read : c.index.result.now ≡ get_or old c.loop-place.place None =
    c.index.ensures ∙ ap (λ (l : List (Option Bool)). get_or l c.loop-place.place c.index.result.now) c.loop-place.invariant
    ∙ get_or-filled new old c.loop-place.place c.index.result.now lt len ∙ default-other old c.loop-place.place c.index.result.now None here in
    let v : c.shared_literal.result ≡ get_or new c.loop-place.place None = c.shared_literal.ensures ∙ ap (λ (x : Option Bool). both x (get_or c.args.row.now c.loop-place.place None)) read ∙ sym (get_or-both old c.args.row.now c.loop-place.place) in
    ap (λ (x : Option Bool). set c.loop-place.cube.items c.loop-place.place x) v ∙ ap (λ (l : List (Option Bool)). set l c.loop-place.place (get_or new c.loop-place.place None)) c.loop-place.invariant
    ∙ fill_more new old c.loop-place.place None lt len

pub returns : goal.returns
returns c =
    let len : length c.args.cube.now.items ≡ length (both_rows c.args.cube.now.items c.args.row.now) = sym (length-both c.args.cube.now.items c.args.row.now c.requires) in
    c.loop-place.invariant ∙ filled-all (both_rows c.args.cube.now.items c.args.row.now) c.args.cube.now.items c.loop-place.place (omega (arith, len, c.requires, c.loop-place-test.false)) len
