use Rattle.std.proofs.Common.{List, None, Bool, if◌then◌else◌, slice_get, sym, ap, ◌∙◌, bytes_eq}
use Rattle.indexmap.specs.IndexMap.{get}
use Rattle.circuit_model.specs.declared.circuit.Table.{Table}
use Rattle.subject_tree.proofs.Listing.{put-here, put-nowhere}
use Rattle.subject_tree.proofs.forest.put_table.Goals as goal

pub returns-in-None : goal.returns-in-None
returns-in-None c =
    sym (put-nowhere c.args.circuit.now (get bytes_eq c.args.index.now) c.args.signal.now c.requires.index (sym c.find.ensures ∙ c.in-None.is))

pub returns-then-is_put_at : goal.returns-then-is_put_at
returns-then-is_put_at c =
    c.table_at.ensures
    ∙ (ap (λ (ts : List Table). slice_get ts c.in-Some.place) c.as_slice.ensures
    ∙ sym (put-here c.args.circuit.now c.args.fates.now (get bytes_eq c.args.index.now) c.args.signal.now c.in-Some.place c.requires.different c.requires.fates c.requires.index (sym c.find.ensures ∙ c.in-Some.is)
    ∙ ap (λ (b : Bool). if b then slice_get c.args.circuit.now.tables c.in-Some.place else None) (sym c.is_put_at.ensures ∙ c.if-is_put_at.true)))

pub returns-else-is_put_at : goal.returns-else-is_put_at
returns-else-is_put_at c =
    sym (put-here c.args.circuit.now c.args.fates.now (get bytes_eq c.args.index.now) c.args.signal.now c.in-Some.place c.requires.different c.requires.fates c.requires.index (sym c.find.ensures ∙ c.in-Some.is)
    ∙ ap (λ (b : Bool). if b then slice_get c.args.circuit.now.tables c.in-Some.place else None) (sym c.is_put_at.ensures ∙ c.if-is_put_at.false))
