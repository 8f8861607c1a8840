use Rattle.std.proofs.Common.{rules, ◌≡◌, ℕ, Bool, Option, List, [], ◌∷◌, ◌++◌, map, length, sym, ap, ◌∙◌, subst, Vec, Global}
use Rattle.std.proofs.lemmas.List.{map_push, append_assoc, append-nil, nil_from_length}
use Rattle.std.proofs.lemmas.Result.{err_from_is_err_and}
use Rattle.std.specs.Vec.Iter.{into_iter_items}
use Rattle.net_decomp.specs.Cursor.{ArePut}
use Rattle.net_decomp.proofs.Putting.{put_begin, put_more, part_wide, part_fault}
use Rattle.net_decomp.proofs.stepping.add_parts.Goals as goal

pub loop-part-init : goal.loop-part-init
loop-part-init g c = record {
  put = subst (λ (names : List (List ℕ)). ArePut c.args.inputs.now [] names c.args.work.now c.args.work.now) (sym c.new-names.ensures) (put_begin c.args.inputs.now c.args.work.now);
  all = search rules;
}

pub add_part-requires : goal.add_part-requires
add_part-requires g c =
    part_wide (λ (part : Vec g.row.R.Denot Global). map g.R.Row.literals part.items) (length c.args.inputs.now) c.loop-part.yielded (into_iter_items c.next.new.self) c.args.parts.items c.in-Some.part
    (ap (λ (l : List (Vec g.row.R.Denot Global)). c.loop-part.yielded ++ l) (sym c.in-Some.ensures.steps.0) ∙ c.loop-part.invariant.all) c.requires.wide

pub returns-in_err-add_part-clause-fault : goal.returns-in_err-add_part-clause-fault
returns-in_err-add_part-clause-fault g c =
    let p = err_from_is_err_and c.from_residual.result c.from_residual.ensures.1 in
    rw (p.1, p.2)
    (part_fault (λ (part : Vec g.row.R.Denot Global). map g.R.Row.literals part.items) c.args.inputs.now c.loop-part.yielded (into_iter_items c.next.new.self) c.args.parts.items c.in-Some.part c.loop-part.names
    c.args.work.now c.loop-part.work c.in_err-add_part.field-0.0
    (ap (λ (l : List (Vec g.row.R.Denot Global)). c.loop-part.yielded ++ l) (sym c.in-Some.ensures.steps.0) ∙ c.loop-part.invariant.all) c.loop-part.invariant.put c.requires.room c.in_err-add_part.ensures.limit)

pub loop-part-preserved : goal.loop-part-preserved
loop-part-preserved g c = record {
  put = subst (λ (parts : List (List (List (Option Bool)))). ArePut c.args.inputs.now parts c.push_name.new.names c.args.work.now c.add_part.new.work) (sym (map_push (λ (part : Vec g.row.R.Denot Global). map g.R.Row.literals part.items) c.loop-part.yielded c.in-Some.part))
      (subst (λ (names : List (List ℕ)). ArePut c.args.inputs.now (map (λ (part : Vec g.row.R.Denot Global). map g.R.Row.literals part.items) c.loop-part.yielded ++ map g.R.Row.literals c.in-Some.part.items ∷ []) names c.args.work.now c.add_part.new.work) (sym c.in_ok-push_name.ensures)
      (put_more c.args.inputs.now (map (λ (part : Vec g.row.R.Denot Global). map g.R.Row.literals part.items) c.loop-part.yielded) (map g.R.Row.literals c.in-Some.part.items) c.loop-part.names c.in_ok-add_part.field-0
      c.args.work.now c.loop-part.work c.add_part.new.work c.loop-part.invariant.put c.in_ok-add_part.ensures.added.0 c.in_ok-add_part.ensures.added.1 c.in_ok-add_part.ensures.bounded));
  all =
      append_assoc c.loop-part.yielded (c.in-Some.part ∷ []) (into_iter_items c.next.new.self)
      ∙ ap (λ (l : List (Vec g.row.R.Denot Global)). c.loop-part.yielded ++ l) (sym c.in-Some.ensures.steps.0) ∙ c.loop-part.invariant.all;
}

pub returns-clause-put : goal.returns-clause-put
returns-clause-put g c =
    let none : into_iter_items c.loop-part.part-iterator ≡ [] = nil_from_length _ (sym c.loop-part.part-iterator.rest.ok.0 ∙ c.in-None.ensures.steps.0) in
    subst (λ (parts : List (Vec g.row.R.Denot Global)). ArePut c.args.inputs.now (map (λ (part : Vec g.row.R.Denot Global). map g.R.Row.literals part.items) parts) c.loop-part.names c.args.work.now c.loop-part.work)
    (sym (append-nil c.loop-part.yielded) ∙ ap (λ (l : List (Vec g.row.R.Denot Global)). c.loop-part.yielded ++ l) (sym none) ∙ c.loop-part.invariant.all) c.loop-part.invariant.put
