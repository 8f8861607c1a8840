use Rattle.std.proofs.Common.{List, Option, Bool, ◌++◌, ◌∷◌, [], ap, ◌∙◌}
use Rattle.std.proofs.lemmas.List.{map_push}
use Rattle.alg_div.specs.Steps.{literals_in}
use Rattle.alg_kernel.specs.Search.{kernels_in}
use Rattle.alg_kernel.proofs.Spots.{map-insert}
use Rattle.alg_kernel.proofs.search.add.Goals as goal

pub returns : goal.returns
returns c = record {
  seen = ap kernels_in c.in_ok-insert.ensures.items ∙ map-insert (λ k. literals_in k.items) c.args.seen.now.items c.args.place c.args.kernel;
  todo = ap kernels_in c.in_ok-push.ensures.items ∙ map_push (λ k. literals_in k.items) c.args.todo.now.items c.in_ok-copies_of.field-0
      ∙ ap (λ (k : List (List (Option Bool))). kernels_in c.args.todo.now.items ++ k ∷ []) (c.in_ok-copies_of.ensures ∙ ap literals_in c.as_slice.ensures.value);
}
