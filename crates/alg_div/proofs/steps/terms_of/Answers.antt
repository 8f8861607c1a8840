use Rattle.std.proofs.Common.{◌≡◌, ◌+◌, ◌<◌, ◌++◌, ◌∷◌, Bool, Option, None, List, [], length, map, ap, sym, subst, ◌∙◌, arith, option_map, Global, Vec}
use Rattle.std.proofs.lemmas.List.{length-map, map_push}
use Rattle.alg_div.specs.Steps.{IsPart, IsTermAt, IsTheTerm}
use Rattle.alg_div.proofs.Terms.{part-zero, part-none, part-whole, part-new}
use Rattle.alg_div.proofs.steps.terms_of.Goals as goal
use Rattle.alg_div.proofs.steps.terms_of.Goals.{in-Some+in_ok-push-in-Some, in-None}

pub loop-number-init : goal.loop-number-init
loop-number-init g c = rw c.new-terms.ensures.items (part-zero (length (g.R.Row.literals c.args.mask.now)) (map g.R.Row.literals c.args.f.now) (g.R.Row.literals c.args.first.now) (map g.R.Row.literals c.args.d.now))

pub loop-number-preserved : goal.loop-number-preserved
loop-number-preserved g c =
    elim c.match-branch-2.branch [
      | in-Some+in_ok-push-in-Some w ↦
          let t : IsTermAt (length (g.R.Row.literals c.args.mask.now)) (map g.R.Row.literals c.args.f.now) (g.R.Row.literals c.args.first.now) (map g.R.Row.literals c.args.d.now) c.loop-number.number (g.R.Row.literals w.in-Some.term) = subst (λ (o : Option g.row.R.Denot). IsTheTerm (length (g.R.Row.literals c.args.mask.now)) (map g.R.Row.literals c.args.f.now) (g.R.Row.literals c.args.first.now) (map g.R.Row.literals c.args.d.now) c.loop-number.number (option_map g.R.Row.literals o)) w.in-Some.is c.in_ok-term.ensures in
          let grown : map g.R.Row.literals c.match-branch-2.terms.items ≡ map g.R.Row.literals c.loop-number.terms.items ++ g.R.Row.literals w.in-Some.term ∷ [] = ap (λ (v : Vec g.row.R.Denot Global). map g.R.Row.literals v.items) w.terms-is ∙ ap (map g.R.Row.literals) w.in_ok-push-in-Some.ensures.items ∙ map_push g.R.Row.literals c.loop-number.terms.items w.in-Some.term in
          let below : c.loop-number.number < length (map g.R.Row.literals c.args.f.now) = omega (arith, length-map c.args.f.now g.R.Row.literals, c.loop-number-test.true) in
          subst (λ (q : List (List (Option Bool))). IsPart (length (g.R.Row.literals c.args.mask.now)) (map g.R.Row.literals c.args.f.now) (g.R.Row.literals c.args.first.now) (map g.R.Row.literals c.args.d.now) (c.loop-number.number + 1) q) (sym grown) (part-new (length (g.R.Row.literals c.args.mask.now)) (map g.R.Row.literals c.args.f.now) (g.R.Row.literals c.args.first.now) (map g.R.Row.literals c.args.d.now) c.loop-number.number (map g.R.Row.literals c.loop-number.terms.items) (g.R.Row.literals w.in-Some.term) c.requires.width c.requires.first below c.loop-number.invariant t)
      | in-None w ↦
          let t : IsTheTerm (length (g.R.Row.literals c.args.mask.now)) (map g.R.Row.literals c.args.f.now) (g.R.Row.literals c.args.first.now) (map g.R.Row.literals c.args.d.now) c.loop-number.number None = subst (λ (o : Option g.row.R.Denot). IsTheTerm (length (g.R.Row.literals c.args.mask.now)) (map g.R.Row.literals c.args.f.now) (g.R.Row.literals c.args.first.now) (map g.R.Row.literals c.args.d.now) c.loop-number.number (option_map g.R.Row.literals o)) w.in-None.is c.in_ok-term.ensures in
          subst (λ (v : Vec g.row.R.Denot Global). IsPart (length (g.R.Row.literals c.args.mask.now)) (map g.R.Row.literals c.args.f.now) (g.R.Row.literals c.args.first.now) (map g.R.Row.literals c.args.d.now) (c.loop-number.number + 1) (map g.R.Row.literals v.items)) (sym w.terms-is) (part-none (length (g.R.Row.literals c.args.mask.now)) (map g.R.Row.literals c.args.f.now) (g.R.Row.literals c.args.first.now) (map g.R.Row.literals c.args.d.now) c.loop-number.number (map g.R.Row.literals c.loop-number.terms.items) c.loop-number.invariant t)
    ]

pub returns : goal.returns
returns g c =
    let n : c.loop-number.number ≡ length (map g.R.Row.literals c.args.f.now) = omega (arith, length-map c.args.f.now g.R.Row.literals, c.loop-number-test.false, c.loop-number.auto.number-end) in
    part-whole (length (g.R.Row.literals c.args.mask.now)) (map g.R.Row.literals c.args.f.now) (g.R.Row.literals c.args.first.now) (map g.R.Row.literals c.args.d.now) c.loop-number.number (map g.R.Row.literals c.loop-number.terms.items) n c.requires.first c.loop-number.invariant
