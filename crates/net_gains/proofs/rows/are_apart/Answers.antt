use Rattle.std.proofs.Common.{ℕ, eqb, length, Vec, Global, sym, ap, ◌∙◌, arith}
use Rattle.std.proofs.lemmas.List.{length-map, get_or-map}
use Rattle.circuit_tables.specs.Folding.{each_once}
use Rattle.circuit_tables.proofs.Once.{listed_once}
use Rattle.circuit_tables.proofs.FoldSteps.{names_more, names_done}
use Rattle.circuit_tables.proofs.Steps.{all_once}
use Rattle.net_gains.specs.Numbers.{lists_in}
use Rattle.net_gains.proofs.rows.are_apart.Goals as goal

pub loop-cube-init : goal.loop-cube-init
loop-cube-init c = rw c.new-seen.ensures.empty (listed_once (lists_in c.args.cubes.now))

pub loop-cube-preserved : goal.loop-cube-preserved
loop-cube-preserved c =
    names_more c.loop-cube.seen.keys c.insert_full.new.self.keys (each_once (lists_in c.args.cubes.now)) (lists_in c.args.cubes.now) c.loop-cube.cube-index c.cube-item.result.items c.in_ok-from_slice.field-0
    (omega (arith, c.loop-cube-test.true, length-map c.args.cubes.now (λ (cube : Vec ℕ Global). cube.items)))
    (ap (λ (cube : Vec ℕ Global). cube.items) c.cube-item.is
    ∙ sym (get_or-map (λ (cube : Vec ℕ Global). cube.items) c.args.cubes.now c.loop-cube.cube-index c.cube-item.result c.cube-item.result.items c.loop-cube-test.true))
    (c.in_ok-from_slice.ensures ∙ c.as_slice.ensures.value) c.in_ok-insert_full.ensures.keys c.loop-cube.invariant

pub returns : goal.returns
returns c =
    ap (λ (n : ℕ). eqb n (length c.args.cubes.now)) c.len.ensures.len
    ∙ ap (eqb (length c.loop-cube.seen.keys)) (sym (length-map c.args.cubes.now (λ (cube : Vec ℕ Global). cube.items)))
    ∙ all_once (lists_in c.args.cubes.now) c.loop-cube.seen.keys
    (sym (names_done c.loop-cube.seen.keys (lists_in c.args.cubes.now) c.loop-cube.cube-index (omega (arith, c.loop-cube-test.false, length-map c.args.cubes.now (λ (cube : Vec ℕ Global). cube.items))))
    ∙ c.loop-cube.invariant)
