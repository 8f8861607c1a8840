-- The inner tables are removed, and what is left is the collapsed circuit.
use Rattle.std.proofs.Common.{◌≡◌, ℕ, ◌≤◌, ◌+◌, ◌==◌, Bool, true, false, not, ◌||◌, if◌then◌else◌, Option, Some, None, List, [], fold, filter, length, ltb, refl, sym, ap, ◌∙◌, subst, arith, eqb-true}
use Rattle.std.specs.List.{AllByRecursion}
use Rattle.std.proofs.lemmas.Bool.{false≢true, eqb-false, lt-ltb, le-ltb, ltb-true, ltb-false}
use Rattle.circuit_model.specs.Names.{has}
use Rattle.circuit_model.specs.Soundness.{outputs_of, IsSound}
use Rattle.circuit_model.specs.declared.circuit.Table.{Table}
use Rattle.circuit_model.specs.declared.circuit.Circuit.{Circuit}
use Rattle.circuit_laws.specs.Edits.{with_tables, with_kept, tables_kept, is_root}
use Rattle.net_work.specs.Placed.{Placed, standing, circuit_of, table_at}
use Rattle.circuit_order.specs.Order.{order_of}
use Rattle.net_elim.specs.Collapsing.{with_put, put_refusal, is_outer, collapsed}
use Rattle.net_elim.proofs.Stepping.{all_weaker, all_there}
use Rattle.net_elim.proofs.Gathered.{collapse_reduced}
use Rattle.net_work.specs.Along.{IsAlong}
use Rattle.net_elim.specs.Phases.{IsCut, rooted}
use Rattle.net_elim.proofs.Stands.{standing_rooted, outputs_same, past_end}

pub cut_begun : (placed : Placed) → IsCut 0 placed placed
cut_begun placed = record {
  frame = refl;
  tables = λ at. ap (λ (b : Bool). if b then rooted placed.frame (table_at placed.slots at) else table_at placed.slots at) (sym (le-ltb at 0 (omega arith)));
}

pub cut_more : (place : ℕ) (before now new : Placed) → IsCut place before now → new.frame ≡ now.frame
    → ((at : ℕ) → table_at new.slots at ≡ (if place == at then rooted now.frame (table_at now.slots at) else table_at now.slots at)) → IsCut (place + 1) before new
cut_more place before now new cut frame tables = record { frame = frame ∙ cut.frame; tables = λ at. tables at ∙ cases at (place == at) refl }
  where
    cases : (at : ℕ) (b : Bool) → (place == at) ≡ b → (if place == at then rooted now.frame (table_at now.slots at) else table_at now.slots at)
        ≡ (if ltb at (place + 1) then rooted before.frame (table_at before.slots at) else table_at before.slots at)
    cases at true e =
        let same : place ≡ at = eqb-true place at e in
        ap (λ (b : Bool). if b then rooted now.frame (table_at now.slots at) else table_at now.slots at) e
        ∙ (ap (λ (f : Circuit). rooted f (table_at now.slots at)) cut.frame
        ∙ (ap (rooted before.frame) (cut.tables at ∙ ap (λ (b : Bool). if b then rooted before.frame (table_at before.slots at) else table_at before.slots at) (le-ltb at place (omega (arith, same))))
        ∙ ap (λ (b : Bool). if b then rooted before.frame (table_at before.slots at) else table_at before.slots at) (sym (lt-ltb at (place + 1) (omega (arith, same))))))
    cases at false e =
        ap (λ (b : Bool). if b then rooted now.frame (table_at now.slots at) else table_at now.slots at) e
        ∙ (cut.tables at ∙ ap (λ (b : Bool). if b then rooted before.frame (table_at before.slots at) else table_at before.slots at) (below (ltb at place) refl))
      where
        apart : place ≡ at → ⊥
        apart = eqb-false place at e

        below : (b : Bool) → ltb at place ≡ b → ltb at place ≡ ltb at (place + 1)
        below true k = k ∙ sym (lt-ltb at (place + 1) (omega (arith, ltb-true at place k)))
        below false k = k ∙ sym (le-ltb at (place + 1) (omega (arith, ltb-false at place k, apart)))

pub cut_whole : (count : ℕ) (before now : Placed) → IsCut count before now → length before.slots ≤ count → (at : ℕ) → table_at now.slots at ≡ rooted before.frame (table_at before.slots at)
cut_whole count before now cut long at = cut.tables at ∙ cases (ltb at count) refl
  where
    cases : (b : Bool) → ltb at count ≡ b → (if ltb at count then rooted before.frame (table_at before.slots at) else table_at before.slots at) ≡ rooted before.frame (table_at before.slots at)
    cases true e = ap (λ (b : Bool). if b then rooted before.frame (table_at before.slots at) else table_at before.slots at) e
    cases false e =
        let none : table_at before.slots at ≡ None = past_end before.slots at (omega (arith, long, ltb-false at count e)) in
        ap (λ (b : Bool). if b then rooted before.frame (table_at before.slots at) else table_at before.slots at) e ∙ (none ∙ sym (ap (rooted before.frame) none))

-- a table is an outer one exactly if it is a root
root_framed : (frame : Circuit) (tables : List Table) (name : List ℕ) → is_root (with_tables frame tables) name ≡ is_root frame name
unfolding is_root
root_framed frame tables name = refl

outer_root : (circuit : Circuit) (name : List ℕ) → has (outputs_of circuit.tables) name ≡ true → is_outer circuit name ≡ is_root circuit name
outer_root circuit name there = ap (λ (b : Bool). is_root circuit name || not b) there ∙ or_false (is_root circuit name)
  where
    or_false : (b : Bool) → (b || false) ≡ b
    or_false true = refl
    or_false false = refl

pub kept_tables : (circuit : Circuit) (test : List ℕ → Bool) → (with_kept circuit test).tables ≡ filter (λ (table : Table). test table.output) circuit.tables
unfolding with_kept tables_kept
kept_tables circuit test = refl

pub collapsed_whole : (before put now : Placed) → IsSound (circuit_of before) → IsAlong with_put put_refusal (order_of (standing before.slots)) [] before put → now.frame ≡ put.frame
    → ((at : ℕ) → table_at now.slots at ≡ rooted put.frame (table_at put.slots at)) → circuit_of now ≡ collapsed (circuit_of before)
unfolding collapsed
collapsed_whole before put now sound along frame tables =
    ap (λ (f : Circuit). with_tables f (standing now.slots)) (frame ∙ along.frame)
    ∙ (ap (λ (ts : List Table). with_tables before.frame ts) left ∙ sym (collapse_reduced (circuit_of before) sound).change.rest)
  where
    outputs : outputs_of (standing put.slots) ≡ outputs_of (standing before.slots)
    outputs = outputs_same before.slots put.slots along.names_stay

    roots : AllByRecursion (λ (table : Table). is_outer (circuit_of before) table.output ≡ is_root put.frame table.output) (standing put.slots)
    roots = all_weaker (λ (table : Table). has (outputs_of (standing put.slots)) table.output ≡ true) (λ (table : Table). is_outer (circuit_of before) table.output ≡ is_root put.frame table.output)
        (λ table there.
        outer_root (circuit_of before) table.output (ap (λ (names : List (List ℕ)). has names table.output) (sym outputs) ∙ there)
        ∙ (root_framed before.frame (standing before.slots) table.output ∙ ap (λ (f : Circuit). is_root f table.output) (sym along.frame)))
        (standing put.slots) (all_there (standing put.slots))

    left : standing now.slots ≡ (with_kept (fold with_put (circuit_of before) (order_of (standing before.slots))) (is_outer (circuit_of before))).tables
    left = standing_rooted put.frame (λ (table : Table). is_outer (circuit_of before) table.output) put.slots now.slots roots tables
        ∙ (ap (λ (c : Circuit). filter (λ (table : Table). is_outer (circuit_of before) table.output) c.tables) (sym along.end_same)
        ∙ sym (kept_tables (fold with_put (circuit_of before) (order_of (standing before.slots))) (is_outer (circuit_of before))))

-- an inner table is removed, a root stays
pub inner_gone : (frame : Circuit) (table : Table) (found : Option Table) → Some table ≡ found → (is_inner : Bool) → is_inner ≡ not (is_root frame table.output) → is_inner ≡ true → rooted frame found ≡ None
inner_gone frame table found there is_inner is inner = ap (rooted frame) (sym there) ∙ cases (is_root frame table.output) (sym is ∙ inner)
  where
    cases : (b : Bool) → not b ≡ true → (if b then Some table else None) ≡ None
    cases true e = absurd (false≢true e)
    cases false e = refl

pub root_stays : (frame : Circuit) (table : Table) (found : Option Table) → Some table ≡ found → (is_inner : Bool) → is_inner ≡ not (is_root frame table.output) → is_inner ≡ false → rooted frame found ≡ found
root_stays frame table found there is_inner is outer = ap (rooted frame) (sym there) ∙ (cases (is_root frame table.output) (sym is ∙ outer) ∙ there)
  where
    cases : (b : Bool) → not b ≡ false → (if b then Some table else None) ≡ Some table
    cases true e = refl
    cases false e = absurd (false≢true (sym e))

pub sound_collapsed : (network circuit made : Circuit) → IsSound network → circuit ≡ network → made ≡ collapsed circuit → IsSound made
sound_collapsed network circuit made sound same is = subst IsSound (sym (is ∙ ap collapsed same)) (collapse_reduced network sound).change.sound
