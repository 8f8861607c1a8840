-- What a division saves: when it may be made, and which tables may be divided by which.
use Rattle.std.proofs.Common.{◌≡◌, ◌≢◌, ℕ, ◌+◌, ◌-◌, ◌<◌, ◌≤◌, zero, suc, Bool, true, false, ◌||◌, cond, ltb, Option, Some, None, List, length, refl, sym, ap, ◌∙◌, arith, eqb, ne_eqb, slice_set}
use Rattle.std.proofs.lemmas.Bool.{false≢true, le-ltb, ltb-false, eqb-false, eq-eqb}
use Rattle.std.proofs.lemmas.Option.{same_Some}
use Rattle.circuit_model.specs.Counts.{literals_of, literals_of_table}
use Rattle.circuit_model.specs.Names.{has, all_different}
use Rattle.circuit_model.specs.Soundness.{outputs_of, Leads}
use Rattle.circuit_model.specs.declared.circuit.Table.{Table}
use Rattle.circuit_laws.specs.Edits.{with_tables, with_replaced}
use Rattle.cover_names.specs.Cubes.{is_over}
use Rattle.net_work.specs.Placed.{Placed, standing, circuit_of, table_at}
use Rattle.net_resub.specs.Resubbed.{row_cubes, resubbed, IsCandidate, literals_after}
use Rattle.alg_tables.proofs.Divided.{unread_stays}
use Rattle.alg_tables.proofs.Divisions.{divided_output}
use Rattle.net_resub.specs.Best.{is_led, worth_at}
use Rattle.net_resub.specs.Pairs.{saving_of, saving_between, saving_at}
use Rattle.net_work.proofs.Indexed.{standing_set}
use Rattle.net_resub.proofs.Slots.{literals_set, place_has}
use Rattle.net_resub.proofs.Graph.{one_place, led_leads, leads_led}
use Rattle.sis_base.specs.declared.limits.TheConstants.{MAX_INPUTS}

-- literals of the whole circuit
pub after_is : (placed : Placed) (place : ℕ) (table by : Table) → all_different (outputs_of (standing placed.slots)) ≡ true → table_at placed.slots place ≡ Some table
    → literals_after (circuit_of placed) by table + literals_of_table table ≡ literals_of (circuit_of placed) + literals_of_table (resubbed by table)
unfolding literals_of with_replaced
after_is placed place table by different there =
    let new : Table = resubbed by table in
    let same : literals_after (circuit_of placed) by table ≡ literals_of (with_tables placed.frame (standing (slice_set placed.slots place (Some new)))) =
    ap (λ (ts : List Table). literals_of (with_tables placed.frame ts)) (sym (standing_set placed.slots place table new different there (divided_output by.output by.phase (row_cubes by) table))) in
    omega (arith, same, literals_set placed.slots place table new there)

-- consequences of a saving
pub zero_saving : (n : ℕ) → 0 < n → n ≡ 0 → ⊥
zero_saving n some none = omega (arith, some, none)

-- a saving above 0: the two tables do not rule out the division
pub record IsSaving (by table : Table) : Type 0 where
  pub unread : has table.inputs by.output ≡ false
  pub narrow : length (resubbed by table).inputs ≤ MAX_INPUTS
  pub is : saving_of by table ≡ literals_of_table table - literals_of_table (resubbed by table)

pub saving_some : (by table : Table) → 0 < saving_of by table → IsSaving by table
unfolding saving_of
saving_some by table some = cases (has table.inputs by.output) refl (ltb MAX_INPUTS (length (resubbed by table).inputs)) refl some
  where
    left_over : ℕ
    left_over = literals_of_table table - literals_of_table (resubbed by table)

    cases : (a : Bool) → has table.inputs by.output ≡ a → (b : Bool) → ltb MAX_INPUTS (length (resubbed by table).inputs) ≡ b
        → 0 < cond {A = ℕ} (a || b) 0 left_over → IsSaving by table
    cases true e b f h = absurd (omega (arith, h))
    cases false e true f h = absurd (omega (arith, h))
    cases false e false f h = record {
      unread = e;
      narrow = ltb-false MAX_INPUTS (length (resubbed by table).inputs) f;
      is = ap (λ (a : Bool). cond {A = ℕ} (a || ltb MAX_INPUTS (length (resubbed by table).inputs)) 0 left_over) e ∙ ap (λ (b : Bool). cond {A = ℕ} b 0 left_over) f;
    }

pub saving_is : (by table : Table) → has table.inputs by.output ≡ false → length (resubbed by table).inputs ≤ MAX_INPUTS → saving_of by table ≡ literals_of_table table - literals_of_table (resubbed by table)
unfolding saving_of
saving_is by table unread narrow =
    ap (λ (a : Bool). cond {A = ℕ} (a || ltb MAX_INPUTS (length (resubbed by table).inputs)) 0 (literals_of_table table - literals_of_table (resubbed by table))) unread
    ∙ ap (λ (b : Bool). cond {A = ℕ} b 0 (literals_of_table table - literals_of_table (resubbed by table))) (le-ltb MAX_INPUTS (length (resubbed by table).inputs) narrow)

-- a table that does not change saves nothing
pub stays_saves : (by table : Table) → resubbed by table ≡ table → saving_of by table ≡ 0
unfolding saving_of
stays_saves by table same = cases (has table.inputs by.output || ltb MAX_INPUTS (length (resubbed by table).inputs))
  where
    cases : (b : Bool) → cond {A = ℕ} b 0 (literals_of_table table - literals_of_table (resubbed by table)) ≡ 0
    cases true = refl
    cases false = let e : literals_of_table (resubbed by table) ≡ literals_of_table table = ap literals_of_table same in omega (arith, e)

-- nor does one that reads the divisor's signal
pub read_saves : (by table : Table) → has table.inputs by.output ≡ true → saving_of by table ≡ 0
unfolding saving_of
read_saves by table read =
    ap (λ (a : Bool). cond {A = ℕ} (a || ltb MAX_INPUTS (length (resubbed by table).inputs)) 0 (literals_of_table table - literals_of_table (resubbed by table))) read

-- the count for the table that is made
pub saved_is : (by table made : Table) (saved : ℕ) → has table.inputs by.output ≡ false → made ≡ resubbed by table
    → saved ≡ cond {A = ℕ} (ltb MAX_INPUTS (length made.inputs)) 0 (literals_of_table table - literals_of_table made) → saved ≡ saving_of by table
unfolding saving_of
saved_is by table made saved unread is counted =
    counted
    ∙ (ap (λ (t : Table). cond {A = ℕ} (ltb MAX_INPUTS (length t.inputs)) 0 (literals_of_table table - literals_of_table t)) is
    ∙ sym (ap (λ (a : Bool). cond {A = ℕ} (a || ltb MAX_INPUTS (length (resubbed by table).inputs)) 0 (literals_of_table table - literals_of_table (resubbed by table))) unread))

-- nor does one that does not read all names of the divisor's literals
pub unread_saves : (by table : Table) → is_over table.inputs (row_cubes by) ≡ false → saving_of by table ≡ 0
unread_saves by table apart = stays_saves by table (unread_stays by.output by.phase (row_cubes by) table apart)

pub saving_changes : (by table : Table) → 0 < saving_of by table → resubbed by table ≢ table
saving_changes by table some same = zero_saving (saving_of by table) some (stays_saves by table same)

-- tables at indices
pub record ArePlaced (slots : List (Option Table)) (place by : ℕ) : Type 0 where
  pub table : Table
  pub divisor : Table
  pub here : table_at slots place ≡ Some table
  pub there : table_at slots by ≡ Some divisor
  pub apart : place ≡ by → ⊥
  pub is : saving_at slots place by ≡ saving_of divisor table

pub saving_places : (slots : List (Option Table)) (place by : ℕ) → 0 < saving_at slots place by → ArePlaced slots place by
unfolding saving_at
saving_places slots place by some = cases (eqb place by) refl (table_at slots place) refl (table_at slots by) refl some
  where
    cases : (b : Bool) → eqb place by ≡ b → (one : Option Table) → table_at slots place ≡ one → (other : Option Table) → table_at slots by ≡ other
        → 0 < cond {A = ℕ} b 0 (saving_between one other) → ArePlaced slots place by
    cases true e one f other g h = absurd (omega (arith, h))
    cases false e None f other g h = absurd (omega (arith, h))
    cases false e (Some table) f None g h = absurd (omega (arith, h))
    cases false e (Some table) f (Some divisor) g h = record {
      table = table;
      divisor = divisor;
      here = f;
      there = g;
      apart = eqb-false place by e;
      is = ap (λ (b : Bool). cond {A = ℕ} b 0 (saving_between (table_at slots place) (table_at slots by))) e
          ∙ (ap (λ (o : Option Table). saving_between o (table_at slots by)) f ∙ ap (saving_between (Some table)) g);
    }

pub saving_placed : (slots : List (Option Table)) (place by : ℕ) (table divisor : Table) → (place ≡ by → ⊥) → table_at slots place ≡ Some table → table_at slots by ≡ Some divisor
    → saving_at slots place by ≡ saving_of divisor table
unfolding saving_at
saving_placed slots place by table divisor apart here there =
    ap (λ (b : Bool). cond {A = ℕ} b 0 (saving_between (table_at slots place) (table_at slots by))) (ne_eqb place by apart)
    ∙ (ap (λ (o : Option Table). saving_between o (table_at slots by)) here ∙ ap (saving_between (Some table)) there)

-- a table does not divide itself, and if either index has no table nothing is saved
pub same_saves : (slots : List (Option Table)) (place by : ℕ) → place ≡ by → saving_at slots place by ≡ 0
unfolding saving_at
same_saves slots place by same = ap (λ (b : Bool). cond {A = ℕ} b 0 (saving_between (table_at slots place) (table_at slots by))) (eq-eqb place by same)

pub none_saves : (slots : List (Option Table)) (place by : ℕ) → table_at slots place ≡ None → saving_at slots place by ≡ 0
unfolding saving_at
none_saves slots place by none = cases (eqb place by)
  where
    cases : (b : Bool) → cond {A = ℕ} b 0 (saving_between (table_at slots place) (table_at slots by)) ≡ 0
    cases true = refl
    cases false = ap (λ (o : Option Table). saving_between o (table_at slots by)) none

pub saves_by_none : (slots : List (Option Table)) (place by : ℕ) → table_at slots by ≡ None → saving_at slots place by ≡ 0
unfolding saving_at
saves_by_none slots place by none = cases (eqb place by) (table_at slots place)
  where
    cases : (b : Bool) (o : Option Table) → cond {A = ℕ} b 0 (saving_between o (table_at slots by)) ≡ 0
    cases true o = refl
    cases false None = refl
    cases false (Some table) = ap (saving_between (Some table)) none

-- a value above 0
pub worth_some : (slots : List (Option Table)) (place by : ℕ) → 0 < worth_at slots place by → (is_led slots by place ≡ false) × (worth_at slots place by ≡ saving_at slots place by)
unfolding worth_at
worth_some slots place by some = cases (is_led slots by place) some refl
  where
    cases : (b : Bool) → 0 < cond {A = ℕ} b 0 (saving_at slots place by) → is_led slots by place ≡ b
        → (is_led slots by place ≡ false) × (cond {A = ℕ} (is_led slots by place) 0 (saving_at slots place by) ≡ saving_at slots place by)
    cases true h e = absurd (omega (arith, h))
    cases false h e = (e, ap (λ (b : Bool). cond {A = ℕ} b 0 (saving_at slots place by)) e)

pub led_nothing : (slots : List (Option Table)) (place by : ℕ) → is_led slots by place ≡ true → worth_at slots place by ≡ 0
unfolding worth_at
led_nothing slots place by led = ap (λ (b : Bool). cond {A = ℕ} b 0 (saving_at slots place by)) led

pub unled_whole : (slots : List (Option Table)) (place by : ℕ) → is_led slots by place ≡ false → worth_at slots place by ≡ saving_at slots place by
unfolding worth_at
unled_whole slots place by unled = ap (λ (b : Bool). cond {A = ℕ} b 0 (saving_at slots place by)) unled

-- a division of value above 0 may be made
pub worth_candidate : (placed : Placed) (place by : ℕ) (table divisor : Table) → all_different (outputs_of (standing placed.slots)) ≡ true → table_at placed.slots place ≡ Some table
    → table_at placed.slots by ≡ Some divisor → 0 < worth_at placed.slots place by
    → IsCandidate (circuit_of placed) divisor table × (worth_at placed.slots place by ≡ literals_of_table table - literals_of_table (resubbed divisor table))
unfolding Leads
worth_candidate placed place by table divisor different here there some =
    let (unled, is) = worth_some placed.slots place by some in
    let at = saving_places placed.slots place by (omega (arith, some, is)) in
    let same : saving_at placed.slots place by ≡ saving_of divisor table = saving_placed placed.slots place by table divisor at.apart here there in
    let more : 0 < saving_of divisor table = omega (arith, some, is, same) in
    let saves = saving_some divisor table more in (
      record {
        by_stands = place_has placed.slots by divisor there;
        stands = place_has placed.slots place table here;
        unread = saves.unread;
        apart = apart at.apart unled;
        changed = saving_changes divisor table more;
        narrow = saves.narrow;
      },
      is ∙ (same ∙ saves.is),
    )
  where
    apart : (place ≡ by → ⊥) → is_led placed.slots by place ≡ false → (steps : ℕ) → Leads (standing placed.slots) steps divisor.output table.output → ⊥
    apart away unled zero led = away (sym (one_place placed.slots different by place divisor table there here led))
    apart away unled (suc steps) led = false≢true (sym unled ∙ leads_led placed.slots different by place divisor table there here steps led)

-- the value of a division that may be made is what it saves
pub candidate_worth : (placed : Placed) (place by : ℕ) (table divisor : Table) → all_different (outputs_of (standing placed.slots)) ≡ true → table_at placed.slots place ≡ Some table
    → table_at placed.slots by ≡ Some divisor → IsCandidate (circuit_of placed) divisor table
    → worth_at placed.slots place by ≡ literals_of_table table - literals_of_table (resubbed divisor table)
unfolding worth_at Leads
candidate_worth placed place by table divisor different here there may =
    cases (is_led placed.slots by place) refl ∙ (saving_placed placed.slots place by table divisor away here there ∙ saving_is divisor table may.unread may.narrow)
  where
    away : place ≡ by → ⊥
    away same = may.apart zero (ap (λ (t : Table). t.output) (same_Some divisor table (sym there ∙ (ap (table_at placed.slots) (sym same) ∙ here))))

    cases : (b : Bool) → is_led placed.slots by place ≡ b → cond {A = ℕ} (is_led placed.slots by place) 0 (saving_at placed.slots place by) ≡ saving_at placed.slots place by
    cases true e = let (steps, led) = led_leads placed.slots different by place divisor table there here e in absurd (may.apart (suc steps) led)
    cases false e = ap (λ (b : Bool). cond {A = ℕ} b 0 (saving_at placed.slots place by)) e

-- ---- which tables may divide a table

-- a table that may be divided reads all names of the divisor's literals
pub saving_over : (by table : Table) → 0 < saving_of by table → is_over table.inputs (row_cubes by) ≡ true
saving_over by table some = cases (is_over table.inputs (row_cubes by)) refl
  where
    cases : (b : Bool) → is_over table.inputs (row_cubes by) ≡ b → b ≡ true
    cases true e = refl
    cases false e = absurd (saving_changes by table some (unread_stays by.output by.phase (row_cubes by) table e))
