-- Tables of the program that are divided: what they lose, and what they become.
use Rattle.std.proofs.Common.{◌≡◌, ℕ, ◌-◌, ltb, ◌&&◌, true, false, Some, None, List, [], length, sym, ap, ap₂, ◌∙◌, subst}
use Rattle.sis_base.specs.Rows.{HasWidth}
use Rattle.circuit_model.specs.Counts.{literals_of_table}
use Rattle.circuit_model.specs.Names.{has, all_different}
use Rattle.circuit_model.specs.Soundness.{given, IsSound}
use Rattle.circuit_model.specs.declared.circuit.Table.{Table}
use Rattle.net_core.proofs.NewNames.{new_is_free}
use Rattle.net_candidates.proofs.Usable.{IsReader, tables_read}
use Rattle.cover_names.specs.Literals.{NamedCover}
use Rattle.net_core.specs.Fresh.{IsNewName}
use Rattle.net_core.specs.Places.{written_of}
use Rattle.net_core.specs.Tables.{named, IsOverInputs}
use Rattle.net_core.specs.declared.places.Entry.{Entry}
use Rattle.net_core.specs.declared.table.CoverTable.{CoverTable}
use Rattle.net_work.specs.Placed.{Placed, circuit_of, table_at}
use Rattle.net_work.proofs.Indexed.{all_at}
use Rattle.alg_tables.specs.Dividing.{divided, cover_table}
use Rattle.alg_tables.proofs.CoverTables.{cover_table_once}
use Rattle.alg_tables.proofs.Divisions.{divided_once}
use Rattle.alg_tables.proofs.Taken.{characters_wide}
use Rattle.circuit_laws.proofs.Names.{has_not}
use Rattle.std.proofs.lemmas.Bool.{false≢true}
use Rattle.net_savings.specs.Saving.{IsLoss}
use Rattle.net_savings.proofs.Losing.{wide_loss, narrow_loss}
use Rattle.sis_base.specs.declared.limits.TheConstants.{MAX_INPUTS}

module _ {R : Type 0} (name : List ℕ) (cover : NamedCover) (table : CoverTable R) where
  module _ (made : CoverTable R) (some : (output : List ℕ) → named output made ≡ divided name true cover (named output table)) where
    made_inputs : (output : List ℕ) → made.inputs ≡ (divided name true cover (named output table)).inputs
    unfolding named
    made_inputs output = ap (λ (t : Table). t.inputs) (some output)

    pub loss_wide : has table.inputs name ≡ false → (ltb MAX_INPUTS (length made.inputs) && has made.inputs name) ≡ true → (output : List ℕ) → IsLoss name cover (Some (named output table)) None
    unfolding named
    loss_wide free wide output = wide_loss name cover (named output table) made.inputs free (made_inputs output) wide

    pub loss_narrow : (lost one other : ℕ) → IsOverInputs table → HasWidth table.cover.width table.cover.rows → all_different table.inputs ≡ true → has table.inputs name ≡ false
        → (ltb MAX_INPUTS (length made.inputs) && has made.inputs name) ≡ false → ((output : List ℕ) → one ≡ literals_of_table (named output table)) → ((output : List ℕ) → other ≡ literals_of_table (named output made))
        → lost ≡ one - other → (output : List ℕ) → IsLoss name cover (Some (named output table)) (Some lost)
    unfolding named
    loss_narrow lost one other over wide once free narrow before after is output =
        narrow_loss name cover (named output table) made.inputs lost (characters_wide (length table.inputs) table.cover.rows (subst (λ (w : ℕ). HasWidth w table.cover.rows) over wide)) once free (made_inputs output) narrow
        (is ∙ ap₂ (λ (m n : ℕ). m - n) (before output) (after output ∙ ap literals_of_table (some output)))

    pub made_once : all_different table.inputs ≡ true → all_different made.inputs ≡ true
    unfolding named
    made_once once = ap (λ (t : Table). all_different t.inputs) (some []) ∙ divided_once name true cover (named [] table) once

pub cover_once : {R : Type 0} (cover : NamedCover) (made : CoverTable R) → ((name : List ℕ) → named name made ≡ cover_table name cover) → all_different made.inputs ≡ true
unfolding named
cover_once cover made is = ap (λ (t : Table). all_different t.inputs) (is []) ∙ cover_table_once [] cover

-- no table reads a new name
pub name_unread : {R : Type 0} (now : Placed) (name : List ℕ) (entry : Entry R) (at : ℕ) → IsSound (circuit_of now) → IsNewName (circuit_of now) name → Some (written_of entry) ≡ table_at now.slots at
    → has entry.table.inputs name ≡ false
unfolding named
name_unread now name entry at sound new there =
    let reader = all_at (IsReader (given (circuit_of now))) now.slots (tables_read (circuit_of now) sound) at (written_of entry) (sym there) in
    has_not entry.table.inputs name (λ m. false≢true (sym (new_is_free (circuit_of now) name new).0 ∙ reader.live name m))

pub cover_inputs : {R : Type 0} (cover : NamedCover) (made : CoverTable R) → ((name : List ℕ) → named name made ≡ cover_table name cover) → (name : List ℕ) → made.inputs ≡ (cover_table name cover).inputs
unfolding named
cover_inputs cover made is name = ap (λ (t : Table). t.inputs) (is name)
