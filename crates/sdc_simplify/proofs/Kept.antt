-- Ties between the inputs of a table and the tables that drive them: which points keep them.
use Rattle.std.proofs.Common.{◌≡◌, ℕ, ◌<◌, ◌≤◌, ◌+◌, Bool, true, false, not, ◌&&◌, ◌||◌, Option, Some, None, List, [], ◌∷◌, ◌++◌, map, take, length, get_or, refl, sym, ap, ap₂, ◌∙◌, subst}
use Rattle.std.specs.List.{list_all, list_any}
use Rattle.std.specs.Option.{option_map_or}
use Rattle.std.proofs.Math.Bool.{and-true}
use Rattle.std.proofs.lemmas.List.{map-append, take_all, get_or_default}
use Rattle.std.proofs.lemmas.List.Folds.{list_all-append, list_any_more}
use Rattle.sis_base.specs.Rows.{agrees, phase_value, value_by_phase}
use Rattle.circuit_model.specs.Names.{has, all_different}
use Rattle.circuit_model.specs.Values.{driver, table_value}
use Rattle.circuit_model.specs.declared.circuit.Table.{Table}
use Rattle.circuit_model.specs.declared.circuit.Circuit.{Circuit}
use Rattle.cube_cover.specs.Covers.{Shape}
use Rattle.cover_search.specs.Ties.{NodeConstraint, keeps, keeps_all}
use Rattle.cover_search.specs.Views.{tie_of}
use Rattle.cover_search.specs.declared.tied.NodeConstraint.{NodeConstraint as Held}
use Rattle.sdc_simplify.specs.Local.{input_bit, reads_within, differs, is_local}
use Rattle.net_core.specs.Places.{written_of}
use Rattle.net_core.specs.Tables.{named}
use Rattle.net_core.specs.declared.places.Entry.{Entry}
use Rattle.net_core.proofs.Rows.{all_places_back}
use Rattle.sdc_simplify.specs.Turns.{bits_at, IsSpread, differs_there, seen, AreOfWidth, IsTiedMore, AreTied, AreLocal}
use Rattle.sdc_simplify.proofs.Places.{bit_there}

same_agrees : (a b : Bool) → agrees (Some a) b ≡ agrees (Some b) a
same_agrees true true = refl
same_agrees true false = refl
same_agrees false true = refl
same_agrees false false = refl

not_twice : (a : Bool) → not (not a) ≡ a
not_twice true = refl
not_twice false = refl

-- a point keeps a tie where it does not differ from the inner table
pub kept_there : (table inner : Table) (point : List Bool) (input : List ℕ) (tie : NodeConstraint) → reads_within inner table ≡ true → get_or point tie.place false ≡ input_bit table point input
    → value_by_phase tie.phase tie.rows point ≡ table_value inner (bits_at table.inputs point inner.inputs) → keeps point tie ≡ not (differs table point input inner)
kept_there table inner point input tie within bit value =
    ap₂ (λ (a b : Bool). agrees (Some a) b) value bit
    ∙ (same_agrees (table_value inner (bits_at table.inputs point inner.inputs)) (input_bit table point input)
    ∙ (sym (not_twice (agrees (Some (input_bit table point input)) (table_value inner (bits_at table.inputs point inner.inputs))))
    ∙ ap (λ (b : Bool). not (b && not (agrees (Some (input_bit table point input)) (table_value inner (bits_at table.inputs point inner.inputs))))) (sym within)))

not_or : (a b : Bool) → (not a && not b) ≡ not (a || b)
not_or true b = refl
not_or false b = refl

-- ties with one more
module _ {R : Type 0} where
  wide_more : (width : ℕ) (before : List (Held R)) (tie : Held R) → AreOfWidth width before → tie.cover.width ≡ width → AreOfWidth width (before ++ tie ∷ [])
  wide_more width [] tie wide one = (one, tt)
  wide_more width (first ∷ before) tie wide one = (wide.0, wide_more width before tie wide.1 one)

  pub tied_one : (width : ℕ) (before now : List (Held R)) (tie : Held R) (test : List Bool → Bool) → now ≡ before ++ tie ∷ [] → tie.cover.width ≡ width
      → ((point : List Bool) → length point ≡ width → keeps point (tie_of tie) ≡ test point) → IsTiedMore width before now test
  tied_one width before now tie test is wide same = record {
    wide = λ before_wide. subst (AreOfWidth width) (sym is) (wide_more width before tie before_wide wide);
    kept = λ point long.
        ap (λ (ties : List (Held R)). keeps_all (seen ties) point) is
        ∙ (ap (λ (ties : List NodeConstraint). keeps_all ties point) (map-append tie_of before (tie ∷ []))
        ∙ (list_all-append (keeps point) (seen before) (seen (tie ∷ []))
        ∙ ap (λ (b : Bool). keeps_all (seen before) point && b) (and-true (keeps point (tie_of tie)) ∙ same point long)));
  }

  pub tied_none : (width : ℕ) (ties now : List (Held R)) (test : List Bool → Bool) → now ≡ ties → ((point : List Bool) → length point ≡ width → test point ≡ true) → IsTiedMore width ties now test
  tied_none width ties now test is passes = record {
    wide = λ wide. subst (AreOfWidth width) (sym is) wide;
    kept = λ point long.
        ap (λ (others : List (Held R)). keeps_all (seen others) point) is
        ∙ (sym (and-true (keeps_all (seen ties) point)) ∙ ap (λ (b : Bool). keeps_all (seen ties) point && b) (sym (passes point long)));
  }

-- what an entry's table is worth
module _ {R : Type 0} where
  named_value : (entry : Entry R) (point : List Bool) → table_value (written_of entry) point ≡ value_by_phase entry.table.phase entry.table.cover.rows point
  unfolding named table_value
  named_value entry point = ap (λ (rows : List (List (Option Bool))). value_by_phase entry.table.phase rows point) (all_places_back entry.table.cover.rows)

  -- the tie between an input and the inner table
  pub tied_inner : (entry inner : Entry R) (place : ℕ) (made : Shape) (tie : Held R) (before now : List (Held R)) → place < length entry.table.inputs → all_different entry.table.inputs ≡ true
      → list_all (has entry.table.inputs) inner.table.inputs ≡ true → IsSpread entry.table.inputs inner.table.inputs inner.table.cover.rows made
      → tie ≡ record { place = place; cover = made; phase = inner.table.phase } → now ≡ before ++ tie ∷ []
      → IsTiedMore (length entry.table.inputs) before now (λ point. not (differs (written_of entry) point (get_or entry.table.inputs place []) (written_of inner)))
  unfolding named value_by_phase
  tied_inner entry inner place made tie before now lt different within spread tie_is is =
      tied_one (length entry.table.inputs) before now tie (λ point. not (differs (written_of entry) point (get_or entry.table.inputs place []) (written_of inner))) is
      (ap (λ (held : Held R). held.cover.width) tie_is ∙ spread.width)
      (λ point long.
      ap (λ (held : Held R). keeps point (tie_of held)) tie_is
      ∙ kept_there (written_of entry) (written_of inner) point (get_or entry.table.inputs place []) (record { place = place; rows = made.rows; phase = inner.table.phase }) within
      (sym (bit_there entry.table.inputs point place (get_or entry.table.inputs place []) different long lt refl))
      (ap (phase_value inner.table.phase) (spread.value point long) ∙ sym (named_value inner (bits_at entry.table.inputs point inner.table.inputs))))

  -- an inner table that reads anything else does not count
  pub tied_apart : (entry inner : Entry R) (input : List ℕ) (before now : List (Held R)) → list_all (has entry.table.inputs) inner.table.inputs ≡ false → now ≡ before
      → IsTiedMore (length entry.table.inputs) before now (λ point. not (differs (written_of entry) point input (written_of inner)))
  unfolding named
  tied_apart entry inner input before now apart is =
      tied_none (length entry.table.inputs) before now (λ point. not (differs (written_of entry) point input (written_of inner))) is
      (λ point long. ap (λ (b : Bool). not (b && not (agrees (Some (input_bit (written_of entry) point input)) (table_value (written_of inner) (map (input_bit (written_of entry) point) inner.table.inputs))))) apart)

  -- the table that drives an input, if there is one
  pub tied_driven : (circuit : Circuit) (entry inner : Entry R) (input : List ℕ) (before now : List (Held R)) → driver circuit.tables input ≡ Some (written_of inner)
      → IsTiedMore (length entry.table.inputs) before now (λ point. not (differs (written_of entry) point input (written_of inner)))
      → IsTiedMore (length entry.table.inputs) before now (λ point. not (differs_there circuit (written_of entry) point input))
  tied_driven circuit entry inner input before now at more = record {
    wide = more.wide;
    kept = λ point long.
        more.kept point long
        ∙ ap (λ (found : Option Table). keeps_all (seen before) point && not (option_map_or (differs (written_of entry) point input) found false)) (sym at);
  }

  pub tied_undriven : (circuit : Circuit) (entry : Entry R) (input : List ℕ) (before now : List (Held R)) → driver circuit.tables input ≡ None → now ≡ before
      → IsTiedMore (length entry.table.inputs) before now (λ point. not (differs_there circuit (written_of entry) point input))
  tied_undriven circuit entry input before now none is =
      tied_none (length entry.table.inputs) before now (λ point. not (differs_there circuit (written_of entry) point input)) is
      (λ point long. ap (λ (found : Option Table). not (option_map_or (differs (written_of entry) point input) found false)) none)

  -- one input after the other
  pub tied_further : (circuit : Circuit) (table : Table) (inputs : List (List ℕ)) (i : ℕ) (input : List ℕ) (before now : List (Held R)) → inputs ≡ table.inputs → i < length inputs → input ≡ get_or inputs i input
      → AreTied circuit table (take i table.inputs) before → IsTiedMore (length table.inputs) before now (λ point. not (differs_there circuit table point input)) → AreTied circuit table (take (i + 1) table.inputs) now
  tied_further circuit table inputs i input before now same lt is tied more =
      let within : i < length table.inputs = subst (λ (names : List (List ℕ)). i < length names) same lt in
      let there : input ≡ get_or table.inputs i [] = is ∙ (ap (λ (names : List (List ℕ)). get_or names i input) same ∙ get_or_default table.inputs i input [] within) in record {
        wide = more.wide tied.wide;
        kept = λ point long.
            more.kept point long
            ∙ (ap₂ (λ (a b : Bool). a && b) (tied.kept point long) (ap (λ (name : List ℕ). not (differs_there circuit table point name)) there)
            ∙ (not_or (list_any (differs_there circuit table point) (take i table.inputs)) (differs_there circuit table point (get_or table.inputs i []))
            ∙ ap not (sym (list_any_more (differs_there circuit table point) table.inputs i [] within))));
      }

  pub tied_whole : (circuit : Circuit) (table : Table) (inputs : List (List ℕ)) (i : ℕ) (ties : List (Held R)) → inputs ≡ table.inputs → length inputs ≤ i → AreTied circuit table (take i table.inputs) ties → AreLocal circuit table ties
  unfolding is_local
  tied_whole circuit table inputs i ties same long tied = record {
    wide = tied.wide;
    kept = λ point wide. tied.kept point wide ∙ ap (λ (names : List (List ℕ)). not (list_any (differs_there circuit table point) names)) (take_all i table.inputs (subst (λ (names : List (List ℕ)). length names ≤ i) same long));
  }
