-- What is maintained with the tables stays right.
use Rattle.std.proofs.Common.{◌≡◌, ℕ, pos, ◌-ℤ◌, ◌+◌, ◌*◌, ◌<◌, ◌≤◌, zero, suc, Bool, true, false, ◌||◌, if◌then◌else◌, Option, Some, None, List, [], ◌∷◌, ◌++◌, length, set, take, get_or, slice_get, bytes_eq, IfSome, refl, sym, ap, ◌∙◌, subst, arith, inl, inr}
use Rattle.std.specs.List.{AllByRecursion}
use Rattle.std.specs.Option.{option_map}
use Rattle.std.proofs.lemmas.Bool.{cases_eq}
use Rattle.std.proofs.lemmas.List.{take_more, map-append}
use Rattle.std.proofs.lemmas.Option.{same_Some}
use Rattle.circuit_model.specs.Names.{has, all_different}
use Rattle.circuit_model.specs.Counts.{literals_of_table}
use Rattle.circuit_model.specs.Values.{driver}
use Rattle.circuit_model.specs.Soundness.{outputs_of}
use Rattle.circuit_model.specs.declared.circuit.Table.{Table}
use Rattle.circuit_model.specs.declared.circuit.Circuit.{Circuit}
use Rattle.circuit_laws.specs.Edits.{with_tables}
use Rattle.circuit_laws.proofs.Names.{has_append}
use Rattle.net_core.specs.Fresh.{bracketed, used_names}
use Rattle.net_core.specs.Reads.{own_literals, value_of}
use Rattle.net_core.specs.Places.{present, written_of, IsIndexed, AreOverInputs}
use Rattle.net_core.specs.Tables.{named, IsOverInputs}
use Rattle.net_core.specs.declared.places.Entry.{Entry}
use Rattle.net_core.specs.declared.table.CoverTable.{CoverTable}
use Rattle.net_core.proofs.Indexing.{over_nothing, indexed_nothing, driver_at, alone, indexed_write, indexed_removal, indexed_push, over_write, over_removal, over_push}
use Rattle.net_core.proofs.Lookups.{get_set_same, get_set_other, get_push_cases}
use Rattle.net_work.specs.Uses.{told_uses}
use Rattle.net_core.specs.Fresh.{reserved_by}
use Rattle.net_work.specs.Placed.{standing, table_at}
use Rattle.net_work.specs.Slots.{written_slots, AreLinked, AreOnce, AreTaken, IsKeptUp}
use Rattle.net_work.specs.declared.links.Links.{Links}
use Rattle.net_core.proofs.Noted.{used_split}
use Rattle.net_work.proofs.Standing.{standing_present, written_set, table_there, entry_there, place_there, outputs_set, standing_push}

-- what holds of a borrowed value holds of the borrow
pub if_mapped : {B X : Type 0} (now : B → X) (P : X → Type 0) (r : Option B) (x : Option X) → option_map now r ≡ x → IfSome x P → IfSome r (λ b. P (now b))
if_mapped now P None x e h = tt
if_mapped now P (Some b) x e h = subst (λ o. IfSome o P) (sym e) h

-- numbers that are taken stay taken
pub taken_none : (frame : Circuit) (tables : List Table) → AreTaken frame tables 0
taken_none frame tables other lt = absurd (omega (arith, lt))

pub taken_same : (frame : Circuit) (tables others : List Table) (number : ℕ) → outputs_of tables ≡ outputs_of others → AreTaken frame tables number → AreTaken frame others number
taken_same frame tables others number same h other lt =
    used_split frame others (bracketed other) ∙ (ap (λ (names : List (List ℕ)). has names (bracketed other) || has (reserved_by frame) (bracketed other)) (sym same) ∙ (sym (used_split frame tables (bracketed other)) ∙ h other lt))

pub taken_push : (frame : Circuit) (tables : List Table) (t : Table) (number : ℕ) → AreTaken frame tables number → AreTaken frame (tables ++ t ∷ []) number
taken_push frame tables t number h other lt =
    used_split frame (tables ++ t ∷ []) (bracketed other)
    ∙ (ap (λ (names : List (List ℕ)). has names (bracketed other) || has (reserved_by frame) (bracketed other)) (map-append (λ (x : Table). x.output) tables (t ∷ []))
    ∙ (ap (λ (b : Bool). b || has (reserved_by frame) (bracketed other)) (has_append (outputs_of tables) (t.output ∷ []) (bracketed other))
    ∙ more (has (outputs_of tables) (bracketed other)) (has (t.output ∷ []) (bracketed other)) (has (reserved_by frame) (bracketed other)) (sym (used_split frame tables (bracketed other)) ∙ h other lt)))
  where
    more : (a b c : Bool) → (a || c) ≡ true → ((a || b) || c) ≡ true
    more true b c k = refl
    more false true c k = refl
    more false false c k = k

pub once_none : (R : Type 0) → AreOnce {R = R} []
unfolding AreOnce
once_none R i e h = absurd (let z : None ≡ Some (Some e) = h in cc)

module _ {R : Type 0} where
  -- each table lists its inputs once
  pub once_at : (slots : List (Option (Entry R))) (i : ℕ) (e : Entry R) → AreOnce slots → slice_get slots i ≡ Some (Some e) → all_different e.table.inputs ≡ true
  unfolding AreOnce
  once_at slots i e h at = h i e at

  once_push : (slots : List (Option (Entry R))) (e : Entry R) → AreOnce slots → all_different e.table.inputs ≡ true → AreOnce (slots ++ Some e ∷ [])
  unfolding AreOnce
  once_push slots e h w i t a = elim (get_push_cases slots (Some e) (Some t) i a) [
    | inl b ↦ h i t b
    | inr b ↦ subst (λ (x : Entry R). all_different x.table.inputs ≡ true) (same_Some e t b.1) w
  ]

  once_write : (slots : List (Option (Entry R))) (i : ℕ) (old new : Entry R) → AreOnce slots → slice_get slots i ≡ Some (Some old) → all_different new.table.inputs ≡ true → AreOnce (set slots i (Some new))
  unfolding AreOnce
  once_write slots i old new h a w j t b = elim (cases_eq j i) [
    | inl z ↦
        let x : Some (Some new) ≡ Some (Some t) = sym (get_set_same slots i (Some old) (Some new) a) ∙ (ap (slice_get (set slots i (Some new))) (sym z) ∙ b) in
        subst (λ (x : Entry R). all_different x.table.inputs ≡ true) (same_Some new t (same_Some (Some new) (Some t) x)) w
    | inr n ↦ h j t (sym (get_set_other slots i j (Some new) n) ∙ b)
  ]

  once_removal : (slots : List (Option (Entry R))) (i : ℕ) (old : Entry R) → AreOnce slots → slice_get slots i ≡ Some (Some old) → AreOnce (set slots i None)
  unfolding AreOnce
  once_removal slots i old h a j t b = elim (cases_eq j i) [
    | inl z ↦
        let w : slice_get (set slots i None) i ≡ Some (Some t) = ap (slice_get (set slots i None)) (sym z) ∙ b in
        let s : None ≡ Some t = same_Some None (Some t) (sym (get_set_same slots i (Some old) None a) ∙ w) in absurd cc
    | inr n ↦ h j t (sym (get_set_other slots i j None n) ∙ b)
  ]

  pub once_present : (slots : List (Option (Entry R))) → AllByRecursion (λ (t : Table). all_different t.inputs ≡ true) (present slots) → AreOnce slots
  unfolding AreOnce present named
  once_present [] h i e a = absurd (let z : None ≡ Some (Some e) = a in cc)
  once_present (None ∷ slots) h zero e a = absurd (let z : None ≡ Some e = same_Some None (Some e) a in cc)
  once_present (None ∷ slots) h (suc i) e a = once_present slots h i e a
  once_present (Some f ∷ slots) h zero e a = subst (λ (x : Entry R). all_different x.table.inputs ≡ true) (same_Some f e (same_Some (Some f) (Some e) a)) h.0
  once_present (Some f ∷ slots) h (suc i) e a = once_present slots h.1 i e a

  -- one of all slots
  pub once_slot : (slots : List (Option (Entry R))) (i : ℕ) (x : Option (Entry R)) → AreOnce slots → slice_get slots i ≡ Some x → AreOnce (x ∷ [])
  unfolding AreOnce
  once_slot slots i x h at zero e a = h i e (at ∙ ap Some (same_Some x (Some e) a))
  once_slot slots i x h at (suc j) e a = absurd (let z : None ≡ Some (Some e) = a in cc)

  pub slot_over : (slots : List (Option (Entry R))) (i : ℕ) (x : Option (Entry R)) → AreOverInputs slots → slice_get slots i ≡ Some x → IfSome x (λ entry. IsOverInputs entry.table)
  unfolding AreOverInputs
  slot_over slots i None h at = tt
  slot_over slots i (Some e) h at = h i e at

  pub slot_once : (slots : List (Option (Entry R))) (i : ℕ) (x : Option (Entry R)) → AreOnce slots → slice_get slots i ≡ Some x → IfSome x (λ entry. all_different entry.table.inputs ≡ true)
  unfolding AreOnce
  slot_once slots i None h at = tt
  slot_once slots i (Some e) h at = h i e at

  -- the three changes, and the network without tables
  pub kept_write : (frame : Circuit) (slots next : List (Option (Entry R))) (f : List ℕ → Option ℕ) (before after : Links) (number i : ℕ) (old : Entry R) (table : CoverTable R) → IsKeptUp frame slots f before number
      → slice_get slots i ≡ Some (Some old) → IsOverInputs table → all_different table.inputs ≡ true → next ≡ set slots i (Some (record { output = old.output; table = table }))
      → AreLinked after (set (written_slots slots) i (Some (named old.output table))) → IsKeptUp frame next f after number
  unfolding named
  kept_write frame slots next f before after number i old table h at over once is linked =
      let new : Entry R = record { output = old.output; table = table } in
      subst (λ (ss : List (Option (Entry R))). IsKeptUp frame ss f after number) (sym is) (record {
        indexed = indexed_write slots f i old new h.indexed at refl;
        over = over_write slots i old new h.over at over;
        once = once_write slots i old new h.once at once;
        linked = subst (AreLinked after) (sym (written_set slots i (Some new))) linked;
        taken = taken_same frame (standing (written_slots slots)) (standing (written_slots (set slots i (Some new)))) number
            (sym (ap (λ (ss : List (Option Table)). outputs_of (standing ss)) (written_set slots i (Some new))
            ∙ outputs_set (written_slots slots) i (written_of old) (written_of new) (place_there (written_slots slots) i (written_of old) (table_there slots i old at)) refl)) h.taken;
      })

  pub kept_removal : (frame : Circuit) (slots next : List (Option (Entry R))) (f g : List ℕ → Option ℕ) (before after : Links) (number i : ℕ) (old : Entry R) → IsKeptUp frame slots f before number
      → slice_get slots i ≡ Some (Some old) → next ≡ set slots i None → ((q : List ℕ) → g q ≡ (if bytes_eq old.output q then None else f q))
      → AreLinked after (set (written_slots slots) i None) → IsKeptUp frame next g after 0
  kept_removal frame slots next f g before after number i old h at is k linked =
      subst (λ (ss : List (Option (Entry R))). IsKeptUp frame ss g after 0) (sym is) (record {
        indexed = indexed_removal slots f g i old h.indexed at k;
        over = over_removal slots i old h.over at;
        once = once_removal slots i old h.once at;
        linked = subst (AreLinked after) (sym (written_set slots i None)) linked;
        taken = taken_none frame (standing (written_slots (set slots i None)));
      })

  pub written_more : (slots : List (Option (Entry R))) (i : ℕ) (x : Option (Entry R)) → i < length slots → x ≡ get_or slots i x
      → written_slots (take (i + 1) slots) ≡ written_slots (take i slots) ++ option_map written_of x ∷ []
  written_more slots i x lt e =
      ap (λ (ss : List (Option (Entry R))). written_slots ss) (take_more slots i x lt)
      ∙ (map-append (option_map written_of) (take i slots) (get_or slots i x ∷ [])
      ∙ ap (λ (z : Option (Entry R)). written_slots (take i slots) ++ option_map written_of z ∷ []) (sym e))

  pub written_long : (slots : List (Option (Entry R))) (i : ℕ) → i ≤ length slots → length (written_slots (take i slots)) ≡ i
  written_long [] zero le = refl
  written_long [] (suc i) le = absurd (omega (arith, le))
  written_long (x ∷ slots) zero le = refl
  written_long (x ∷ slots) (suc i) le = ap suc (written_long slots i (omega (arith, le)))

  pub written_push : (slots : List (Option (Entry R))) (e : Entry R) → written_slots (slots ++ Some e ∷ []) ≡ written_slots slots ++ Some (written_of e) ∷ []
  written_push slots e = map-append (option_map written_of) slots (Some e ∷ [])

  -- the start, before any table is added
  pub kept_made : (frame : Circuit) (slots : List (Option (Entry R))) (f : List ℕ → Option ℕ) (links : Links) → IsIndexed slots f → AreOverInputs slots → AreOnce slots → AreLinked links (written_slots slots) → IsKeptUp frame slots f links 0
  kept_made frame slots f links indexed over once linked = record { indexed = indexed; over = over; once = once; linked = linked; taken = taken_none frame (standing (written_slots slots)) }

  -- the case of no tables
  pub kept_nothing : (frame : Circuit) (slots : List (Option (Entry R))) (f : List ℕ → Option ℕ) (links : Links) → slots ≡ [] → ((q : List ℕ) → f q ≡ None) → AreLinked links [] → IsKeptUp frame slots f links 0
  kept_nothing frame slots f links none empty linked =
      kept_made frame slots f links
      (subst (λ (ss : List (Option (Entry R))). IsIndexed ss f) (sym none) (indexed_nothing f empty))
      (subst (λ (ss : List (Option (Entry R))). AreOverInputs ss) (sym none) (over_nothing R)) (subst (λ (ss : List (Option (Entry R))). AreOnce ss) (sym none) (once_none R))
      (subst (λ (ss : List (Option (Entry R))). AreLinked links (written_slots ss)) (sym none) linked)

  pub kept_push : (frame : Circuit) (slots next : List (Option (Entry R))) (f g : List ℕ → Option ℕ) (before after : Links) (old number : ℕ) (e : Entry R) → IsKeptUp frame slots f before old
      → AreTaken frame (standing (written_slots slots)) number → has (used_names (with_tables frame (standing (written_slots slots)))) e.output ≡ false → IsOverInputs e.table → all_different e.table.inputs ≡ true
      → next ≡ slots ++ Some e ∷ [] → ((q : List ℕ) → g q ≡ (if bytes_eq e.output q then Some (length slots) else f q)) → AreLinked after (written_slots slots ++ Some (written_of e) ∷ [])
      → IsKeptUp frame next g after number
  unfolding named
  kept_push frame slots next f g before after old number e h taken free over once is k linked =
      subst (λ (ss : List (Option (Entry R))). IsKeptUp frame ss g after number) (sym is) (record {
        indexed = indexed_push slots f g e h.indexed absent k;
        over = over_push slots e h.over over;
        once = once_push slots e h.once once;
        linked = subst (AreLinked after) (sym (written_push slots e)) linked;
        taken = subst (λ (ts : List Table). AreTaken frame ts number) (sym (ap (λ (ss : List (Option Table)). standing ss) (written_push slots e) ∙ standing_push (written_slots slots) (written_of e)))
            (taken_push frame (standing (written_slots slots)) (written_of e) number taken);
      })
    where
      first : (a b : Bool) → (a || b) ≡ false → a ≡ false
      first true b z = cc
      first false b z = refl

      absent : has (outputs_of (present slots)) e.output ≡ false
      absent =
          ap (λ (ts : List Table). has (outputs_of ts) e.output) (sym (standing_present slots))
          ∙ first (has (outputs_of (standing (written_slots slots))) e.output) (has (reserved_by frame) e.output) (sym (used_split frame (standing (written_slots slots)) e.output) ∙ free)

  -- a name leads to the slot of its table
  pub placed : (slots : List (Option (Entry R))) (f : List ℕ → Option ℕ) → IsIndexed slots f → (q : List ℕ) (o : Option ℕ) → o ≡ f q
      → IfSome o (λ place. (t : Table) × (table_at (written_slots slots) place ≡ Some t) × (t.output ≡ q))
  unfolding named
  placed slots f h q None e = tt
  placed slots f h q (Some i) e = let (entry, a, b) = h.only q i (sym e) in (written_of entry, table_there slots i entry a, b)

  -- the elimination value of a table
  pub value_there : (frame : Circuit) (slots : List (Option (Entry R))) (f : List ℕ → Option ℕ) (links : Links) (number : ℕ) → IsKeptUp frame slots f links number → (i : ℕ) (t : Table) → table_at (written_slots slots) i ≡ Some t
      → value_of (standing (written_slots slots)) t.output ≡ pos (told_uses links.uses t.output * literals_of_table t) -ℤ pos (told_uses links.uses t.output) -ℤ pos (literals_of_table t)
  unfolding value_of own_literals named
  value_there frame slots f links number h i t at =
      let (e, here, is) = entry_there slots i t at in
      let driven : driver (standing (written_slots slots)) t.output ≡ Some t =
      ap (λ (ts : List Table). driver ts t.output) (standing_present slots)
      ∙ (subst (λ (x : Table). driver (present slots) x.output ≡ Some x) is (driver_at slots i e here (alone slots f h.indexed e.output i (h.indexed.placed i e here)))) in
      rw (driven, ← h.linked.uses t.output) refl
