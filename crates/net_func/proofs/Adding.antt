-- Numbers that are added: one for a name, that of a table, and some after others.
use Rattle.std.proofs.Common.{◌≡◌, ℕ, zero, suc, ◌+◌, ◌<◌, Bool, true, false, ◌||◌, if◌then◌else◌, Option, Some, None, is_some, List, [], ◌∷◌, length, take, drop, get_or, map, bytes_eq, refl, sym, ap, ap₂, ◌∙◌, subst, inl, inr, ◌⊎◌}
use Rattle.std.specs.List.{AllByRecursion, list_all}
use Rattle.std.proofs.Math.Bool.{or_assoc, or-false, or-true}
use Rattle.std.proofs.Math.Path.{fun_ext}
use Rattle.std.proofs.lemmas.Bool.{false≢true, or_parts, or_left, or_right}
use Rattle.std.proofs.lemmas.Option.{same_Some}
use Rattle.std.proofs.lemmas.List.{length-map}
use Rattle.circuit_model.specs.Names.{has}
use Rattle.circuit_model.specs.Values.{driver, table_value}
use Rattle.circuit_model.specs.Soundness.{outputs_of, IsShaped}
use Rattle.circuit_model.specs.declared.circuit.Tri.{Tri}
use Rattle.circuit_model.specs.declared.circuit.Table.{Table}
use Rattle.circuit_model.specs.Values.{literal_of}
use Rattle.circuit_laws.proofs.Names.{same_name, name_is, name_cases, name_turned}
use Rattle.circuit_laws.proofs.Drivers.{driver_reads}
use Rattle.circuit_order.specs.Order.{IsOrdered}
use Rattle.sis_base.specs.Rows.{HasWidth}
use Rattle.func_core.specs.Trees.{BooleanFunction, Tree}
use Rattle.func_core.specs.Numbers.{Means, Stays}
use Rattle.func_core.specs.declared.functions.Func.{Func}
use Rattle.func_core.proofs.Meanings.{Means-same, Means-kept}
use Rattle.net_func.specs.Locals.{local_of, local_value, HasBigPart}
use Rattle.net_func.specs.Numbered.{bits_of, AllStand}
use Rattle.net_func.specs.Numbering.{has_number, NumbersStand, AreRight, Solves, SolvesRest, AreClosed, Adds, IsBlamed}
use Rattle.net_func.specs.Signals.{IsBigAt, Blames}
use Rattle.net_func.specs.declared.fault.NetFuncFault.{NetFuncFault}
use Rattle.net_func.specs.declared.fault.NetFuncFault.TheVariants.{TooBig, Memory}
use Rattle.net_func.proofs.Lists.{tests_all, among_at, split_at}

heads : {A : Type 0} (x y : A) (xs ys : List A) → x ∷ xs ≡ y ∷ ys → x ≡ y
heads {A = A} x y xs ys e = ap (λ (l : List A). get_or l zero x) e

tails : {A : Type 0} (x y : A) (xs ys : List A) → x ∷ xs ≡ y ∷ ys → xs ≡ ys
tails {A = A} x y xs ys e = ap (λ (l : List A). drop (suc zero) l) e

-- rows of a shaped table have its width
pub wide_rows : (rows : List (List Tri)) (width : ℕ)
    → AllByRecursion (λ (row : List Tri). length row ≡ width) rows
    → HasWidth width (map (map literal_of) rows)
unfolding HasWidth
wide_rows [] width all = tt
wide_rows (row ∷ rows) width all = (length_mapped row ∙ all.0, wide_rows rows width all.1)
  where
    length_mapped : (row : List Tri) → length (map literal_of row) ≡ length row
    length_mapped [] = refl
    length_mapped (x ∷ xs) = ap (λ (n : ℕ). suc n) (length_mapped xs)

pub shaped_rows : (table : Table) (list : List Func) (number : List ℕ → Option Func) → IsShaped
    table
    → map Some list ≡ map number table.inputs → HasWidth (length list) (local_of table).rows
shaped_rows table list number shaped e =
    subst (λ (n : ℕ). HasWidth n (map (map literal_of) table.rows))
    (sym (sym (length-map list (λ (f : Func). Some f)) ∙ ap length e ∙ length-map table.inputs
    number))
    (wide_rows table.rows (length table.inputs) shaped.0)

-- a fault with a cause has each weaker cause, too
pub blames_weaker : (P Q : List ℕ → Type 0) (fault : NetFuncFault) → ((name : List ℕ) → P name → Q
    name)
    → Blames fault P → Blames fault Q
blames_weaker P Q (TooBig name) weaker cause = weaker name cause
blames_weaker P Q Memory weaker cause = tt

-- if more names have numbers than before: a name without one had none before
pub none_from : (found : Option Func) → is_some found ≡ false → found ≡ None
none_from None e = refl
none_from (Some f) e = absurd (false≢true (sym e))

pub none_before : (old new : List ℕ → Option Func) (test : List ℕ → Bool)
    → ((name : List ℕ) → has_number new name ≡ (has_number old name || test name))
    → (name : List ℕ) → new name ≡ None → old name ≡ None
none_before old new test known name none =
    none_from (old name) (or_parts (has_number old name) (test name)
    (sym (known name) ∙ ap (λ (found : Option Func). is_some found) none)).0

pub rest_less : (tables : List Table) (old new : List ℕ → Option Func) (test : List ℕ → Bool)
    (value : List ℕ → BooleanFunction)
    → ((name : List ℕ) → has_number new name ≡ (has_number old name || test name))
    → SolvesRest tables old value → SolvesRest tables new value
rest_less tables old new test value known solves name table at none =
    solves name table at (none_before old new test known name none)

-- the inputs of the next table in order have numbers
pub inputs_known : (tables : List Table) (order : List (List ℕ)) (k : ℕ) (name : List ℕ)
    (old now : List ℕ → Option Func) (table : Table)
    → IsOrdered tables order → AreClosed tables old → k < length order → name ≡ get_or order k name
    → ((other : List ℕ) → has_number now other ≡ (has_number old other || has (take k order) other))
    → driver tables name ≡ Some table → list_all (has_number now) table.inputs ≡ true
inputs_known tables order k name old now table ordered closed low is known at =
    tests_all (has_number now) table.inputs
    (λ input reads. known input ∙ cases input reads (has (outputs_of tables) input) refl)
  where
    cases : (input : List ℕ) → has table.inputs input ≡ true → (b : Bool)
        → has (outputs_of tables) input ≡ b
        → (has_number old input || has (take k order) input) ≡ true
    cases input reads true driven =
        or_right (has_number old input) (has (take k order) input)
        (ordered.behind (take k order) (drop (k + 1) order) name input table
        (split_at order k name low is) at reads driven)
    cases input reads false free =
        or_left (has_number old input) (has (take k order) input)
        (ap (λ (b : Bool). b || has_number old input) (sym free)
        ∙ closed input (driver_reads tables name table input at reads))

pub driven_at : (tables : List Table) (order : List (List ℕ)) (k : ℕ) (name : List ℕ)
    → IsOrdered tables order → k < length order → name ≡ get_or order k name
    → has (outputs_of tables) name ≡ true
driven_at tables order k name ordered low is = sym (ordered.each name) ∙ among_at order k name low
    is

module _ {S : Type 0} (holds : S → ℕ → Type 0) (tree : S → ℕ → Tree) (limit : S → ℕ) where
  -- numbers of names, in order
  pub list_stands : (state : S) (number : List ℕ → Option Func) (names : List (List ℕ)) (list : List
      Func)
      → NumbersStand holds state number → map Some list ≡ map number names → AllStand holds state
      list
  list_stands state number [] [] stand e = tt
  list_stands state number [] (f ∷ list) stand e = cc
  list_stands state number (name ∷ names) [] stand e = cc
  list_stands state number (name ∷ names) (f ∷ list) stand e = (
    stand name f (sym (heads (Some f) (number name) (map Some list) (map number names) e)),
    list_stands state number names list stand
        (tails (Some f) (number name) (map Some list) (map number names) e),
  )

  pub bits_right : (state : S) (number : List ℕ → Option Func) (value : List ℕ → BooleanFunction)
      (names : List (List ℕ)) (list : List Func)
      → AreRight holds tree limit state number value → map Some list ≡ map number names
      → (point : ℕ → Bool)
      → bits_of tree state list point ≡ map (λ (input : List ℕ). value input point) names
  bits_right state number value [] [] right e point = refl
  bits_right state number value [] (f ∷ list) right e point = cc
  bits_right state number value (name ∷ names) [] right e point = cc
  bits_right state number value (name ∷ names) (f ∷ list) right e point =
      ap₂ (λ (b : Bool) (bs : List Bool). b ∷ bs)
      ((right name f (sym (heads (Some f) (number name) (map Some list) (map number names)
      e))).is_tree.computes
      point)
      (bits_right state number value names list right
      (tails (Some f) (number name) (map Some list) (map number names) e) point)

  -- one number is added
  pub adds_one : (before after : S) (old new : List ℕ → Option Func) (name : List ℕ) (made : Func)
      (test : List ℕ → Bool) (Fits : (List ℕ → BooleanFunction) → Type 0)
      → Stays holds tree limit before after → NumbersStand holds before old
      → ((other : List ℕ) → new other ≡ (if bytes_eq name other then Some made else old other))
      → ((other : List ℕ) → test other ≡ bytes_eq other name) → holds after made.0
      → ((value : List ℕ → BooleanFunction) → AreRight holds tree limit before old value → Fits
      value
      → Means holds tree limit after made.0 (value name))
      → Adds holds tree limit before after old new test Fits
  adds_one before after old new name made test Fits stays stand put tested here right = record {
    known = λ other.
        ap (λ (found : Option Func). is_some found) (put other) ∙ known other (name_cases name
        other)
        ∙ ap (λ (b : Bool). has_number old other || b) (sym (tested other));
    stand = λ other f at. stands other f (bytes_eq name other) (sym (put other) ∙ at);
    right = λ value was fits other f at.
        means value was fits other f (bytes_eq name other) refl (sym (put other) ∙ at);
  }
    where
      known : (other : List ℕ) → (name ≡ other) ⊎ (bytes_eq name other ≡ false)
          → is_some (if bytes_eq name other then Some made else old other)
          ≡ (has_number old other || bytes_eq other name)
      known other (inl same) =
          ap (λ (b : Bool). is_some (if b then Some made else old other)) (name_is name other same)
          ∙ sym (or-true (has_number old other))
          ∙ ap (λ (b : Bool). has_number old other || b) (sym (name_is other name (sym same)))
      known other (inr apart) =
          ap (λ (b : Bool). is_some (if b then Some made else old other)) apart
          ∙ sym (or-false (has_number old other))
          ∙ ap (λ (b : Bool). has_number old other || b) (sym (name_turned name other apart))

      stands : (other : List ℕ) (f : Func) (b : Bool) → (if b then Some made else old other) ≡ Some
          f
          → holds after f.0
      stands other f true at = subst (λ (n : Func). holds after n.0) (same_Some made f at) here
      stands other f false at = (stays.kept f.0 (stand other f at)).0

      means : (value : List ℕ → BooleanFunction) → AreRight holds tree limit before old value → Fits
          value
          → (other : List ℕ) (f : Func) (b : Bool) → bytes_eq name other ≡ b
          → (if b then Some made else old other) ≡ Some f → Means holds tree limit after f.0 (value
          other)
      means value was fits other f true same at =
          subst (λ (n : Func). Means holds tree limit after n.0 (value other)) (same_Some made f at)
          (subst (λ (n : List ℕ). Means holds tree limit after made.0 (value n)) (same_name name
          other same)
          (right value was fits))
      means value was fits other f false apart at =
          Means-kept holds tree limit before after f.0 (value other) stays (was other f at)

  -- none is added if names have numbers
  pub adds_none : (state : S) (number : List ℕ → Option Func) (test : List ℕ → Bool)
      (Fits : (List ℕ → BooleanFunction) → Type 0) → NumbersStand holds state number
      → ((name : List ℕ) → test name ≡ true → has_number number name ≡ true)
      → Adds holds tree limit state state number number test Fits
  adds_none state number test Fits stand among = record {
    known = λ name. same (has_number number name) (test name) (among name);
    stand = stand;
    right = λ value was fits. was;
  }
    where
      same : (a b : Bool) → (b ≡ true → a ≡ true) → a ≡ (a || b)
      same true b h = refl
      same false true h = h refl
      same false false h = refl

  -- some are added after others
  pub adds_chain : (first second third : S) (old now new : List ℕ → Option Func) (one two both :
      List ℕ → Bool)
      (One Two Fits : (List ℕ → BooleanFunction) → Type 0)
      → Adds holds tree limit first second old now one One
      → Adds holds tree limit second third now new two Two
      → ((name : List ℕ) → both name ≡ (one name || two name))
      → ((value : List ℕ → BooleanFunction) → Fits value → One value × Two value)
      → Adds holds tree limit first third old new both Fits
  adds_chain first second third old now new one two both One Two Fits a b e parts = record {
    known = λ name.
        b.known name ∙ ap (λ (t : Bool). t || two name) (a.known name)
        ∙ or_assoc (has_number old name) (one name) (two name)
        ∙ ap (λ (t : Bool). has_number old name || t) (sym (e name));
    stand = b.stand;
    right = λ value was fits. b.right value (a.right value was (parts value fits).0) (parts value
        fits).1;
  }

  -- the number of a table is added
  pub table_added : (before after : S) (old new : List ℕ → Option Func) (table : Table) (list : List
      Func)
      (made : Func)
      → Stays holds tree limit before after → NumbersStand holds before old
      → map Some list ≡ map old table.inputs
      → Means holds tree limit after made.0
      (λ point. local_value (local_of table) (bits_of tree before list point))
      → ((other : List ℕ) → new other ≡ (if bytes_eq table.output other then Some made else old
      other))
      → Adds holds tree limit before after old new (λ other. bytes_eq other table.output)
      (λ value. Solves value table.output table)
  unfolding table_value
  table_added before after old new table list made stays stand e means put =
      adds_one before after old new table.output made (λ other. bytes_eq other table.output)
      (λ value. Solves value table.output table) stays stand put (λ other. refl) means.stands
      (λ value was fits.
      Means-same holds tree limit after made.0
      (λ point. local_value (local_of table) (bits_of tree before list point)) (value table.output)
      means
      (λ point.
      ap (local_value (local_of table)) (bits_right before old value table.inputs list was e point)
      ∙ sym (fits point)))

  -- a part of it is too big for all functions that the numbers of its inputs may mean
  pub part_big : (before : S) (number : List ℕ → Option Func) (value : List ℕ → BooleanFunction)
      (table : Table)
      (list : List Func)
      → AreRight holds tree limit before number value → map Some list ≡ map number table.inputs
      → HasBigPart (limit before) (local_of table) (bits_of tree before list)
      → HasBigPart (limit before) (local_of table)
      (λ point. map (λ (input : List ℕ). value input point) table.inputs)
  part_big before number value table list right e big =
      subst (λ (bits : (ℕ → Bool) → List Bool). HasBigPart (limit before) (local_of table) bits)
      (fun_ext (bits_right before number value table.inputs list right e)) big

  -- the table is that of a name
  pub named_added : (before after : S) (old new : List ℕ → Option Func) (tables : List Table) (name
      : List ℕ)
      (table : Table) → table.output ≡ name → driver tables name ≡ Some table → old name ≡ None
      → Adds holds tree limit before after old new (λ other. bytes_eq other table.output)
      (λ value. Solves value table.output table)
      → Adds holds tree limit before after old new (λ other. bytes_eq other name) (SolvesRest tables
      old)
  named_added before after old new tables name table is at none adds = record {
    known = λ other.
        adds.known other ∙ ap (λ (n : List ℕ). has_number old other || bytes_eq other n) is;
    stand = adds.stand;
    right = λ value was solves.
        adds.right value was (subst (λ (n : List ℕ). Solves value n table) (sym is)
        (solves name table at none));
  }

  -- names whose numbers were added so far, and the object that gave them
  pub record IsAdding (before now : S) (old new : List ℕ → Option Func) (test : List ℕ → Bool)
      (Fits : (List ℕ → BooleanFunction) → Type 0) : Type 0 where
    pub stays : Stays holds tree limit before now
    pub adds : Adds holds tree limit before now old new test Fits

  pub order_more : (first second third : S) (tables : List Table) (old now new : List ℕ → Option
      Func)
      (one both : List ℕ → Bool) (name : List ℕ)
      → Adds holds tree limit first second old now one (SolvesRest tables old)
      → Adds holds tree limit second third now new (λ other. bytes_eq other name) (SolvesRest tables
      now)
      → ((other : List ℕ) → both other ≡ (one other || bytes_eq other name))
      → Adds holds tree limit first third old new both (SolvesRest tables old)
  order_more first second third tables old now new one both name a b e =
      adds_chain first second third old now new one (λ other. bytes_eq other name) both
      (SolvesRest tables old) (SolvesRest tables now) (SolvesRest tables old) a b e
      (λ value solves. (solves, rest_less tables old now one value a.known solves))

  pub order_big : (first second : S) (tables : List Table) (old now : List ℕ → Option Func) (test :
      List ℕ → Bool)
      (blamed : List ℕ) → Stays holds tree limit first second
      → Adds holds tree limit first second old now test (SolvesRest tables old)
      → IsBlamed holds tree limit second tables now (SolvesRest tables now) blamed
      → IsBlamed holds tree limit first tables old (SolvesRest tables old) blamed
  order_big first second tables old now test blamed stays adds cause = record {
    unnumbered = none_before old now test adds.known blamed cause.unnumbered;
    big = λ value was solves.
        subst (λ (l : ℕ). IsBigAt l tables value blamed) stays.same
        (cause.big value (adds.right value was solves)
        (rest_less tables old now test value adds.known solves));
  }

  pub named_big : (before : S) (tables : List Table) (name : List ℕ) (table : Table)
      (number : List ℕ → Option Func) (blamed : List ℕ) → blamed ≡ name → driver tables name ≡ Some
      table
      → number name ≡ None
      → ((value : List ℕ → BooleanFunction) → AreRight holds tree limit before number value
      → HasBigPart (limit before) (local_of table)
      (λ point. map (λ (input : List ℕ). value input point) table.inputs))
      → IsBlamed holds tree limit before tables number (SolvesRest tables number) blamed
  named_big before tables name table number blamed same at none big = record {
    unnumbered = ap number same ∙ none;
    big = λ value right solves. (table, ap (driver tables) same ∙ at, big value right);
  }

  pub adds_same : (before after : S) (old new : List ℕ → Option Func) (test other : List ℕ → Bool)
      (Fits : (List ℕ → BooleanFunction) → Type 0)
      → Adds holds tree limit before after old new test Fits → ((name : List ℕ) → test name ≡ other
      name)
      → Adds holds tree limit before after old new other Fits
  adds_same before after old new test other Fits adds e = record {
    known = λ name. adds.known name ∙ ap (λ (b : Bool). has_number old name || b) (e name);
    stand = adds.stand;
    right = adds.right;
  }
