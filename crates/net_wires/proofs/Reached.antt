-- The names to which names lead, one by one.
use Rattle.std.proofs.Common.{◌≡◌, ℕ, zero, suc, ◌+◌, ◌<◌, Bool, true, false, ◌&&◌, ◌||◌, if◌then◌else◌, Some, None, List, [], ◌∷◌, ◌++◌, flat_map, length, slice_get, bytes_eq, refl, sym, ap, ◌∙◌, subst, arith, inl, inr, ◌⊎◌}
use Rattle.std.specs.List.{list_any}
use Rattle.std.proofs.lemmas.Bool.{false≢true, and_parts, or_left, or_right}
use Rattle.circuit_model.specs.Names.{has}
use Rattle.circuit_model.specs.declared.circuit.Table.{Table}
use Rattle.circuit_model.specs.declared.circuit.Latch.{Latch}
use Rattle.circuit_model.specs.declared.circuit.Circuit.{Circuit}
use Rattle.circuit_tables.specs.Listing.{names_with}
use Rattle.circuit_tables.proofs.Once.{same_name, itself, has-names_with}
use Rattle.circuit_laws.proofs.Names.{has_append}
use Rattle.net_wires.specs.Needed.{dont_care_reads, needed_within, is_needed}
use Rattle.net_wires.proofs.Closing.{needed_start, needed_next}
use Rattle.net_wires.specs.Reading.{read_by_tables, read_by_latches, IsReached}

-- tests
or_split : (a b : Bool) → (a || b) ≡ true → (a ≡ true) ⊎ (b ≡ true)
or_split true b h = inl refl
or_split false b h = inr h

same_test : (a b : Bool) → (a ≡ true → b ≡ true) → (b ≡ true → a ≡ true) → a ≡ b
same_test true b f g = sym (f refl)
same_test false true f g = absurd (false≢true (g refl))
same_test false false f g = refl

-- names that are appended
pub kept_place : (names more : List (List ℕ)) (j : ℕ) (name : List ℕ) → slice_get names j ≡ Some name → slice_get (names_with names more) j ≡ Some name
unfolding names_with
kept_place names [] j name h = h
kept_place names (new ∷ more) j name h = kept_place (if has names new then names else names ++ new ∷ []) more j name (by (has names new))
  where
    pushed : (xs : List (List ℕ)) (i : ℕ) → slice_get xs i ≡ Some name → slice_get (xs ++ new ∷ []) i ≡ Some name
    pushed [] i h = let z : None ≡ Some name = h in absurd cc
    pushed (x ∷ xs) zero h = h
    pushed (x ∷ xs) (suc i) h = pushed xs i h

    by : (b : Bool) → slice_get (if b then names else names ++ new ∷ []) j ≡ Some name
    by true = h
    by false = pushed names j h

has_place : (names : List (List ℕ)) (name : List ℕ) → has names name ≡ true → (j : ℕ) × (slice_get names j ≡ Some name)
has_place [] name h = absurd (false≢true h)
has_place (first ∷ names) name h = cases (bytes_eq name first) refl h (λ k. has_place names name k)
  where
    cases : (b : Bool) → bytes_eq name first ≡ b → (b || has names name) ≡ true → (has names name ≡ true → (j : ℕ) × (slice_get names j ≡ Some name)) → (j : ℕ) × (slice_get (first ∷ names) j ≡ Some name)
    cases true e k f = (0, ap Some (sym (same_name name first e)))
    cases false e k f = let (j, at) = f k in (suc j, at)

place_has : (names : List (List ℕ)) (j : ℕ) (name : List ℕ) → slice_get names j ≡ Some name → has names name ≡ true
place_has [] j name h = let z : None ≡ Some name = h in absurd cc
place_has (first ∷ names) zero name h = let e : first ≡ name = cc in or_left (bytes_eq name first) (has names name) (ap (bytes_eq name) e ∙ itself name)
place_has (first ∷ names) (suc j) name h = or_right (bytes_eq name first) (has names name) (place_has names j name h)

-- so far: the first names have all that they read among the names
pub record IsReaching (roots : List (List ℕ)) (tables : List Table) (latches : List Latch) (names : List (List ℕ)) (next : ℕ) : Type 0 where
  pub holds_roots : (name : List ℕ) → has roots name ≡ true → has names name ≡ true
  pub done : (j : ℕ) (name other : List ℕ) → j < next → slice_get names j ≡ Some name → has (read_by_tables name tables ++ read_by_latches name latches) other ≡ true → has names other ≡ true
  pub no_more : (test : List ℕ → Bool) → ((name : List ℕ) → has roots name ≡ true → test name ≡ true)
      → ((name other : List ℕ) → test name ≡ true → has (read_by_tables name tables ++ read_by_latches name latches) other ≡ true → test other ≡ true)
      → (name : List ℕ) → has names name ≡ true → test name ≡ true

pub reaching_begun : (roots : List (List ℕ)) (tables : List Table) (latches : List Latch) → IsReaching roots tables latches roots 0
reaching_begun roots tables latches = record {
  holds_roots = λ name h. h;
  done = λ j name other lt at h. absurd (omega (arith, lt));
  no_more = λ test r g name h. r name h;
}

has_both : (names first second : List (List ℕ)) (name : List ℕ) → has (names_with (names_with names first) second) name ≡ (has names name || has (first ++ second) name)
has_both names first second name =
    has-names_with (names_with names first) second name
    ∙ (ap (λ (b : Bool). b || has second name) (has-names_with names first name)
    ∙ (assoc (has names name) (has first name) (has second name) ∙ ap (λ (b : Bool). has names name || b) (sym (has_append first second name))))
  where
    assoc : (a b c : Bool) → ((a || b) || c) ≡ (a || (b || c))
    assoc true b c = refl
    assoc false b c = refl

less_or_same : (j n : ℕ) → j < n + 1 → (j < n) ⊎ (j ≡ n)
less_or_same zero zero lt = inr refl
less_or_same zero (suc n) lt = inl (omega arith)
less_or_same (suc j) zero lt = absurd (omega (arith, lt))
less_or_same (suc j) (suc n) lt = elim (less_or_same j n (omega (arith, lt))) [ inl a ↦ inl (omega (arith, a)) | inr e ↦ inr (ap suc e) ]

pub reaching_more : (roots : List (List ℕ)) (tables : List Table) (latches : List Latch) (names new : List (List ℕ)) (next : ℕ) (name : List ℕ) → IsReaching roots tables latches names next
    → slice_get names next ≡ Some name → new ≡ names_with (names_with names (read_by_tables name tables)) (read_by_latches name latches) → IsReaching roots tables latches new (next + 1)
reaching_more roots tables latches names new next name r at n = record {
  holds_roots = λ other h. stays other (r.holds_roots other h);
  done = λ j other read lt there h. elim (cases j lt) [
    | inl before ↦ early j other read before there h
    | inr here ↦ late j other read here there h
  ];
  no_more = λ test begins goes other h. elim (or_split (has names other) (has (read_by_tables name tables ++ read_by_latches name latches) other) (sym (is other) ∙ h)) [
    | inl old ↦ r.no_more test begins goes other old
    | inr read ↦ goes name other (r.no_more test begins goes name (place_has names next name at)) read
  ];
}
  where
    is : (other : List ℕ) → has new other ≡ (has names other || has (read_by_tables name tables ++ read_by_latches name latches) other)
    is other = ap (λ (ns : List (List ℕ)). has ns other) n ∙ has_both names (read_by_tables name tables) (read_by_latches name latches) other

    stays : (other : List ℕ) → has names other ≡ true → has new other ≡ true
    stays other h = is other ∙ or_left (has names other) (has (read_by_tables name tables ++ read_by_latches name latches) other) h

    cases : (j : ℕ) → j < next + 1 → (j < next) ⊎ (j ≡ next)
    cases j lt = less_or_same j next lt

    kept : (j : ℕ) (other : List ℕ) → slice_get names j ≡ Some other → slice_get new j ≡ Some other
    kept j other h =
        ap (λ (ns : List (List ℕ)). slice_get ns j) n
        ∙ kept_place (names_with names (read_by_tables name tables)) (read_by_latches name latches) j other (kept_place names (read_by_tables name tables) j other h)

    -- the name at an early index was there before
    same : (j : ℕ) (other : List ℕ) → j < length names → slice_get new j ≡ Some other → slice_get names j ≡ Some other
    same j other lt h = let (x, e) = placed names j lt in e ∙ (sym (kept j x e) ∙ h)
      where
        placed : (xs : List (List ℕ)) (i : ℕ) → i < length xs → (x : List ℕ) × (slice_get xs i ≡ Some x)
        placed [] i lt = absurd (omega (arith, lt))
        placed (x ∷ xs) zero lt = (x, refl)
        placed (x ∷ xs) (suc i) lt = placed xs i (omega (arith, lt))

    within : (xs : List (List ℕ)) (i : ℕ) (x : List ℕ) → slice_get xs i ≡ Some x → i < length xs
    within [] i x h = let z : None ≡ Some x = h in absurd cc
    within (y ∷ xs) zero x h = omega arith
    within (y ∷ xs) (suc i) x h = omega (arith, within xs i x h)

    early : (j : ℕ) (other read : List ℕ) → j < next → slice_get new j ≡ Some other → has (read_by_tables other tables ++ read_by_latches other latches) read ≡ true → has new read ≡ true
    early j other read lt there h =
        stays read (r.done j other read lt (same j other (omega (arith, lt, within names next name at)) there) h)

    late : (j : ℕ) (other read : List ℕ) → j ≡ next → slice_get new j ≡ Some other → has (read_by_tables other tables ++ read_by_latches other latches) read ≡ true → has new read ≡ true
    late j other read e there h =
        let found : slice_get new next ≡ Some other = subst (λ (i : ℕ). slice_get new i ≡ Some other) e there in
        let it : name ≡ other = some_same (sym (kept next name at) ∙ found) in
        is read ∙ or_right (has names read) (has (read_by_tables name tables ++ read_by_latches name latches) read)
        (subst (λ (o : List ℕ). has (read_by_tables o tables ++ read_by_latches o latches) read ≡ true) (sym it) h)
      where
        some_same : {x y : List ℕ} → Some x ≡ Some y → x ≡ y
        some_same k = cc

pub reaching_ends : (roots : List (List ℕ)) (tables : List Table) (latches : List Latch) (names : List (List ℕ)) (next : ℕ) → IsReaching roots tables latches names next → slice_get names next ≡ None
    → IsReached roots tables latches names
reaching_ends roots tables latches names next r end = record {
  holds_roots = r.holds_roots;
  goes_on = λ name other h k. let (j, at) = has_place names name h in r.done j name other (before names next j name end at) at k;
  no_more = r.no_more;
}
  where
    before : (xs : List (List ℕ)) (n j : ℕ) (x : List ℕ) → slice_get xs n ≡ None → slice_get xs j ≡ Some x → j < n
    before [] n j x e h = let z : None ≡ Some x = h in absurd cc
    before (y ∷ xs) zero j x e h = let z : Some y ≡ None = e in absurd cc
    before (y ∷ xs) (suc n) zero x e h = omega arith
    before (y ∷ xs) (suc n) (suc j) x e h = omega (arith, before xs n j x e h)

-- what is read by the table of a name that passes a test
tables_any : (test : List ℕ → Bool) (name other : List ℕ) → test name ≡ true → (tables : List Table) → has (read_by_tables name tables) other ≡ true
    → list_any (λ (table : Table). test table.output && has table.inputs other) tables ≡ true
unfolding read_by_tables
tables_any test name other t [] h = absurd (false≢true h)
tables_any test name other t (table ∷ tables) h = cases (bytes_eq name table.output) refl h (λ k. tables_any test name other t tables k)
  where
    cases : (b : Bool) → bytes_eq name table.output ≡ b → has ((if b then table.inputs else []) ++ flat_map (λ (x : Table). if bytes_eq name x.output then x.inputs else []) tables) other ≡ true
        → (has (flat_map (λ (x : Table). if bytes_eq name x.output then x.inputs else []) tables) other ≡ true → list_any (λ (x : Table). test x.output && has x.inputs other) tables ≡ true)
        → ((test table.output && has table.inputs other) || list_any (λ (x : Table). test x.output && has x.inputs other) tables) ≡ true
    cases true e k f = elim (or_split (has table.inputs other) (has (flat_map (λ (x : Table). if bytes_eq name x.output then x.inputs else []) tables) other) (sym (has_append table.inputs (flat_map (λ (x : Table). if bytes_eq name x.output then x.inputs else []) tables) other) ∙ k)) [
      | inl a ↦ or_left (test table.output && has table.inputs other) (list_any (λ (x : Table). test x.output && has x.inputs other) tables) (rw (← same_name name table.output e, t, a) refl)
      | inr a ↦ or_right (test table.output && has table.inputs other) (list_any (λ (x : Table). test x.output && has x.inputs other) tables) (f a)
    ]
    cases false e k f = or_right (test table.output && has table.inputs other) (list_any (λ (x : Table). test x.output && has x.inputs other) tables) (f k)

tables_from : (test : List ℕ → Bool) (other : List ℕ) (tables : List Table) → list_any (λ (table : Table). test table.output && has table.inputs other) tables ≡ true
    → (name : List ℕ) × (test name ≡ true) × (has (read_by_tables name tables) other ≡ true)
unfolding read_by_tables
tables_from test other [] h = absurd (false≢true h)
tables_from test other (table ∷ tables) h =
    elim (or_split (test table.output && has table.inputs other) (list_any (λ (x : Table). test x.output && has x.inputs other) tables) h) [
      | inl a ↦
          let (t, i) = and_parts (test table.output) (has table.inputs other) a in (
            table.output,
            t,
            has_append (if bytes_eq table.output table.output then table.inputs else []) (flat_map (λ (x : Table). if bytes_eq table.output x.output then x.inputs else []) tables) other
                ∙ or_left (has (if bytes_eq table.output table.output then table.inputs else []) other) (has (flat_map (λ (x : Table). if bytes_eq table.output x.output then x.inputs else []) tables) other)
                (ap (λ (b : Bool). has (if b then table.inputs else []) other) (itself table.output) ∙ i),
          )
      | inr a ↦
          let (name, t, k) = tables_from test other tables a in (
            name,
            t,
            has_append (if bytes_eq name table.output then table.inputs else []) (flat_map (λ (x : Table). if bytes_eq name x.output then x.inputs else []) tables) other
                ∙ or_right (has (if bytes_eq name table.output then table.inputs else []) other) (has (flat_map (λ (x : Table). if bytes_eq name x.output then x.inputs else []) tables) other) k,
          )
    ]

bytes_eq_turned : (a b : List ℕ) → bytes_eq a b ≡ true → bytes_eq b a ≡ true
bytes_eq_turned a b e = ap (bytes_eq b) (same_name a b e) ∙ itself b

latches_any : (test : List ℕ → Bool) (name other : List ℕ) → test name ≡ true → (latches : List Latch) → has (read_by_latches name latches) other ≡ true
    → list_any (λ (latch : Latch). test latch.output && bytes_eq latch.input other) latches ≡ true
unfolding read_by_latches
latches_any test name other t [] h = absurd (false≢true h)
latches_any test name other t (latch ∷ latches) h = cases (bytes_eq name latch.output) refl h (λ k. latches_any test name other t latches k)
  where
    cases : (b : Bool) → bytes_eq name latch.output ≡ b → has ((if b then latch.input ∷ [] else []) ++ flat_map (λ (x : Latch). if bytes_eq name x.output then x.input ∷ [] else []) latches) other ≡ true
        → (has (flat_map (λ (x : Latch). if bytes_eq name x.output then x.input ∷ [] else []) latches) other ≡ true → list_any (λ (x : Latch). test x.output && bytes_eq x.input other) latches ≡ true)
        → ((test latch.output && bytes_eq latch.input other) || list_any (λ (x : Latch). test x.output && bytes_eq x.input other) latches) ≡ true
    cases true e k f = elim (or_split (bytes_eq other latch.input) (has (flat_map (λ (x : Latch). if bytes_eq name x.output then x.input ∷ [] else []) latches) other) k) [
      | inl a ↦ or_left (test latch.output && bytes_eq latch.input other) (list_any (λ (x : Latch). test x.output && bytes_eq x.input other) latches)
          (rw (← same_name name latch.output e, t, bytes_eq_turned other latch.input a) refl)
      | inr a ↦ or_right (test latch.output && bytes_eq latch.input other) (list_any (λ (x : Latch). test x.output && bytes_eq x.input other) latches) (f a)
    ]
    cases false e k f = or_right (test latch.output && bytes_eq latch.input other) (list_any (λ (x : Latch). test x.output && bytes_eq x.input other) latches) (f k)

latches_from : (test : List ℕ → Bool) (other : List ℕ) (latches : List Latch) → list_any (λ (latch : Latch). test latch.output && bytes_eq latch.input other) latches ≡ true
    → (name : List ℕ) × (test name ≡ true) × (has (read_by_latches name latches) other ≡ true)
unfolding read_by_latches
latches_from test other [] h = absurd (false≢true h)
latches_from test other (latch ∷ latches) h =
    elim (or_split (test latch.output && bytes_eq latch.input other) (list_any (λ (x : Latch). test x.output && bytes_eq x.input other) latches) h) [
      | inl a ↦
          let (t, i) = and_parts (test latch.output) (bytes_eq latch.input other) a in (
            latch.output,
            t,
            has_append (if bytes_eq latch.output latch.output then latch.input ∷ [] else []) (flat_map (λ (x : Latch). if bytes_eq latch.output x.output then x.input ∷ [] else []) latches) other
                ∙ or_left (has (if bytes_eq latch.output latch.output then latch.input ∷ [] else []) other) (has (flat_map (λ (x : Latch). if bytes_eq latch.output x.output then x.input ∷ [] else []) latches) other)
                (ap (λ (b : Bool). has (if b then latch.input ∷ [] else []) other) (itself latch.output) ∙ or_left (bytes_eq other latch.input) false (bytes_eq_turned latch.input other i)),
          )
      | inr a ↦
          let (name, t, k) = latches_from test other latches a in (
            name,
            t,
            has_append (if bytes_eq name latch.output then latch.input ∷ [] else []) (flat_map (λ (x : Latch). if bytes_eq name x.output then x.input ∷ [] else []) latches) other
                ∙ or_right (has (if bytes_eq name latch.output then latch.input ∷ [] else []) other) (has (flat_map (λ (x : Latch). if bytes_eq name x.output then x.input ∷ [] else []) latches) other) k,
          )
    ]

-- what is reached from what is needed at once is what is needed
pub needed_reached : (circuit : Circuit) (roots : List (List ℕ)) (tables : List Table) (latches : List Latch) (names : List (List ℕ))
    → ((name : List ℕ) → has roots name ≡ (has circuit.outputs name || dont_care_reads circuit name)) → tables ≡ circuit.tables → latches ≡ circuit.latches
    → IsReached roots tables latches names → (name : List ℕ) → has names name ≡ is_needed circuit name
unfolding is_needed needed_within
needed_reached circuit roots tables latches names h ts ls r name =
    same_test (has names name) (is_needed circuit name)
    (r.no_more (is_needed circuit) (λ n k. needed_start circuit n (sym (h n) ∙ k)) next name)
    (back (length circuit.tables + length circuit.latches) name)
  where
    more : (steps : ℕ) (other : List ℕ) → (needed_within circuit steps other || list_any (λ (table : Table). needed_within circuit steps table.output && has table.inputs other) circuit.tables
        || list_any (λ (latch : Latch). needed_within circuit steps latch.output && bytes_eq latch.input other) circuit.latches) ≡ needed_within circuit (suc steps) other
    more steps other = refl

    next : (n other : List ℕ) → is_needed circuit n ≡ true → has (read_by_tables n tables ++ read_by_latches n latches) other ≡ true → is_needed circuit other ≡ true
    next n other k m =
        needed_next circuit other (elim (or_split (has (read_by_tables n circuit.tables) other) (has (read_by_latches n circuit.latches) other)
        (sym (has_append (read_by_tables n circuit.tables) (read_by_latches n circuit.latches) other) ∙ (ap (λ (xs : List Table). has (read_by_tables n xs ++ read_by_latches n circuit.latches) other) (sym ts) ∙ (ap (λ (xs : List Latch). has (read_by_tables n tables ++ read_by_latches n xs) other) (sym ls) ∙ m)))) [
          | inl a ↦ or_left (needed_within circuit (length circuit.tables + length circuit.latches) other || list_any (λ (table : Table). needed_within circuit (length circuit.tables + length circuit.latches) table.output && has table.inputs other) circuit.tables)
              (list_any (λ (latch : Latch). needed_within circuit (length circuit.tables + length circuit.latches) latch.output && bytes_eq latch.input other) circuit.latches)
              (or_right (needed_within circuit (length circuit.tables + length circuit.latches) other) (list_any (λ (table : Table). needed_within circuit (length circuit.tables + length circuit.latches) table.output && has table.inputs other) circuit.tables)
              (tables_any (needed_within circuit (length circuit.tables + length circuit.latches)) n other k circuit.tables a))
          | inr a ↦ or_right (needed_within circuit (length circuit.tables + length circuit.latches) other || list_any (λ (table : Table). needed_within circuit (length circuit.tables + length circuit.latches) table.output && has table.inputs other) circuit.tables)
              (list_any (λ (latch : Latch). needed_within circuit (length circuit.tables + length circuit.latches) latch.output && bytes_eq latch.input other) circuit.latches)
              (latches_any (needed_within circuit (length circuit.tables + length circuit.latches)) n other k circuit.latches a)
        ])

    read_here : (n other : List ℕ) → has (read_by_tables n circuit.tables ++ read_by_latches n circuit.latches) other ≡ true → has (read_by_tables n tables ++ read_by_latches n latches) other ≡ true
    read_here n other k = rw (ts, ls) k

    back : (steps : ℕ) (other : List ℕ) → needed_within circuit steps other ≡ true → has names other ≡ true
    back zero other k = r.holds_roots other (h other ∙ k)
    back (suc steps) other k =
        elim (or_split (needed_within circuit steps other || list_any (λ (table : Table). needed_within circuit steps table.output && has table.inputs other) circuit.tables)
        (list_any (λ (latch : Latch). needed_within circuit steps latch.output && bytes_eq latch.input other) circuit.latches) k) [
          | inl a ↦ elim (or_split (needed_within circuit steps other) (list_any (λ (table : Table). needed_within circuit steps table.output && has table.inputs other) circuit.tables) a) [
            | inl b ↦ back steps other b
            | inr b ↦
                let (n, t, m) = tables_from (needed_within circuit steps) other circuit.tables b in
                r.goes_on n other (back steps n t) (read_here n other (has_append (read_by_tables n circuit.tables) (read_by_latches n circuit.latches) other ∙ or_left (has (read_by_tables n circuit.tables) other) (has (read_by_latches n circuit.latches) other) m))
          ]
          | inr a ↦
              let (n, t, m) = latches_from (needed_within circuit steps) other circuit.latches a in
              r.goes_on n other (back steps n t) (read_here n other (has_append (read_by_tables n circuit.tables) (read_by_latches n circuit.latches) other ∙ or_right (has (read_by_tables n circuit.tables) other) (has (read_by_latches n circuit.latches) other) m))
        ]
