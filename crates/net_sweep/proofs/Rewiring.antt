-- Each table that reads a signal comes to read another one instead, by an exchange of the two in
-- all tables.
use Rattle.std.proofs.Common.{◌≡◌, ℕ, zero, suc, ◌+◌, ◌<◌, ◌≤◌, ◌==◌, Bool, true, false, not, ◌||◌, Option, Some, None, List, [], ◌∷◌, ◌++◌, take, length, map, set, get_or, find, slice_get, refl, sym, ap, ◌∙◌, subst, arith}
use Rattle.std.specs.List.{AllByRecursion}
use Rattle.std.specs.Option.{option_map, option_map_or}
use Rattle.std.proofs.lemmas.List.{take_all, take_more, map-append, length-set}
use Rattle.std.proofs.lemmas.Bool.{false≢true, eqb-true, eqb-false, eq-eqb}
use Rattle.std.proofs.lemmas.Option.{same_Some, slice_get-map, slice_get_within}
use Rattle.std.proofs.lemmas.List.Folds.{list_any_more}
use Rattle.circuit_model.specs.Names.{has}
use Rattle.circuit_model.specs.declared.circuit.Table.{Table}
use Rattle.circuit_model.specs.declared.circuit.Circuit.{Circuit}
use Rattle.circuit_laws.specs.Edits.{with_tables}
use Rattle.net_core.proofs.Lookups.{get_set_same, get_set_other}
use Rattle.circuit_tables.specs.Tidy.{is_tidy, IsWide}
use Rattle.net_wires.specs.Rules.{rewired}
use Rattle.circuit_laws.proofs.Found.{find_none}
use Rattle.net_readers.specs.Fanouts.{is_in}
use Rattle.net_wires.specs.Aliases.{inputs_at, exchanged}
use Rattle.net_wires.proofs.Reading.{inputs_here}
use Rattle.net_wires.proofs.Exchanging.{exchanged_output, exchanged_tidy, exchanged_unwritten, exchanged_written, exchanged_single, rewired_exchanged}
use Rattle.net_sweep.specs.declared.queues.Rule.TheVariants.{TidyTable}
use Rattle.net_sweep.specs.declared.applying.Change.TheVariants.{Input}
use Rattle.net_sweep.specs.Settled.{passes, changed_by, IsAlike, IsAlikeThere, AreAlikeBut, AreSound}
use Rattle.net_sweep.proofs.Finds.{all_wide}
use Rattle.net_sweep.proofs.Changing.{all_at, there, same_by_places}

-- the next index, and that it is listed
place_at : (places : List ℕ) (i place d : ℕ) → i < length places → place ≡ get_or places i d → slice_get places i ≡ Some place
place_at [] i place d lt is = absurd (omega (arith, lt))
place_at (first ∷ places) zero place d lt is = ap Some (sym is)
place_at (first ∷ places) (suc i) place d lt is = place_at places i place d (omega (arith, lt)) is

pub next_in : (places : List ℕ) (i place d : ℕ) → i < length places → place ≡ get_or places i d → is_in places place ≡ true
next_in [] i place d lt is = absurd (omega (arith, lt))
next_in (first ∷ places) zero place d lt is = ap (λ (b : Bool). b || is_in places place) (eq-eqb first place (sym is))
next_in (first ∷ places) (suc i) place d lt is = ap (λ (b : Bool). (first == place) || b) (next_in places i place d (omega (arith, lt)) is) ∙ or_true (first == place)
  where
    or_true : (b : Bool) → (b || true) ≡ true
    or_true true = refl
    or_true false = refl

-- tables are made for one index after the other
pub made_more : (turn : ℕ → Option Table) (places : List ℕ) (i place d : ℕ) (made items : List Table) (table : Table) → i < length places → place ≡ get_or places i d → map Some made ≡ map turn (take i places)
    → turn place ≡ Some table → items ≡ made ++ table ∷ [] → map Some items ≡ map turn (take (i + 1) places)
made_more turn places i place d made items table lt is h here more =
    ap (λ (ts : List Table). map Some ts) more
    ∙ (map-append Some made (table ∷ [])
    ∙ (ap (λ (os : List (Option Table)). os ++ Some table ∷ []) h
    ∙ (ap (λ (o : Option Table). map turn (take i places) ++ o ∷ []) (sym here ∙ ap turn is)
    ∙ (sym (map-append turn (take i places) (get_or places i d ∷ [])) ∙ ap (map turn) (sym (take_more places i d lt))))))

pub all_made : (turn : ℕ → Option Table) (places : List ℕ) (i : ℕ) (made : List Table) → length places ≤ i → map Some made ≡ map turn (take i places) → map Some made ≡ map turn places
all_made turn places i made le h = h ∙ ap (map turn) (take_all i places le)

pub made_here : (turn : Table → Table) (tables : List Table) (place : ℕ) (old made : Table) → slice_get tables place ≡ Some old → made ≡ turn old → option_map turn (slice_get tables place) ≡ Some made
made_here turn tables place old made at is = ap (option_map turn) at ∙ ap Some (sym is)

pub wide_at : (tables : List Table) (place : ℕ) (table : Table) → AllByRecursion IsWide tables → slice_get tables place ≡ Some table → IsWide table
wide_at tables place table wide at = all_at IsWide tables place table wide at

-- tables are set one by one
pub record HasSet (places done : List ℕ) (tables : List Table) (old new : Circuit) : Type 0 where
  pub same : new ≡ with_tables old new.tables
  pub long : length new.tables ≡ length old.tables
  pub set : (place : ℕ) → is_in done place ≡ true → (i : ℕ) × (slice_get places i ≡ Some place) × (slice_get new.tables place ≡ slice_get tables i)
  pub others : (place : ℕ) → is_in done place ≡ false → slice_get new.tables place ≡ slice_get old.tables place

pub set_none : (places : List ℕ) (tables : List Table) (old : Circuit) → HasSet places [] tables old old
set_none places tables old = record { same = refl; long = refl; set = λ place h. absurd (false≢true h); others = λ place h. refl }

pub set_within : (places done : List ℕ) (tables : List Table) (old now : Circuit) (i place d : ℕ) → HasSet places done tables old now → i < length places → place ≡ get_or places i d
    → ((n : ℕ) → is_in places n ≡ true → n < length old.tables) → place < length now.tables
set_within places done tables old now i place d h lt is within = subst (λ (n : ℕ). place < n) (sym h.long) (within place (next_in places i place d lt is))

pub set_more : (places : List ℕ) (tables : List Table) (old now new : Circuit) (i place d : ℕ) (table : Table) → HasSet places (take i places) tables old now → i < length places → place ≡ get_or places i d
    → place < length now.tables → slice_get tables i ≡ Some table → new ≡ with_tables now (set now.tables place table) → HasSet places (take (i + 1) places) tables old new
set_more places tables old now new i place d table h lt is within at n = subst (HasSet places (take (i + 1) places) tables old) (sym n) record {
  same = ap (λ (c : Circuit). with_tables c (set now.tables place table)) h.same;
  long = length-set now.tables place table ∙ h.long;
  set = λ other listed. put other (is_in (take i places) other) refl (place == other) refl (sym (grows other) ∙ listed);
  others = λ other none. stay other (is_in (take i places) other) refl (place == other) refl (sym (grows other) ∙ none);
}
  where
    grows : (other : ℕ) → is_in (take (i + 1) places) other ≡ (is_in (take i places) other || (place == other))
    grows other = list_any_more (λ n. n == other) places i d lt ∙ ap (λ (n : ℕ). is_in (take i places) other || (n == other)) (sym is)

    here : (other : ℕ) → place ≡ other → slice_get (set now.tables place table) other ≡ slice_get tables i
    here other same =
        let (before, stood) = there now.tables place within in
        subst (λ (n : ℕ). slice_get (set now.tables place table) n ≡ slice_get tables i) same (get_set_same now.tables place before table stood ∙ sym at)

    put : (other : ℕ) (a : Bool) → is_in (take i places) other ≡ a → (b : Bool) → (place == other) ≡ b → (a || b) ≡ true
        → (j : ℕ) × (slice_get places j ≡ Some other) × (slice_get (set now.tables place table) other ≡ slice_get tables j)
    put other a e true f k = (i, place_at places i place d lt is ∙ ap Some (eqb-true place other f), here other (eqb-true place other f))
    put other true e false f k = let (j, listed, stands) = h.set other e in (j, listed, get_set_other now.tables place other table (λ same. eqb-false place other f (sym same)) ∙ stands)
    put other false e false f k = absurd (false≢true k)

    stay : (other : ℕ) (a : Bool) → is_in (take i places) other ≡ a → (b : Bool) → (place == other) ≡ b → (a || b) ≡ false → slice_get (set now.tables place table) other ≡ slice_get old.tables other
    stay other true e b f k = absurd (false≢true (sym k))
    stay other false e true f k = absurd (false≢true (sym k))
    stay other false e false f k = get_set_other now.tables place other table (λ same. eqb-false place other f (sym same)) ∙ h.others other e

pub all_set : (places : List ℕ) (i : ℕ) (tables : List Table) (old new : Circuit) → length places ≤ i → HasSet places (take i places) tables old new → HasSet places places tables old new
all_set places i tables old new le h = subst (λ (done : List ℕ). HasSet places done tables old new) (take_all i places le) h

-- an exchange of two signals, after which the fanouts of one are rewritten

not_false : (b : Bool) → not b ≡ false → b ≡ true
not_false true h = refl
not_false false h = absurd (false≢true (sym h))

-- the index of a fanout is one of a table
pub reader_within : (tables : List Table) (name : List ℕ) (places : List ℕ) → ((place : ℕ) → is_in places place ≡ has (inputs_at tables place) name) → (place : ℕ) → is_in places place ≡ true → place < length tables
reader_within tables name places readers place h = by (slice_get tables place) refl (sym (readers place) ∙ h)
  where
    by : (o : Option Table) → slice_get tables place ≡ o → has (option_map_or (λ (table : Table). table.inputs) o []) name ≡ true → place < length tables
    by None e k = absurd (false≢true k)
    by (Some table) e k = slice_get_within tables place table e

-- there is a table for each index
pub each_made : (turn : ℕ → Option Table) (places : List ℕ) (tables : List Table) → map Some tables ≡ map turn places → length tables ≡ length places
each_made turn [] [] h = refl
each_made turn [] (table ∷ tables) h = let z : Some table ∷ map Some tables ≡ [] = h in absurd cc
each_made turn (place ∷ places) [] h = let z : [] ≡ turn place ∷ map turn places = h in absurd cc
each_made turn (place ∷ places) (table ∷ tables) h =
    let rest : map Some tables ≡ map turn places = tails (Some table) (turn place) (map Some tables) (map turn places) h in
    omega (arith, each_made turn places tables rest)
  where
    tails : (x y : Option Table) (xs ys : List (Option Table)) → x ∷ xs ≡ y ∷ ys → xs ≡ ys
    tails x y xs ys e = cc

-- the table that was made for an index
made_at : (turn : ℕ → Option Table) (places : List ℕ) (tables : List Table) → map Some tables ≡ map turn places → (i place : ℕ) → slice_get places i ≡ Some place → slice_get tables i ≡ turn place
made_at turn places tables h i place at =
    flat (slice_get tables i) (turn place) (sym (slice_get-map Some tables i) ∙ (ap (λ (os : List (Option Table)). slice_get os i) h ∙ (slice_get-map turn places i ∙ ap (option_map turn) at)))
  where
    flat : (o p : Option Table) → option_map Some o ≡ Some p → o ≡ p
    flat None p e = let z : None ≡ Some p = e in absurd cc
    flat (Some table) p e = same_Some (Some table) p e

record IsRewired (from to : List ℕ) (inverts : Bool) (places : List ℕ) (old new : Circuit) : Type 0 where
  pub same : new ≡ with_tables old new.tables
  pub listed : (place : ℕ) → is_in places place ≡ true → slice_get new.tables place ≡ option_map (rewired from to inverts) (slice_get old.tables place)
  pub others : (place : ℕ) → is_in places place ≡ false → slice_get new.tables place ≡ option_map (exchanged from to inverts) (slice_get old.tables place)

-- what the calls have made
abbrev pub IsSetAt : List ℕ → List Table → Circuit → Type 0
IsSetAt places tables new = (place : ℕ) → is_in places place ≡ true → (i : ℕ) × (slice_get places i ≡ Some place) × (slice_get new.tables place ≡ slice_get tables i)

abbrev pub IsKeptBut : List ℕ → Circuit → Circuit → Type 0
IsKeptBut places old new = (place : ℕ) → is_in places place ≡ false → slice_get new.tables place ≡ slice_get old.tables place

rewired_places : (from to : List ℕ) (inverts : Bool) (places : List ℕ) (tables : List Table) (old mid new : Circuit) → map Some tables ≡ map (λ place. option_map (rewired from to inverts) (slice_get old.tables place)) places
    → mid ≡ with_tables old (map (exchanged from to inverts) old.tables) → new ≡ with_tables mid new.tables → IsSetAt places tables new → IsKeptBut places mid new → IsRewired from to inverts places old new
rewired_places from to inverts places tables old mid new made m same set_at kept = record {
  same = same ∙ ap (λ (c : Circuit). with_tables c new.tables) m;
  listed = λ place h. let (i, at, stands) = set_at place h in
      stands ∙ made_at (λ n. option_map (rewired from to inverts) (slice_get old.tables n)) places tables made i place at;
  others = λ place h. kept place h ∙ (ap (λ (c : Circuit). slice_get c.tables place) m ∙ slice_get-map (exchanged from to inverts) old.tables place);
}

unread : (tables : List Table) (name : List ℕ) (places : List ℕ) (place : ℕ) (table : Table) → ((n : ℕ) → is_in places n ≡ has (inputs_at tables n) name) → is_in places place ≡ false → slice_get tables place ≡ Some table → has table.inputs name ≡ false
unread tables name places place table readers none at =
    sym (ap (λ (names : List (List ℕ)). has names name) (inputs_here tables place table at)) ∙ (sym (readers place) ∙ none)

tidy_at : (tables : List Table) (place : ℕ) (table : Table) → find (passes TidyTable tables) tables ≡ None → slice_get tables place ≡ Some table → is_tidy table ≡ true
tidy_at tables place table tidy at = not_false (is_tidy table) (all_at (λ (t : Table). not (is_tidy t) ≡ false) tables place table (find_none (passes TidyTable tables) tables tidy) at)

exchanged_alike : (from to : List ℕ) (inverts : Bool) (table : Table) → IsAlike table (exchanged from to inverts table)
exchanged_alike from to inverts table = record {
  output = exchanged_output from to inverts table;
  tidy = exchanged_tidy from to inverts table;
  unwritten = exchanged_unwritten from to inverts table;
  written = exchanged_written from to inverts table;
  single = exchanged_single from to inverts table;
}

pub rewired_all : (from to : List ℕ) (inverts : Bool) (listed now then : List ℕ) (tables there : List Table) (old mid new : Circuit) → AreSound old.tables → find (passes TidyTable old.tables) old.tables ≡ None
    → ((place : ℕ) → is_in listed place ≡ has (inputs_at old.tables place) to) → now ≡ listed → then ≡ listed → there ≡ tables
    → map Some tables ≡ map (λ place. option_map (rewired from to inverts) (slice_get old.tables place)) now
    → mid ≡ with_tables old (map (exchanged from to inverts) old.tables) → new ≡ with_tables mid new.tables → IsSetAt then there new → IsKeptBut then mid new
    → new ≡ with_tables old (map (changed_by from (Input to inverts)) old.tables)
rewired_all from to inverts listed now then tables there old mid new sound tidy readers n t s made m same set_at kept =
    h.same ∙ ap (with_tables old) (same_by_places new.tables (map (rewired from to inverts) old.tables) (λ place.
    by place (is_in listed place) refl ∙ sym (slice_get-map (rewired from to inverts) old.tables place)))
  where
    h : IsRewired from to inverts listed old new
    h = rewired_places from to inverts listed tables old mid new (subst (λ (ps : List ℕ). map Some tables ≡ map (λ place. option_map (rewired from to inverts) (slice_get old.tables place)) ps) n made) m same
        (subst (λ (ts : List Table). IsSetAt listed ts new) s (subst (λ (ps : List ℕ). IsSetAt ps there new) t set_at)) (subst (λ (ps : List ℕ). IsKeptBut ps mid new) t kept)

    unlisted : (place : ℕ) → is_in listed place ≡ false → (o : Option Table) → slice_get old.tables place ≡ o → option_map (exchanged from to inverts) o ≡ option_map (rewired from to inverts) o
    unlisted place none None at = refl
    unlisted place none (Some table) at =
        ap Some (sym (rewired_exchanged from to inverts table (wide_at old.tables place table (all_wide old.tables sound.shaped) at) (tidy_at old.tables place table tidy at) (unread old.tables to listed place table readers none at)))

    by : (place : ℕ) (b : Bool) → is_in listed place ≡ b → slice_get new.tables place ≡ option_map (rewired from to inverts) (slice_get old.tables place)
    by place true e = h.listed place e
    by place false e = h.others place e ∙ unlisted place e (slice_get old.tables place) refl

pub rewired_others : (from to : List ℕ) (inverts : Bool) (listed then : List ℕ) (old mid new : Circuit) → then ≡ listed → mid ≡ with_tables old (map (exchanged from to inverts) old.tables) → IsKeptBut then mid new
    → AreAlikeBut listed old.tables new.tables
rewired_others from to inverts listed then old mid new t m kept place none =
    subst (IsAlikeThere (slice_get old.tables place))
    (sym (subst (λ (ps : List ℕ). IsKeptBut ps mid new) t kept place none ∙ (ap (λ (c : Circuit). slice_get c.tables place) m ∙ slice_get-map (exchanged from to inverts) old.tables place)))
    (by (slice_get old.tables place))
  where
    by : (o : Option Table) → IsAlikeThere o (option_map (exchanged from to inverts) o)
    by None = tt
    by (Some table) = exchanged_alike from to inverts table
