-- Rows in groups: one row more, and that a row of one state clashes first with a row of its own
-- group or of every state.
use Rattle.std.proofs.Common.{◌≡◌, ℕ, zero, suc, ◌+◌, ◌%◌, ◌<◌, ◌≤◌, ◌==◌, nat_le, Bool, true, false, not, ◌&&◌, Option, Some, None, List, [], ◌∷◌, ◌++◌, length, take, drop, find, cond, get_or, slice_get, slice_index_or, replicate, IfSome, refl, sym, ◌∙◌, ap, arith, if◌then◌else◌}
use Rattle.std.proofs.lemmas.Bool.Decides.{nat_tests}
use Rattle.std.proofs.lemmas.List.{take_more, drop_more, drop_all, length-take-le, length-replicate, get_or-replicate}
use Rattle.circuit_model.specs.declared.machine.MachineRow.{MachineRow}
use Rattle.circuit_model.specs.Clashes.{agree_all, may_be_one, clash, clash_with}
use Rattle.kiss_format.specs.Groups.{group_of, places_in, may_clash, clash_at, lesser, AreGroups}

-- tests

same_test : (a b : ℕ) → a ≡ b → (a == b) ≡ true
same_test a b e = grind (arith, nat_tests)

less_test : (a b : ℕ) → a < b → (a == b) ≡ false
less_test a b less = grind (arith, nat_tests)

more_test : (a b : ℕ) → b < a → (a == b) ≡ false
more_test a b less = grind (arith, nat_tests)

le_test : (a b : ℕ) → a ≤ b → nat_le a b ≡ true
le_test a b less = grind (arith, nat_tests)

gt_test : (a b : ℕ) → b < a → nat_le a b ≡ false
gt_test a b less = grind (arith, nat_tests)

same_state : (a b : ℕ) → (a == b) ≡ true → a ≡ b
same_state a b e = grind (arith, nat_tests)

-- one row more

pub places_more : (count group place : ℕ) (rows : List MachineRow) (row : MachineRow)
    → places_in count group place (rows ++ row ∷ []) ≡ places_in count group place rows ++ (if group_of count row.current == group then (place + length rows) ∷ [] else [])
unfolding places_in
places_more count group place [] row =
    let here : place + 0 ≡ place = omega arith in
    rw here refl
places_more count group place (first ∷ rows) row =
    by (group_of count first.current == group) (places_more count group (place + 1) rows row ∙ ap (λ (n : ℕ). places_in count group (place + 1) rows ++ (if group_of count row.current == group then n ∷ [] else [])) next)
  where
    next : place + 1 + length rows ≡ place + suc (length rows)
    next = omega arith

    by : (b : Bool) → places_in count group (place + 1) (rows ++ row ∷ []) ≡ places_in count group (place + 1) rows ++ (if group_of count row.current == group then (place + suc (length rows)) ∷ [] else [])
        → (if b then place ∷ places_in count group (place + 1) (rows ++ row ∷ []) else places_in count group (place + 1) (rows ++ row ∷ []))
        ≡ (if b then place ∷ places_in count group (place + 1) rows else places_in count group (place + 1) rows) ++ (if group_of count row.current == group then (place + suc (length rows)) ∷ [] else [])
    by true rest = ap (λ places. place ∷ places) rest
    by false rest = rest

pub groups_more : (rows : List MachineRow) (place : ℕ) (row : MachineRow) (old new : List (List ℕ)) → place < length rows → row ≡ get_or rows place row → AreGroups rows place old → length new ≡ length old
    → ((other : ℕ) → slice_index_or new other [] ≡ slice_index_or old other [] ++ (if group_of (length rows) row.current == other then place ∷ [] else [])) → AreGroups rows (place + 1) new
groups_more rows place row old new inside is are same each =
    let long : length (take place rows) ≡ place = length-take-le place rows (omega (arith, inside)) in
    let more : take (place + 1) rows ≡ take place rows ++ row ∷ [] = take_more rows place row inside ∙ ap (λ one. take place rows ++ one ∷ []) (sym is) in
    record {
      size = same ∙ are.size;
      each = λ group few.
          let last : 0 + length (take place rows) ≡ place = omega (arith, long) in
          let noted = each group ∙ ap (λ front. front ++ (if group_of (length rows) row.current == group then place ∷ [] else [])) (are.each group few) in
          let placed = places_more (length rows) group 0 (take place rows) row in
          noted
          ∙ ap (λ (n : ℕ). places_in (length rows) group 0 (take place rows) ++ (if group_of (length rows) row.current == group then n ∷ [] else [])) (sym last)
          ∙ (sym placed ∙ ap (places_in (length rows) group 0) (sym more));
    }

pub groups_none : (rows : List MachineRow) → AreGroups rows 0 (replicate (length rows + 1) [])
unfolding places_in
groups_none rows =
    record { size = length-replicate (length rows + 1) []; each = λ group few. get_or-replicate (length rows + 1) group [] [] (omega (arith, few)) }

-- the default does not matter within
get_or_any : {A : Type 0} (xs : List A) (i : ℕ) (d e : A) → i < length xs → get_or xs i d ≡ get_or xs i e
get_or_any [] i d e inside = absurd (omega (arith, inside))
get_or_any (x ∷ xs) zero d e inside = refl
get_or_any (x ∷ xs) (suc i) d e inside = get_or_any xs i d e (omega (arith, inside))

-- a row of one state

found_from : (test : ℕ → Bool) (count group place : ℕ) (rows : List MachineRow) (found : ℕ) → find test (places_in count group place rows) ≡ Some found → place ≤ found
unfolding places_in
found_from test count group place [] found e = absurd (let no : None ≡ Some found = e in cc)
found_from test count group place (row ∷ rows) found e =
    by (group_of count row.current == group) e
    (λ rest. let past : place + 1 ≤ found = found_from test count group (place + 1) rows found rest in omega (arith, past))
  where
    tried : (hit : Bool) → cond hit (Some place) (find test (places_in count group (place + 1) rows)) ≡ Some found
        → (find test (places_in count group (place + 1) rows) ≡ Some found → place ≤ found) → place ≤ found
    tried true e rec = let here : place ≡ found = cc in omega (arith, here)
    tried false e rec = rec e

    by : (b : Bool) → find test (if b then place ∷ places_in count group (place + 1) rows else places_in count group (place + 1) rows) ≡ Some found
        → (find test (places_in count group (place + 1) rows) ≡ Some found → place ≤ found) → place ≤ found
    by true e rec = tried (test place) e rec
    by false e rec = rec e

missed : (test : ℕ → Bool) (b : Bool) (place : ℕ) (places : List ℕ) → test place ≡ false → find test (if b then place ∷ places else places) ≡ find test places
missed test true place places e = rw e refl
missed test false place places e = refl

lesser_first : (place : ℕ) (found : Option ℕ) → ((other : ℕ) → found ≡ Some other → place + 1 ≤ other) → lesser (Some place) found ≡ Some place
lesser_first place None past = refl
lesser_first place (Some other) past = rw (le_test place other (let behind = past other refl in omega (arith, behind))) refl

lesser_second : (place : ℕ) (found : Option ℕ) → ((other : ℕ) → found ≡ Some other → place + 1 ≤ other) → lesser found (Some place) ≡ Some place
lesser_second place None past = refl
lesser_second place (Some other) past = rw (gt_test other place (let behind = past other refl in omega (arith, behind))) refl

and-first : (a b : Bool) → (a && b) ≡ true → a ≡ true
and-first true b e = refl
and-first false b e = absurd (let no : false ≡ true = e in cc)

fits : (earlier row : MachineRow) → clash earlier row ≡ true → may_be_one earlier.current row.current ≡ true
unfolding clash
fits earlier row e =
    and-first (may_be_one earlier.current row.current) (agree_all earlier.input row.input)
    (and-first (may_be_one earlier.current row.current && agree_all earlier.input row.input) (not (may_be_one earlier.next row.next && agree_all earlier.output row.output)) e)

-- a row that clashes is the first in one of the two groups
hit_first : (test : ℕ → Bool) (current : Option ℕ) (state count place : ℕ) (own every : List ℕ) → 0 < count → test place ≡ true → may_be_one current (Some state) ≡ true
    → ((other : ℕ) → find test own ≡ Some other → place + 1 ≤ other) → ((other : ℕ) → find test every ≡ Some other → place + 1 ≤ other)
    → lesser (find test (if group_of count current == state % count then place ∷ own else own)) (find test (if group_of count current == count then place ∷ every else every)) ≡ Some place
hit_first test None state count place own every some hit fit first second =
    let apart : (count == state % count) ≡ false = more_test count (state % count) (omega (arith, some)) in
    rw (apart, same_test count count refl, hit) (lesser_second place (find test own) first)
hit_first test (Some known) state count place own every some hit fit first second =
    let same : known ≡ state = same_state known state fit in
    let together : (known % count == state % count) ≡ true = same_test (known % count) (state % count) (ap (λ (n : ℕ). n % count) same) in
    let apart : (known % count == count) ≡ false = less_test (known % count) count (omega (arith, some)) in
    rw (together, apart, hit) (lesser_first place (find test every) second)

-- some rows occur among all rows from an index on
abbrev Stands : List MachineRow → ℕ → List MachineRow → Type 0
Stands all place rows = (k : ℕ) → k < length rows → slice_get all (place + k) ≡ slice_get rows k

in_groups_from : (all rows : List MachineRow) (row : MachineRow) (state count place : ℕ) → 0 < count → row.current ≡ Some state → Stands all place rows
    → lesser (find (clash_at all row) (places_in count (state % count) place rows)) (find (clash_at all row) (places_in count count place rows)) ≡ clash_with place rows row
unfolding places_in clash_with
in_groups_from all [] row state count place some is stands = refl
in_groups_from all (earlier ∷ rows) row state count place some is stands =
    by (clash earlier row) refl (in_groups_from all rows row state count (place + 1) some is behind)
  where
    first : place + 0 ≡ place
    first = omega arith

    at : clash_at all row place ≡ clash earlier row
    at = ap (λ (found : Option MachineRow). may_clash found row) (ap (slice_get all) (sym first) ∙ stands 0 (omega arith))

    behind : Stands all (place + 1) rows
    behind k inside = let next : place + 1 + k ≡ place + suc k = omega arith in ap (slice_get all) next ∙ stands (suc k) (omega (arith, inside))

    own : List ℕ
    own = places_in count (state % count) (place + 1) rows

    every : List ℕ
    every = places_in count count (place + 1) rows

    by : (b : Bool) → clash earlier row ≡ b → lesser (find (clash_at all row) own) (find (clash_at all row) every) ≡ clash_with (place + 1) rows row
        → lesser (find (clash_at all row) (if group_of count earlier.current == state % count then place ∷ own else own)) (find (clash_at all row) (if group_of count earlier.current == count then place ∷ every else every))
        ≡ (if clash earlier row then Some place else clash_with (place + 1) rows row)
    by true e rest =
        hit_first (clash_at all row) earlier.current state count place own every some (at ∙ e) (ap (may_be_one earlier.current) (sym is) ∙ fits earlier row e)
        (found_from (clash_at all row) count (state % count) (place + 1) rows) (found_from (clash_at all row) count count (place + 1) rows)
        ∙ rw e refl
    by false e rest =
        let off = at ∙ e in
        rw (missed (clash_at all row) (group_of count earlier.current == state % count) place own off, missed (clash_at all row) (group_of count earlier.current == count) place every off, e) rest

taken_stands : (rows : List MachineRow) (count k : ℕ) → k < length (take count rows) → slice_get rows k ≡ slice_get (take count rows) k
taken_stands rows zero k inside = absurd (omega (arith, inside))
taken_stands [] (suc count) k inside = absurd (omega (arith, inside))
taken_stands (row ∷ rows) (suc count) zero inside = refl
taken_stands (row ∷ rows) (suc count) (suc k) inside = taken_stands rows count k (omega (arith, inside))

pub in_groups : (rows : List MachineRow) (groups : List (List ℕ)) (row : MachineRow) (state later : ℕ) (own every : List ℕ) → 0 < length rows → AreGroups rows later groups → row.current ≡ Some state
    → own ≡ get_or groups (state % length rows) own → every ≡ get_or groups (length rows) every
    → lesser (find (clash_at rows row) own) (find (clash_at rows row) every) ≡ clash_with 0 (take later rows) row
in_groups rows groups row state later own every some are is first second =
    let count = length rows in
    let size : length groups ≡ count + 1 = are.size in
    let low : state % count < count = omega (arith, some) in
    let of_own : own ≡ places_in count (state % count) 0 (take later rows) =
    first ∙ get_or_any groups (state % count) own [] (omega (arith, size, low)) ∙ are.each (state % count) (omega (arith, low)) in
    let of_every : every ≡ places_in count count 0 (take later rows) =
    second ∙ get_or_any groups count every [] (omega (arith, size)) ∙ are.each count (omega arith) in
    let stands : Stands rows 0 (take later rows) = λ k inside. let from : 0 + k ≡ k = omega arith in ap (slice_get rows) from ∙ taken_stands rows later k inside in
    rw (of_own, of_every) (in_groups_from rows (take later rows) row state count 0 some is stands)

-- bounds and walks

pub with_within : (place : ℕ) (rows : List MachineRow) (row : MachineRow) (found : ℕ) → clash_with place rows row ≡ Some found → found < place + length rows
unfolding clash_with
with_within place [] row found e = absurd (let no : None ≡ Some found = e in cc)
with_within place (earlier ∷ rows) row found e =
    by (clash earlier row) e (λ rest. let less : found < place + 1 + length rows = with_within (place + 1) rows row found rest in omega (arith, less))
  where
    by : (b : Bool) → (if b then Some place else clash_with (place + 1) rows row) ≡ Some found → (clash_with (place + 1) rows row ≡ Some found → found < place + suc (length rows)) → found < place + suc (length rows)
    by true e rec = let here : place ≡ found = cc in omega (arith, here)
    by false e rec = rec e

pub inside_some : (rows : List MachineRow) (row : MachineRow) (later : ℕ) (found : Option ℕ) → later < length rows → found ≡ clash_with 0 (take later rows) row → IfSome found (λ place. place < length rows)
inside_some rows row later None inside is = tt
inside_some rows row later (Some place) inside is =
    let long : length (take later rows) ≡ later = length-take-le later rows (omega (arith, inside)) in
    let less : place < 0 + length (take later rows) = with_within 0 (take later rows) row place (sym is) in
    omega (arith, long, less, inside)

pub among_more : (test : ℕ → Bool) (places : List ℕ) (i : ℕ) → i < length places
    → find test (drop i places) ≡ cond (test (get_or places i 0)) (Some (get_or places i 0)) (find test (drop (i + 1) places))
among_more test places i inside = rw (drop_more places i 0 inside) refl

pub among_done : (test : ℕ → Bool) (places : List ℕ) (i : ℕ) → length places ≤ i → find test (drop i places) ≡ None
among_done test places i past = rw (drop_all i places past) refl
