-- The rows of a sound machine that are taken at a step: they agree in what they specify.
use Rattle.std.proofs.Common.{◌≡◌, ℕ, zero, suc, ◌+◌, ◌<◌, ◌==◌, Bool, true, false, not, ◌&&◌, ◌||◌, Option, Some, None, List, [], ◌∷◌, ◌++◌, map, flat_map, filter, length, get_or, replicate, option_to_list, refl, sym, ap, ◌∙◌, subst, cond, slice_get, arith, if◌then◌else◌}
use Rattle.std.specs.List.{AllByRecursion, list_any, range_with_len}
use Rattle.std.specs.Option.{option_or}
use Rattle.std.proofs.lemmas.Bool.{false≢true, and_parts, and_from, or_from}
use Rattle.std.proofs.lemmas.Bool.Decides.{nat_tests}
use Rattle.std.proofs.lemmas.List.{length-replicate}
use Rattle.std.proofs.lemmas.Option.{none-some}
use Rattle.sis_base.specs.Rows.{agrees, matches}
use Rattle.circuit_model.specs.Values.{literal_of}
use Rattle.circuit_model.specs.Behaviors.{Meets}
use Rattle.circuit_model.specs.Runs.{tri_of}
use Rattle.circuit_model.specs.Clashes.{may_agree, agree_all, may_be_one, clash, first_clash}
use Rattle.circuit_model.specs.MachineRuns.{holds_in, is_taken, or_else, over, specified, next_by}
use Rattle.circuit_model.specs.MachineSoundness.{mentioned_by, first_mentions}
use Rattle.circuit_model.specs.declared.circuit.Tri.{Tri}
use Rattle.circuit_model.specs.declared.circuit.Tri.TheVariants.{Zero, One, Free}
use Rattle.circuit_model.specs.declared.machine.MachineRow.{MachineRow}
use Rattle.circuit_model.proofs.Apart.{apart}
use Rattle.circuit_laws.proofs.Sound.{all_parts}
use Rattle.state_code.specs.declared.codes.Style.{Style}
use Rattle.state_code.specs.declared.tables.Part.TheVariants.{Next, Output}
use Rattle.state_code.specs.Codes.{code_bit}
use Rattle.state_code.specs.Encoded.{is_one, specifies_one}

-- states that rows mention are among those that there are

among_all : (P : ℕ → Type 0) (known : List ℕ) (n : ℕ) → AllByRecursion P known
    → list_any (λ one. n == one) known ≡ true → P n
among_all P [] n all h = absurd (false≢true h)
among_all P (first ∷ known) n all h = cases (n == first) refl h (among_all P known n all.1)
  where
    same : (n == first) ≡ true → n ≡ first
    same is = grind (arith, nat_tests)

    cases : (b : Bool) → (n == first) ≡ b → (b || list_any (λ one. n == one) known) ≡ true
        → (list_any (λ one. n == one) known ≡ true → P n) → P n
    cases true is k rest = subst P (sym (same is)) all.0
    cases false is k rest = rest k

mentions_all : (P : ℕ → Type 0) (known numbers : List ℕ)
    → AllByRecursion P (first_mentions known numbers)
    → AllByRecursion P known × AllByRecursion P numbers
unfolding first_mentions
mentions_all P known [] h = (h, tt)
mentions_all P known (n ∷ numbers) h =
    cases (list_any (λ one. n == one) known) refl h (λ front. mentions_all P front numbers)
  where
    cases : (b : Bool) → list_any (λ one. n == one) known ≡ b
        → AllByRecursion P (first_mentions (if b then known else known ++ n ∷ []) numbers)
        → ((front : List ℕ) → AllByRecursion P (first_mentions front numbers)
        → AllByRecursion P front × AllByRecursion P numbers)
        → AllByRecursion P known × AllByRecursion P (n ∷ numbers)
    cases true is k rest = let (front, others) =
        rest known k in (front, (among_all P known n front is, others))
    cases false is k rest =
        let (front, others) = rest (known ++ n ∷ []) k in
        let parts = all_parts P known (n ∷ []) front in
        (parts.0, (parts.1.0, others))

below_all : (first count : ℕ) → AllByRecursion (λ n. n < first + count) (range_with_len first count)
below_all first zero = tt
below_all first (suc count) =
    let e : first + 1 + count ≡ first + suc count = omega arith in (
      omega arith,
      subst (λ bound. AllByRecursion (λ n. n < bound)
          (range_with_len (first + 1) count)) e (below_all (first + 1) count),
    )

abbrev pub IsBelow : ℕ → Option ℕ → Type 0
IsBelow states None = Unit {0}
IsBelow states (Some state) = state < states

pub record HasBelow (states : ℕ) (row : MachineRow) : Type 0 where
  pub current : IsBelow states row.current
  pub next : IsBelow states row.next

below_option : (states : ℕ) (state : Option ℕ)
    → AllByRecursion (λ n. n < states) (option_to_list state) → IsBelow states state
below_option states None h = tt
below_option states (Some state) h = h.0

rows_below : (states : ℕ) (rows : List MachineRow)
    → AllByRecursion (λ n. n < states) (flat_map mentioned_by rows)
    → AllByRecursion (HasBelow states) rows
rows_below states [] h = tt
rows_below states (row ∷ rows) h =
    let parts = all_parts (λ n. n < states) (mentioned_by row) (flat_map mentioned_by rows) h in
    let own = all_parts (λ n. n < states) (option_to_list row.current) (option_to_list row.next)
    parts.0 in (
      record {
        current = below_option states row.current own.0;
        next =
            below_option states row.next own.1;
      },
      rows_below states rows parts.1,
    )

pub states_below : (states : ℕ) (rows : List MachineRow)
    → first_mentions [] (flat_map mentioned_by rows) ≡ range_with_len 0 states
    → AllByRecursion (HasBelow states) rows
states_below states rows e =
    let none : 0 + states ≡ states = omega arith in
    let all : AllByRecursion (λ n. n < states) (range_with_len 0 states) =
    subst (λ bound. AllByRecursion (λ n. n < bound) (range_with_len 0 states)) none
    (below_all 0 states) in
    rows_below states rows
    (mentions_all (λ n. n < states) [] (flat_map mentioned_by rows)
    (subst (λ (numbers : List ℕ). AllByRecursion (λ n. n < states) numbers) (sym e) all)).1

-- rows that do not clash, pair by pair

unfoldable pub AreApart : List MachineRow → Type 0
AreApart [] = Unit {0}
AreApart (row ∷ rows) = AllByRecursion (λ later. clash row later ≡ false) rows × AreApart rows

each_got : {X : Type 0} (P : X → Type 0) (xs : List X) → ((i : ℕ) (x : X) → slice_get xs i ≡ Some x
    → P x) → AllByRecursion P xs
each_got P [] h = tt
each_got P (x ∷ xs) h = (h 0 x refl, each_got P xs (λ i y at. h (suc i) y at))

pairs_apart : (rows : List MachineRow) → ((i j : ℕ) (row later : MachineRow) → i < j
    → slice_get rows i ≡ Some row → slice_get rows j ≡ Some later → clash row later ≡ false)
    → AreApart rows
unfolding AreApart
pairs_apart [] h = tt
pairs_apart (row ∷ rows) h = (
  each_got (λ later. clash row later ≡ false) rows
      (λ j later at. h 0 (suc j) row later (omega arith) refl at),
  pairs_apart rows (λ i j one later before here there. h (suc i) (suc j) one later
      (omega (arith, before)) here there),
)

pub sound_apart : (rows : List MachineRow) → first_clash rows ≡ None → AreApart rows
sound_apart rows none = pairs_apart rows (apart rows none)

-- what taken rows have in common

pub record Agree (row other : MachineRow) : Type 0 where
  pub next : may_be_one row.next other.next ≡ true
  pub output : agree_all row.output other.output ≡ true

unfoldable pub AreAgreed : List MachineRow → Type 0
AreAgreed [] = Unit {0}
AreAgreed (row ∷ rows) = AllByRecursion (Agree row) rows × AreAgreed rows

one_state : (state : ℕ) (a b : Option ℕ) → holds_in a state ≡ true → holds_in b state ≡ true
    → may_be_one a b ≡ true
one_state state None b h k = refl
one_state state (Some a) None h k = refl
one_state state (Some a) (Some b) h k = both (a == b) refl
  where
    no : (a == b) ≡ false → ⊥
    no e = grind (arith, nat_tests)

    both : (t : Bool) → (a == b) ≡ t → (a == b) ≡ true
    both true e = e
    both false e = absurd (no e)

one_bit : (a b : Tri) (bit : Bool) → agrees (literal_of a) bit ≡ true
    → agrees (literal_of b) bit ≡ true → may_agree a b ≡ true
one_bit Free b bit h k = refl
one_bit Zero Zero bit h k = refl
one_bit Zero Free bit h k = refl
one_bit One One bit h k = refl
one_bit One Free bit h k = refl
one_bit Zero One true h k = absurd (false≢true h)
one_bit Zero One false h k = absurd (false≢true k)
one_bit One Zero true h k = absurd (false≢true k)
one_bit One Zero false h k = absurd (false≢true h)

one_point : (a b : List Tri) (point : List Bool) → length a ≡ length point
    → matches (map literal_of a) point ≡ true → matches (map literal_of b) point ≡ true
    → agree_all a b ≡ true
unfolding matches agree_all
one_point [] b point long h k = refl
one_point (x ∷ a) [] point long h k = refl
one_point (x ∷ a) (y ∷ b) [] long h k = absurd (omega arith)
one_point (x ∷ a) (y ∷ b) (bit ∷ point) long h k =
    let one = and_parts (agrees (literal_of x) bit) (matches (map literal_of a) point) h in
    let other = and_parts (agrees (literal_of y) bit) (matches (map literal_of b) point) k in
    and_from (may_agree x y) (agree_all a b) (one_bit x y bit one.0 other.0)
    (one_point a b point (omega arith) one.1 other.1)

told_apart : (a b c : Bool) → (a && b && not c) ≡ false → a ≡ true → b ≡ true → c ≡ true
told_apart true true true h p q = refl
told_apart true true false h p q = absurd (false≢true (sym h))
told_apart true false c h p q = absurd (false≢true q)
told_apart false b c h p q = absurd (false≢true p)

taken_agree : (state : ℕ) (point : List Bool) (row other : MachineRow)
    → length row.input ≡ length point → is_taken state point row ≡ true
    → is_taken state point other ≡ true
    → clash row other ≡ false → Agree row other
unfolding is_taken clash
taken_agree state point row other long h k apart =
    let one = and_parts (holds_in row.current state) (matches (map literal_of row.input) point) h in
    let two = and_parts (holds_in other.current state) (matches (map literal_of other.input) point)
    k in
    let told = told_apart (may_be_one row.current other.current) (agree_all row.input other.input)
    (may_be_one row.next other.next && agree_all row.output other.output) apart
    (one_state state row.current other.current one.0 two.0)
    (one_point row.input other.input point long one.1 two.1) in
    let parts = and_parts (may_be_one row.next other.next) (agree_all row.output other.output)
    told in
    record { next = parts.0; output = parts.1 }

taken_all : (state : ℕ) (point : List Bool) (row : MachineRow) (rows : List MachineRow)
    → length row.input ≡ length point → is_taken state point row ≡ true
    → AllByRecursion (λ later. clash row later ≡ false) rows
    → AllByRecursion (Agree row) (filter (is_taken state point) rows)
taken_all state point row [] long is apart = tt
taken_all state point row (other ∷ rows) long is apart =
    cases (is_taken state point other) refl (taken_all state point row rows long is apart.1)
  where
    cases : (b : Bool) → is_taken state point other ≡ b
        → AllByRecursion (Agree row) (filter (is_taken state point) rows)
        → AllByRecursion (Agree row) (cond b (other ∷ filter (is_taken state point) rows)
        (filter (is_taken state point) rows))
    cases true at rest = (taken_agree state point row other long is at apart.0, rest)
    cases false at rest = rest

pub taken_agreed : (state : ℕ) (point : List Bool) (rows : List MachineRow)
    → AllByRecursion (λ (row : MachineRow). length row.input ≡ length point) rows → AreApart rows
    → AreAgreed (filter (is_taken state point) rows)
unfolding AreApart AreAgreed
taken_agreed state point [] long apart = tt
taken_agreed state point (row ∷ rows) long apart =
    cases (is_taken state point row) refl (taken_agreed state point rows long.1 apart.1)
  where
    cases : (b : Bool) → is_taken state point row ≡ b
        → AreAgreed (filter (is_taken state point) rows)
        → AreAgreed (cond b (row ∷ filter (is_taken state point) rows)
        (filter (is_taken state point) rows))
    cases true is rest = (taken_all state point row rows long.0 is apart.0, rest)
    cases false is rest = rest

-- the next state

any_within : {X : Type 0} (test : X → Bool) (b : Bool) (xs : List X)
    → AllByRecursion (λ x. test x ≡ true → b ≡ true) xs → (b || list_any test xs) ≡ b
any_within test true xs h = refl
any_within test false [] h = refl
any_within test false (x ∷ xs) h = cases (test x) refl (any_within test false xs h.1)
  where
    cases : (t : Bool) → test x ≡ t → (false || list_any test xs) ≡ false
        → (t || list_any test xs) ≡ false
    cases true is rest = absurd (false≢true (h.0 is))
    cases false is rest = rest

next_within : (style : Style) (bit next : ℕ) (row : MachineRow)
    → may_be_one (Some next) row.next ≡ true → specifies_one style Next bit row ≡ true
    → code_bit style next bit ≡ true
next_within style bit next row one told = cases row.next one told
  where
    same : (other : ℕ) → (next == other) ≡ true → other ≡ next
    same other e = grind (arith, nat_tests)

    cases : (o : Option ℕ) → may_be_one (Some next) o ≡ true
        → specifies_one style Next bit (record row { next = o }) ≡ true
        → code_bit style next bit ≡ true
    cases None k t = absurd (false≢true t)
    cases (Some other) k t = subst (λ n. code_bit style n bit ≡ true) (same other k) t

nexts_within : (style : Style) (bit next : ℕ) (row : MachineRow) (rows : List MachineRow)
    → row.next ≡ Some next → AllByRecursion (Agree row) rows
    → AllByRecursion (λ later. specifies_one style Next bit later ≡ true
    → code_bit style next bit ≡ true) rows
nexts_within style bit next row [] is h = tt
nexts_within style bit next row (later ∷ rows) is h = (
  next_within style bit next later (ap (λ o. may_be_one o later.next) (sym is) ∙ h.0.next),
  nexts_within style bit next row rows is h.1,
)

same_state : (a b : ℕ) → Some a ≡ Some b → a ≡ b
same_state a b e = cc

pub next_told : (style : Style) (bit next : ℕ) (rows : List MachineRow) → AreAgreed rows
    → next_by rows ≡ Some next
    → list_any (specifies_one style Next bit) rows ≡ code_bit style next bit
unfolding AreAgreed next_by
next_told style bit next [] agreed e = absurd (none-some next e)
next_told style bit next (row ∷ rows) agreed e =
    cases row.next refl e (next_told style bit next rows agreed.1)
  where
    cases : (o : Option ℕ) → row.next ≡ o → option_or o (next_by rows) ≡ Some next
        → (next_by rows ≡ Some next
        → list_any (specifies_one style Next bit) rows ≡ code_bit style next bit)
        → (specifies_one style Next bit row || list_any (specifies_one style Next bit) rows)
        ≡ code_bit style next bit
    cases None is k rest = ap (λ b. b || list_any (specifies_one style Next bit) rows) (told is)
        ∙ rest k
      where
        told : row.next ≡ None → specifies_one style Next bit row ≡ false
        told at = rw at refl
    cases (Some state) is k rest =
        let same = same_state state next k in
        let at : row.next ≡ Some next = is ∙ k in
        let own : specifies_one style Next bit row ≡ code_bit style next bit = rw at refl in
        ap (λ b. b || list_any (specifies_one style Next bit) rows) own
        ∙ any_within (specifies_one style Next bit) (code_bit style next bit) rows
        (nexts_within style bit next row rows at agreed.0)

pub next_below : (states next : ℕ) (rows : List MachineRow) → AllByRecursion (HasBelow states) rows
    → next_by rows ≡ Some next → next < states
unfolding next_by
next_below states next [] known e = absurd (none-some next e)
next_below states next (row ∷ rows) known e =
    cases row.next known.0.next e (next_below states next rows known.1)
  where
    cases : (o : Option ℕ) → IsBelow states o → option_or o (next_by rows) ≡ Some next
        → (next_by rows ≡ Some next → next < states) → next < states
    cases None low k rest = rest k
    cases (Some state) low k rest = subst (λ n. n < states) (same_state state next k) low

-- the outputs

agree_at : (a b : List Tri) (k : ℕ) → agree_all a b ≡ true
    → may_agree (get_or a k Free) (get_or b k Free) ≡ true
unfolding agree_all
agree_at [] b k h = refl
agree_at (x ∷ a) [] k h = with_dash (get_or (x ∷ a) k Free)
  where
    with_dash : (t : Tri) → may_agree t Free ≡ true
    with_dash Zero = refl
    with_dash One = refl
    with_dash Free = refl
agree_at (x ∷ a) (y ∷ b) zero h = (and_parts (may_agree x y) (agree_all a b) h).0
agree_at (x ∷ a) (y ∷ b) (suc k) h = agree_at a b k (and_parts (may_agree x y) (agree_all a b) h).1

over_at : (a b : List Tri) (k : ℕ) → length a ≡ length b
    → get_or (over a b) k Free ≡ or_else (get_or a k Free) (get_or b k Free)
unfolding over
over_at [] [] k e = refl
over_at [] (y ∷ b) k e = absurd (omega arith)
over_at (x ∷ a) [] k e = absurd (omega arith)
over_at (x ∷ a) (y ∷ b) zero e = refl
over_at (x ∷ a) (y ∷ b) (suc k) e = over_at a b k (omega arith)

length-over : (a b : List Tri) → length a ≡ length b → length (over a b) ≡ length a
unfolding over
length-over [] b e = refl
length-over (x ∷ a) [] e = absurd (omega arith)
length-over (x ∷ a) (y ∷ b) e = ap suc (length-over a b (omega arith))

pub length-specified : (width : ℕ) (rows : List MachineRow)
    → AllByRecursion (λ (row : MachineRow). length row.output ≡ width) rows
    → length (specified width rows) ≡ width
unfolding specified
length-specified width [] h = length-replicate width Free
length-specified width (row ∷ rows) h =
    let rest = length-specified width rows h.1 in
    length-over row.output (specified width rows) (h.0 ∙ sym rest) ∙ h.0

dash_at : (count k : ℕ) → get_or (replicate count Free) k Free ≡ Free
dash_at zero k = refl
dash_at (suc count) zero = refl
dash_at (suc count) (suc k) = dash_at count k

-- where 0 is specified no agreeing row says 1
none_one : (place : ℕ) (style : Style) (row : MachineRow) (rows : List MachineRow)
    → get_or row.output place Free ≡ Zero → AllByRecursion (Agree row) rows
    → list_any (specifies_one style Output place) rows ≡ false
none_one place style row [] is h = refl
none_one place style row (later ∷ rows) is h =
    or_from (is_one (get_or later.output place Free)) (list_any (specifies_one style Output place)
    rows)
    (zero_free (get_or later.output place Free)
    (ap (λ t. may_agree t (get_or later.output place Free)) (sym is)
    ∙ agree_at row.output later.output place h.0.output))
    (none_one place style row rows is h.1)
  where
    zero_free : (t : Tri) → may_agree Zero t ≡ true → is_one t ≡ false
    zero_free Zero k = refl
    zero_free One k = absurd (false≢true k)
    zero_free Free k = refl

pub output_told : (style : Style) (width place : ℕ) (rows : List MachineRow) → AreAgreed rows
    → AllByRecursion (λ (row : MachineRow). length row.output ≡ width) rows
    → Meets (get_or (specified width rows) place Free)
    (tri_of (list_any (specifies_one style Output place) rows))
unfolding AreAgreed specified
output_told style width place [] agreed long =
    subst (λ t. Meets t (tri_of false)) (sym (dash_at width place)) tt
output_told style width place (row ∷ rows) agreed long =
    subst (λ t. Meets t (tri_of (list_any (specifies_one style Output place) (row ∷ rows))))
    (sym (over_at row.output (specified width rows) place (long.0
    ∙ sym (length-specified width rows long.1))))
    (cases (get_or row.output place Free) refl (output_told style width place rows agreed.1 long.1))
  where
    any : Bool
    any = list_any (specifies_one style Output place) rows

    cases : (t : Tri) → get_or row.output place Free ≡ t
        → Meets (get_or (specified width rows) place Free)
        (tri_of (list_any (specifies_one style Output place) rows))
        → Meets (or_else t (get_or (specified width rows) place Free))
        (tri_of (is_one t || list_any (specifies_one style Output place) rows))
    cases Zero is rest = ap tri_of (none_one place style row rows is agreed.0)
    cases One is rest = refl
    cases Free is rest = rest
