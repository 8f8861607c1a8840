-- The states of a machine in the order of first mention: what rows that are written name, one after
-- the other.
use Rattle.std.proofs.Common.{◌≡◌, ℕ, zero, suc, ◌+◌, ◌<◌, ◌≤◌, ◌==◌, nat_lt, Bool, true, false, not, ◌||◌, Option, Some, None, List, [], ◌∷◌, ◌++◌, take, length, get_or, bytes_eq, option_to_list, refl, sym, ◌∙◌, ap, subst, arith, length-append, if◌then◌else◌}
use Rattle.std.specs.List.{AllByRecursion, list_any, range_with_len, position_or_len}
use Rattle.std.proofs.lemmas.Bool.Decides.{nat_tests}
use Rattle.std.proofs.Math.Seq.{get_or-append_seam}
use Rattle.std.proofs.lemmas.List.{append_assoc, get_or_append_left}
use Rattle.std.proofs.lemmas.List.FromFn.{length-range_with_len, get_or-range_with_len}
use Rattle.std.proofs.lemmas.Slice.Eq.{bytes_eq-Decides}
use Rattle.std.proofs.lemmas.Bool.{and_parts}
use Rattle.circuit_model.specs.Names.{has, all_different}
use Rattle.circuit_model.specs.MachineSoundness.{is_any, first_mentions}
use Rattle.circuit_model.specs.MachineText.{state_at, state_word}
use Rattle.kiss_format.specs.Lines.{with_state, with_states, place_of, state_of}
use Rattle.kiss_format.proofs.Mentions.{not-true, bytes_turned, both_kept, mention_old, mention_new, range_lacks}
use Rattle.kiss_format.proofs.Places.{kept, found-at}

-- a fact of all states holds of the state of an index
pub state_has : (P : List ℕ → Type 0) (states : List (List ℕ)) (place : ℕ) → AllByRecursion P states → place < length states → P (state_at states place)
state_has P [] place all less = absurd (omega (arith, less))
state_has P (state ∷ states) zero all less = all.0
state_has P (state ∷ states) (suc place) all less = state_has P states place all.1 (omega (arith, less))

own : (name : List ℕ) → bytes_eq name name ≡ true
own name = (bytes_eq-Decides name name).1 refl

-- a state that is not the first one differs from it
later_differs : (states : List (List ℕ)) (name : List ℕ) (place : ℕ) → has states name ≡ false → place < length states → bytes_eq (state_at states place) name ≡ false
later_differs [] name place lacks less = absurd (omega (arith, less))
later_differs (state ∷ states) name zero lacks less = by (bytes_eq name state) refl lacks
  where
    by : (b : Bool) → bytes_eq name state ≡ b → (b || has states name) ≡ false → bytes_eq state name ≡ false
    by true e off = absurd (let no : true ≡ false = off in cc)
    by false e off = bytes_turned name state e
later_differs (state ∷ states) name (suc place) lacks less =
    later_differs states name place (by (bytes_eq name state) lacks) (omega (arith, less))
  where
    by : (b : Bool) → (b || has states name) ≡ false → has states name ≡ false
    by true off = absurd (let no : true ≡ false = off in cc)
    by false off = off

-- what the first states have

pub known_state : (states : List (List ℕ)) (count place : ℕ) → place < count → place < length states → has (take count states) (state_at states place) ≡ true
known_state [] count place less inside = absurd (omega (arith, inside))
known_state (state ∷ states) zero place less inside = absurd (omega (arith, less))
known_state (state ∷ states) (suc count) zero less inside = rw (own state) refl
known_state (state ∷ states) (suc count) (suc place) less inside =
    by (bytes_eq (state_at states place) state) (known_state states count place (omega (arith, less)) (omega (arith, inside)))
  where
    by : (b : Bool) → has (take count states) (state_at states place) ≡ true → (b || has (take count states) (state_at states place)) ≡ true
    by true e = refl
    by false e = e

pub new_state : (states : List (List ℕ)) (place : ℕ) → all_different states ≡ true → place < length states → has (take place states) (state_at states place) ≡ false
unfolding all_different
new_state [] place once inside = absurd (omega (arith, inside))
new_state (state ∷ states) zero once inside = refl
new_state (state ∷ states) (suc place) once inside =
    let parts = and_parts (not (has states state)) (all_different states) once in
    rw (later_differs states state place (not-true (has states state) parts.0) (omega (arith, inside)), new_state states place parts.1 (omega (arith, inside))) refl

pub next_state : (states : List (List ℕ)) (place : ℕ) → place < length states → take place states ++ state_at states place ∷ [] ≡ take (place + 1) states
next_state [] place inside = absurd (omega (arith, inside))
next_state (state ∷ states) zero inside = refl
next_state (state ∷ states) (suc place) inside =
    let more : suc place + 1 ≡ suc (place + 1) = omega arith in
    rw more (ap (λ rest. state ∷ rest) (next_state states place (omega (arith, inside))))

first_place : (states : List (List ℕ)) (count place : ℕ) → all_different states ≡ true → place < count → place < length states → position_or_len (bytes_eq (state_at states place)) (take count states) ≡ place
unfolding all_different
first_place [] count place once less inside = absurd (omega (arith, inside))
first_place (state ∷ states) zero place once less inside = absurd (omega (arith, less))
first_place (state ∷ states) (suc count) zero once less inside = rw (own state) refl
first_place (state ∷ states) (suc count) (suc place) once less inside =
    let parts = and_parts (not (has states state)) (all_different states) once in
    rw (later_differs states state place (not-true (has states state) parts.0) (omega (arith, inside)), first_place states count place parts.1 (omega (arith, less)) (omega (arith, inside))) (omega arith)

pub place_back : (states : List (List ℕ)) (count place : ℕ) → all_different states ≡ true → place < count → place < length states → place_of (take count states) (state_at states place) ≡ Some place
place_back states count place once less inside =
    found-at (bytes_eq (state_at states place)) (take count states) (known_state states count place less inside)
    ∙ ap Some (first_place states count place once less inside)

-- mentions

grows : (known xs : List ℕ) → length known ≤ length (first_mentions known xs)
unfolding first_mentions
grows known [] = omega arith
grows known (x ∷ xs) = by (list_any (λ one. x == one) known) (λ front. grows front xs)
  where
    by : (b : Bool) → ((front : List ℕ) → length front ≤ length (first_mentions front xs)) → length known ≤ length (first_mentions (if b then known else known ++ x ∷ []) xs)
    by true rec = rec known
    by false rec = omega (arith, rec (known ++ x ∷ []), length-append known (x ∷ []))

front_stays : (known xs : List ℕ) (i d : ℕ) → i < length known → get_or (first_mentions known xs) i d ≡ get_or known i d
unfolding first_mentions
front_stays known [] i d less = refl
front_stays known (x ∷ xs) i d less = by (list_any (λ one. x == one) known) (λ front inside. front_stays front xs i d inside)
  where
    by : (b : Bool) → ((front : List ℕ) → i < length front → get_or (first_mentions front xs) i d ≡ get_or front i d) → get_or (first_mentions (if b then known else known ++ x ∷ []) xs) i d ≡ get_or known i d
    by true rec = rec known less
    by false rec = rec (known ++ x ∷ []) (omega (arith, less, length-append known (x ∷ []))) ∙ get_or_append_left known (x ∷ []) d i less

mention_added : (count place : ℕ) (more : List ℕ) → count ≤ place → first_mentions (range_with_len 0 count) (place ∷ more) ≡ first_mentions (range_with_len 0 count ++ place ∷ []) more
unfolding first_mentions
mention_added count place more past = rw (range_lacks 0 count place (omega (arith, past))) refl

-- what is mentioned and is not known is the next one
next_mention : (count total place : ℕ) (more : List ℕ) → count ≤ place → first_mentions (range_with_len 0 count) (place ∷ more) ≡ range_with_len 0 total → (place ≡ count) × (count < total)
next_mention count total place more past e =
    let known = range_with_len 0 count ++ place ∷ [] in
    let same : first_mentions known more ≡ range_with_len 0 total = sym (mention_added count place more past) ∙ e in
    let from : length (range_with_len 0 count) ≡ count = length-range_with_len 0 count in
    let long : length known ≡ count + 1 = omega (arith, from, length-append (range_with_len 0 count) (place ∷ [])) in
    let whole : length (first_mentions known more) ≡ total = ap length same ∙ length-range_with_len 0 total in
    let less : count < total = omega (arith, long, whole, grows known more) in
    let last : get_or known count 0 ≡ place = ap (λ n. get_or known n 0) (sym from) ∙ get_or-append_seam (range_with_len 0 count) place [] 0 in
    let at : get_or (first_mentions known more) count 0 ≡ get_or known count 0 = front_stays known more count 0 (omega (arith, long)) in
    let here : get_or (range_with_len 0 total) count 0 ≡ 0 + count = get_or-range_with_len 0 total count 0 less in
    let chain : place ≡ 0 + count = sym last ∙ (sym at ∙ (ap (λ all. get_or all count 0) same ∙ here)) in
    (omega (arith, chain), less)

-- how many states are known after a word, if so many are known before it
record Stepped (states : List (List ℕ)) (count : ℕ) (mention : Option ℕ) (more : List ℕ) (next : ℕ) : Type 0 where
  most : next ≤ length states
  words : with_states (take count states) (kept (state_word states mention ∷ [])) ≡ take next states
  rest : first_mentions (range_with_len 0 next) more ≡ range_with_len 0 (length states)
  least : count ≤ next
  known : (place : ℕ) → mention ≡ Some place → place < next

-- states that are different, and no word for every state
pub record AreNamed (states : List (List ℕ)) : Type 0 where
  pub once : all_different states ≡ true
  pub named : AllByRecursion (λ state. is_any state ≡ false) states

same-some : (a b : ℕ) → Some a ≡ Some b → a ≡ b
same-some a b e = cc

none_steps : (states : List (List ℕ)) (count : ℕ) (more : List ℕ) → count ≤ length states → first_mentions (range_with_len 0 count) more ≡ range_with_len 0 (length states) → Stepped states count None more count
unfolding with_states
none_steps states count more few e =
    record { most = few; words = refl; rest = e; least = omega arith; known = λ place no. absurd (let off : None ≡ Some place = no in cc) }

old_steps : (states : List (List ℕ)) (count place : ℕ) (more : List ℕ) → AreNamed states → count ≤ length states → place < count
    → first_mentions (range_with_len 0 count) (place ∷ more) ≡ range_with_len 0 (length states) → Stepped states count (Some place) more count
unfolding with_states with_state
old_steps states count place more are few less e =
    let inside : place < length states = omega (arith, few, less) in
    record {
      most = few;
      words = rw (state_has (λ state. is_any state ≡ false) states place are.named inside, known_state states count place less inside) refl;
      rest = sym (mention_old count place more less) ∙ e;
      least = omega arith;
      known = λ other same. let one : place ≡ other = same-some place other same in omega (arith, one, less);
    }

new_steps : (states : List (List ℕ)) (place : ℕ) (more : List ℕ) → AreNamed states → place < length states
    → first_mentions (range_with_len 0 place) (place ∷ more) ≡ range_with_len 0 (length states) → Stepped states place (Some place) more (place + 1)
unfolding with_states with_state
new_steps states place more are inside e =
    record {
      most = omega (arith, inside);
      words = rw (state_has (λ state. is_any state ≡ false) states place are.named inside, new_state states place are.once inside) (next_state states place inside);
      rest = sym (mention_new place more) ∙ e;
      least = omega arith;
      known = λ other same. let one : place ≡ other = same-some place other same in omega (arith, one);
    }

below : (a b : ℕ) → nat_lt a b ≡ true → a < b
below a b e = grind (arith, nat_tests)

not_below : (a b : ℕ) → nat_lt a b ≡ false → b ≤ a
not_below a b e = grind (arith, nat_tests)

stepped : (states : List (List ℕ)) (count : ℕ) (mention : Option ℕ) (more : List ℕ) → AreNamed states → count ≤ length states
    → first_mentions (range_with_len 0 count) (option_to_list mention ++ more) ≡ range_with_len 0 (length states) → (next : ℕ) × Stepped states count mention more next
stepped states count None more are few e = (count, none_steps states count more few e)
stepped states count (Some place) more are few e = by (nat_lt place count) refl
  where
    by : (b : Bool) → nat_lt place count ≡ b → (next : ℕ) × Stepped states count (Some place) more next
    by true h = (count, old_steps states count place more are few (below place count h) e)
    by false h =
        let next = next_mention count (length states) place more (not_below place count h) e in
        let inside : place < length states = omega (arith, next.0, next.1) in
        let here : first_mentions (range_with_len 0 place) (place ∷ more) ≡ range_with_len 0 (length states) = subst (λ n. first_mentions (range_with_len 0 n) (place ∷ more) ≡ range_with_len 0 (length states)) (sym next.0) e in
        (count + 1, subst (λ n. Stepped states n (Some place) more (n + 1)) next.0 (new_steps states place more are inside here))

state_back : (states : List (List ℕ)) (count : ℕ) (mention : Option ℕ) → AreNamed states → count ≤ length states → ((place : ℕ) → mention ≡ Some place → place < count)
    → state_of (take count states) (state_word states mention) ≡ mention
state_back states count None are few known = refl
state_back states count (Some place) are few known =
    let less = known place refl in
    let inside : place < length states = omega (arith, few, less) in
    rw (state_has (λ state. is_any state ≡ false) states place are.named inside) (place_back states count place are.once less inside)

-- how many states are known after a row, if so many are known before it
pub record RowStepped (states : List (List ℕ)) (count : ℕ) (current next : Option ℕ) (more : List ℕ) (last : ℕ) : Type 0 where
  pub most : last ≤ length states
  pub words : with_states (take count states) (kept (state_word states current ∷ state_word states next ∷ [])) ≡ take last states
  pub rest : first_mentions (range_with_len 0 last) more ≡ range_with_len 0 (length states)
  pub first : state_of (take last states) (state_word states current) ≡ current
  pub second : state_of (take last states) (state_word states next) ≡ next
  pub current_inside : (place : ℕ) → current ≡ Some place → place < length states
  pub next_inside : (place : ℕ) → next ≡ Some place → place < length states

pub row_stepped : (states : List (List ℕ)) (count : ℕ) (current next : Option ℕ) (more : List ℕ) → AreNamed states → count ≤ length states
    → first_mentions (range_with_len 0 count) (option_to_list current ++ option_to_list next ++ more) ≡ range_with_len 0 (length states) → (last : ℕ) × RowStepped states count current next more last
row_stepped states count current next more are few e =
    let (middle, one) = stepped states count current (option_to_list next ++ more) are few (ap (first_mentions (range_with_len 0 count)) (sym (append_assoc (option_to_list current) (option_to_list next) more)) ∙ e) in
    let (last, other) = stepped states middle next more are one.most one.rest in (
      last,
      record {
        most = other.most;
        words = both_kept (state_word states current) (state_word states next) (take count states)
            ∙ ap (λ front. with_states front (kept (state_word states next ∷ []))) one.words
            ∙ other.words;
        rest = other.rest;
        first = state_back states last current are other.most (λ place at. let less = one.known place at in let longer = other.least in omega (arith, less, longer));
        second = state_back states last next are other.most other.known;
        current_inside = λ place at. let less = one.known place at in let few = one.most in omega (arith, less, few);
        next_inside = λ place at. let less = other.known place at in let few = other.most in omega (arith, less, few);
      },
    )
