-- Sets of borrowed cubes, and the cubes that are in them, cube by cube.
use Rattle.std.proofs.Common.{◌≡◌, ℕ, ◌+◌, ◌<◌, suc, Bool, true, false, ◌||◌, not, cond, if◌then◌else◌, List, [], ◌∷◌, ◌++◌, length, get_or, take, drop, map, filter, bytes_eq, refl, sym, ap, ap₂, ◌∙◌, arith, drop-cons, append_assoc}
use Rattle.std.specs.Borrow.{Bor}
use Rattle.std.specs.List.{list_any}
use Rattle.std.proofs.lemmas.List.{take_more, map-append, length-map, get_or-map}
use Rattle.std.proofs.lemmas.List.Folds.{list_any-append}
use Rattle.std.proofs.lemmas.Slice.Eq.{bytes_eq-Decides}
use Rattle.circuit_model.specs.Names.{has}
use Rattle.net_gains.specs.Turning.{among, apart}

-- a set as a list of cubes
abbrev pub cubes_of : List (Bor (List ℕ)) → List (List ℕ)
cubes_of keys = map (λ (key : Bor (List ℕ)). key.now) keys

pub held : (cube : List ℕ) (keys : List (Bor (List ℕ))) → list_any (λ (key : Bor (List ℕ)). bytes_eq cube key.now) keys ≡ has (cubes_of keys) cube
held cube [] = refl
held cube (key ∷ keys) = ap (λ (rest : Bool). bytes_eq cube key.now || rest) (held cube keys)

has_more : (cubes : List (List ℕ)) (cube query : List ℕ) → has (cubes ++ cube ∷ []) query ≡ (has cubes query || bytes_eq query cube)
has_more cubes cube query = list_any-append (λ (other : List ℕ). bytes_eq query other) cubes (cube ∷ []) ∙ ap (λ (b : Bool). has cubes query || b) (by (bytes_eq query cube))
  where
    by : (b : Bool) → (b || false) ≡ b
    by true = refl
    by false = refl

-- a cube that is added to a set
has_put : (keys more : List (Bor (List ℕ))) (key : Bor (List ℕ)) → more ≡ (if list_any (λ (other : Bor (List ℕ)). bytes_eq key.now other.now) keys then keys else keys ++ key ∷ [])
    → (query : List ℕ) → has (cubes_of more) query ≡ (has (cubes_of keys) query || bytes_eq query key.now)
has_put keys more key e query = ap (λ (ks : List (Bor (List ℕ))). has (cubes_of ks) query) e ∙ cases (list_any (λ (other : Bor (List ℕ)). bytes_eq key.now other.now) keys) (held key.now keys)
  where
    there : (b : Bool) → bytes_eq query key.now ≡ b → has (cubes_of keys) key.now ≡ true → has (cubes_of keys) query ≡ (has (cubes_of keys) query || b)
    there true same h = (let all : has (cubes_of keys) query ≡ true = ap (has (cubes_of keys)) ((bytes_eq-Decides query key.now).0 same) ∙ h in all ∙ ap (λ (b : Bool). b || true) (sym all))
    there false same h = out (has (cubes_of keys) query)
      where
        out : (b : Bool) → b ≡ (b || false)
        out true = refl
        out false = refl

    cases : (b : Bool) → b ≡ has (cubes_of keys) key.now → has (cubes_of (if b then keys else keys ++ key ∷ [])) query ≡ (has (cubes_of keys) query || bytes_eq query key.now)
    cases true h = there (bytes_eq query key.now) refl (sym h)
    cases false h = ap (λ (cubes : List (List ℕ)). has cubes query) (map-append (λ (other : Bor (List ℕ)). other.now) keys (key ∷ [])) ∙ has_more (cubes_of keys) key.now query

module _ {X : Type 0} (g : X → List ℕ) (xs : List X) (i : ℕ) (x : X) (lt : i < length xs) (is : x ≡ get_or xs i x) where
  within : i < length (map g xs)
  within = let long : length (map g xs) ≡ length xs = length-map xs g in omega (arith, lt, long)

  at : get_or (map g xs) i (g x) ≡ g x
  at = get_or-map g xs i x (g x) lt ∙ ap g (sym is)

  pub set_more : (keys more : List (Bor (List ℕ))) (key : Bor (List ℕ)) → key.now ≡ g x → more ≡ (if list_any (λ (other : Bor (List ℕ)). bytes_eq key.now other.now) keys then keys else keys ++ key ∷ [])
      → ((cube : List ℕ) → has (cubes_of keys) cube ≡ has (take i (map g xs)) cube) → (cube : List ℕ) → has (cubes_of more) cube ≡ has (take (i + 1) (map g xs)) cube
  set_more keys more key same e so_far cube =
      has_put keys more key e cube
      ∙ (ap₂ (λ (b : Bool) (other : List ℕ). b || bytes_eq cube other) (so_far cube) (same ∙ sym at)
      ∙ (sym (has_more (take i (map g xs)) (get_or (map g xs) i (g x)) cube)
      ∙ ap (λ (cubes : List (List ℕ)). has cubes cube) (sym (take_more (map g xs) i (g x) within))))

  filter_next : (test : List ℕ → Bool) → filter test (drop i (map g xs)) ≡ cond (test (g x)) (g x ∷ filter test (drop (i + 1) (map g xs))) (filter test (drop (i + 1) (map g xs)))
  filter_next test =
      ap (filter test) (drop-cons (map g xs) i (g x) within)
      ∙ ap₂ (λ (y : List ℕ) (n : ℕ). cond (test y) (y ∷ filter test (drop n (map g xs))) (filter test (drop n (map g xs)))) at (let z : suc i ≡ i + 1 = omega arith in z)

  pub filter_put : (test : List ℕ → Bool) (made after whole : List (List ℕ)) → test (g x) ≡ true → after ≡ made ++ g x ∷ [] → made ++ filter test (drop i (map g xs)) ≡ whole
      → after ++ filter test (drop (i + 1) (map g xs)) ≡ whole
  filter_put test made after whole passed put h =
      ap (λ (zs : List (List ℕ)). zs ++ filter test (drop (i + 1) (map g xs))) put
      ∙ (append_assoc made (g x ∷ []) (filter test (drop (i + 1) (map g xs)))
      ∙ (ap (λ (zs : List (List ℕ)). made ++ zs) (sym (filter_next test ∙ ap (λ (b : Bool). cond b (g x ∷ filter test (drop (i + 1) (map g xs))) (filter test (drop (i + 1) (map g xs)))) passed)) ∙ h))

  pub filter_skip : (test : List ℕ → Bool) (made after whole : List (List ℕ)) → test (g x) ≡ false → after ≡ made → made ++ filter test (drop i (map g xs)) ≡ whole
      → after ++ filter test (drop (i + 1) (map g xs)) ≡ whole
  filter_skip test made after whole failed put h =
      ap (λ (zs : List (List ℕ)). zs ++ filter test (drop (i + 1) (map g xs))) put
      ∙ (ap (λ (zs : List (List ℕ)). made ++ zs) (sym (filter_next test ∙ ap (λ (b : Bool). cond b (g x ∷ filter test (drop (i + 1) (map g xs))) (filter test (drop (i + 1) (map g xs)))) failed)) ∙ h)

-- sets of the same cubes
pub among_as : (others more cubes : List (List ℕ)) → ((cube : List ℕ) → has others cube ≡ has more cube) → among others cubes ≡ among more cubes
among_as others more cubes same = ap (λ (test : List ℕ → Bool). filter test cubes) (λ i cube. same cube i)

pub apart_as : (others more cubes : List (List ℕ)) → ((cube : List ℕ) → has others cube ≡ has more cube) → apart others cubes ≡ apart more cubes
apart_as others more cubes same = ap (λ (test : List ℕ → Bool). filter (λ cube. not (test cube)) cubes) (λ i cube. same cube i)
