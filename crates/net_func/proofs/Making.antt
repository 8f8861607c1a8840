-- The steps by which a function is made: earlier numbers stay valid, and the last number means what
-- was made so far.
use Rattle.std.specs.List.{AllByRecursion}
use Rattle.std.proofs.Common.{◌≡◌, ℕ, zero, suc, ◌+◌, ◌<◌, Bool, true, false, not, ◌&&◌, ◌||◌, Option, None, List, [], ◌∷◌, length, take, get_or, refl, sym, ap, ◌∙◌, subst, arith}
use Rattle.std.proofs.lemmas.List.{get_or-map, length-map}
use Rattle.sis_base.specs.Rows.{agrees, matches, some_matches, value_by_phase, phase_value}
use Rattle.func_core.specs.Trees.{BooleanFunction, Tree, eval, constant, complement}
use Rattle.func_core.specs.Numbers.{Means, IsBig, Stays}
use Rattle.func_core.specs.declared.functions.Func.{Func}
use Rattle.func_core.proofs.Meanings.{IsBig-same, Means-same, Stays-chain}
use Rattle.net_func.specs.Locals.{LocalFunction, local_value}
use Rattle.net_func.specs.Numbered.{computed, bits_of, AllStand}
use Rattle.net_func.proofs.RowParts.{matches-more, matches-none, some_matches-more, some_matches-none, take-all}

pub all_at : {A : Type 0} (P : A → Type 0) (xs : List A) (k : ℕ) (d : A) → AllByRecursion P xs
    → k < length xs → P (get_or xs k d)
all_at P [] k d all low = absurd (omega arith)
all_at P (x ∷ xs) zero d all low = all.0
all_at P (x ∷ xs) (suc k) d all low = all_at P xs k d all.1 (omega arith)

pub all_mapped : {A : Type 0} (P Q : A → Type 0) (xs : List A) → ((x : A) → P x → Q x)
    → AllByRecursion P xs → AllByRecursion Q xs
all_mapped P Q [] step all = tt
all_mapped P Q (x ∷ xs) step all = (step x all.0, all_mapped P Q xs step all.1)

module _ {S : Type 0} (holds : S → ℕ → Type 0) (tree : S → ℕ → Tree) (limit : S → ℕ) where
  pub record IsMaking (before now : S) (made : Func) (f : BooleanFunction) : Type 0 where
    pub stays : Stays holds tree limit before now
    pub means : Means holds tree limit now made.0 f

  -- a number that was valid means the same function
  pub same_computed : (before now : S) (number : Func) → Stays holds tree limit before now
      → holds before number.0
      → (point : ℕ → Bool) → computed tree now number point ≡ computed tree before number point
  same_computed before now number stays stood point = ap (λ (t : Tree). eval t point) (stays.kept
      number.0 stood).1

  pub still_stands : (before now : S) (numbers : List Func) → Stays holds tree limit before now
      → AllStand holds before numbers → AllStand holds now numbers
  still_stands before now numbers stays stood =
      all_mapped (λ (number : Func). holds before number.0) (λ (number : Func). holds now number.0)
      numbers
      (λ number h. (stays.kept number.0 h).0) stood

  pub bits-same : (before now : S) (numbers : List Func) → Stays holds tree limit before now
      → AllStand holds before numbers
      → (point : ℕ → Bool) → bits_of tree now numbers point ≡ bits_of tree before numbers point
  bits-same before now [] stays stood point = refl
  bits-same before now (number ∷ numbers) stays stood point =
      rw (
        same_computed before now number stays stood.0 point,
        bits-same before now numbers stays
            stood.1 point,
      ) refl

  -- one more literal of a row
  pub literal_point : (before now : S) (product : Func) (row : List (Option Bool)) (inputs : List
      Func) (k : ℕ) (d : Func) (literal : Option Bool)
      → IsMaking before now product (λ point. matches (take k row) (bits_of tree before inputs
      point))
      → AllStand holds before inputs → k < length inputs → length row ≡ length inputs
      → literal ≡ get_or row k None
      → (point : ℕ → Bool) → (computed tree now product point && agrees literal (computed tree now
      (get_or inputs k d) point))
      ≡ matches (take (k + 1) row) (bits_of tree before inputs point)
  literal_point before now product row inputs k d literal making stood low wide read point =
      let there : holds before (get_or inputs k d).0 = all_at (λ (n : Func). holds before n.0)
      inputs k d stood low in
      let value : computed tree now (get_or inputs k d) point ≡ get_or (bits_of tree before inputs
      point) k false =
      same_computed before now (get_or inputs k d) making.stays there point
      ∙ sym (get_or-map (λ (n : Func). computed tree before n point) inputs k d false low) in
      let many : length (bits_of tree before inputs point) ≡ length inputs = length-map inputs (λ
      (n : Func). computed tree before n point) in
      ap (λ (b : Bool). b && agrees literal (computed tree now (get_or inputs k d) point))
      (making.means.is_tree.computes point)
      ∙ ap (λ (b : Bool). matches (take k row) (bits_of tree before inputs point) && agrees literal
      b) value
      ∙ ap (λ (l : Option Bool). matches (take k row) (bits_of tree before inputs point) && agrees
      l (get_or (bits_of tree before inputs point) k false)) read
      ∙ sym (matches-more row (bits_of tree before inputs point) k false (omega arith) (omega
      arith))

  pub making_none : (before now : S) (made : Func) (row : List (Option Bool)) (inputs : List Func)
      → Stays holds tree limit before now
      → Means holds tree limit now made.0 (constant true)
      → IsMaking before now made (λ point. matches (take 0 row) (bits_of tree before inputs
      point))
  making_none before now made row inputs stays means = record {
    stays = stays;
    means = Means-same holds tree limit now made.0 (constant true) (λ point. matches (take 0 row)
        (bits_of tree before inputs point)) means
        (λ point. sym (matches-none row (bits_of tree before inputs point)));
  }

  -- what is made next, or is too big
  pub making_more : (before now later : S) (made : Func) (f g : BooleanFunction)
      → Stays holds tree limit before now → Stays holds tree limit now later
      → Means holds tree limit later made.0 f → ((point : ℕ → Bool) → f point ≡ g point)
      → IsMaking before later made g
  making_more before now later made f g first second means same = record {
    stays = Stays-chain holds tree limit before now later first second;
    means = Means-same holds tree limit later made.0 f g means same;
  }

  pub big_before : (before now : S) (f g : BooleanFunction) → Stays holds tree limit before now
      → IsBig (limit now) f
      → ((point : ℕ → Bool) → f point ≡ g point) → IsBig (limit before) g
  big_before before now f g stays big same =
      IsBig-same (limit before) f g (subst (λ (l : ℕ). IsBig l f) stays.same big) same

  pub making_whole : (before now : S) (made : Func) (row : List (Option Bool)) (inputs : List Func)
      (n : ℕ) → n ≡ length row
      → IsMaking before now made (λ point. matches (take n row) (bits_of tree before inputs point))
      → Means holds tree limit now made.0 (λ point. matches row (bits_of tree before inputs point))
  making_whole before now made row inputs n e making =
      subst (λ (r : List (Option Bool)). Means holds tree limit now made.0 (λ point. matches r
      (bits_of tree before inputs point))) (take-all row n e) making.means

  -- one more row of a sum
  pub sum_none : (before now : S) (made : Func) (rows : List (List (Option Bool))) (inputs : List
      Func) → Stays holds tree limit before now
      → Means holds tree limit now made.0 (constant false)
      → IsMaking before now made (λ point. some_matches (take 0 rows) (bits_of tree before inputs
      point))
  sum_none before now made rows inputs stays means = record {
    stays = stays;
    means = Means-same holds tree limit now made.0 (constant false) (λ point. some_matches (take 0
        rows) (bits_of tree before inputs point)) means
        (λ point. sym (some_matches-none rows (bits_of tree before inputs point)));
  }

  pub sum_point : (before now later : S) (sum product : Func) (rows : List (List (Option Bool)))
      (inputs : List Func) (k : ℕ)
      → IsMaking before now sum (λ point. some_matches (take k rows) (bits_of tree before inputs
      point))
      → AllStand holds before inputs → k < length rows → Stays holds tree limit now later
      → Means holds tree limit later product.0 (λ point. matches (get_or rows k []) (bits_of tree
      now inputs point))
      → (point : ℕ → Bool) → (computed tree later sum point || computed tree later product point)
      ≡ some_matches (take (k + 1) rows) (bits_of tree before inputs point)
  sum_point before now later sum product rows inputs k making stood low stays means point =
      ap (λ (b : Bool). b || computed tree later product point)
      (same_computed now later sum stays making.means.stands point ∙ making.means.is_tree.computes
      point)
      ∙ ap (λ (b : Bool). some_matches (take k rows) (bits_of tree before inputs point) || b)
      (means.is_tree.computes point ∙ ap (matches (get_or rows k [])) (bits-same before now inputs
      making.stays stood point))
      ∙ sym (some_matches-more rows (bits_of tree before inputs point) k low)

  pub part_point : (before now : S) (row : List (Option Bool)) (inputs : List Func)
      → Stays holds tree limit before now → AllStand holds before inputs
      → (point : ℕ → Bool) → matches row (bits_of tree now inputs point) ≡ matches row (bits_of
      tree before inputs point)
  part_point before now row inputs stays stood point = ap (matches row) (bits-same before now
      inputs stays stood point)

  pub sum_whole : (before now : S) (made : Func) (rows : List (List (Option Bool))) (inputs : List
      Func) (n : ℕ) → n ≡ length rows
      → IsMaking before now made (λ point. some_matches (take n rows) (bits_of tree before inputs
      point))
      → (point : ℕ → Bool) → computed tree now made point ≡ some_matches rows (bits_of tree before
      inputs point)
  sum_whole before now made rows inputs n e making point =
      making.means.is_tree.computes point
      ∙ ap (λ (rs : List (List (Option Bool))). some_matches rs (bits_of tree before inputs point))
      (take-all rows n e)

  -- the whole sum at the phase
  pub at_phase : (before now : S) (made : Func) (local : LocalFunction) (inputs : List Func) (n :
      ℕ) → n ≡ length local.rows
      → IsMaking before now made (λ point. some_matches (take n local.rows) (bits_of tree before
      inputs point)) → local.phase ≡ true
      → Means holds tree limit now made.0 (λ point. local_value local (bits_of tree before inputs
      point))
  unfolding value_by_phase
  at_phase before now made local inputs n e making phase =
      Means-same holds tree limit now made.0 (λ point. some_matches (take n local.rows) (bits_of
      tree before inputs point))
      (λ point. local_value local (bits_of tree before inputs point)) making.means
      (λ point. ap (λ (rs : List (List (Option Bool))). some_matches rs (bits_of tree before inputs
      point)) (take-all local.rows n e)
      ∙ ap (λ (b : Bool). phase_value b (some_matches local.rows (bits_of tree before inputs
      point))) (sym phase))

  pub off_phase : (before now later : S) (made turned : Func) (local : LocalFunction) (inputs :
      List Func) (n : ℕ) → n ≡ length local.rows
      → IsMaking before now made (λ point. some_matches (take n local.rows) (bits_of tree before
      inputs point)) → local.phase ≡ false
      → Means holds tree limit later turned.0 (complement (computed tree now made))
      → Means holds tree limit later turned.0 (λ point. local_value local (bits_of tree before
      inputs point))
  unfolding value_by_phase
  off_phase before now later made turned local inputs n e making phase means =
      Means-same holds tree limit later turned.0 (complement (computed tree now made))
      (λ point. local_value local (bits_of tree before inputs point)) means
      (λ point. ap not (sum_whole before now made local.rows inputs n e making point)
      ∙ ap (λ (b : Bool). phase_value b (some_matches local.rows (bits_of tree before inputs
      point))) (sym phase))
