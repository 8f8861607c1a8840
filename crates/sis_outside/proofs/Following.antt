-- What one call leaves, of a list of calls.
use Rattle.std.specs.Prelude.{◌≡◌, ℕ, ◌≤◌, ◌⊎◌, Bool, true, false, ◌||◌, IsTrue, List, [], ◌∷◌, take, Option, Some, Result, Ok, Err, bytes_eq}
use Rattle.std.proofs.Common.{inl, inr, cond, refl, sym, subst, ◌∙◌, ap, arith}
use Rattle.std.specs.List.{AllByRecursion}
use Rattle.std.specs.Ordering.{nat_cmp}
use Rattle.std.specs.Cmp.Lexicographic.{slice_cmp, texts_ties, nat_list_cmp_total}
use Rattle.std.specs.FinMap.{get-insert}
use Rattle.std.proofs.lemmas.Slice.Eq.{bytes_eq-Decides}
use Rattle.sis_outside.specs.Calls.{StoreCall, Load, Save, TakeCall, PutCall, store_failed, store_missed, take_failed, put_failed, Counted, Tells, FilesGo, LeftGoes, WrittenGoes, IsStoreWithin, IsTakeWithin, Went, StoreKeeps, SourceKeeps, SinkKeeps, Follows, any_of, StoreWent, SourceWent, SinkWent, IsLeftBy, WasSaved}
use Rattle.sis_outside.specs.Counts.{Rose}
use Rattle.sis_outside.specs.Files.{Files, file_at, with_file}
use Rattle.sis_outside.specs.declared.store.SaveFault.{SaveFault}
use Rattle.sis_outside.specs.declared.store.SaveFault.TheVariants as save

-- counts of two runs of calls are those of both
pub counted_through : (first second : Bool) (before middle now : ℕ) → Counted first before middle → Counted second middle now → Counted (first || second) before now
counted_through false second before middle now h k = subst (λ (n : ℕ). Counted second n now) h k
counted_through true false before middle now h k = rw k h
counted_through true true before middle now h k = (omega arith, omega arith)

pub follows_mapped : {X Y C : Type 0} (tells : X → Bool) (shown : X → Y) (goes : X → C → X → Type 0) (shows : Y → C → Y → Type 0)
    → ((old : X) (call : C) (new : X) → goes old call new → (tells new ≡ tells old) × (IsTrue (tells old) → shows (shown old) call (shown new)))
    → (old new : X) (calls : List C) → Follows goes old new calls → (tells new ≡ tells old) × (IsTrue (tells old) → Follows shows (shown old) (shown new) calls)
follows_mapped tells shown goes shows one old new [] h = (ap tells h, λ told. ap shown h)
follows_mapped tells shown goes shows one old new (call ∷ calls) (next, first, rest) =
    let here = one old call next first in
    let there = follows_mapped tells shown goes shows one next new calls rest in
    (there.0 ∙ here.0, λ told. (shown next, here.1 told, there.1 (subst IsTrue (sym here.0) told)))

pub follows_counted : {X C : Type 0} (is : C → Bool) (count : X → ℕ) (goes : X → C → X → Type 0)
    → ((old : X) (call : C) (new : X) → goes old call new → Counted (is call) (count old) (count new))
    → (old new : X) (calls : List C) → Follows goes old new calls → Counted (any_of is calls) (count old) (count new)
follows_counted is count goes one old new [] h = ap count h
follows_counted is count goes one old new (call ∷ calls) (next, first, rest) =
    counted_through (is call) (any_of is calls) (count old) (count next) (count new) (one old call next first) (follows_counted is count goes one next new calls rest)

-- what holds of each call that goes by a relation
pub follows_all : {X C : Type 0} (Holds : C → Type 0) (goes : X → C → X → Type 0) → ((old : X) (call : C) (new : X) → goes old call new → Holds call)
    → (old new : X) (calls : List C) → Follows goes old new calls → AllByRecursion Holds calls
follows_all Holds goes one old new [] h = tt
follows_all Holds goes one old new (call ∷ calls) (next, first, rest) = (one old call next first, follows_all Holds goes one next new calls rest)

-- what an object does by a list of calls, from what it does by one
went_on : {S X C : Type 0} (tells : S → Bool) (shown : S → X) (faults : S → ℕ) (shows : X → C → X → Type 0) (failed : C → Bool) (goes : S → C → S → Type 0)
    → ((old : S) (call : C) (new : S) → goes old call new → Went tells shown faults shows failed old call new)
    → (old new : S) (calls : List C) → Follows goes old new calls → Went tells shown faults (λ from made to. Follows shows from to made) (any_of failed) old calls new
went_on tells shown faults shows failed goes keeps old new calls h =
    let both = follows_mapped tells shown goes shows (λ o c n g. ((keeps o c n g).told, (keeps o c n g).contents)) old new calls h in record {
      told = both.0;
      contents = both.1;
      counted = follows_counted failed faults goes (λ o c n g. (keeps o c n g).counted) old new calls h;
    }

pub store_went : {S : Type 0} (tells : S → Bool) (files : S → Files) (faults misses : S → ℕ) (goes : S → StoreCall → S → Type 0)
    → ((old : S) (call : StoreCall) (new : S) → goes old call new → StoreKeeps tells files faults misses old call new)
    → (old new : S) (calls : List StoreCall) → Follows goes old new calls → StoreWent tells files faults misses old new calls
store_went tells files faults misses goes keeps old new calls h = (
  went_on tells files faults FilesGo store_failed goes (λ o c n g. (keeps o c n g).0) old new calls h,
  (
    follows_counted store_missed misses goes (λ o c n g. (keeps o c n g).1.0) old new calls h,
    follows_all IsStoreWithin goes (λ o c n g. (keeps o c n g).1.1) old new calls h,
  ),
)

pub source_went : {S : Type 0} (tells : S → Bool) (left : S → List ℕ) (faults : S → ℕ) (goes : S → TakeCall → S → Type 0)
    → ((old : S) (call : TakeCall) (new : S) → goes old call new → SourceKeeps tells left faults old call new)
    → (old new : S) (calls : List TakeCall) → Follows goes old new calls → SourceWent tells left faults old new calls
source_went tells left faults goes keeps old new calls h = (
  went_on tells left faults LeftGoes take_failed goes (λ o c n g. (keeps o c n g).0) old new calls h,
  follows_all IsTakeWithin goes (λ o c n g. (keeps o c n g).1) old new calls h,
)

pub sink_went : {S : Type 0} (tells : S → Bool) (written : S → List ℕ) (faults : S → ℕ) (goes : S → PutCall → S → Type 0)
    → ((old : S) (call : PutCall) (new : S) → goes old call new → SinkKeeps tells written faults old call new)
    → (old new : S) (calls : List PutCall) → Follows goes old new calls → SinkWent tells written faults old new calls
sink_went tells written faults goes keeps old new calls h = went_on tells written faults WrittenGoes put_failed goes keeps old new calls h

-- the file of a name that was set
file_put : (files : Files) (put name bytes : List ℕ) → file_at (with_file files put bytes) name ≡ cond (bytes_eq name put) (Some bytes) (file_at files name)
file_put files put name bytes = get-insert nat_list_cmp_total files put bytes name ∙ ap (λ (same : Bool). cond same (Some bytes) (file_at files name)) (sym (texts_ties name put))

-- what is left of one file by a save of it or of another one
file_left : (files : Files) (put name bytes left : List ℕ) (answer : Result (Unit {0}) SaveFault) → IsLeftBy bytes answer left
    → (file_at (with_file files put left) name ≡ file_at files name) ⊎ ((found : List ℕ) × (file_at (with_file files put left) name ≡ Some found) × ((put ≡ name) × IsLeftBy bytes answer found))
file_left files put name bytes left answer h = by (bytes_eq name put) refl
  where
    by : (same : Bool) → bytes_eq name put ≡ same
        → (file_at (with_file files put left) name ≡ file_at files name) ⊎ ((found : List ℕ) × (file_at (with_file files put left) name ≡ Some found) × ((put ≡ name) × IsLeftBy bytes answer found))
    by true e = inr (left, file_put files put name left ∙ ap (λ (same : Bool). cond same (Some left) (file_at files name)) e, (sym ((bytes_eq-Decides name put).0 e), h))
    by false e = inl (file_put files put name left ∙ ap (λ (same : Bool). cond same (Some left) (file_at files name)) e)

-- one call leaves a file as it is, or as its save left it
file_by_call : (old new : Files) (call : StoreCall) (name : List ℕ) → FilesGo old call new
    → (file_at new name ≡ file_at old name) ⊎ ((left : List ℕ) × (file_at new name ≡ Some left) × WasSaved (call ∷ []) name left)
file_by_call old new (Load other max answer) name h = inl (ap (λ files. file_at files name) h.0)
file_by_call old new (Save other bytes (Ok done)) name h = moved (file_left old other name bytes bytes (Ok done) refl)
  where
    moved : (file_at (with_file old other bytes) name ≡ file_at old name) ⊎ ((found : List ℕ) × (file_at (with_file old other bytes) name ≡ Some found) × ((other ≡ name) × (found ≡ bytes)))
        → (file_at new name ≡ file_at old name) ⊎ ((left : List ℕ) × (file_at new name ≡ Some left) × WasSaved (Save other bytes (Ok done) ∷ []) name left)
    moved (inl e) = inl (ap (λ files. file_at files name) h ∙ e)
    moved (inr (found, at, is)) = inr (found, ap (λ files. file_at files name) h ∙ at, inl is)
file_by_call old new (Save other bytes (Err save.Failed)) name (inl h) = inl (ap (λ files. file_at files name) h)
file_by_call old new (Save other bytes (Err save.Failed)) name (inr (count, h)) = moved (file_left old other name bytes (take count bytes) (Err save.Failed) (count, refl))
  where
    moved : (file_at (with_file old other (take count bytes)) name ≡ file_at old name)
        ⊎ ((found : List ℕ) × (file_at (with_file old other (take count bytes)) name ≡ Some found) × ((other ≡ name) × IsLeftBy bytes (Err save.Failed) found))
        → (file_at new name ≡ file_at old name) ⊎ ((left : List ℕ) × (file_at new name ≡ Some left) × WasSaved (Save other bytes (Err save.Failed) ∷ []) name left)
    moved (inl e) = inl (ap (λ files. file_at files name) h ∙ e)
    moved (inr (found, at, is)) = inr (found, ap (λ files. file_at files name) h ∙ at, inl is)
file_by_call old new (Save other bytes (Err save.Memory)) name h = inl (ap (λ files. file_at files name) h)

saved_here : (call : StoreCall) (calls : List StoreCall) (name left : List ℕ) → WasSaved (call ∷ []) name left → WasSaved (call ∷ calls) name left
saved_here (Load other max answer) calls name left h = absurd h
saved_here (Save other bytes answer) calls name left (inl h) = inl h
saved_here (Save other bytes answer) calls name left (inr h) = absurd h

saved_later : (call : StoreCall) (calls : List StoreCall) (name left : List ℕ) → WasSaved calls name left → WasSaved (call ∷ calls) name left
saved_later (Load other max answer) calls name left h = h
saved_later (Save other bytes answer) calls name left h = inr h

pub files_left : (old new : Files) (calls : List StoreCall) → Follows FilesGo old new calls → (name : List ℕ)
    → (file_at new name ≡ file_at old name) ⊎ ((left : List ℕ) × (file_at new name ≡ Some left) × WasSaved calls name left)
files_left old new [] h name = inl (ap (λ files. file_at files name) h)
files_left old new (call ∷ calls) (next, first, rest) name = by (files_left next new calls rest name) (file_by_call old next call name first)
  where
    by : (file_at new name ≡ file_at next name) ⊎ ((left : List ℕ) × (file_at new name ≡ Some left) × WasSaved calls name left)
        → (file_at next name ≡ file_at old name) ⊎ ((left : List ℕ) × (file_at next name ≡ Some left) × WasSaved (call ∷ []) name left)
        → (file_at new name ≡ file_at old name) ⊎ ((left : List ℕ) × (file_at new name ≡ Some left) × WasSaved (call ∷ calls) name left)
    by (inr (left, at, saved)) first = inr (left, at, saved_later call calls name left saved)
    by (inl e) (inl d) = inl (e ∙ d)
    by (inl e) (inr (left, at, saved)) = inr (left, e ∙ at, saved_here call calls name left saved)
