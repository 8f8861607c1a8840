-- Calls on the objects of the outside, each with its answer; how a call, and a list of calls,
-- changes what an object shows and counts. Source: the project's own rule for the outside, after
-- read(2), write(2) and their errors in POSIX.
use Rattle.std.specs.Prelude.{◌≡◌, ℕ, ◌+◌, ◌<◌, ◌≤◌, ◌↔◌, ◌⊎◌, Bool, true, false, ◌||◌, IsTrue, List, [], ◌∷◌, ◌++◌, length, take, drop, Option, Some, None, Result, Ok, Err}
use Rattle.std.specs.Global.{Vec}
use Rattle.std.specs.List.{AllByRecursion}
use Rattle.sis_outside.specs.Counts.{Rose}
use Rattle.sis_outside.specs.Files.{Files, file_at, with_file}
use Rattle.sis_outside.specs.declared.store.LoadFault.{LoadFault}
use Rattle.sis_outside.specs.declared.store.LoadFault.TheVariants as load
use Rattle.sis_outside.specs.declared.store.SaveFault.{SaveFault}
use Rattle.sis_outside.specs.declared.store.SaveFault.TheVariants as save
use Rattle.sis_outside.specs.declared.source.TakeFault.{TakeFault}
use Rattle.sis_outside.specs.declared.source.TakeFault.TheVariants as source
use Rattle.sis_outside.specs.declared.sink.PutFault.{PutFault}
use Rattle.sis_outside.specs.declared.sink.PutFault.TheVariants as sink

-- the answer of a call that returns bytes, as a list of bytes
abbrev pub bytes_of : {F : Type 0} → Result (Vec ℕ) F → Result (List ℕ) F
bytes_of (Ok bytes) = Ok bytes.items
bytes_of (Err fault) = Err fault

-- a call on a store: a load of at most `max` bytes, or a save
pub data StoreCall : Type 0 where
  Load : (name : List ℕ) (max : ℕ) (answer : Result (List ℕ) LoadFault) → StoreCall
  Save : (name bytes : List ℕ) (answer : Result (Unit {0}) SaveFault) → StoreCall

-- a take of at most `max` bytes from a source
pub record TakeCall : Type 0 where
  pub max : ℕ
  pub answer : Result (List ℕ) TakeFault

-- a write of a piece into a sink
pub record PutCall : Type 0 where
  pub piece : List ℕ
  pub answer : Result (Unit {0}) PutFault

-- whether a call answers Failed, or Missing
abbrev pub load_failed : Result (List ℕ) LoadFault → Bool
load_failed (Err load.Failed) = true
load_failed other = false

abbrev pub store_failed : StoreCall → Bool
store_failed (Load name max answer) = load_failed answer
store_failed (Save name bytes (Err save.Failed)) = true
store_failed (Save name bytes other) = false

abbrev pub load_missed : Result (List ℕ) LoadFault → Bool
load_missed (Err load.Missing) = true
load_missed other = false

abbrev pub store_missed : StoreCall → Bool
store_missed (Load name max answer) = load_missed answer
store_missed (Save name bytes answer) = false

abbrev pub is_take_failed : Result (List ℕ) TakeFault → Bool
is_take_failed (Err source.Failed) = true
is_take_failed other = false

abbrev pub take_failed : TakeCall → Bool
take_failed call = is_take_failed call.answer

abbrev pub is_put_failed : Result (Unit {0}) PutFault → Bool
is_put_failed (Err sink.Failed) = true
is_put_failed other = false

abbrev pub put_failed : PutCall → Bool
put_failed call = is_put_failed call.answer

-- a count rises if the event happened, and stays if it did not
abbrev pub Counted : Bool → ℕ → ℕ → Type 0
Counted true before now = Rose before now
Counted false before now = now ≡ before

-- what a load of at most `max` bytes answers, given the file of the name, or none
abbrev pub Tells : Option (List ℕ) → ℕ → Result (List ℕ) LoadFault → Type 0
Tells file max (Ok bytes) = file ≡ Some bytes
Tells file max (Err load.Missing) = file ≡ None
Tells file max (Err (load.TooLong reached)) =
    (bytes : List ℕ) × (file ≡ Some bytes) × (max < length bytes)
Tells file max (Err load.Failed) = Unit {0}
Tells file max (Err load.Memory) = Unit {0}

-- the files after a call: a load changes none, a save sets its file; after a failure they are as
-- before, or the file has a prefix of the bytes
abbrev pub FilesGo : Files → StoreCall → Files → Type 0
FilesGo old (Load name max answer) new = (new ≡ old) × Tells (file_at old name) max answer
FilesGo old (Save name bytes (Ok done)) new = new ≡ with_file old name bytes
FilesGo old (Save name bytes (Err save.Failed)) new =
    (new ≡ old) ⊎ ((count : ℕ) × (new ≡ with_file old name (take count bytes)))
FilesGo old (Save name bytes (Err save.Memory)) new = new ≡ old

-- the bytes left after a take: the piece was in front of them, and is empty exactly at the end; a
-- failure takes off at most `max` bytes
abbrev pub TakenOff : List ℕ → ℕ → Result (List ℕ) TakeFault → List ℕ → Type 0
TakenOff old max (Ok piece) new = (old ≡ piece ++ new) × (piece ≡ [] ↔ old ≡ [])
TakenOff old max (Err source.Failed) new = (count : ℕ) × (count ≤ max) × (new ≡ drop count old)
TakenOff old max (Err source.Memory) new = new ≡ old

abbrev pub LeftGoes : List ℕ → TakeCall → List ℕ → Type 0
LeftGoes old call new = TakenOff old call.max call.answer new

-- the bytes written after a put: the piece follows the earlier ones; after a failure, a prefix of
-- it
abbrev pub PutBehind : List ℕ → List ℕ → Result (Unit {0}) PutFault → List ℕ → Type 0
PutBehind old piece (Ok done) new = new ≡ old ++ piece
PutBehind old piece (Err sink.Failed) new = (count : ℕ) × (new ≡ old ++ take count piece)
PutBehind old piece (Err sink.Memory) new = new ≡ old

abbrev pub WrittenGoes : List ℕ → PutCall → List ℕ → Type 0
WrittenGoes old call new = PutBehind old call.piece call.answer new

-- a load returns no more bytes than were asked for, and reports for a longer file one more than
-- that
abbrev pub IsLoadWithin : ℕ → Result (List ℕ) LoadFault → Type 0
IsLoadWithin max (Ok bytes) = length bytes ≤ max
IsLoadWithin max (Err (load.TooLong reached)) = reached ≡ max + 1
IsLoadWithin max (Err other) = Unit {0}

abbrev pub IsStoreWithin : StoreCall → Type 0
IsStoreWithin (Load name max answer) = IsLoadWithin max answer
IsStoreWithin (Save name bytes answer) = Unit {0}

-- a take returns no more bytes than were asked for
abbrev pub IsPieceWithin : ℕ → Result (List ℕ) TakeFault → Type 0
IsPieceWithin max (Ok piece) = length piece ≤ max
IsPieceWithin max (Err fault) = Unit {0}

abbrev pub IsTakeWithin : TakeCall → Type 0
IsTakeWithin call = IsPieceWithin call.max call.answer

-- calls, one after the other, lead from one state to another; each goes by the relation of one call
abbrev pub Follows : {X C : Type 0} → (X → C → X → Type 0) → X → X → List C → Type 0
Follows goes old new [] = new ≡ old
Follows {X} goes old new (call ∷ calls) = (next : X) × goes old call next × Follows goes next new calls

-- whether some call is of a kind
abbrev pub any_of : {C : Type 0} → (C → Bool) → List C → Bool
any_of is [] = false
any_of is (call ∷ calls) = is call || any_of is calls

-- What an object does by a call, or by a list of calls: whether it shows its contents does not
-- change; if it shows them, they change as the call says; and its count of faults rises exactly if
-- a call failed.
pub record Went {S X C : Type 0} (tells : S → Bool) (shown : S → X) (faults : S → ℕ) (goes : X → C → X → Type 0) (failed : C → Bool) (old : S) (call : C) (new : S) : Type 0 where
  pub told : tells new ≡ tells old
  pub contents : IsTrue (tells old) → goes (shown old) call (shown new)
  pub counted : Counted (failed call) (faults old) (faults new)

-- one call of a store: its count of misses rises exactly with a miss, and, whether files are shown
-- or not, the answer is within what was asked for
abbrev pub StoreKeeps : {S : Type 0} → (S → Bool) → (S → Files) → (S → ℕ) → (S → ℕ) → S → StoreCall → S → Type 0
StoreKeeps tells files faults misses old call new =
    Went tells files faults FilesGo store_failed old call new
    × (Counted (store_missed call) (misses old) (misses new) × IsStoreWithin call)

-- one call of a source, and one of a sink
abbrev pub SourceKeeps : {S : Type 0} → (S → Bool) → (S → List ℕ) → (S → ℕ) → S → TakeCall → S → Type 0
SourceKeeps tells left faults old call new =
    Went tells left faults LeftGoes take_failed old call new × IsTakeWithin call

abbrev pub SinkKeeps : {S : Type 0} → (S → Bool) → (S → List ℕ) → (S → ℕ) → S → PutCall → S → Type 0
SinkKeeps tells written faults = Went tells written faults WrittenGoes put_failed

-- a list of calls, one after the other: the same for all of them together
abbrev pub StoreWent : {S : Type 0} → (S → Bool) → (S → Files) → (S → ℕ) → (S → ℕ) → S → S → List StoreCall → Type 0
StoreWent tells files faults misses old new calls =
    Went tells files faults (λ from made to. Follows FilesGo from to made) (any_of store_failed) old calls new
    × (Counted (any_of store_missed calls) (misses old) (misses new) × AllByRecursion IsStoreWithin calls)

abbrev pub SourceWent : {S : Type 0} → (S → Bool) → (S → List ℕ) → (S → ℕ) → S → S → List TakeCall → Type 0
SourceWent tells left faults old new calls =
    Went tells left faults (λ from made to. Follows LeftGoes from to made) (any_of take_failed) old calls new
    × AllByRecursion IsTakeWithin calls

abbrev pub SinkWent : {S : Type 0} → (S → Bool) → (S → List ℕ) → (S → ℕ) → S → S → List PutCall → Type 0
SinkWent tells written faults old new calls =
    Went tells written faults (λ from made to. Follows WrittenGoes from to made) (any_of put_failed) old calls new

-- what a save of these bytes may leave under its name: all of them if it is done, a prefix if it
-- failed
abbrev pub IsLeftBy : List ℕ → Result (Unit {0}) SaveFault → List ℕ → Type 0
IsLeftBy bytes (Ok done) left = left ≡ bytes
IsLeftBy bytes (Err save.Failed) left = (count : ℕ) × (left ≡ take count bytes)
IsLeftBy bytes (Err save.Memory) left = ⊥

-- some save among the calls may have left these bytes under the name
abbrev pub WasSaved : List StoreCall → List ℕ → List ℕ → Type 0
WasSaved [] name left = ⊥
WasSaved (Load other max answer ∷ calls) name left = WasSaved calls name left
WasSaved (Save other bytes answer ∷ calls) name left =
    ((other ≡ name) × IsLeftBy bytes answer left) ⊎ WasSaved calls name left
