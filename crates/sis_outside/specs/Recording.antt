-- The record that a recording object keeps of the calls made on it. Source: the project's own
-- doubles of the outside. If memory runs out for a record, there is none any more, and nothing else
-- changes.
use Rattle.std.specs.Prelude.{◌≡◌, ◌⊎◌, ℕ, List, [], ◌∷◌, ◌++◌, map, Option, None, option_map, string_bytes, Result, Ok, Err}
use Rattle.std.specs.Global.{Vec}
use Rattle.sis_outside.specs.Calls.{StoreCall, Load, Save, TakeCall, PutCall, bytes_of, Follows}
use Rattle.sis_outside.specs.declared.recording.StoreEntry.{StoreEntry}
use Rattle.sis_outside.specs.declared.recording.StoreEntry.TheVariants as entry
use Rattle.sis_outside.specs.declared.recording.TakeEntry.{TakeEntry}
use Rattle.sis_outside.specs.declared.recording.PutEntry.{PutEntry}

-- the calls that entries hold
abbrev pub store_call : StoreEntry → StoreCall
store_call (entry.Load name max answer) = Load (string_bytes name) max (bytes_of answer)
store_call (entry.Save name bytes answer) = Save (string_bytes name) bytes.items answer

abbrev pub take_call : TakeEntry → TakeCall
take_call made = record { max = made.max; answer = bytes_of made.answer }

abbrev pub put_call : PutEntry → PutCall
put_call made = record { piece = made.piece.items; answer = made.answer }

-- the entries of a record, in order, if there is a record; and their calls
abbrev pub entries_in : {E : Type 0} → Option (Vec E) → Option (List E)
entries_in log = option_map (λ entries. entries.items) log

abbrev pub calls_in : {E C : Type 0} → (E → C) → Option (Vec E) → Option (List C)
calls_in call_of log = option_map (map call_of) (entries_in log)

-- a record grew by these calls, or memory ran out for it
abbrev pub IsRecorded : {C : Type 0} → Option (List C) → Option (List C) → List C → Type 0
IsRecorded before now calls = (now ≡ None) ⊎ (now ≡ option_map (λ log. log ++ calls) before)

-- an entry was appended to a record, or memory ran out for it
abbrev pub IsNoted : {E F : Type 0} → Option (Vec E) → Result E F → Option (Vec E) → Type 0
IsNoted before (Ok entry) now = IsRecorded (entries_in before) (entries_in now) (entry ∷ [])
IsNoted before (Err error) now = entries_in now ≡ None

-- a recording object makes a call: its record grew by exactly this call, and the object inside made
-- it
abbrev pub Records : {R S C : Type 0} → (R → Option (List C)) → (R → S) → (S → C → S → Type 0) → R → C → R → Type 0
Records log inner goes old call new =
    IsRecorded (log old) (log new) (call ∷ []) × goes (inner old) call (inner new)
