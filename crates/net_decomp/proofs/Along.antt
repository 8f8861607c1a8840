-- Steps at one index, and from index to index: the networks they lead to, and when there is no
-- room.
use Rattle.std.proofs.Common.{◌≡◌, ℕ, ◌+◌, ◌<◌, ◌≤◌, ◌^◌, Err, Some, length, refl, sym, ap, ◌∙◌, subst, inl, inr, arith}
use Rattle.std.proofs.lemmas.Bool.{cases_order}
use Rattle.circuit_model.specs.Soundness.{IsSound}
use Rattle.circuit_model.specs.declared.circuit.Table.{Table}
use Rattle.circuit_model.specs.declared.circuit.Circuit.{Circuit}
use Rattle.circuit_laws.specs.Edits.{with_tables}
use Rattle.circuit_laws.proofs.Greedy.{reached_itself, reached_both, reached_more}
use Rattle.net_core.specs.declared.adding.AddFault.{AddFault}
use Rattle.net_core.specs.declared.adding.AddFault.TheVariants.{NodeLimit, Memory}
use Rattle.net_decomp.specs.Partings.{Parting}
use Rattle.net_decomp.specs.Rules.{IsDone, IsDecomposable}
use Rattle.net_decomp.specs.Decomposed.{IsNext, IsStep, IsDecomposed, IsFull}
use Rattle.net_decomp.specs.declared.rule.Rule.{Rule}
use Rattle.net_decomp.proofs.PartedSteps.{step_extended}
use Rattle.net_decomp.proofs.Bounded.{HadRoom, step_room}
use Rattle.net_work.specs.Placed.{Placed, circuit_of, table_at}
use Rattle.net_decomp.specs.Decompose.{HasDecomposed}
use Rattle.net_decomp.specs.Cursor.{IsPartedAt, IsOverAt, AreDone, IsAlong}
use Rattle.net_work.proofs.Indexed.{place_within, all_standing}
use Rattle.net_decomp.proofs.Slots.{among}

-- the table at an index is next, if those before it are done
next_at_place : (rule : Rule) (place : ℕ) (now : Placed) (table : Table) (parting : Parting) → AreDone rule place now.slots → table_at now.slots place ≡ Some table → IsDecomposable rule table parting
    → IsNext rule (circuit_of now) table parting
next_at_place rule place now table parting done there due =
    let at = among (IsDone rule) now.slots place table there done in
    record { before = at.before; after = at.after; is = at.is; pass = at.all; fails = due }

parted_step : (rule : Rule) (place : ℕ) (before now : Placed) → AreDone rule place before.slots → IsPartedAt rule place before now → IsStep rule (circuit_of before) (circuit_of now)
parted_step rule place before now done parted = record {
  table = parted.table;
  parting = parted.parting;
  next = next_at_place rule place before parted.table parted.parting done parted.there parted.due;
  parted = parted.parted;
}

pub along_begin : (rule : Rule) (place : ℕ) (now : Placed) → IsSound (circuit_of now) → AreDone rule place now.slots → IsAlong rule place now now
along_begin rule place now sound done = record {
  reached = reached_itself (IsStep rule) (circuit_of now);
  done = done;
  sound = sound;
  bounds = λ bounds. bounds;
}

-- if there are fewer than 2^29 tables and latches before a step, there are afterwards
room_nodes : (circuit new : Circuit) → new ≡ with_tables circuit new.tables → HadRoom circuit new → length circuit.tables + length circuit.latches < 2 ^ 29 → length new.tables + length new.latches < 2 ^ 29
room_nodes circuit new rest (inl same) few =
    let latches : length new.latches ≡ length circuit.latches = ap (λ (c : Circuit). length c.latches) rest in
    let others : length new.dont_care ≡ length circuit.dont_care = ap (λ (c : Circuit). length c.dont_care) rest in
    omega (arith, same, latches, others, few)
room_nodes circuit new rest (inr room) few = omega (arith, room)

-- one more step
pub along_more : (rule : Rule) (place : ℕ) (before now new : Placed) → IsAlong rule place before now → IsPartedAt rule place now new → IsAlong rule place before new
along_more rule place before now new along parted =
    let step = parted_step rule place now new along.done parted in
    record {
      reached = reached_more (IsStep rule) (circuit_of before) (circuit_of now) (circuit_of new) along.reached step;
      done = λ at table below here. along.done at table below (sym (parted.others at below) ∙ here);
      sound = (step_extended rule (circuit_of now) (circuit_of new) along.sound step).change.sound;
      bounds = λ bounds. record {
        nodes = room_nodes (circuit_of now) (circuit_of new) (step_extended rule (circuit_of now) (circuit_of new) along.sound step).change.rest
            (step_room rule (circuit_of now) (circuit_of new) step) (along.bounds bounds).nodes;
        tables = parted.bounded (along.bounds bounds).tables;
      };
    }

-- one more index
pub along_done : (rule : Rule) (place : ℕ) (before now : Placed) → IsAlong rule place before now → ((table : Table) → table_at now.slots place ≡ Some table → IsDone rule table) → IsAlong rule (place + 1) before now
along_done rule place before now along this = record {
  reached = along.reached;
  done = λ at table below here. elim (cases_order at place) as (λ _. IsDone rule table) [
    | inl same ↦ this table (subst (λ (i : ℕ). table_at now.slots i ≡ Some table) same here)
    | inr (inl lower) ↦ along.done at table lower here
    | inr (inr higher) ↦ absurd (omega (arith, below, higher))
  ];
  sound = along.sound;
  bounds = along.bounds;
}

pub along_both : (rule : Rule) (place later : ℕ) (before now new : Placed) → IsAlong rule place before now → IsAlong rule later now new → IsAlong rule later before new
along_both rule place later before now new first second = record {
  reached = reached_both (IsStep rule) (circuit_of before) (circuit_of now) (circuit_of new) first.reached second.reached;
  done = second.done;
  sound = second.sound;
  bounds = λ bounds. second.bounds (first.bounds bounds);
}

-- no room
pub along_over : (rule : Rule) (place : ℕ) (before now : Placed) → IsAlong rule place before now → IsOverAt rule place now → IsFull rule (circuit_of before)
along_over rule place before now along over = record {
  last = circuit_of now;
  reached = along.reached;
  stops = record {
    table = over.table;
    parting = over.parting;
    next = next_at_place rule place now over.table over.parting along.done over.there over.due;
    over = over.over;
  };
}

pub along_full : (rule : Rule) (place : ℕ) (before now : Placed) → IsAlong rule place before now → IsFull rule (circuit_of now) → IsFull rule (circuit_of before)
along_full rule place before now along full = record {
  last = full.last;
  reached = reached_both (IsStep rule) (circuit_of before) (circuit_of now) full.last along.reached full.reached;
  stops = full.stops;
}

-- all indices
pub along_all : (rule : Rule) (place : ℕ) (before now : Placed) → IsAlong rule place before now → length now.slots ≤ place → IsDecomposed rule (circuit_of before) (circuit_of now)
along_all rule place before now along past = record {
  reached = along.reached;
  done = all_standing (IsDone rule) now.slots (λ at table here. along.done at table (let within : at < length now.slots = place_within now.slots at table here in omega (arith, past, within)) here);
}

pub full_told : (rule : Rule) (old now : Circuit) (fault : AddFault) → now ≡ old → (fault ≡ NodeLimit → IsFull rule now) → HasDecomposed rule old (Err fault)
full_told rule old now NodeLimit same full = subst (IsFull rule) same (full refl)
full_told rule old now Memory same full = tt
