-- Why a netlist shows what its network shows.
use Rattle.std.proofs.Common.{◌≡◌, ℕ, zero, suc, ◌<◌, Bool, true}
use Rattle.std.proofs.Common.{List, arith}
use Rattle.circuit_model.specs.Names.{has}
use Rattle.circuit_model.specs.Runs.{Refines, value_in}
use Rattle.circuit_model.specs.Soundness.{latch_inputs}
use Rattle.circuit_model.specs.declared.circuit.Table.{Table}
use Rattle.circuit_model.specs.declared.circuit.Circuit.{Circuit}
use Rattle.circuit_laws.specs.Edits.{with_tables}
use Rattle.circuit_laws.specs.Ranks.{HasRank}
use Rattle.circuit_laws.specs.Same.{IsSame}
use Rattle.circuit_laws.proofs.Same.{same_where, same_refines}

-- a part of the signals, among them all outputs and what latches take, on which a circuit with
-- other tables has the same values, if it has them on what is of lower rank
pub record AgreesByRank (circuit : Circuit) (tables : List Table) (r : HasRank circuit.tables)
    (live : List ℕ → Type 0) : Type 0 where
  pub outputs : (name : List ℕ) → has circuit.outputs name ≡ true → live name
  pub latches : (name : List ℕ) → has (latch_inputs circuit) name ≡ true → live name
  pub step : (state row : List Bool) (signal : List ℕ) → live signal
      → ((other : List ℕ) → live other → r.rank other < r.rank signal
      → value_in circuit state row other ≡ value_in (with_tables circuit tables) state row
      other)
      → value_in circuit state row signal ≡ value_in (with_tables circuit tables) state row signal

pub agrees : (circuit : Circuit) (tables : List Table) (r : HasRank circuit.tables) (live : List ℕ
    → Type 0) → AgreesByRank circuit tables r live
    → (state row : List Bool) (signal : List ℕ) → live signal
    → value_in circuit state row signal ≡ value_in (with_tables circuit tables) state row signal
agrees circuit tables r live by state row signal is = below (suc (r.rank signal)) signal
    (omega arith) is
  where
    below : (n : ℕ) (signal : List ℕ) → r.rank signal < n → live signal
        → value_in circuit state row signal ≡ value_in (with_tables circuit tables) state row signal
    below zero signal low is = absurd (omega arith)
    below (suc n) signal low is = by.step state row signal is
        (λ other there lower. below n other (omega (arith, low, lower)) there)

pub agreeing_same : (circuit : Circuit) (tables : List Table) (r : HasRank circuit.tables)
    (live : List ℕ → Type 0) → AgreesByRank circuit tables r live
    → IsSame circuit (with_tables circuit tables)
agreeing_same circuit tables r live by =
    same_where circuit tables (λ state row a output among bound. agrees circuit tables r live by
    state row output (by.outputs output among))
    (λ state row a signal among. agrees circuit tables r live by state row signal
    (by.latches signal among))

pub agreeing_refines : (circuit : Circuit) (tables : List Table) (r : HasRank circuit.tables)
    (live : List ℕ → Type 0) → AgreesByRank circuit tables r live
    → Refines circuit (with_tables circuit tables)
agreeing_refines circuit tables r live by = same_refines circuit (with_tables circuit tables)
    (agreeing_same circuit tables r live by)
