-- The tables before the first step are the definition's first state. Assumes nothing.
use Prim.Native.Nat.{ℕ}
use mathlib.Core.Path.{◌≡◌, ap, ◌∙◌, fun_ext}
use mathlib.Core.Bool.{false}
use lib.ListN.{replicate}
use Rattle.tables.specs.Sets.{left_of, left_in, marks}
use Rattle.tables.proofs.Bits.{labels_none}
use Rattle.tables.proofs.Assignments.{get_d_replicated}
use Rattle.definition.specs.22-Steps.{start_state}
use Rattle.steps.specs.WorkingTables.{state_of}

pub start_tables : (l c d : ℕ) → state_of (replicate l 0) (replicate c false) (replicate d false) ≡ start_state
unfolding state_of start_state marks left_in
start_tables l c d = λ i.
    record {
      left = fun_ext (λ k. ap left_of (get_d_replicated l 0 k) ∙ (λ j. record { rests = record { opens = labels_none j; cites = false }; used = false })) i;
      cited = fun_ext (get_d_replicated c false) i;
      discharged = fun_ext (get_d_replicated d false) i;
    }

pub start_state_lem : state_of (replicate 2048 0) (replicate 1024 false) (replicate 64 false) ≡ start_state
start_state_lem = start_tables 2048 1024 64
