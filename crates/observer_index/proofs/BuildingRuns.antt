-- Building by where it stops: a refusal by checks 1 to 5, or what building from the log comes to. Assumes nothing.
use Prim.Native.Nat.{ℕ}
use mathlib.Core.Path.{◌≡◌, refl}
use mathlib.Core.List.{List}
use lib.ListN.{length}
use Rattle.std.specs.Prelude.{Result, Err}
use Rattle.case_file.specs.Seen.{log_with}
use Rattle.definition.proofs.CheckLaws.{all_hold, skip_before, stop_before}
use Rattle.definition.proofs.OrderedLogs.{logged_ordered}
use Rattle.definition.specs.04-Checks.{accepts, in_order}
use Rattle.definition.specs.11-Layout.{log_part, observer_part, part}
use Rattle.definition.specs.15-Records.{log_of}
use Rattle.definition.specs.18-Admission.{checks_to_log}
use Rattle.definition.specs.35-Index.{index_of, index_room_checks, building_checks, lay, building}
use Rattle.definition.specs.48-Places.{OrderedLog}
use Rattle.observer_index.specs.Meanings.{BuiltAs}
use Rattle.words.specs.Meanings.{run_meant}
use Rattle.words.specs.declared.runs.Refusal.{Refusal}

-- The parts of a file that are its log.
pub log_is : (s : List ℕ) {rows observers : List ℕ} → rows ≡ part s log_part → observers ≡ part s observer_part → log_with rows observers ≡ log_of s
unfolding log_of
log_is s e f = rw (e, f)

pub parts_ordered : (s : List ℕ) {rows observers : List ℕ} → in_order (checks_to_log s) ≡ accepts tt → rows ≡ part s log_part → observers ≡ part s observer_part → OrderedLog (log_with rows observers)
parts_ordered s is e f = rw (log_is s e f) (logged_ordered s is)

pub built_refused : (s room : List ℕ) (r : Refusal) → run_meant {A = Unit {0}} (Err r) ≡ in_order (checks_to_log s) → BuiltAs (building s room) (Err r) room
unfolding building building_checks lay run_meant
built_refused s room r e = rw (← stop_before (checks_to_log s) (index_room_checks (log_of s) (length room)) e) record { answer = refl; room_is = refl }

pub built_logged :
    (s room : List ℕ) {rows observers after : List ℕ} {r : Result ℕ Refusal} → in_order (checks_to_log s) ≡ accepts tt → rows ≡ part s log_part → observers ≡ part s observer_part →
    BuiltAs (lay (in_order (index_room_checks (log_with rows observers) (length room))) (index_of (log_with rows observers)) room) r after → BuiltAs (building s room) r after
unfolding building building_checks
built_logged s room is e f h =
    rw (skip_before (checks_to_log s) (index_room_checks (log_of s) (length room)) (all_hold (checks_to_log s) is)) (rw (log_is s e f) at h)
