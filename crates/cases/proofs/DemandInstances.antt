-- The theorems of demands 1 and 2 and of the requests on desk cases and examples of the tables of refusals, computed: their hypotheses can be met. Those of demand 3 are met in definition's specs/55-HiddenRows and proofs/NotAside, and the last one here.
-- Assumes nothing.
use Prim.Native.Nat.{ℕ, zero, suc, ◌≤◌, ◌<◌}
use mathlib.Core.Bool.{true}
use mathlib.Core.Logic.{inr, ⊎_elim}
use mathlib.Core.Path.{◌≡◌, refl, sym, ap, ◌∙◌}
use mathlib.Core.List.{List, [], ◌∷◌}
use native.Mathlib.Omega.{arith}
use lib.ListN.{length, get_or, take}
use lib.Seq.{take_all}
use lib.Dec.{ltb}
use borrow.Author.Tests.{ltb-true}
use Rattle.definition.proofs.AdmissionLaws.{admitted_parted}
use Rattle.definition.proofs.CheckLaws.{all_hold}
use Rattle.definition.proofs.CitedLists.{pass_lists}
use Rattle.definition.proofs.IndexHolds.{index_holds}
use Rattle.definition.proofs.IndexPromises.{building_refused, index_built, through_exactly, through_as_built, built_is_enough, through_shows_no_row}
use Rattle.definition.proofs.OrderedLogs.{index_entries}
use Rattle.definition.proofs.NoneOwed.{none_owed_exactly}
use Rattle.definition.proofs.PassesExactly.{passes_exactly, refused_for_room}
use Rattle.definition.proofs.RangeLaws.{all_true}
use Rattle.definition.proofs.Refining.{same_steps, holds_without_log}
use Rattle.definition.proofs.RefiningPlaces.{tells_refining}
use Rattle.definition.proofs.RefusalTable.{refused_by_table}
use Rattle.definition.proofs.SizeColumns.{tells_sizes, admitted_told, size_is_rows, sizes_fit}
use Rattle.definition.proofs.StrayPlaces.{tells_stray, place_by_book}
use Rattle.definition.proofs.StruckFile.{strikes_unseen}
use Rattle.definition.specs.01-Words.{absent}
use Rattle.definition.specs.02-Ranges.{all}
use Rattle.definition.specs.03-Lists.{join_all}
use Rattle.definition.specs.04-Checks.{single, each, Holds, Fails, AllHold, here, later, accepts, refuses, in_order}
use Rattle.definition.specs.13-Formulas.{implies, each_use, once, nodes}
use Rattle.definition.specs.14-Book.{book_rows, tree_in, book, size_column, rows_of}
use Rattle.definition.specs.15-Records.{Log, log_of, step_formula}
use Rattle.definition.specs.17-Case.{case_of}
use Rattle.definition.specs.18-Admission.{Parted, checks_to_log, admission_checks, admission}
use Rattle.definition.specs.19-Rewriting.{strike}
use Rattle.definition.specs.22-Steps.{used_in, premises_of, misshapen, bad_premises, step_checks, state_at}
use Rattle.definition.specs.31-Outcome.{last_step, unused_step, open_label, owing_checks, final_state, refused, outcome}
use Rattle.definition.specs.35-Index.{index_of, building, outcome_through}
use Rattle.definition.specs.42-Account.{DutiesKept}
use Rattle.definition.specs.44-Demands.{StepsHold, InTable, in_step, in_end, OwesNothing, Passes, Justified, Needs, Lists, HeaderOfBytes}
use Rattle.definition.specs.46-Requests.{StrayTold, RefiningTold, AccountOf, RefinesWithoutLog, SizeHeld, ColumnAfter}
use Rattle.definition.specs.47-Indexed.{IsIndex, AsBuilt, FileIndexRoom}
use Rattle.definition.specs.51-Files.{not_due, creates_row}
use Rattle.definition.specs.52-Evaluation.{evaluated}
use Rattle.definition.specs.53-Desk.{lent, grant_with, grant, visit, twice, built}
use Rattle.definition.specs.55-HiddenRows.{two_rows, one_way, other_way, ways_alike}
use Rattle.definition.proofs.NotAside.{ways_made}
use Rattle.definition.specs.56-SeenRows.{four_rows, rows_admitted}
use Rattle.definition.specs.58-Table.{grant_byte, grant_and, later_premise, supposed_owed, built_table}
use Rattle.definition.specs.59-Sizes.{lent_column, doubled, with_large, with_repeat, built_sizes}
use Rattle.definition.specs.60-Indexes.{shared, shared_index, index_room, built_indexes}
use Rattle.definition.specs.62-StepFaults.{line, reasoned, refining_by, refining, tautology_at, nested}
use Rattle.cases.specs.62-MoreStepFaults.{stray, built_more_steps}

-- Demand 1: what a refusal by 2, 4, 13, 17, 21 and 23 says.
pub part_told : InTable (grant_byte 4 37) 3 2 0
unfolding built_table
part_told = (refused_by_table (grant_byte 4 37) lent 2 0).0 refl

pub repeat_told : InTable (grant_and (creates_row 0 16384 ∷ []) (0 ∷ []) [] [] []) 3 4 5
unfolding built_table
repeat_told = (refused_by_table (grant_and (creates_row 0 16384 ∷ []) (0 ∷ []) [] [] []) lent 4 5).0 refl

pub premise_told : InTable later_premise 3 13 1
unfolding built_table
premise_told = (refused_by_table later_premise lent 13 1).0 refl

pub second_use_told : InTable (twice each_use (not_due each_use 0 ∷ []) 0) 3 17 5
unfolding built
second_use_told = (refused_by_table (twice each_use (not_due each_use 0 ∷ []) 0) lent 17 5).0 refl

pub open_label_told : InTable supposed_owed 3 21 0
unfolding built_table
open_label_told = (refused_by_table supposed_owed lent 21 0).0 refl

pub short_room_told : InTable grant 0 23 1
unfolding built
short_room_told = (refused_by_table grant [] 23 1).0 refl

-- Refusals by 27: the lowest of two rows, of which a walk from the left meets the other first; in two files with the same formulas, whose owner steps have the same formula and other premises.
pub lowest_told : StrayTold (stray 5 (2 ∷ []) 14) 4
unfolding built_more_steps
lowest_told = tells_stray (stray 5 (2 ∷ []) 14) lent 4 refl

pub lowest_told_too : StrayTold (stray 5 (0 ∷ []) 14) 4
unfolding built_more_steps
lowest_told_too = tells_stray (stray 5 (0 ∷ []) 14) lent 4 refl

-- So they tell one row: the step refused can only be step 1, and its formula is 14.
first_formula : (k : ℕ) → k < 2 → ((case_of (stray 5 (2 ∷ []) 14)).step k).rule ≡ 5 → step_formula (stray 5 (2 ∷ []) 14) k ≡ 14
unfolding built_more_steps
first_formula zero lt r = absurd (omega (arith, let z : ◌≡◌ {A = ℕ} 0 5 = r in z))
first_formula (suc zero) lt r = refl
first_formula (suc (suc k)) lt r = absurd (omega arith)

second_formula : (k : ℕ) → k < 2 → ((case_of (stray 5 (0 ∷ []) 14)).step k).rule ≡ 5 → step_formula (stray 5 (0 ∷ []) 14) k ≡ 14
unfolding built_more_steps
second_formula zero lt r = absurd (omega (arith, let z : ◌≡◌ {A = ℕ} 0 5 = r in z))
second_formula (suc zero) lt r = refl
second_formula (suc (suc k)) lt r = absurd (omega arith)

pub one_row_told : (p q : ℕ) → StrayTold (stray 5 (2 ∷ []) 14) p → StrayTold (stray 5 (0 ∷ []) 14) q → p ≡ q
unfolding built_more_steps
one_row_told p q a b =
    place_by_book (stray 5 (2 ∷ []) 14) (stray 5 (0 ∷ []) 14) p q a b refl
    (first_formula a.step a.at.there a.owner ∙ sym (second_formula b.step b.at.there b.owner))

-- A refusal by 28: at the outer of two steps, for a row far above.
pub refining_told : RefiningTold (nested (line 2 1 0 [])) 9
unfolding built_more_steps
refining_told = tells_refining (nested (line 2 1 0 [])) lent 9 refl

-- What a step refines by holds without the log: a case that refines by a tautology passes, and step 4, the first premise of step 5, is an account in the file without log, readings and obligations.
pub refines_by : RefinesWithoutLog (refining (tautology_at 2)) 5
unfolding built_more_steps
refines_by = holds_without_log (refining (tautology_at 2)) lent (0, 1, refl) 5 (omega arith) refl

abbrev bare : List ℕ
bare = reasoned 7 [] [] [] [] (refining_by (tautology_at 2))

full_parted : Parted (refining (tautology_at 2))
unfolding built_more_steps
full_parted = admitted_parted (refining (tautology_at 2)) refl

bare_parted : Parted bare
unfolding built_more_steps
bare_parted = admitted_parted bare refl

first_is : refines_by.refines.first ≡ 4
unfolding built_more_steps
first_is = let e : 4 ∷ 1 ∷ [] ≡ refines_by.refines.first ∷ refines_by.refines.second ∷ [] = refines_by.refines.premises_are in cc

pub holds_in_bare : AccountOf (case_of bare) refines_by.refines.first (implies refines_by.refines.from refines_by.refines.to) refines_by.steps
unfolding built_more_steps
holds_in_bare =
    refines_by.account bare (record { parted = bare_parted; agent = refl; formulas = refl; labels = refl })
    (same_steps (refining (tautology_at 2)) bare full_parted bare_parted refl refl refl refines_by.steps (λ j m. omega (arith, refines_by.above j m, first_is)))

-- The other way: checks 1 to 11 and all of step 0 hold, at step 1 check 12 holds and 13 fails; so 13 is told, with step 1.
pub premise_fails : InTable later_premise 3 13 1
unfolding built_table
premise_fails =
    let c = case_of later_premise in
    let first : AllHold (step_checks c 0 (state_at c 0)) = all_hold (step_checks c 0 (state_at c 0)) refl in
    let shape : Holds (single 12 1 (misshapen c 1)) = refl in
    let fails : Fails (single 13 1 (bad_premises (used_in (state_at c 1)) 1 (premises_of c 1))) 13 1 = (refl, refl, refl) in
    in_step {k = 1} (all_hold (admission_checks later_premise) refl) (all_hold (owing_checks c) refl) (omega arith) (only_first first) (later shape (here fails))
  where
    only_first : AllHold (step_checks (case_of later_premise) 0 (state_at (case_of later_premise) 0)) → StepsHold (case_of later_premise) 1
    only_first h zero lt = h
    only_first h (suc j) lt = absurd (omega arith)

pub premise_refused : (outcome later_premise lent).verdict ≡ refused 13 1
premise_refused = (refused_by_table later_premise lent 13 1).1 premise_fails

-- And of the end: all checks of the one step hold, 20 holds and 21 fails at label 0.
pub label_fails : InTable supposed_owed 3 21 0
unfolding built_table
label_fails =
    let c = case_of supposed_owed in
    let used : Holds (each 20 (last_step c) (unused_step (final_state c))) = λ k lt. absurd (omega arith) in
    let fails : Fails (each 21 c.labels (open_label c (final_state c))) 21 0 = (refl, (omega arith, refl, λ q lt. absurd (omega arith))) in
    in_end (all_hold (admission_checks supposed_owed) refl) (all_hold (owing_checks c) refl) (omega arith) (only_step (all_hold (step_checks c 0 (state_at c 0)) refl)) (later used (here fails))
  where
    only_step : AllHold (step_checks (case_of supposed_owed) 0 (state_at (case_of supposed_owed) 0)) → StepsHold (case_of supposed_owed) (case_of supposed_owed).steps
    only_step h zero lt = h
    only_step h (suc j) lt = absurd (omega arith)

pub label_refused : (outcome supposed_owed lent).verdict ≡ refused 21 0
label_refused = (refused_by_table supposed_owed lent 21 0).1 label_fails

-- Demand 2: the desk's passes are justified.
pub grant_justified : Justified grant
unfolding built
grant_justified = ((passes_exactly grant lent).0 (0, 1, refl)).0

pub visit_justified : Justified (visit (0 ∷ []))
unfolding built
visit_justified = ((passes_exactly (visit (0 ∷ [])) lent).0 (0, 1, refl)).0

pub one_duty_justified : Justified (twice once (not_due once 0 ∷ []) 0)
unfolding built
one_duty_justified = ((passes_exactly (twice once (not_due once 0 ∷ []) 0) lent).0 (1, 1, refl)).0

-- Twice with two obligations needs three entries. It passes in a room of just so many, and in one that is an entry short it is refused by 23 with that number.
abbrev two_duties : List ℕ
two_duties = twice each_use (not_due each_use 0 ∷ not_due each_use 0 ∷ []) 1

pub two_duties_short : Justified two_duties × Needs (case_of two_duties) 3 × (2 < 3)
unfolding built
two_duties_short = (refused_for_room two_duties (901 ∷ 902 ∷ []) 3).0 refl

pub two_duties_fit : Passes two_duties lent
two_duties_fit = (passes_exactly two_duties lent).1 (two_duties_short.0, 3, two_duties_short.1, omega arith)

-- Without computing: in every shorter room.
pub two_duties_refused : (room : List ℕ) → length room < 3 → (outcome two_duties room).verdict ≡ refused 23 3
two_duties_refused room short = (refused_for_room two_duties room 3).1 (two_duties_short.0, two_duties_short.1, short)

-- What it writes: both obligations and the row.
pub two_duties_lists : Lists two_duties lent 2 1
unfolding built
two_duties_lists = pass_lists two_duties lent 2 1 refl

-- Creator owes nothing: it is admitted, has no steps, and its duties are kept, for there are none. With one that has expired and was done it stands in DutyInstances.
abbrev creator : List ℕ
creator = grant_with 0 0 0 0 [] []

pub creator_owes_nothing : (admission creator ≡ accepts tt) × OwesNothing (case_of creator) × DutiesKept (case_of creator)
unfolding built
creator_owes_nothing = (none_owed_exactly creator lent).0 refl

-- Request 4: a column in which the largest size is held, and the columns where 3 and 4 refuse.
seven_rows : ltb 6 (book_rows (join_all doubled)) ≡ true
unfolding evaluated built_sizes
seven_rows = refl

pub largest_held : SizeHeld (join_all doubled) (size_column (join_all doubled) lent_column) 6
unfolding evaluated built_sizes
largest_held = (admitted_told (join_all doubled) lent_column refl refl).held 6 (ltb-true 6 _ seven_rows)

pub largest_is : get_or (size_column (join_all doubled) lent_column) 6 0 ≡ 64
unfolding evaluated built_sizes
largest_is = refl

pub largest_fits : (1 ≤ nodes (tree_in (book (join_all doubled)) 6)) × (nodes (tree_in (book (join_all doubled)) 6) ≤ 64)
largest_fits = sizes_fit (join_all doubled) 6 largest_held.row

pub largest_rows : nodes (tree_in (book (join_all doubled)) 6) ≡ length (rows_of (join_all doubled) 6)
largest_rows = size_is_rows (join_all doubled) 6 largest_held.row

pub sizes_before_bad : ColumnAfter (join_all with_large) lent_column (size_column (join_all with_large) lent_column) (refuses 3 7)
unfolding evaluated built_sizes
sizes_before_bad = (tells_sizes (join_all with_large) lent_column _ refl).1 refl

pub sizes_with_repeat : ColumnAfter (join_all with_repeat) lent_column (size_column (join_all with_repeat) lent_column) (refuses 4 7)
unfolding evaluated built_sizes
sizes_with_repeat = (tells_sizes (join_all with_repeat) lent_column _ refl).1 refl

-- Request 5: the index of a log of four rows, which has 15 entries; a room that just fits, and one an entry short; a check through it, of its own agent and of one that observes none, and through none.
pub shared_logged : in_order (checks_to_log (shared 0 4 [] 0)) ≡ accepts tt
unfolding built_indexes
shared_logged = refl

pub shared_entries : length (index_of (log_of (shared 0 4 [] 0))) ≤ 16385
shared_entries = (index_entries (shared 0 4 [] 0) shared_logged).1

pub shared_holds : IsIndex (log_of (shared 0 4 [] 0)) shared_index
unfolding built_indexes
shared_holds = (index_holds (log_of (shared 0 4 [] 0)) shared_index).1 refl

pub shared_built : take 15 (building (shared 0 4 [] 0) (index_room 17)).room ≡ index_of (log_of (shared 0 4 [] 0))
unfolding built_indexes
shared_built = (index_built (shared 0 4 [] 0) (index_room 17) 15 refl).2

pub shared_short : length (index_room 14) < 15
unfolding built_indexes
shared_short = ((building_refused (shared 0 4 [] 0) (index_room 14) 29 15).1.0 refl).2

pub no_index_refused : AsBuilt (log_of (shared 0 4 [] 0)) [] → ⊥
unfolding built_indexes
no_index_refused = (((through_exactly (shared 0 4 [] 0) [] lent).0 0).0 refl).1

pub other_agent_through : outcome_through (shared 7 4 [] 0) (building (shared 0 4 [] 0) (index_room 17)).room lent ≡ outcome (shared 7 4 [] 0) lent
unfolding built_indexes
other_agent_through = built_is_enough (shared 0 4 [] 0) (shared 7 4 [] 0) (index_room 17) lent 15 refl refl

-- Two files that are alike to the agent and have different indexes: row 1, unseen, is observed by 1 in the one, by 1 and 2 in the other.
pub other_index : index_of (log_of (one_way 0 0)) ≡ index_of (log_of (other_way 4 0)) → ⊥
unfolding built two_rows
other_index e = let z : ◌≡◌ {A = ℕ} 2 3 = ap (λ (l : List ℕ). get_or l 0 0) e in omega (arith, z)

-- A log's own index is as built.
own_index : (g : Log) → AsBuilt g (index_of g)
own_index g = take_all (length (index_of g)) (index_of g) (omega arith)

pub alike_through :
    outcome_through (one_way 0 0) (index_of (log_of (one_way 0 0))) lent ≡ outcome_through (other_way 4 0) (index_of (log_of (other_way 4 0))) lent
alike_through =
    let one : FileIndexRoom = record { file = one_way 0 0; index = index_of (log_of (one_way 0 0)); room = lent } in
    let other : FileIndexRoom = record { file = other_way 4 0; index = index_of (log_of (other_way 4 0)); room = lent } in
    through_shows_no_row.0 one other (ways_alike 0 1 0 4 0, own_index (log_of (one_way 0 0)), own_index (log_of (other_way 4 0)), refl)
    (λ w. ways_made.2 (rw (through_as_built (one_way 0 0) one.index lent (own_index (log_of (one_way 0 0)))) at w))
    (λ w. ways_made.3 (rw (through_as_built (other_way 4 0) other.index lent (own_index (log_of (other_way 4 0)))) at w))

-- Demand 3: the header's bytes stay where it is made of bytes, and this one is.
low_header : all (λ j. ltb (get_or (four_rows 0 (absent ∷ [])) j 0) 256) 38 0 ≡ true
unfolding evaluated four_rows
low_header = refl

header_of_bytes : HeaderOfBytes (four_rows 0 (absent ∷ []))
header_of_bytes i h = ltb-true _ 256 (all_true (λ j. ltb (get_or (four_rows 0 (absent ∷ [])) j 0) 256) 38 0 low_header i (omega arith) (omega arith))

pub header_kept : get_or (strike (four_rows 0 (absent ∷ []))) 0 0 ≡ 5
unfolding evaluated four_rows
header_kept =
    (strikes_unseen (four_rows 0 (absent ∷ [])) (admitted_parted (four_rows 0 (absent ∷ [])) rows_admitted)).2 0
    (λ k h u e. ⊎_elim (λ q. omega (arith, q)) (λ q. omega (arith, q)) e) (inr header_of_bytes)
