-- What the requests of document 02 promise, and what they leave as it was. Proved in proofs/OwnNumbers, proofs/MisfitLaws, proofs/StrayPlaces, proofs/Refining, proofs/RefiningPlaces and proofs/SizeColumns.
use Rattle.std.specs.Prelude.{ℕ, ◌≤◌, ◌<◌, Bool, false, cond, ◌||◌, ◌≡◌, ◌⊎◌, ◌↔◌, List, [], ◌∷◌, length, get_or, eqb}
use Rattle.definition.specs.03-Lists.{Among, Kept}
use Rattle.definition.specs.04-Checks.{Check, Checked, number_of, accepts, refuses, ◌>>◌, in_order, AllHold, FirstFault}
use Rattle.definition.specs.11-Layout.{formula_part, label_part, agent_of, part}
use Rattle.definition.specs.13-Formulas.{Formula, says, implies, nodes}
use Rattle.definition.specs.14-Book.{book_rows, tree_in, book, book_admission, size_column, rows_of}
use Rattle.definition.specs.15-Records.{step_formula}
use Rattle.definition.specs.17-Case.{Case, case_of}
use Rattle.definition.specs.18-Admission.{Parted}
use Rattle.definition.specs.19-Rewriting.{strike}
use Rattle.definition.specs.22-Steps.{Labels, premises_of, misfit, fit_checks, step_checks, state_at}
use Rattle.definition.specs.31-Outcome.{Verdict, passed, none_owed, refused, Outcome, Finding, all_checks, found, report, outcome}
use Rattle.definition.specs.41-Occurrences.{GoodRow, StrayIs}
use Rattle.definition.specs.42-Account.{HandedOn, Tautology, Proof}
use Rattle.definition.specs.43-Alike.{Alike}
use Rattle.definition.specs.44-Demands.{StepsHold, Passes}

-- The checks of a list without those of some numbers.
unfoldable pub without : (ℕ → Bool) → List Check → List Check
without left_out [] = []
without left_out (c ∷ cs) = cond (left_out (number_of c)) (without left_out cs) (c ∷ without left_out cs)

-- The finding and the outcome by the checks without those.
unfoldable pub finding_without : (ℕ → Bool) → List ℕ → (room : ℕ) → Checked Finding
finding_without left_out s room = do
  in_order (without left_out (all_checks s room))
  accepts (found (case_of s))

unfoldable pub outcome_without : (ℕ → Bool) → List ℕ → List ℕ → Outcome
outcome_without left_out s room = report (finding_without left_out s (length room)) room

-- Request 1: three faults that were 18 "get own numbers".
unfoldable pub is_misfit_number : ℕ → Bool
is_misfit_number n = eqb n 24 || eqb n 25 || eqb n 26

unfoldable pub number_before : ℕ → ℕ
number_before n = cond (is_misfit_number n) 18 n

unfoldable pub verdict_before : Verdict → Verdict
verdict_before (passed d r) = passed d r
verdict_before none_owed = none_owed
verdict_before (refused n p) = refused (number_before n) p

-- An outcome with the number that a refusal had before.
unfoldable pub as_before : Outcome → Outcome
as_before o = record { verdict = verdict_before o.verdict; room = o.room }

-- The request changes numbers, and nothing else: by the checks without those three the same files pass, with the same lists, and a file is refused at the same place.
abbrev pub NumbersAlone : Type 0
NumbersAlone = (s room : List ℕ) → outcome_without is_misfit_number s room ≡ as_before (outcome s room)

-- A step passes 27, 24, 25, 26 and 18 exactly if it passes 18, that is, if its rule's test holds. What the tests of the rules come to, `Follows` of `42-Account` says: it is as it was.
abbrev pub FitsAsBefore : Type 0
FitsAsBefore = (c : Case) (k : ℕ) → AllHold (fit_checks c k) ↔ (misfit c k ≡ false)

-- Step k is refused by check n with place p: all steps before it hold, and so do its own checks before this one.
pub record RefusedAt (s : List ℕ) (k n p : ℕ) : Type 0 where
  pub there : k < (case_of s).steps
  pub before : StepsHold (case_of s) k
  pub fault : FirstFault (step_checks (case_of s) k (state_at (case_of s) k)) n p

-- Request 2: "tell where the stray data variable is". The step that check 27 refuses: its rule is 5, and p is the row to tell for its formula, in the file's book.
pub record StrayTold (s : List ℕ) (p : ℕ) : Type 0 where
  pub step : ℕ
  pub at : RefusedAt s step 27 p
  pub owner : ((case_of s).step step).rule ≡ 5
  pub row : StrayIs (part s formula_part) (step_formula s step) p

-- The place of 27 is such a row.
abbrev pub TellsStray : Type 0
TellsStray = (s room : List ℕ) (p : ℕ) → (outcome s room).verdict ≡ refused 27 p → StrayTold s p

-- For demand 3: the place depends on the book alone. Two files with the same formulas tell the same row if the steps refused have the same formula, whatever else they hold: agent, log and observers too.
abbrev pub PlaceByBook : Type 0
PlaceByBook =
    (s t : List ℕ) (p q : ℕ) (a : StrayTold s p) (b : StrayTold t q) →
    part s formula_part ≡ part t formula_part → step_formula s a.step ≡ step_formula t b.step → p ≡ q

unfoldable pub is_stray_number : ℕ → Bool
is_stray_number n = eqb n 27

-- A refusal by 27, which without that check is one by 24, 25 or 18 at the step itself.
pub record WasMisfit (s room : List ℕ) : Type 0 where
  pub row : ℕ
  pub number : ℕ
  pub step : ℕ
  pub with : outcome s room ≡ record { verdict = refused 27 row; room = room }
  pub without : outcome_without is_stray_number s room ≡ record { verdict = refused number step; room = room }
  pub misfits : (number ≡ 24) ⊎ ((number ≡ 25) ⊎ (number ≡ 18))
  pub owner : ((case_of s).step step).rule ≡ 5
  pub told : row ≡ ((case_of s).step step).stray

-- That is all that the request changes: every other outcome is as without it.
abbrev pub StraysAlone : Type 0
StraysAlone = (s room : List ℕ) → (outcome_without is_stray_number s room ≡ outcome s room) ⊎ WasMisfit s room

-- Request 3: "refining on the strength of a passing reading".
unfoldable pub is_refining_number : ℕ → Bool
is_refining_number n = eqb n 28

-- The step that check 28 refuses: its rule is 4, and its first premise has a tree, which is no tautology.
pub record RefiningTold (s : List ℕ) (k : ℕ) : Type 0 where
  pub at : RefusedAt s k 28 k
  pub refines : ((case_of s).step k).rule ≡ 4
  pub first : ℕ
  pub others : List ℕ
  pub premises_are : premises_of (case_of s) k ≡ first ∷ others
  pub handed : HandedOn
  pub proof : Proof (case_of s) first ((case_of s).step first).formula handed.opens handed.spent handed.steps
  pub no_tautology : Tautology (case_of s) handed → ⊥

-- The place of 28 is such a step.
abbrev pub TellsRefining : Type 0
TellsRefining = (s room : List ℕ) (k : ℕ) → (outcome s room).verdict ≡ refused 28 k → RefiningTold s k

-- Every outcome but a refusal by 28 is the same without that check.
abbrev pub RefiningsAlone : Type 0
RefiningsAlone = (s room : List ℕ) → (outcome_without is_refining_number s room ≡ outcome s room) ⊎ ((k : ℕ) × (outcome s room ≡ record { verdict = refused 28 k; room = room }))

-- What the request is for: the implication that a step refines by holds without the log.

-- Two files have the same agent, of whom the rules speak, the same formulas and the same labels; the second has its parts where they are due. Its log, conditions and obligations may be any, and so may its audited action and audit hour.
pub record SameBookAndLabels (s t : List ℕ) : Type 0 where
  pub parted : Parted t
  pub agent : agent_of s ≡ agent_of t
  pub formulas : part s formula_part ≡ part t formula_part
  pub labels : part s label_part ≡ part t label_part

-- The steps S of one case are steps of another: the same rule, formula, argument and premises.
pub record SameSteps (c d : Case) (S : List ℕ) : Type 0 where
  pub inside : (j : ℕ) → Among j S → j < d.steps
  pub rule : (j : ℕ) → Among j S → (d.step j).rule ≡ (c.step j).rule
  pub formula : (j : ℕ) → Among j S → (d.step j).formula ≡ (c.step j).formula
  pub argument : (j : ℕ) → Among j S → (d.step j).argument ≡ (c.step j).argument
  pub premises : (j : ℕ) → Among j S → premises_of d j ≡ premises_of c j

-- Step k is an account of f by the steps S: it proves f, spends no obligation, and consists of these steps, which cite no evidence and leave no label open.
pub record AccountOf (c : Case) (k : ℕ) (f : Formula) (S : List ℕ) : Type 0 where
  pub opens : Labels
  pub proof : Proof c k f opens [] S
  pub tautology : Tautology c (record { opens = opens; spent = []; steps = S })

-- Step k refines "agent says F to B", its second premise, to "agent says G to B" by "F implies G", its first premise.
pub record Refines (c : Case) (k : ℕ) : Type 0 where
  pub first : ℕ
  pub second : ℕ
  pub premises_are : premises_of c k ≡ first ∷ second ∷ []
  pub from : Formula
  pub to : Formula
  pub target : ℕ
  pub implication : (c.step first).formula ≡ implies from to
  pub refined : (c.step second).formula ≡ says c.agent from target
  pub result : (c.step k).formula ≡ says c.agent to target

-- The first premise, with the steps above it, is an account of the implication: here, and in every file with the same agent, formulas and labels that has these steps, with the same numbers.
pub record RefinesWithoutLog (s : List ℕ) (k : ℕ) : Type 0 where
  pub refines : Refines (case_of s) k
  pub steps : List ℕ
  pub above : (j : ℕ) → Among j steps → j ≤ refines.first
  pub here : AccountOf (case_of s) refines.first (implies refines.from refines.to) steps
  pub account : (t : List ℕ) → SameBookAndLabels s t → SameSteps (case_of s) (case_of t) steps → AccountOf (case_of t) refines.first (implies refines.from refines.to) steps

-- So it is with every step of rule 4 in a case that passes.
abbrev pub HoldsWithoutLog : Type 0
HoldsWithoutLog = (s room : List ℕ) → Passes s room → (k : ℕ) → k < (case_of s).steps → ((case_of s).step k).rule ≡ 4 → RefinesWithoutLog s k

-- Request 4: "a narrower size column". The column holds the size of row k, a good row of the book s: byte k is the number of nodes of its tree. This is what a function that reads a size asks for.
pub record SizeHeld (s sizes : List ℕ) (k : ℕ) : Type 0 where
  pub row : GoodRow s k
  pub there : k < length sizes
  pub size : get_or sizes k 0 ≡ nodes (tree_in (book s) k)

-- It holds those of rows 0 to n - 1.
abbrev pub SizesHeld : (s sizes : List ℕ) → ℕ → Type 0
SizesHeld s sizes n = (k : ℕ) → k < n → SizeHeld s sizes k

-- The same of a column that was lent: it is as long as it was, and every other byte is as lent.
pub record SizesTold (s lent after : List ℕ) (n : ℕ) : Type 0 where
  pub held : SizesHeld s after n
  pub as_long : length after ≡ length lent
  pub others : Kept n lent after

-- A column after the checks of a book, for each answer that they give. Admitted, or refused by 4: it holds the sizes of all rows. Refused by 3 at row p: those of the rows below p. Refused by 2, as misshapen: it is as lent.
pub data ColumnAfter (s lent after : List ℕ) : Checked (Unit {0}) → Type 0 where
  admitted : SizesTold s lent after (book_rows s) → ColumnAfter s lent after (accepts tt)
  misshapen : after ≡ lent → ColumnAfter s lent after (refuses 2 0)
  bad_row : {p : ℕ} → SizesTold s lent after p → ColumnAfter s lent after (refuses 3 p)
  repeated : {p : ℕ} → SizesTold s lent after (book_rows s) → ColumnAfter s lent after (refuses 4 p)

-- The definition's column is such a one, and no other is: for any bytes as a book, and any column of 1,024 bytes.
abbrev pub TellsSizes : Type 0
TellsSizes = (s lent after : List ℕ) → length lent ≡ 1024 → ColumnAfter s lent after (book_admission s) ↔ (after ≡ size_column s lent)

-- "Written out as a tree": a size is the number of rows of the tree, the row itself included, each as often as it stands there. Terms are no rows.
abbrev pub SizeIsRows : Type 0
SizeIsRows = (s : List ℕ) (k : ℕ) → GoodRow s k → nodes (tree_in (book s) k) ≡ length (rows_of s k)

-- "An admitted formula has at most 64 nodes": a size is from 1 to 64, and fits a byte.
abbrev pub SizesFit : Type 0
SizesFit = (s : List ℕ) (k : ℕ) → GoodRow s k → (1 ≤ nodes (tree_in (book s) k)) × (nodes (tree_in (book s) k) ≤ 64)

-- For demand 3: the column is of the formulas alone. Files that are alike to the agent have the same, and so has the file with every unseen row struck out.
abbrev pub column_of : (s lent : List ℕ) → List ℕ
column_of s lent = size_column (part s formula_part) lent

abbrev pub SizesShowNoRow : Type 0
SizesShowNoRow = (s lent : List ℕ) → ((t : List ℕ) → Alike s t → column_of s lent ≡ column_of t lent) × (column_of s lent ≡ column_of (strike s) lent)

-- "All verdicts stay the same": no check reads the column, so there is nothing to show of them.

-- What an evaluation unfolds of this file.
unfoldable pub evaluated_requests : Unit {0}
unfolding without finding_without outcome_without is_misfit_number number_before verdict_before as_before is_stray_number is_refining_number
evaluated_requests = tt
