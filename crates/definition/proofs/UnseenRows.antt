-- Demand 3: a log row that the agent does not see changes nothing of the outcome. Files that are alike to the agent differ at check 5 alone, and where it is reached, both accept it;
-- all else is read from bytes that they share, and from what the agent sees of each row. Assumes nothing.
use Prim.Native.Nat.{ℕ}
use mathlib.Core.Path.{◌≡◌, refl, sym, ap, ◌∙◌}
use mathlib.Core.Logic.{◌⊎◌, inl, inr, ⊎_elim}
use mathlib.Core.List.{List}
use native.Mathlib.Omega.{arith}
use lib.ListN.{length}
use Rattle.definition.proofs.AdmissionLaws.{in_groups, layout_parted, parted_layout}
use Rattle.definition.proofs.AlikeFiles.{Same, same}
use Rattle.definition.proofs.CheckLaws.{then_assoc, second_agrees, never_both, all_hold, hold_all, first_fault, fault_first, in_order_append}
use Rattle.definition.proofs.StruckFile.{struck_or_parted, parted_struck, log_struck, alike_struck, log_stays_good, log_stays_bad}
use Rattle.definition.specs.04-Checks.{Check, FirstFault, here, later, AllHold, Checked, accepts, refuses, ◌>>◌, in_order}
use Rattle.definition.specs.11-Layout.{formula_part, agent_of, part, layout_checks}
use Rattle.definition.specs.14-Book.{book_checks}
use Rattle.definition.specs.15-Records.{log_of, formulas, log_checks, record_checks}
use Rattle.definition.specs.17-Case.{case_of}
use Rattle.definition.specs.18-Admission.{Parted, admission_checks, admission}
use Rattle.definition.specs.19-Rewriting.{strike}
use Rattle.definition.specs.31-Outcome.{Finding, case_checks, all_checks, found, finding, report, outcome}
use Rattle.definition.specs.43-Alike.{Alike}
use Rattle.definition.specs.44-Demands.{LeftAside, Mended, checking, admitting, UnseenRowsAreUnseen, AsIfStruck}

-- Checks 3 and 4, and check 5.
abbrev book_run : List ℕ → Checked (Unit {0})
book_run s = in_order (book_checks (part s formula_part))

abbrev log_checks_lem : List ℕ → List Check
log_checks_lem s = log_checks (log_of s) (formulas s)

abbrev log_run : List ℕ → Checked (Unit {0})
log_run s = in_order (log_checks_lem s)

-- The refusals that are left aside are those of check 1 and 2, and of check 5.
layout_numbers : (s : List ℕ) {n p : ℕ} → FirstFault (layout_checks s) n p → LeftAside n
unfolding layout_checks
layout_numbers s (here f) = inl (sym f.0)
layout_numbers s (later h (here f)) = inr (inl (sym f.0))
layout_numbers s (later h (later _ f)) = elim f [ ]

log_numbers : (s : List ℕ) {n p : ℕ} → FirstFault (log_checks_lem s) n p → LeftAside n
unfolding log_checks
log_numbers s (here f) = inr (inr (omega (arith, f.0)))
log_numbers s (later _ f) = elim f [ ]

-- A run that begins with checks 1 to 5, whatever follows them, if that is the same for files that share all but the log.
module _ {A : Type 0} (rest : List ℕ → Checked A) (same_rest : (s t : List ℕ) → Same s t → rest s ≡ rest t) where
  abbrev pub whole : List ℕ → Checked A
  whole s = ◌>>◌ (in_order (layout_checks s)) (◌>>◌ (book_run s) (◌>>◌ (log_run s) (rest s)))

  -- It does not refuse by 1, 2 or 5.
  abbrev pub Made : List ℕ → Type 0
  Made s = (n p : ℕ) → whole s ≡ refuses n p → LeftAside n → ⊥

  from_book : (s : List ℕ) → Parted s → whole s ≡ ◌>>◌ (book_run s) (◌>>◌ (log_run s) (rest s))
  unfolding ◌>>◌
  from_book s f = rw (hold_all (layout_checks s) (parted_layout f))

  module _ (s : List ℕ) (w : Made s) where
    parted : Parted s
    unfolding ◌>>◌
    parted = go (in_order (layout_checks s)) refl
      where
        go : (r : Checked (Unit {0})) → in_order (layout_checks s) ≡ r → Parted s
        go (accepts x) e = layout_parted (all_hold (layout_checks s) e)
        go (refuses n p) e = absurd (w n p (rw e) (layout_numbers s (first_fault (layout_checks s) n p e)))

    rows_fine : (x : Unit {0}) → book_run s ≡ accepts x → AllHold (log_checks_lem s)
    unfolding ◌>>◌
    rows_fine x b = go (log_run s) refl
      where
        go : (r : Checked (Unit {0})) → log_run s ≡ r → AllHold (log_checks_lem s)
        go (accepts y) e = all_hold (log_checks_lem s) e
        go (refuses n p) e = absurd (w n p (from_book s parted ∙ rw (b, e)) (log_numbers s (first_fault (log_checks_lem s) n p e)))

  -- Alike files that checks 1 and 2 let pass run alike, if check 5 says the same of both where it is reached.
  from_log :
      (s t : List ℕ) → Parted s → Parted t → Alike s t →
      ((x : Unit {0}) → book_run s ≡ accepts x → log_run s ≡ log_run t) → whole s ≡ whole t
  from_log s t f g a agree =
      let e = same s t f g a in
      from_book s f ∙ second_agrees (book_run s) (log_run s) (log_run t) (rest s) agree ∙ rw (e.book, same_rest s t e) (sym (from_book t g))

  pub alike_runs : (s t : List ℕ) → Alike s t → Made s → Made t → whole s ≡ whole t
  alike_runs s t a ws wt =
      let f = parted s ws in
      let g = parted t wt in
      let e = same s t f g a in
      from_log s t f g a
      (λ x b. hold_all (log_checks_lem s) (rows_fine s ws x b) ∙ sym (hold_all (log_checks_lem t) (rows_fine t wt x (rw (← e.book) b))))

  -- The struck file runs alike, unless check 5 refuses at a row that striking out mends.
  abbrev pub AsStruck : List ℕ → Type 0
  AsStruck s = (whole s ≡ whole (strike s)) ⊎ ((p : ℕ) × (whole s ≡ refuses 5 p) × Mended s p)

  module _ (s : List ℕ) (f : Parted s) where
    struck_agrees : ((x : Unit {0}) → book_run s ≡ accepts x → log_run s ≡ log_run (strike s)) → whole s ≡ whole (strike s)
    struck_agrees agree = from_log s (strike s) f (parted_struck s f) (alike_struck s f) agree

    trees : formulas s ≡ formulas (strike s)
    trees = (same s (strike s) f (parted_struck s f) (alike_struck s f)).trees

    struck_good : AllHold (log_checks_lem s) → AllHold (log_checks_lem (strike s))
    struck_good h = rw (log_struck s f, ← trees) (log_stays_good (log_of s) (agent_of s) (formulas s) h)

    struck_bad : (n p : ℕ) → FirstFault (log_checks_lem s) n p → FirstFault (log_checks_lem (strike s)) n p ⊎ ((n ≡ 5) × Mended s p)
    struck_bad n p h = rw (log_struck s f, ← trees) (log_stays_bad (log_of s) (agent_of s) (formulas s) n p h)

    at_mended : (n p : ℕ) → log_run s ≡ refuses n p → n ≡ 5 → Mended s p → AsStruck s
    unfolding ◌>>◌
    at_mended n p e five m = go (book_run s) refl
      where
        go : (r : Checked (Unit {0})) → book_run s ≡ r → AsStruck s
        go (accepts x) b = inr (p, from_book s f ∙ rw (b, e, five), m)
        go (refuses k q) b = inl (struck_agrees (λ x a. absurd (never_both (sym a ∙ b))))

    parted_runs : AsStruck s
    parted_runs = go (log_run s) refl
      where
        go : (r : Checked (Unit {0})) → log_run s ≡ r → AsStruck s
        go (accepts y) e = inl (struck_agrees (λ x b. hold_all (log_checks_lem s) (all_hold (log_checks_lem s) e) ∙ sym (hold_all (log_checks_lem (strike s)) (struck_good (all_hold (log_checks_lem s) e)))))
        go (refuses n p) e =
            ⊎_elim (λ g. inl (struck_agrees (λ x b. e ∙ sym (fault_first g)))) (λ m. at_mended n p e m.0 m.1)
            (struck_bad n p (first_fault (log_checks_lem s) n p e))

  pub struck_runs : (s : List ℕ) → AsStruck s
  struck_runs s = ⊎_elim (λ e. inl (ap whole (sym e))) (λ f. parted_runs s f) (struck_or_parted s)

-- What follows check 5 in an admission, and in the whole order of checks.
abbrev records : List ℕ → Checked (Unit {0})
records s = in_order (record_checks s)

abbrev ends : ℕ → List ℕ → Checked Finding
ends room s = ◌>>◌ (in_order (record_checks s)) (◌>>◌ (in_order (case_checks (case_of s) room)) (accepts (found (case_of s))))

same_records : (s t : List ℕ) → Same s t → records s ≡ records t
same_records s t e = ap in_order e.records

same_ends : (room : ℕ) (s t : List ℕ) → Same s t → ends room s ≡ ends room t
same_ends room s t e = rw (e.records, e.case)

-- The order of all checks is such a run.
all_checks_lem : (s : List ℕ) (room : ℕ) → finding s room ≡ whole (ends room) (same_ends room) s
unfolding finding all_checks admission
all_checks_lem s room = rw (in_order_append (admission_checks s) (case_checks (case_of s) room), in_groups s) (simp then_assoc)

-- A refusal by 1, 2 or 5 would be the outcome's.
made : (s room : List ℕ) → (checking.is_aside (record { file = s; room = room }) → ⊥) → Made (ends (length room)) (same_ends (length room)) s
unfolding outcome report
made s room w n p e aside = w (n, p, rw (all_checks_lem s (length room) ∙ e), aside)

made_file : (s : List ℕ) → (admitting.is_aside s → ⊥) → Made records same_records s
made_file s w n p e aside = w (n, p, in_groups s ∙ e, aside)

pub unseen_rows_are_unseen : UnseenRowsAreUnseen
unfolding outcome
unseen_rows_are_unseen = (
  λ i j a ws wt.
      let room = i.room in
      let runs = alike_runs (ends (length room)) (same_ends (length room)) i.file j.file a.0 (made i.file room ws) (made j.file room (rw a.1 wt)) in
      ap (λ x. report x room) (all_checks_lem i.file (length room) ∙ runs ∙ sym (all_checks_lem j.file (length room))) ∙ ap (outcome j.file) a.1,
  λ s t a ws wt. in_groups s ∙ alike_runs records same_records s t a (made_file s ws) (made_file t wt) ∙ sym (in_groups t),
)

pub as_if_struck : AsIfStruck
unfolding outcome report
as_if_struck = (
  λ i.
      let s = i.file in
      let room = i.room in
      ⊎_elim
      (λ e. inl (ap (λ x. report x room) (all_checks_lem s (length room) ∙ e ∙ sym (all_checks_lem (strike s) (length room)))))
      (λ m. inr (m.0, rw (all_checks_lem s (length room) ∙ m.1), m.2))
      (struck_runs (ends (length room)) (same_ends (length room)) s),
  λ s. ⊎_elim (λ e. inl (in_groups s ∙ e ∙ sym (in_groups (strike s)))) (λ m. inr (m.0, in_groups s ∙ m.1, m.2)) (struck_runs records same_records s),
)
