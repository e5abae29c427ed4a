-- The rows of a log whose formulas checks 3 and 4 let pass: what a row comes to, and the table of what the agent sees. Assumes nothing.
use Prim.Native.Nat.{ℕ, ◌+◌, ◌≤◌, ◌<◌}
use mathlib.Core.Path.{◌≡◌, refl, sym, ap, ◌∙◌}
use mathlib.Core.Bool.{Bool, true, false, cond, ◌||◌, or-true, false≢true}
use mathlib.Core.Logic.{◌⊎◌, ⊎_elim}
use mathlib.Core.List.{List}
use native.Mathlib.Nat.{eq-or-lt_of_le, le_of_suc-le-suc}
use native.Mathlib.Numerals.{add-one}
use native.Mathlib.Omega.{arith}
use lib.ListN.{length, set, length-set}
use lib.Seq.{get_or-set_same, get_or-set_other}
use lib.Dec.{eqb}
use borrow.Author.Tests.{lt-ltb, eqb-true, ne_eqb, not-false}
use Rattle.definition.specs.01-Words.{absent}
use Rattle.definition.specs.02-Ranges.{any}
use Rattle.definition.proofs.Tests.{or_false, or_true as either}
use Rattle.definition.specs.13-Formulas.{Formula, is_action}
use Rattle.definition.specs.14-Book.{tree_in, book}
use Rattle.formula_book.proofs.Laws.{admitted_few, beyond}
use Rattle.definition.specs.15-Records.{Log, rows_in, observers_in, row_action, row_from, row_count, observer, span_due, span_fault, bad_span, is_ground_action, bad_observer, bad_action, bad_log_row}
use Rattle.definition.specs.16-Views.{seen_in, view_of, row_view}
use Rattle.formula_book.specs.AdmittedBooks.{AdmittedBook}
use Rattle.std.specs.Prelude.{Option, Some, None}
use Rattle.case_file.specs.Seen.{hidden_code, view_code, code_view, SeenUpTo, list_answer, row_answer}
use Rattle.definition.proofs.Spans.{span_holds}
use Rattle.definition.proofs.ViewLaws.{seen_any}

newest : (j k : ℕ) → j < k + 1 → (j ≡ k) ⊎ (j < k)
newest j k lt = eq-or-lt_of_le (le_of_suc-le-suc (rw (add-one k) at lt))

-- What a row with this list comes to.
unfoldable pub listed : Option Bool → (action end : ℕ) → Option (ℕ × ℕ)
listed None a e = None
listed (Some seen) a e = Some (view_code seen a, e)

-- The span of row k of a log.
module _ (g : Log) (k : ℕ) where
  abbrev pub row_span : Bool
  row_span = bad_span (row_from g) (row_count g) (rows_in g) (observers_in g) k

  pub span_told :
      {due from len n m : ℕ} {q : Bool} → due ≡ span_due (row_from g) (row_count g) k → from ≡ row_from g k → len ≡ row_count g k → n ≡ rows_in g → m ≡ observers_in g →
      q ≡ span_fault due from len (eqb (k + 1) n) m → q ≡ row_span
  unfolding bad_span
  span_told d f l n m e = rw (← d, ← f, ← l, ← n, ← m) e

  pub span_within : row_span ≡ false → row_from g k + row_count g k ≤ observers_in g
  span_within e = (span_holds (row_from g) (row_count g) (rows_in g) (observers_in g) k e).within

-- What the row comes to, with the trees l of the formulas.
module _ (g : Log) (agent : ℕ) (l : List Formula) (k : ℕ) where
  row_list : Bool
  row_list = any (bad_observer g.observers (row_from g k)) (row_count g k) (row_from g k)

  bad_row_is : bad_log_row g l k ≡ bad_action l (row_action g k) || row_span g k || row_list
  unfolding bad_log_row row_list
  bad_row_is = refl

  pub action_bad : bad_action l (row_action g k) ≡ true → None ≡ row_answer g agent l k
  unfolding row_answer
  action_bad e = rw (bad_row_is, e)

  pub span_bad : row_span g k ≡ true → None ≡ row_answer g agent l k
  unfolding row_answer
  span_bad e = rw (bad_row_is, e, or-true)

  -- a row whose action and span are no fault, by the answer of its list
  pub row_listed :
      (action from len : ℕ) → action ≡ row_action g k → from ≡ row_from g k → len ≡ row_count g k →
      bad_action l (row_action g k) ≡ false → row_span g k ≡ false →
      (a : Option Bool) → a ≡ list_answer g.observers agent from len → listed a action (from + len) ≡ row_answer g agent l k
  unfolding row_answer row_list list_answer view_code listed
  row_listed action from len act_is from_is len_is act_good span_good a is =
      rw (is, act_is, from_is, len_is, bad_row_is, act_good, span_good, seen_any g agent k (span_within g k span_good))
      (go (any (bad_observer g.observers (row_from g k)) (row_count g k) (row_from g k)) (any (λ j. eqb (observer g.observers j) agent) (row_count g k) (row_from g k)))
    where
      go : (b c : Bool) → listed (cond b None (Some c)) (row_action g k) (row_from g k + row_count g k) ≡ cond b None (Some (view_code c (row_action g k), row_from g k + row_count g k))
      go true c = refl
      go false c = refl

  pub answer_bad : None ≡ row_answer g agent l k → bad_log_row g l k ≡ true
  unfolding row_answer
  answer_bad e = go (bad_log_row g l k) refl
    where
      go : (b : Bool) → bad_log_row g l k ≡ b → b ≡ true
      go true q = refl
      go false q = absurd (absent_pair (rw q at e))
        where
          absent_pair : {p : ℕ × ℕ} → None ≡ Some p → ⊥
          absent_pair w = cc

  pub answer_good :
      (code end : ℕ) → ◌≡◌ {A = Option (ℕ × ℕ)} (Some (code, end)) (row_answer g agent l k) →
      (bad_log_row g l k ≡ false) × (code ≡ view_code (seen_in g agent k) (row_action g k)) × (end ≡ row_from g k + row_count g k)
  unfolding row_answer
  answer_good code end e = go (bad_log_row g l k) (view_code (seen_in g agent k) (row_action g k)) (row_from g k + row_count g k) e
    where
      go : (b : Bool) (c f : ℕ) → ◌≡◌ {A = Option (ℕ × ℕ)} (Some (code, end)) (cond b None (Some (c, f))) → (b ≡ false) × (code ≡ c) × (end ≡ f)
      go true c f q = cc
      go false c f q = let e : ◌≡◌ {A = ℕ × ℕ} (code, end) (c, f) = cc in
          (refl, ap (λ (p : ℕ × ℕ). p.0) e, ap (λ (p : ℕ × ℕ). p.1) e)

-- The table as the loop over the rows fills it.
module _ (g : Log) (agent : ℕ) where
  pub seen_none : (old : List ℕ) → SeenUpTo g agent 0 old old
  seen_none old = record { long = refl; low = λ k lt. absurd (omega arith); rest = λ k le. refl }

  pub seen_more :
      (k : ℕ) (old new : List ℕ) (code : ℕ) → SeenUpTo g agent k old new → k < length new → code ≡ view_code (seen_in g agent k) (row_action g k) →
      SeenUpTo g agent (k + 1) old (set new k code)
  seen_more k old new code u room is =
      record {
        long = length-set new k code ∙ u.long;
        low =
            λ j lt.
            ⊎_elim (λ q. rw q (get_or-set_same new k code 0 room ∙ is))
            (λ h. get_or-set_other new k j code 0 (omega arith) ∙ u.low j h) (newest j k lt);
        rest = λ j le. get_or-set_other new k j code 0 (omega arith) ∙ u.rest j (omega arith);
      }

-- The number of a good row's action is not what the table has for a hidden row: that is beyond every admitted book b.
action_shown : (b : List ℕ) (a : ℕ) → AdmittedBook b → bad_action (book b) a ≡ false → eqb a hidden_code ≡ false
unfolding bad_action is_ground_action is_action
action_shown b a admitted e =
    ne_eqb a hidden_code
    (λ q.
    ⊎_elim (λ h. let is = eqb-true a absent h in omega arith)
    (λ h. false≢true (rw (beyond b a (omega (arith, admitted_few b admitted))) at h))
    (either (eqb a absent) (is_ground_action (tree_in (book b) a)) (not-false _ e)))

-- The table's entry of a good row says what the agent sees of it.
pub code_view_lem :
    (g : Log) (agent : ℕ) (b : List ℕ) (k : ℕ) → AdmittedBook b → k < rows_in g → bad_log_row g (book b) k ≡ false →
    code_view (book b) (view_code (seen_in g agent k) (row_action g k)) ≡ row_view g agent (book b) k
unfolding code_view view_code row_view view_of
code_view_lem g agent b k h inside fine =
    rw (lt-ltb k (rows_in g) inside) (go (seen_in g agent k))
  where
    shown : eqb (row_action g k) hidden_code ≡ false
    shown =
        let parts = or_false _ (row_list g agent (book b) k) (sym (bad_row_is g agent (book b) k) ∙ fine) in
        action_shown b (row_action g k) h (or_false (bad_action (book b) (row_action g k)) (row_span g k) parts.0).0

    go : (seen : Bool) → code_view (book b) (view_code seen (row_action g k)) ≡ view_of (book b) seen (row_action g k)
    go true = rw shown
    go false = refl
