-- The log with every unseen row struck out is alike to the agent: only the action bytes of unseen rows change, which are in no field that says who sees a row.
-- Check 5 finds no fault in it that it did not find before: a struck row's action is absent. And the file with this log is alike to the agent. Assumes nothing.
use Prim.Native.Nat.{ℕ, zero, suc, ◌+◌, ◌*◌, ◌/◌, ◌%◌, ◌≤◌, ◌<◌}
use mathlib.Core.Bool.{Bool, true, false, cond, ◌||◌, and-false, false≢true}
use mathlib.Core.Path.{◌≡◌, refl, sym, ap, fun_ext, ◌∙◌}
use mathlib.Core.Logic.{◌⊎◌, inl, inr, ⊎_elim}
use mathlib.Core.List.{List, [], ◌∷◌, ◌++◌, append_assoc}
use native.Mathlib.Omega.{arith}
use lib.ListN.{length, get_or, length-append, get_or-eq_default}
use lib.Dec.{ltb}
use borrow.Author.Tests.{ltb-true, ltb-false, lt-ltb, le-ltb, not-true}
use Rattle.definition.proofs.PartLaws.{part_whole, part_length, part_due}
use Rattle.definition.proofs.RangeLaws.{any_none, any_false}
use Rattle.definition.proofs.Rewriting.{Unpaired, agent_number, action_number, hour_number, header_length, again_length, behind_same, same_byte, with_part_number, with_part_own, with_part_other, with_part_as_long}
use Rattle.definition.proofs.Tests.{and_true, or_false, never_true}
use Rattle.definition.specs.01-Words.{word, words, absent}
use Rattle.definition.specs.02-Ranges.{any, listed, update}
use Rattle.definition.specs.03-Lists.{join_all}
use Rattle.definition.specs.04-Checks.{each, Fails, AllHold, FirstFault, here, later}
use Rattle.definition.specs.11-Layout.{header_bytes, formula_part, log_part, observer_part, condition_part, obligation_part, label_part, step_part, premise_part, record_bytes, agent_of, action_of, hour_of, offset, part, records_in, field_in, due_offset, bad_length, faulty_part, end}
use Rattle.definition.specs.13-Formulas.{Formula}
use Rattle.definition.specs.15-Records.{Log, log_of, rows_in, observers_in, row_action, row_from, row_count, bad_span, bad_observer, bad_action, bad_log_row, log_checks}
use Rattle.definition.specs.16-Views.{seen_in}
use Rattle.definition.specs.18-Admission.{Parted}
use Rattle.definition.specs.19-Rewriting.{header_number, contents_of, pairs, laid_out, written, with_part, in_unseen_action, struck_from, strike_log, strike}
use Rattle.definition.specs.43-Alike.{RowAlike, LogAlike, Alike}
use Rattle.definition.specs.44-Demands.{NoUnseenAction, HeaderOfBytes, StrikesUnseen}

module _ (g : Log) (agent : ℕ) where
  struck_length : (bs : List ℕ) (i : ℕ) → length (struck_from g agent bs i) ≡ length bs
  unfolding struck_from
  struck_length [] i = refl
  struck_length (b ∷ bs) i = ap suc (struck_length bs (i + 1))

  struck_at : (bs : List ℕ) (i j : ℕ) → j < length bs → get_or (struck_from g agent bs i) j 0 ≡ cond (in_unseen_action g agent (i + j)) 255 (get_or bs j 0)
  unfolding struck_from
  struck_at [] i j h = absurd (omega arith)
  struck_at (b ∷ bs) i zero h = let first : i + 0 ≡ i = omega arith in rw first
  struck_at (b ∷ bs) i (suc j) h = let later : i + suc j ≡ i + 1 + j = omega arith in rw later (struck_at bs (i + 1) j (omega arith))

  abbrev struck : Log
  struck = strike_log g agent

  same_length : length struck.rows ≡ length g.rows
  unfolding strike_log
  same_length = struck_length g.rows 0

  byte : (i : ℕ) → i < length g.rows → get_or struck.rows i 0 ≡ cond (in_unseen_action g agent i) 255 (get_or g.rows i 0)
  unfolding strike_log
  byte i h = let all : 0 + i ≡ i = omega arith in rw all at (struck_at g.rows 0 i h)

  kept : (i : ℕ) → in_unseen_action g agent i ≡ false → get_or struck.rows i 0 ≡ get_or g.rows i 0
  kept i e = go (ltb i (length g.rows)) refl
    where
      go : (b : Bool) → ltb i (length g.rows) ≡ b → get_or struck.rows i 0 ≡ get_or g.rows i 0
      go true h = rw e at (byte i (ltb-true i (length g.rows) h))
      go false h =
          let past = ltb-false i (length g.rows) h in
          get_or-eq_default struck.rows 0 (rw same_length past) ∙ sym (get_or-eq_default g.rows 0 past)

  -- Which bytes are actions of unseen rows.
  no_action : (i : ℕ) → 2 ≤ i % 6 → in_unseen_action g agent i ≡ false
  unfolding in_unseen_action record_bytes
  no_action i h = rw (le-ltb (i % 6) 2 h)

  of_seen : (k i : ℕ) → i / 6 ≡ k → seen_in g agent k ≡ true → in_unseen_action g agent i ≡ false
  unfolding in_unseen_action record_bytes
  of_seen k i is e = rw (is, e, and-false)

  of_unseen : (k i : ℕ) → i / 6 ≡ k → seen_in g agent k ≡ false → i % 6 < 2 → in_unseen_action g agent i ≡ true
  unfolding in_unseen_action record_bytes
  of_unseen k i is e l = rw (is, e, lt-ltb (i % 6) 2 l)

  -- Behind a row's action, its record is kept.
  same_span : (k i : ℕ) → 2 ≤ i → i < 5 → field_in struck.rows log_part k i ≡ field_in g.rows log_part k i
  unfolding field_in word record_bytes
  same_span k i l h = rw (kept (6 * k + i) (no_action (6 * k + i) (omega arith)), kept (6 * k + i + 1) (no_action (6 * k + i + 1) (omega arith)))

  pub same_from : row_from struck ≡ row_from g
  unfolding row_from
  same_from = fun_ext λ k. same_span k 2 (omega arith) (omega arith)

  pub same_count : row_count struck ≡ row_count g
  unfolding row_count
  same_count = fun_ext λ k. same_span k 4 (omega arith) (omega arith)

  pub same_rows : rows_in struck ≡ rows_in g
  unfolding rows_in records_in
  same_rows = rw same_length

  pub same_observers : struck.observers ≡ g.observers
  unfolding strike_log
  same_observers = refl

  pub same_seen : (a k : ℕ) → seen_in struck a k ≡ seen_in g a k
  unfolding seen_in observers_in
  same_seen a k = rw (same_from, same_count, same_observers)

  seen_action : (k : ℕ) → seen_in g agent k ≡ true → row_action struck k ≡ row_action g k
  unfolding row_action field_in word record_bytes
  seen_action k e = rw (kept (6 * k + 0) (of_seen k (6 * k + 0) (omega arith) e), kept (6 * k + 0 + 1) (of_seen k (6 * k + 0 + 1) (omega arith) e))

  struck_byte : (k i : ℕ) → i / 6 ≡ k → seen_in g agent k ≡ false → i % 6 < 2 → i < length g.rows → get_or struck.rows i 0 ≡ 255
  struck_byte k i is e l h = rw (of_unseen k i is e l) at (byte i h)

  unseen_action : (k : ℕ) → k < rows_in g → seen_in g agent k ≡ false → row_action struck k ≡ absent
  unfolding row_action field_in word record_bytes rows_in records_in
  unseen_action k h e =
      rw (struck_byte k (6 * k + 0) (omega arith) e (omega arith) (omega arith), struck_byte k (6 * k + 0 + 1) (omega arith) e (omega arith) (omega arith))

  alike_row : (k : ℕ) → RowAlike agent g struck k
  alike_row k = go (seen_in g agent k) refl
    where
      go : (b : Bool) → seen_in g agent k ≡ b → RowAlike agent g struck k
      go true e = inl (e, rw same_seen e, sym (seen_action k e))
      go false e = inr (e, rw same_seen e)

  alike_log : LogAlike agent g struck
  alike_log = record { rows = sym same_rows; row = λ k _. alike_row k }

  -- The tests of a row's span and of its observers, which striking out leaves as they are.
  unfoldable span_faulty : ℕ → Bool
  span_faulty k = bad_span (row_from g) (row_count g) (rows_in g) (observers_in g) k

  unfoldable observers_faulty : ℕ → Bool
  observers_faulty k = any (bad_observer g.observers (row_from g k)) (row_count g k) (row_from g k)

  struck_row : (l : List Formula) (k : ℕ) → bad_log_row struck l k ≡ bad_action l (row_action struck k) || span_faulty k || observers_faulty k
  unfolding bad_log_row observers_in span_faulty observers_faulty
  struck_row l k = rw (same_from, same_count, same_rows, same_observers)

  absent_good : (l : List Formula) {a : ℕ} → a ≡ absent → bad_action l a ≡ false
  unfolding bad_action
  absent_good l e = rw e

  row_stays_good : (l : List Formula) (k : ℕ) → k < rows_in g → bad_log_row g l k ≡ false → bad_log_row struck l k ≡ false
  unfolding bad_log_row span_faulty observers_faulty
  row_stays_good l k h fine = struck_row l k ∙ go (seen_in g agent k) refl
    where
      others : (a b c : Bool) → a || b || c ≡ false → b || c ≡ false
      others true b c e = absurd (false≢true (sym e))
      others false b c e = e

      go : (b : Bool) → seen_in g agent k ≡ b → bad_action l (row_action struck k) || span_faulty k || observers_faulty k ≡ false
      go true e = rw (seen_action k e) fine
      go false e = rw (absent_good l (unseen_action k h e)) (others (bad_action l (row_action g k)) (span_faulty k) (observers_faulty k) fine)

  -- A row that is at fault stays so, unless striking it out mends it.
  row_stays_bad : (l : List Formula) (k : ℕ) → k < rows_in g → bad_log_row g l k ≡ true → (bad_log_row struck l k ≡ true) ⊎ ((seen_in g agent k ≡ false) × (bad_action l (row_action g k) ≡ true))
  unfolding bad_log_row span_faulty observers_faulty
  row_stays_bad l k h bad = go (seen_in g agent k) (bad_action l (row_action g k)) refl refl
    where
      go : (b a : Bool) → seen_in g agent k ≡ b → bad_action l (row_action g k) ≡ a → (bad_log_row struck l k ≡ true) ⊎ ((seen_in g agent k ≡ false) × (bad_action l (row_action g k) ≡ true))
      go true a e f = inl (struck_row l k ∙ rw (seen_action k e) bad)
      go false true e f = inr (e, f)
      go false false e f = inl (struck_row l k ∙ ap (λ c. c || span_faulty k || observers_faulty k) (absent_good l (unseen_action k h e) ∙ sym f) ∙ bad)

  -- A log that check 5 lets pass stays so.
  pub log_stays_good : (l : List Formula) → AllHold (log_checks g l) → AllHold (log_checks struck l)
  unfolding log_checks
  log_stays_good l h = (λ k below. row_stays_good l k (rw (← same_rows) below) (h.0 k (rw (← same_rows) below)), tt)

  pub log_stays_bad : (l : List Formula) (n p : ℕ) → FirstFault (log_checks g l) n p → FirstFault (log_checks struck l) n p ⊎ ((n ≡ 5) × ((seen_in g agent p ≡ false) × (bad_action l (row_action g p) ≡ true)))
  unfolding log_checks
  log_stays_bad l n p (here f) =
      ⊎_elim
      (λ bad. inl (here (let w : Fails (each 5 (rows_in struck) (bad_log_row struck l)) n p = (f.0, (rw same_rows f.1.0, bad, λ q lt. row_stays_good l q (omega (arith, f.1.0)) (f.1.2 q lt))) in w)))
      (λ m. inr (sym f.0, m))
      (row_stays_bad l p f.1.0 f.1.1)
  log_stays_bad l n p (later h f) = elim f [ ]

-- A file that check 1 or 2 refuses stays as it is.
pub struck_or_parted : (s : List ℕ) → (strike s ≡ s) ⊎ Parted s
unfolding strike
struck_or_parted s = go (bad_length s || any (faulty_part s) 8 0) refl
  where
    go : (b : Bool) → bad_length s || any (faulty_part s) 8 0 ≡ b → (strike s ≡ s) ⊎ Parted s
    go true e = inl (rw e)
    go false e = let o = or_false (bad_length s) (any (faulty_part s) 8 0) e in inr (record { long = o.0; sound = λ p h. any_false (faulty_part s) 8 0 o.1 p (omega arith) (omega arith) })

-- In any other the log's rows are put in place of its own.
module _ (s : List ℕ) (f : Parted s) where
  abbrev rows : List ℕ
  rows = (strike_log (log_of s) (agent_of s)).rows

  strikes : strike s ≡ with_part s log_part rows
  unfolding strike
  strikes = rw (f.long, any_none (faulty_part s) 8 0 (λ k _ h. f.sound k h))

  same_part : (p : ℕ) → p < 8 → (p ≡ log_part → ⊥) → part (strike s) p ≡ part s p
  same_part p h o = rw strikes (with_part_other s log_part rows p h o)

  pub parted_struck : Parted (strike s)
  unfolding log_of
  parted_struck = rw strikes (with_part_as_long s log_part rows f (omega arith) (same_length (log_of s) (agent_of s)))

  pub log_struck : log_of (strike s) ≡ strike_log (log_of s) (agent_of s)
  unfolding log_of strike_log
  log_struck =
      λ i. record {
        rows = (ap (λ t. part t log_part) strikes ∙ with_part_own s log_part rows (omega arith)) i;
        observers = same_part observer_part (omega arith) (omega arith) i;
      }

  number_struck : {i : ℕ} → Unpaired i → header_number (strike s) i ≡ header_number s i
  number_struck u = rw strikes (with_part_number s log_part rows u)

  pub alike_struck : Alike s (strike s)
  unfolding agent_of action_of hour_of header_number
  alike_struck =
      record {
        agent = sym (number_struck agent_number);
        action = sym (number_struck action_number);
        hour = sym (number_struck hour_number);
        formulas = sym (same_part formula_part (omega arith) (omega arith));
        conditions = sym (same_part condition_part (omega arith) (omega arith));
        obligations = sym (same_part obligation_part (omega arith) (omega arith));
        labels = sym (same_part label_part (omega arith) (omega arith));
        steps = sym (same_part step_part (omega arith) (omega arith));
        premises = sym (same_part premise_part (omega arith) (omega arith));
        log = rw log_struck (alike_log (log_of s) (agent_of s));
      }

-- One list in place of another, as long, in the middle of a list.
spliced : (a b c d : List ℕ) → length b ≡ length c → (i : ℕ) → ((j : ℕ) → j < length b → i ≡ length a + j → get_or b j 0 ≡ get_or c j 0) → get_or (a ++ (b ++ d)) i 0 ≡ get_or (a ++ (c ++ d)) i 0
spliced [] [] [] d l i h = refl
spliced [] [] (y ∷ c) d l i h = absurd (omega arith)
spliced [] (x ∷ b) [] d l i h = absurd (omega arith)
spliced [] (x ∷ b) (y ∷ c) d l zero h = h 0 (omega arith) (omega arith)
spliced [] (x ∷ b) (y ∷ c) d l (suc i) h = spliced [] b c d (omega arith) i (λ j k e. h (suc j) (omega arith) (omega arith))
spliced (x ∷ a) b c d l zero h = refl
spliced (x ∷ a) b c d l (suc i) h = spliced a b c d l i (λ j k e. h j k (omega arith))

-- What striking out does to a file's bytes: those of the actions of unseen rows are 255, and every other is kept.
module _ (s : List ℕ) (f : Parted s) where
  -- The header in front of these parts.
  abbrev header_of : List (List ℕ) → List ℕ
  header_of parts = words (agent_of s ∷ action_of s ∷ pairs header_bytes parts ++ hour_of s ∷ [])

  abbrev header : List ℕ
  header = header_of (listed (part s) 8 0)

  abbrev front : List ℕ
  front = header ++ part s formula_part

  abbrev behind : List ℕ
  behind = join_all (listed (part s) 6 2)

  around_log : written (contents_of s) ≡ front ++ (part s log_part ++ behind)
  unfolding contents_of written laid_out listed join_all header_number agent_of action_of hour_of
  around_log = sym (append_assoc header (part s formula_part) (part s log_part ++ behind))

  same_header : header_of (listed (update (part s) log_part (rows s f)) 8 0) ≡ header
  unfolding listed pairs update log_of
  same_header = rw (same_length (log_of s) (agent_of s))

  around_struck : strike s ≡ front ++ (rows s f ++ behind)
  unfolding with_part written laid_out listed join_all update header_number agent_of action_of hour_of
  around_struck = strikes s f ∙ ap (λ h. h ++ (part s formula_part ++ (rows s f ++ behind))) same_header ∙ sym (append_assoc header (part s formula_part) (rows s f ++ behind))

  front_length : length front ≡ offset s log_part
  unfolding contents_of due_offset end header_number agent_of action_of hour_of
  front_length =
      simp length-append
      (omega (arith, header_length (contents_of s), part_length s f formula_part (omega arith), part_due s f formula_part (omega arith), part_due s f log_part (omega arith)))

  no_unseen_action : (i j : ℕ) → j < length (part s log_part) → i ≡ offset s log_part + j → NoUnseenAction s i → in_unseen_action (log_of s) (agent_of s) j ≡ false
  unfolding in_unseen_action record_bytes rows_in records_in log_of
  no_unseen_action i j h at none =
      never_true _
      (λ e.
      let a = and_true _ _ e in
      let low = ltb-true (j % 6) 2 a.0 in
      let all = part_whole s f log_part (omega arith) in
      none (j / 6) (omega (arith, h, all, part_length s f log_part (omega arith))) (not-true _ a.1) (first_two i (offset s log_part) (j / 6) (j % 6) low (omega (arith, at))))
    where
      first_two : (i o k r : ℕ) → r < 2 → i ≡ o + 6 * k + r → (i ≡ o + 6 * k) ⊎ (i ≡ o + 6 * k + 1)
      first_two i o k zero lt e = inl (omega arith)
      first_two i o k (suc zero) lt e = inr (omega arith)
      first_two i o k (suc (suc r)) lt e = absurd (omega arith)

  kept_byte : (i : ℕ) → NoUnseenAction s i → (header_bytes ≤ i) ⊎ HeaderOfBytes s → get_or (strike s) i 0 ≡ get_or s i 0
  unfolding log_of
  kept_byte i none known =
      ap (λ (l : List ℕ). get_or l i 0) around_struck
      ∙ spliced front (rows s f) (part s log_part) behind (same_length (log_of s) (agent_of s)) i
      (λ j h at. kept (log_of s) (agent_of s) j (no_unseen_action i j (rw (← same_length (log_of s) (agent_of s)) h) (omega (arith, at, front_length)) none))
      ∙ sym (ap (λ (l : List ℕ). get_or l i 0) around_log)
      ∙ ⊎_elim (λ h. behind_same s f i h) (λ bytes. same_byte s f bytes i) known

  struck_file_length : length (strike s) ≡ length s
  unfolding log_of
  struck_file_length =
      ap length around_struck ∙ simp length-append (rw (same_length (log_of s) (agent_of s)) (sym (ap length around_log ∙ simp length-append refl))) ∙ again_length s f

pub strikes_unseen : StrikesUnseen
strikes_unseen s f = (struck_file_length s f, λ k h e. rw (log_struck s f) (unseen_action (log_of s) (agent_of s) k h e), kept_byte s f)
