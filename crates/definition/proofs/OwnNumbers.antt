-- What requests leave as it was. Whatever checks are left out, a run ends as with them, or is refused by one of these. Of requests 1 and 2 more is said: a run of all checks without theirs ends as the run with them, in a relation that each request states. Group by group, by appending; the checks that the requests are about are given. Assumes nothing.
use Prim.Native.Nat.{ℕ, zero, suc, ◌+◌}
use mathlib.Core.Path.{◌≡◌, refl, sym, ap, ◌∙◌}
use mathlib.Core.Bool.{Bool, true, false, cond, ◌||◌}
use mathlib.Core.Logic.{◌⊎◌, inl, inr, ⊎_elim}
use mathlib.Core.Option.{Option, none, some}
use mathlib.Core.List.{List, [], ◌∷◌, ◌++◌}
use lib.ListN.{length}
use lib.Dec.{eqb}
use borrow.Author.Tests.{eqb-true}
use Rattle.definition.proofs.CheckLaws.{in_order_append, try_each, decided, goes_on, stops, failing_number, has_one}
use Rattle.definition.proofs.MisfitLaws.{fit_checks_lem}
use Rattle.definition.proofs.Tests.{and_true, or_false, not_both, never_false}
use Rattle.definition.specs.04-Checks.{Checked, accepts, refuses, ◌>>◌, Check, single, each, number_of, check, try, in_order, Holds, Fails, AllHold}
use Rattle.definition.specs.11-Layout.{layout_checks}
use Rattle.definition.specs.13-Formulas.{Formula}
use Rattle.definition.specs.14-Book.{book_checks}
use Rattle.definition.specs.15-Records.{log_checks, record_checks}
use Rattle.definition.specs.17-Case.{Case, case_of}
use Rattle.definition.specs.18-Admission.{checks_to_log, admission_checks}
use Rattle.definition.specs.21-Rules.{no_instance, rule, rules, rule_at}
use Rattle.definition.specs.22-Steps.{State, rule_of, next, start_state, citation_checks, shape_checks, above_checks, use_checks, misfit_checks, fit_checks, step_checks, checks_of_steps, stray_variable, wrong_kind, wrong_party, wrong_instance, misfit}
use Rattle.definition.specs.23-Duties.{duty_checks}
use Rattle.definition.specs.31-Outcome.{refused, Finding, justified, nothing_owed, owes, owing_checks, closing_checks, room_checks, end_checks, final_state, proof_checks, checks_if_owed, case_checks, all_checks, found, finding, report, outcome}
use Rattle.definition.specs.46-Requests.{without, is_misfit_number, number_before, finding_without, outcome_without, verdict_before, as_before, NumbersAlone, is_stray_number, StraysAlone, is_refining_number, RefiningsAlone}

-- Whatever numbers are left out, a run ends as with them, or that one refuses by such a number. By the cases of its first check.
module _ (left_out : ℕ → Bool) where
  abbrev SameOrLeftOut : {A : Type 0} → Checked A → Checked A → Type 0
  SameOrLeftOut a b = (b ≡ a) ⊎ ((n : ℕ) × (p : ℕ) × (left_out n ≡ true) × (a ≡ refuses n p))

  one_more :
      (c : Check) (cs : List Check) (b : Bool) → left_out (number_of c) ≡ b → Holds c ⊎ ((n : ℕ) × (p : ℕ) × Fails c n p) →
      SameOrLeftOut (in_order cs) (in_order (without left_out cs)) → SameOrLeftOut (in_order (c ∷ cs)) (in_order (cond b (without left_out cs) (c ∷ without left_out cs)))
  one_more c cs true e (inl h) r = rw (goes_on c cs h) r
  one_more c cs false e (inl h) r = rw (goes_on c cs h, goes_on c (without left_out cs) h) r
  one_more c cs true e (inr (n, p, f)) r = inr (n, p, rw (failing_number c n p f) at e, stops c cs n p f)
  one_more c cs false e (inr (n, p, f)) r = inl (stops c (without left_out cs) n p f ∙ sym (stops c cs n p f))

  same_or_left_out : (cs : List Check) → SameOrLeftOut (in_order cs) (in_order (without left_out cs))
  unfolding without
  same_or_left_out [] = inl refl
  same_or_left_out (c ∷ cs) = one_more c cs (left_out (number_of c)) refl (decided c) (same_or_left_out cs)

-- So with every outcome, whatever checks are left out.
pub left_out_alone :
    (left_out : ℕ → Bool) (s room : List ℕ) →
    (outcome_without left_out s room ≡ outcome s room) ⊎ ((n : ℕ) × (p : ℕ) × (left_out n ≡ true) × (outcome s room ≡ record { verdict = refused n p; room = room }))
unfolding outcome_without finding_without outcome finding report ◌>>◌
left_out_alone left_out s room =
    ⊎_elim (λ e. inl (rw e)) (λ w. inr (w.0, w.1, w.2, rw w.3)) (same_or_left_out left_out (all_checks s (length room)))

-- Request 3: the number left out is 28.
pub refinings_alone : RefiningsAlone
unfolding is_refining_number
refinings_alone s room = ⊎_elim (λ e. inl e) (λ w. inr (w.1, rw (eqb-true w.0 28 w.2) at w.3)) (left_out_alone is_refining_number s room)

-- The checks that requests 1 and 2 are about, by number: of how a step fits.
is_requested : ℕ → Bool
is_requested n = eqb n 27 || eqb n 24 || eqb n 25 || eqb n 26 || eqb n 18

-- What a request says of two runs, the first with its checks and the second without: it passes to one run after another, and a check that is not left out ends alike. Only checks that a request is about are.
record Request : Type 1 where
  left_out : ℕ → Bool
  Alike : {A : Type 0} → Checked A → Checked A → Type 0
  then : {A B : Type 0} {a b : Checked A} {x y : Checked B} → Alike a b → Alike x y → Alike (◌>>◌ a x) (◌>>◌ b y)
  over : {A : Type 0} (x : A) → Alike (accepts x) (accepts x)
  requested : (n : ℕ) → is_requested n ≡ false → left_out n ≡ false
  kept : (n p : ℕ) (b : Bool) → left_out n ≡ false → Alike (check n p b) (check n p b)

kept_or_not : (c : Check) (xs ys zs : List Check) (b : Bool) → zs ≡ xs ++ ys → cond b zs (c ∷ zs) ≡ cond b xs (c ∷ xs) ++ ys
kept_or_not c xs ys zs true e = e
kept_or_not c xs ys zs false e = ap {B = List Check} (λ l. c ∷ l) e

module _ (q : Request) where
  abbrev EndsAlike : List Check → Type 0
  EndsAlike cs = q.Alike (in_order cs) (in_order (without q.left_out cs))

  without_append : (cs ds : List Check) → without q.left_out (cs ++ ds) ≡ without q.left_out cs ++ without q.left_out ds
  unfolding without
  without_append [] ds = refl
  without_append (c ∷ cs) ds = kept_or_not c (without q.left_out cs) (without q.left_out ds) (without q.left_out (cs ++ ds)) (q.left_out (number_of c)) (without_append cs ds)

  alike_both : (cs ds : List Check) → EndsAlike cs → EndsAlike ds → EndsAlike (cs ++ ds)
  alike_both cs ds h k = rw (EndsAlike, without_append cs ds, in_order_append (without q.left_out cs) (without q.left_out ds), in_order_append cs ds) (q.then h k)

  kept_try : (c : Check) → q.left_out (number_of c) ≡ false → q.Alike (try c) (try c)
  unfolding try
  kept_try (single n p fault) e = q.kept n p fault e
  kept_try (each n count fault) e = rw (try_each n count fault) (q.kept n _ _ e)

  -- A list of which no check is left out, and one without any check that a request is about.
  alike_kept : (cs : List Check) → has_one q.left_out cs ≡ false → EndsAlike cs
  unfolding without in_order
  alike_kept [] e = q.over tt
  alike_kept (c ∷ cs) e =
      let h = or_false (q.left_out (number_of c)) (has_one q.left_out cs) e in
      rw (EndsAlike, h.0) (q.then (kept_try c h.0) (alike_kept cs h.1))

  none_out : (cs : List Check) → has_one is_requested cs ≡ false → has_one q.left_out cs ≡ false
  none_out [] e = refl
  none_out (c ∷ cs) e = let h = or_false (is_requested (number_of c)) (has_one is_requested cs) e in rw (q.requested (number_of c) h.0) (none_out cs h.1)

  alike_none : (cs : List Check) → has_one is_requested cs ≡ false → EndsAlike cs
  alike_none cs e = alike_kept cs (none_out cs e)

  -- The checks of a step that the requests are about end alike.
  module _ (c : Case) (fits : (k : ℕ) → EndsAlike (fit_checks c k)) where
    alike_step : (k : ℕ) (s : State) → EndsAlike (step_checks c k s)
    unfolding step_checks shape_checks citation_checks use_checks above_checks is_requested
    alike_step k s =
        alike_both (shape_checks c k s) (use_checks c k s) (alike_none (shape_checks c k s) refl)
        (alike_both (single 17 k _ ∷ []) _ (alike_none (single 17 k _ ∷ []) refl) (alike_both (fit_checks c k) (above_checks c k s) (fits k) (alike_none (above_checks c k s) refl)))

    alike_steps : (left k : ℕ) (s : State) → EndsAlike (checks_of_steps c left k s)
    unfolding checks_of_steps
    alike_steps zero k s = alike_none [] refl
    alike_steps (suc left) k s = alike_both (step_checks c k s) _ (alike_step k s) (alike_steps left (k + 1) (next c k s))

    alike_owed : (o : Option Formula) (room : ℕ) → EndsAlike (checks_if_owed o c room)
    unfolding checks_if_owed proof_checks end_checks closing_checks duty_checks room_checks is_requested
    alike_owed none room = alike_none (duty_checks c) refl
    alike_owed (some f) room = alike_both (checks_of_steps c c.steps 0 start_state) _ (alike_steps c.steps 0 start_state) (alike_none (end_checks c (final_state c) room) refl)

  module _ (s : List ℕ) (fits : (k : ℕ) → EndsAlike (fit_checks (case_of s) k)) where
    alike_all : (room : ℕ) → EndsAlike (all_checks s room)
    unfolding all_checks case_checks owing_checks admission_checks checks_to_log layout_checks book_checks log_checks record_checks is_requested
    alike_all room =
        alike_both (admission_checks s) (case_checks (case_of s) room) (alike_none (admission_checks s) refl)
        (alike_both (owing_checks (case_of s)) (checks_if_owed (owes (case_of s)) (case_of s) room) (alike_none (owing_checks (case_of s)) refl) (alike_owed (case_of s) fits (owes (case_of s)) room))

    alike_finding : (room : ℕ) → q.Alike (finding s room) (finding_without q.left_out s room)
    unfolding finding finding_without
    alike_finding room = q.then (alike_all room) (q.over (found (case_of s)))

-- Request 1: the number is another.
before : {A : Type 0} → Checked A → Checked A
before (accepts x) = accepts x
before (refuses n p) = refuses (number_before n) p

then_before : {A B : Type 0} (a : Checked A) (b : Checked B) → before (◌>>◌ a b) ≡ ◌>>◌ (before a) (before b)
unfolding before ◌>>◌
then_before (accepts x) b = refl
then_before (refuses n p) b = refl

-- No number that a request is about.
record NotRequested (n : ℕ) : Type 0 where
  not_27 : eqb n 27 ≡ false
  not_24 : eqb n 24 ≡ false
  not_25 : eqb n 25 ≡ false
  not_26 : eqb n 26 ≡ false

not_requested : (n : ℕ) → is_requested n ≡ false → NotRequested n
unfolding is_requested
not_requested n e =
    let a = or_false _ (eqb n 18) e in
    let b = or_false _ (eqb n 26) a.0 in
    let c = or_false _ (eqb n 25) b.0 in
    let d = or_false (eqb n 27) (eqb n 24) c.0 in
    record { not_27 = d.0; not_24 = d.1; not_25 = c.1; not_26 = b.1 }

requested_misfit : (n : ℕ) → is_requested n ≡ false → is_misfit_number n ≡ false
unfolding is_misfit_number
requested_misfit n e = let h = not_requested n e in rw (h.not_24, h.not_25, h.not_26)

same_number : (n p : ℕ) (b : Bool) → is_misfit_number n ≡ false → check n p b ≡ before (check n p b)
unfolding check before number_before
same_number n p true e = rw e
same_number n p false e = refl

request_1 : Request
unfolding before
request_1 =
    record {
      left_out = is_misfit_number;
      Alike = λ a b. b ≡ before a;
      then = λ {A} {B} {a} {b} {x} {y} h k. rw (h, k) (sym (then_before a x));
      over = λ x. refl;
      requested = requested_misfit;
      kept = same_number;
    }

-- Where one of the three fails, so does 18.
fit_alike :
    (k : ℕ) (kind party inst misfit : Bool) → (misfit ≡ false → AllHold (single 24 k kind ∷ single 25 k party ∷ single 26 k inst ∷ [])) →
    EndsAlike request_1 (single 24 k kind ∷ single 25 k party ∷ single 26 k inst ∷ single 18 k misfit ∷ [])
unfolding request_1 without is_misfit_number in_order ◌>>◌ try check before number_before
fit_alike k kind party inst false h = let w = h refl in rw (w.0, w.1.0, w.1.1.0)
fit_alike k true party inst true h = refl
fit_alike k false true inst true h = refl
fit_alike k false false true true h = refl
fit_alike k false false false true h = refl

alike_fit : (c : Case) (k : ℕ) → EndsAlike request_1 (fit_checks c k)
unfolding fit_checks misfit_checks request_1 is_misfit_number
alike_fit c k =
    alike_both request_1 (single 27 (c.step k).stray (stray_variable c k) ∷ []) (misfit_checks c k) (alike_kept request_1 (single 27 _ _ ∷ []) refl)
    (fit_alike k (wrong_kind c k) (wrong_party c k) (wrong_instance c k) (misfit c k) (λ e. let w = ((fit_checks_lem c k).1 e).1 in (w.0, (w.1.0, (w.1.1.0, tt)))))

reported : (x : Checked Finding) (room : List ℕ) → report (before x) room ≡ as_before (report x room)
unfolding before report verdict_before as_before
reported (accepts (justified ds rs)) room = refl
reported (accepts nothing_owed) room = refl
reported (refuses n p) room = refl

pub numbers_alone : NumbersAlone
unfolding request_1 outcome_without outcome
numbers_alone s room = rw (alike_finding request_1 s (alike_fit (case_of s)) (length room)) (reported (finding s (length room)) room)

-- Request 2: both runs end alike, or 27 refuses, and without it another check of how the owner step fits does.
record WasFit (c : Case) {A : Type 0} (a b : Checked A) : Type 0 where
  row : ℕ
  number : ℕ
  step : ℕ
  with : a ≡ refuses 27 row
  without : b ≡ refuses number step
  misfits : (number ≡ 24) ⊎ ((number ≡ 25) ⊎ (number ≡ 18))
  owner : (c.step step).rule ≡ 5
  told : row ≡ (c.step step).stray

module _ (c : Case) where
  abbrev SameOrFit : {A : Type 0} → Checked A → Checked A → Type 0
  SameOrFit a b = (b ≡ a) ⊎ WasFit c a b

  then_fit : {A B : Type 0} (a b : Checked A) (x y : Checked B) → SameOrFit a b → SameOrFit x y → SameOrFit (◌>>◌ a x) (◌>>◌ b y)
  unfolding ◌>>◌
  then_fit (accepts v) b x y (inl e) h = rw e h
  then_fit (refuses n p) b x y (inl e) h = inl (rw e)
  then_fit a b x y (inr w) h = inr (record { row = w.row; number = w.number; step = w.step; with = rw w.with; without = rw w.without; misfits = w.misfits; owner = w.owner; told = w.told })

  request_2 : Request
  unfolding is_stray_number
  request_2 =
      record {
        left_out = is_stray_number;
        Alike = λ a b. SameOrFit a b;
        then = λ {A} {B} {a} {b} {x} {y} h k. then_fit a b x y h k;
        over = λ x. inl refl;
        requested = λ n e. (not_requested n e).not_27;
        kept = λ n p b e. inl refl;
      }

  module _ (k : ℕ) where
    some_misfit : (kind party : Bool) → (n : ℕ) × (in_order (single 24 k kind ∷ single 25 k party ∷ single 26 k false ∷ single 18 k true ∷ []) ≡ refuses n k) × ((n ≡ 24) ⊎ ((n ≡ 25) ⊎ (n ≡ 18)))
    unfolding in_order ◌>>◌ try check
    some_misfit true party = (24, refl, inl refl)
    some_misfit false true = (25, refl, inr (inl refl))
    some_misfit false false = (18, refl, inr (inr refl))

    -- rule 5 has no instance
    owner_instance : (c.step k).rule ≡ 5 → wrong_instance c k ≡ false
    unfolding wrong_instance rule_of rule_at rules rule no_instance
    owner_instance e = rw e

    stray_misfits : stray_variable c k ≡ true → misfit c k ≡ true
    unfolding fit_checks
    stray_misfits e = never_false _ (λ fits. not_both e ((fit_checks_lem c k).1 fits).0)

    stray_owner : stray_variable c k ≡ true → (c.step k).rule ≡ 5
    unfolding stray_variable
    stray_owner e = eqb-true _ 5 (and_true (eqb (c.step k).rule 5) _ e).0

    stray_fit : (b : Bool) → stray_variable c k ≡ b → EndsAlike request_2 (fit_checks c k)
    unfolding request_2 fit_checks misfit_checks without is_stray_number in_order ◌>>◌ try check
    stray_fit false e = rw (EndsAlike, e) (inl refl)
    stray_fit true e =
        let w = some_misfit (wrong_kind c k) (wrong_party c k) in
        rw (EndsAlike, e, stray_misfits e, owner_instance (stray_owner e)) (inr (record { row = (c.step k).stray; number = w.0; step = k; with = refl; without = w.1; misfits = w.2; owner = stray_owner e; told = refl }))

pub strays_alone : StraysAlone
unfolding request_2 outcome_without outcome report
strays_alone s room =
    ⊎_elim (λ e. inl (rw e))
    (λ w. inr (record { row = w.row; number = w.number; step = w.step; with = rw w.with; without = rw w.without; misfits = w.misfits; owner = w.owner; told = w.told }))
    (alike_finding (request_2 (case_of s)) s (λ k. stray_fit (case_of s) k (stray_variable (case_of s) k) refl) (length room))
