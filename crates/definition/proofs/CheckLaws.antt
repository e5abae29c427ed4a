-- Laws of runs of checks: what it takes that one accepts, and where a refusal comes from. Each by the cases of its first check.
-- Assumes nothing.
use Prim.Native.Nat.{ℕ, ◌+◌, ◌≤◌, ◌<◌}
use mathlib.Core.Path.{◌≡◌, refl, sym, ap, ◌∙◌}
use mathlib.Core.Bool.{Bool, true, false, ◌||◌}
use mathlib.Core.Logic.{◌⊎◌, inl, inr, ⊎_elim}
use mathlib.Core.List.{List, [], ◌∷◌, ◌++◌}
use native.Mathlib.Omega.{arith}
use lib.Dec.{eqb}
use borrow.Author.Tests.{ltb-true, lt-ltb, le-ltb, eq-eqb}
use Rattle.definition.specs.02-Ranges.{any, lowest}
use Rattle.definition.specs.04-Checks.{Checked, accepts, refuses, ◌>>◌, Check, single, each, number_of, check, try, in_order, Holds, Fails, AllHold, FirstFault, here, later}
use Rattle.definition.proofs.Tests.{or_intro_left, or_intro_right, not_both}
use Rattle.definition.proofs.RangeLaws.{any_false, any_none, lowest_found, lowest_is, lowest_any}

pub then_assoc : {A B C : Type 0} (a : Checked A) (b : Checked B) (c : Checked C) → ◌>>◌ (◌>>◌ a b) c ≡ ◌>>◌ a (◌>>◌ b c)
unfolding ◌>>◌
then_assoc (accepts x) b c = refl
then_assoc (refuses n p) b c = refl

-- A second run may stand for another if they agree wherever the first accepts.
pub second_agrees :
    {A B C : Type 0} (a : Checked A) (e f : Checked B) (r : Checked C) → ((x : A) → a ≡ accepts x → e ≡ f) → ◌>>◌ a (◌>>◌ e r) ≡ ◌>>◌ a (◌>>◌ f r)
unfolding ◌>>◌
second_agrees (refuses n p) e f r h = refl
second_agrees (accepts x) e f r h = rw (h x refl)

-- An answer is not both.
pub never_both : {A : Type 0} {x : A} {n p : ℕ} → accepts x ≡ refuses n p → ⊥
never_both e = let z : ◌≡◌ {A = ℕ} 0 1 = cc in omega arith

pub then_accepts : {A B : Type 0} (a : Checked A) (b : Checked B) (v : B) → ◌>>◌ a b ≡ accepts v → ((x : A) × (a ≡ accepts x)) × (b ≡ accepts v)
unfolding ◌>>◌
then_accepts (accepts x) b v e = ((x, refl), e)
then_accepts (refuses n p) b v e = absurd (never_both (let z : accepts v ≡ refuses n p = cc in z))

pub then_refuses :
    {A B : Type 0} (a : Checked A) (b : Checked B) (n p : ℕ) → ◌>>◌ a b ≡ refuses n p →
    (a ≡ refuses n p) ⊎ (((x : A) × (a ≡ accepts x)) × (b ≡ refuses n p))
unfolding ◌>>◌
then_refuses (accepts x) b n p e = inr ((x, refl), e)
then_refuses (refuses m q) b n p e = inl (cc)

-- A run that stops, and one that goes on, before another.
pub then_stops : {A B : Type 0} {a : Checked A} (b : Checked B) {n p : ℕ} → refuses n p ≡ a → refuses n p ≡ ◌>>◌ a b
unfolding ◌>>◌
then_stops b e = rw (← e)

pub then_goes_on : {A B : Type 0} {a : Checked A} {b : Checked B} {x : A} → accepts x ≡ a → b ≡ ◌>>◌ a b
unfolding ◌>>◌
then_goes_on e = rw (← e)

-- One check: it accepts just if it holds, and refuses just with what it fails with.
try_single : (n p : ℕ) (b : Bool) → try (single n p b) ≡ check n p b
unfolding try
try_single n p b = refl

-- A check at each place is a check of whether there is a fault at one.
pub try_each : (n count : ℕ) (fault : ℕ → Bool) → try (each n count fault) ≡ check n (lowest fault count 0) (any fault count 0)
unfolding try
try_each n count fault =
    let all : 0 + count ≡ count = omega arith in
    rw (rw all at (lowest_any fault count 0))

check_accepts : (n p : ℕ) (b : Bool) {x : Unit {0}} → check n p b ≡ accepts x → b ≡ false
unfolding check
check_accepts n p true {x} e = absurd (never_both (let z : accepts x ≡ refuses n p = cc in z))
check_accepts n p false e = refl

check_refuses : (n p m q : ℕ) (b : Bool) → check n p b ≡ refuses m q → (n ≡ m) × (p ≡ q) × (b ≡ true)
unfolding check
check_refuses n p m q true e = (cc, cc, refl)
check_refuses n p m q false e = absurd (never_both e)

pub try_accepts : (c : Check) {x : Unit {0}} → try c ≡ accepts x → Holds c
unfolding try
try_accepts (single n p b) e = check_accepts n p b e
try_accepts (each n count fault) e =
    λ k lt. any_false fault count 0 (check_accepts n (lowest fault count 0) (any fault count 0) (sym (try_each n count fault) ∙ e)) k (omega arith) (omega arith)

pub try_holds : (c : Check) → Holds c → try c ≡ accepts tt
unfolding check
try_holds (single n p b) h = try_single n p b ∙ rw h
try_holds (each n count fault) h = try_each n count fault ∙ rw (any_none fault count 0 (λ j from to. h j (omega arith)))

pub try_refuses : (c : Check) (m q : ℕ) → try c ≡ refuses m q → Fails c m q
unfolding try
try_refuses (single n p b) m q e = check_refuses n p m q b e
try_refuses (each n count fault) m q e =
    let r = check_refuses n _ m q _ e in
    let lt : lowest fault count 0 < count = ltb-true _ count r.2 in
    let f = lowest_found fault count 0 q r.1 (omega arith) in
    (r.0, (omega arith, f.0, λ j l. f.1 j (omega arith) l))

pub try_fails : (c : Check) (m q : ℕ) → Fails c m q → try c ≡ refuses m q
unfolding try check
try_fails (single n p b) m q f = rw (f.0, f.1, f.2)
try_fails (each n count fault) m q f =
    let is = lowest_is fault count 0 q (omega arith) (omega arith) f.1.1 (λ j from below. f.1.2 j below) in
    rw (is, lt-ltb q count f.1.0, f.0)

-- A check at each place, from the lowest at which its test finds a fault.
module _ (n : ℕ) {count k : ℕ} (fault : ℕ → Bool) (is : k ≡ lowest fault count 0) where
  pub lowest_fails : k < count → Fails (each n count fault) n k
  lowest_fails lt = let f = lowest_found fault count 0 k (sym is) (omega arith) in (refl, (lt, f.0, λ j below. f.1 j (omega arith) below))

  pub lowest_holds : count ≤ k → Holds (each n count fault)
  unfolding try check
  lowest_holds le = try_accepts (each n count fault) {x = tt} (rw (← is, le-ltb k count le))

-- A check holds or fails.
pub decided : (c : Check) → Holds c ⊎ ((m : ℕ) × (q : ℕ) × Fails c m q)
decided c = go (try c) refl
  where
    go : (r : Checked (Unit {0})) → try c ≡ r → Holds c ⊎ ((m : ℕ) × (q : ℕ) × Fails c m q)
    go (accepts x) e = inl (try_accepts c e)
    go (refuses m q) e = inr (m, q, try_refuses c m q e)

-- A run goes on behind a check that holds, and stops at one that fails.
pub goes_on : (c : Check) (cs : List Check) → Holds c → in_order (c ∷ cs) ≡ in_order cs
unfolding in_order ◌>>◌
goes_on c cs h = rw (try_holds c h)

pub stops : (c : Check) (cs : List Check) (n p : ℕ) → Fails c n p → in_order (c ∷ cs) ≡ refuses n p
unfolding in_order ◌>>◌
stops c cs n p f = rw (try_fails c n p f)

-- A list of checks behind another.
pub in_order_append : (cs ds : List Check) → in_order (cs ++ ds) ≡ ◌>>◌ (in_order cs) (in_order ds)
unfolding in_order ◌>>◌
in_order_append [] ds = refl
in_order_append (c ∷ cs) ds = rw (in_order_append cs ds) (sym (then_assoc (try c) (in_order cs) (in_order ds)))

-- A run accepts just if every check holds.
pub all_hold : (cs : List Check) {x : Unit {0}} → in_order cs ≡ accepts x → AllHold cs
unfolding in_order
all_hold [] e = tt
all_hold (c ∷ cs) {x} e =
    let a = then_accepts (try c) (in_order cs) x e in
    (try_accepts c a.0.1, all_hold cs a.1)

pub hold_all : (cs : List Check) → AllHold cs → in_order cs ≡ accepts tt
unfolding in_order
hold_all [] h = refl
hold_all (c ∷ cs) h = goes_on c cs h.0 ∙ hold_all cs h.1

-- It refuses just with the first that fails.
pub first_fault : (cs : List Check) (n p : ℕ) → in_order cs ≡ refuses n p → FirstFault cs n p
unfolding in_order
first_fault [] n p e = absurd (never_both e)
first_fault (c ∷ cs) n p e =
    ⊎_elim (λ w. here (try_refuses c n p w)) (λ w. later (try_accepts c w.0.1) (first_fault cs n p w.1)) (then_refuses (try c) (in_order cs) n p e)

pub fault_first : {cs : List Check} {n p : ℕ} → FirstFault cs n p → in_order cs ≡ refuses n p
fault_first (here {c = c} {cs = cs} {n = n} {p = p} f) = stops c cs n p f
fault_first (later {c = c} {cs = cs} h f) = goes_on c cs h ∙ fault_first f

-- What the checks of one number say where all checks of a list hold: first to last, wherever they stand in it.
abbrev Besides : Bool → Type 0 → Type 0 → Type 0
Besides true A B = A × B
Besides false A B = B

abbrev pub ByNumber : ℕ → List Check → Type 0
ByNumber n [] = Unit {0}
ByNumber n (c ∷ cs) = Besides (eqb n (number_of c)) (Holds c) (ByNumber n cs)

pub by_number : (n : ℕ) (cs : List Check) → AllHold cs → ByNumber n cs
by_number n [] h = tt
by_number n (c ∷ cs) h = besides (eqb n (number_of c)) h.0 (by_number n cs h.1)
  where
    besides : {A B : Type 0} (b : Bool) → A → B → Besides b A B
    besides true x y = (x, y)
    besides false x y = y

-- The checks of two lists, and of each.
pub both_hold : (cs ds : List Check) → AllHold (cs ++ ds) → AllHold cs × AllHold ds
both_hold [] ds h = (tt, h)
both_hold (c ∷ cs) ds h = let r = both_hold cs ds h.1 in ((h.0, r.0), r.1)

pub hold_both : (cs ds : List Check) → AllHold cs → AllHold ds → AllHold (cs ++ ds)
hold_both [] ds h k = k
hold_both (c ∷ cs) ds h k = (h.0, hold_both cs ds h.1 k)

-- Checks that hold may be left out at either end.
pub skip_before : (cs ds : List Check) → AllHold cs → in_order (cs ++ ds) ≡ in_order ds
skip_before [] ds h = refl
skip_before (c ∷ cs) ds h = goes_on c (cs ++ ds) h.0 ∙ skip_before cs ds h.1

pub skip_behind : (cs ds : List Check) → AllHold ds → in_order (cs ++ ds) ≡ in_order cs
unfolding in_order
skip_behind [] ds h = hold_all ds h
skip_behind (c ∷ cs) ds h = rw (skip_behind cs ds h)

-- A fault of the first of two lists is the first of both.
pub stop_before : (cs ds : List Check) {n p : ℕ} → refuses n p ≡ in_order cs → refuses n p ≡ in_order (cs ++ ds)
stop_before cs ds e = then_stops (in_order ds) e ∙ sym (in_order_append cs ds)

-- The first fault of two lists is the first of one of them; of the second where all checks of the first hold.
pub fault_either : (cs ds : List Check) {n p : ℕ} → FirstFault (cs ++ ds) n p → FirstFault cs n p ⊎ (AllHold cs × FirstFault ds n p)
fault_either [] ds f = inr (tt, f)
fault_either (c ∷ cs) ds (here f) = inl (here f)
fault_either (c ∷ cs) ds (later h f) = ⊎_elim (λ g. inl (later h g)) (λ g. inr ((h, g.0), g.1)) (fault_either cs ds f)

pub fault_before : {cs : List Check} (ds : List Check) {n p : ℕ} → FirstFault cs n p → FirstFault (cs ++ ds) n p
fault_before ds (here f) = here f
fault_before ds (later h f) = later h (fault_before ds f)

pub fault_behind : (cs : List Check) {ds : List Check} {n p : ℕ} → AllHold cs → FirstFault ds n p → FirstFault (cs ++ ds) n p
fault_behind [] h f = f
fault_behind (c ∷ cs) h f = later h.0 (fault_behind cs h.1 f)

-- Has a check of the list such a number? And this number?
abbrev pub has_one : (ℕ → Bool) → List Check → Bool
has_one is [] = false
has_one is (c ∷ cs) = is (number_of c) || has_one is cs

abbrev pub has_number : ℕ → List Check → Bool
has_number n = has_one (λ m. eqb m n)

-- A check that fails has one of the list's numbers.
pub failing_number : (c : Check) (n p : ℕ) → Fails c n p → number_of c ≡ n
failing_number (single m q fault) n p f = f.0
failing_number (each m count fault) n p f = f.0

has_one_lem : (is : ℕ → Bool) {cs : List Check} {n p : ℕ} → is n ≡ true → FirstFault cs n p → has_one is cs ≡ true
has_one_lem is e (here {c = c} {cs = cs} {n = n} {p = p} f) = or_intro_left (has_one is cs) (ap is (failing_number c n p f) ∙ e)
has_one_lem is e (later {c = c} {cs = cs} h f) = or_intro_right (is (number_of c)) (has_one_lem is e f)

-- So a list that has no such number has no fault of such a number; and one without this number none of this.
pub none_such : {A : Type 0} (is : ℕ → Bool) (cs : List Check) {n p : ℕ} → has_one is cs ≡ false → is n ≡ true → FirstFault cs n p → A
none_such is cs e such f = absurd (not_both (has_one_lem is such f) e)

pub other_number : {A : Type 0} (cs : List Check) {n p : ℕ} → has_number n cs ≡ false → FirstFault cs n p → A
other_number cs {n = n} e f = none_such (λ m. eqb m n) cs e (eq-eqb n n refl) f
