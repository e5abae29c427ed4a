-- Spans adjoin from 0 and cover all entries just if none of them is at fault. Log rows and steps have spans alike, so it is said once. Assumes nothing.
use Prim.Native.Nat.{ℕ, zero, suc, ◌+◌, ◌-◌, ◌≤◌, ◌<◌}
use mathlib.Core.Path.{◌≡◌, refl, sym, ap, ◌∙◌}
use mathlib.Core.Bool.{Bool, true, false, not, ◌&&◌}
use native.Mathlib.Numerals.{add-one}
use native.Mathlib.Omega.{arith}
use lib.Dec.{eqb, ltb}
use borrow.Author.Tests.{ltb-false, le-ltb, eqb-true, eq-eqb, ne_eqb, not-false}
use Rattle.definition.proofs.Tests.{or_false}
use Rattle.definition.specs.15-Records.{span_due, span_fault, bad_span}

-- Where the first span is due to begin, and the one after span k.
module _ (from len : ℕ → ℕ) where
  pub due_first : 0 ≡ span_due from len 0
  unfolding span_due
  due_first = refl

  pub due_next : (k : ℕ) → from k + len k ≡ span_due from len (k + 1)
  unfolding span_due
  due_next k =
      let e : k + 1 - 1 ≡ k = omega arith in
      rw (ne_eqb (k + 1) 0 (λ q. omega arith), e)

module _ (from len : ℕ → ℕ) (n m : ℕ) where
  pub record Span (k : ℕ) : Type 0 where
    pub begins : from k ≡ span_due from len k
    pub within : from k + len k ≤ m
    pub covers : k + 1 ≡ n → m ≤ from k + len k

  pub span_holds : (k : ℕ) → bad_span from len n m k ≡ false → Span k
  unfolding bad_span span_fault
  span_holds k e =
      let g = or_false _ (eqb (k + 1) n && ltb (from k + len k) m) e in
      let h = or_false (not (eqb (from k) (span_due from len k))) (ltb m (from k + len k)) g.0 in
      record {
        begins = eqb-true (from k) (span_due from len k) (not-false _ h.0);
        within = ltb-false m (from k + len k) h.1;
        covers = λ q. ltb-false (from k + len k) m (rw (eq-eqb (k + 1) n q) at g.1);
      }

  pub holds_span : (k : ℕ) → Span k → bad_span from len n m k ≡ false
  unfolding bad_span span_fault
  holds_span k s =
      rw (eq-eqb (from k) (span_due from len k) s.begins, le-ltb m (from k + len k) s.within) (last (eqb (k + 1) n) refl)
    where
      last : (b : Bool) → eqb (k + 1) n ≡ b → b && ltb (from k + len k) m ≡ false
      last true q = le-ltb (from k + len k) m (s.covers (eqb-true (k + 1) n q))
      last false q = refl

  -- the spans in a row: each begins where the one before ended, and the last ends with the entries
  pub record Adjoin : Type 0 where
    pub first : 0 < n → from 0 ≡ 0
    pub next : (k : ℕ) → k + 1 < n → from (k + 1) ≡ from k + len k
    pub last : (k : ℕ) → k + 1 ≡ n → from k + len k ≡ m

  pub spans_adjoin : ((k : ℕ) → k < n → bad_span from len n m k ≡ false) → Adjoin
  unfolding span_due
  spans_adjoin h =
      record {
        first = λ lt. (span_holds 0 (h 0 lt)).begins;
        next = λ k lt. (span_holds (k + 1) (h (k + 1) lt)).begins ∙ sym (due_next from len k);
        last = λ k e. let s = span_holds k (h k (omega arith)) in omega (arith, s.within, s.covers e);
      }

  -- no span ends beyond the entries: it ends where the next begins, and the last ends with them
  ends_within : Adjoin → (left k : ℕ) → k + left + 1 ≡ n → from k + len k ≤ m
  ends_within a zero k e = omega (arith, a.last k (omega arith))
  ends_within a (suc left) k e =
      omega (arith, a.next k (omega arith), ends_within a left (k + 1) (omega arith))

  begins_due : Adjoin → (k : ℕ) → k < n → from k ≡ span_due from len k
  unfolding span_due
  begins_due a zero lt = a.first lt
  begins_due a (suc k) lt = ap from (sym (add-one k)) ∙ a.next k (omega arith) ∙ due_next from len k ∙ ap (span_due from len) (add-one k)

  pub adjoin_spans : Adjoin → (k : ℕ) → k < n → bad_span from len n m k ≡ false
  adjoin_spans a k lt =
      holds_span k
      (record {
        begins = begins_due a k lt;
        within = ends_within a (n - k - 1) k (omega arith);
        covers = λ q. omega (arith, a.last k q);
      })
