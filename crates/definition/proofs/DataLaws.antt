-- `data_of` lists, ascending, just the data objects and data parameters that stand in the formula. Assumes nothing.
use Prim.Native.Nat.{ℕ, ◌+◌, ◌<◌}
use mathlib.Core.Path.{◌≡◌, refl, sym, ◌∙◌}
use mathlib.Core.Bool.{Bool, true, false}
use mathlib.Core.Logic.Iff
use mathlib.Core.Logic.{◌↔◌, ◌⊎◌, inl, inr, ⊎_elim}
use mathlib.Core.List.{List, [], ◌∷◌}
use native.Mathlib.Omega.{arith}
use lib.Dec.{ltb, eqb}
use borrow.Author.Tests.{ltb-true, ltb-false, eqb-true, eqb-false}
use Rattle.definition.proofs.OccurrenceLaws.{instance_is}
use Rattle.definition.proofs.Tests.{refutes}
use Rattle.definition.specs.03-Lists.{Among, Ascending}
use Rattle.definition.specs.12-Terms.{data_objects, class_of, is_instance}
use Rattle.definition.specs.13-Formulas.{Formula, predicate, owns, says, and, for_all, implies, after, communicates, creates, user_action, no_formula, insert, add_term, add_data, data_of}
use Rattle.definition.specs.41-Occurrences.{Somewhere, Mentions, Instance}

-- Where t goes in.
data Inserted (t u : ℕ) (us : List ℕ) : Type 0 where
  front : t < u → insert t (u ∷ us) ≡ t ∷ u ∷ us → Inserted t u us
  there : t ≡ u → insert t (u ∷ us) ≡ u ∷ us → Inserted t u us
  behind : u < t → insert t (u ∷ us) ≡ u ∷ insert t us → Inserted t u us

inserted : (t u : ℕ) (us : List ℕ) → Inserted t u us
unfolding insert
inserted t u us = go (ltb t u) (eqb t u) refl refl
  where
    go : (a b : Bool) → ltb t u ≡ a → eqb t u ≡ b → Inserted t u us
    go true b e f = front (ltb-true t u e) (rw e)
    go false true e f = there (eqb-true t u f) (rw (e, f))
    go false false e f = behind (omega (arith, ltb-false t u e, eqb-false t u f)) (rw (e, f))

insert_among : (t v : ℕ) (us : List ℕ) → Among v (insert t us) ↔ ((v ≡ t) ⊎ Among v us)
unfolding insert
insert_among t v [] = Iff.rfl
insert_among t v (u ∷ us) = go (inserted t u us) (insert_among t v us)
  where
    go :
        Inserted t u us → Among v (insert t us) ↔ ((v ≡ t) ⊎ Among v us) →
        Among v (insert t (u ∷ us)) ↔ ((v ≡ t) ⊎ Among v (u ∷ us))
    go (front h e) rest = rw e Iff.rfl
    go (there h e) rest = rw e (inr, ⊎_elim (λ q. inl (q ∙ h)) (λ r. r))
    go (behind h e) rest =
        rw e (
          ⊎_elim (λ q. inr (inl q)) (λ r. ⊎_elim inl (λ s. inr (inr s)) (rest.0 r)),
          ⊎_elim (λ q. inr (rest.1 (inl q))) (⊎_elim inl (λ s. inr (rest.1 (inr s)))),
        )

insert_ascend : (t : ℕ) (us : List ℕ) → Ascending us → Ascending (insert t us)
unfolding insert
insert_ascend t [] up = (λ y h. absurd h, tt)
insert_ascend t (u ∷ us) up = go (inserted t u us) (insert_ascend t us up.1)
  where
    go : Inserted t u us → Ascending (insert t us) → Ascending (insert t (u ∷ us))
    go (front h e) rest = rw e (λ y. ⊎_elim (λ q. omega arith) (λ r. omega (arith, up.0 y r)), up)
    go (there h e) rest = rw e up
    go (behind h e) rest =
        rw e (λ y r. ⊎_elim (λ q. omega arith) (λ s. up.0 y s) ((insert_among t y us).0 r), rest)

-- The step A from list to list puts v in just where v is a data object or data parameter and P holds.
record Adds (v : ℕ) (P : Type 0) (A : List ℕ → List ℕ) : Type 0 where
  among : (ds : List ℕ) → Among v (A ds) ↔ ((Instance data_objects v × P) ⊎ Among v ds)
  ascend : (ds : List ℕ) → Ascending ds → Ascending (A ds)

nothing : {v : ℕ} → Adds v ⊥ (λ ds. ds)
nothing = record { among = λ ds. (inr, ⊎_elim (λ h. absurd h.1) (λ r. r)); ascend = λ ds up. up }

both : {v : ℕ} {P Q : Type 0} {A B : List ℕ → List ℕ} → Adds v P A → Adds v Q B → Adds v (P ⊎ Q) (λ ds. A (B ds))
both {B} a b =
    record {
      among =
          λ ds. (
            λ h. ⊎_elim (λ p. inl (p.0, inl p.1)) (λ r. ⊎_elim (λ q. inl (q.0, inr q.1)) inr ((b.among ds).0 r)) ((a.among (B ds)).0 h),
            ⊎_elim (λ h. ⊎_elim (λ p. (a.among (B ds)).1 (inl (h.0, p))) (λ q. (a.among (B ds)).1 (inr ((b.among ds).1 (inl (h.0, q))))) h.1)
                (λ r. (a.among (B ds)).1 (inr ((b.among ds).1 (inr r)))),
          );
      ascend = λ ds up. a.ascend (B ds) (b.ascend ds up);
    }

term : {v : ℕ} (t : ℕ) → Adds v (t ≡ v) (add_term t)
unfolding add_term
term {v} t = go (is_instance data_objects (class_of t)) refl
  where
    go : (b : Bool) → is_instance data_objects (class_of t) ≡ b → Adds v (t ≡ v) (add_term t)
    go true e =
        record {
          among =
              λ ds.
              rw e (
                λ h. ⊎_elim (λ q. inl (rw (← q) at ((instance_is data_objects t).0 e), sym q)) inr ((insert_among t v ds).0 h),
                λ h. (insert_among t v ds).1 (⊎_elim (λ q. inl (sym q.1)) inr h),
              );
          ascend = λ ds up. rw e (insert_ascend t ds up);
        }
    go false e =
        record {
          among =
              λ ds.
              rw e
              (inr, ⊎_elim (λ q. absurd ((refutes (instance_is data_objects t)).0 e (rw (← q.1) at q.0))) (λ r. r));
          ascend = λ ds up. rw e up;
        }

data_adds : {v : ℕ} (k : ℕ) (f : Formula) → Adds v (Somewhere (λ d u. u ≡ v) k f) (add_data f)
unfolding add_data
data_adds k (predicate c x y z) = both (term x) (both (term y) (term z))
data_adds k (owns x y) = both (term x) (term y)
data_adds k (says x f z) = both (term x) (both (term z) (data_adds k f))
data_adds k (and f g) = both (data_adds k f) (data_adds k g)
data_adds k (for_all σ f) = data_adds (k + 1) f
data_adds k (implies f g) = both (data_adds k f) (data_adds k g)
data_adds k (after m a f) = both (data_adds k a) (data_adds k f)
data_adds k (communicates x f z) = both (term x) (both (term z) (data_adds k f))
data_adds k (creates x y) = both (term x) (term y)
data_adds k (user_action c x y z) = both (term x) (both (term y) (term z))
data_adds k no_formula = nothing

pub data_ascend : (f : Formula) → Ascending (data_of f)
unfolding data_of
data_ascend f = (data_adds {v = 0} 0 f).ascend [] tt

pub data_among : (f : Formula) (d : ℕ) → Among d (data_of f) ↔ (Instance data_objects d × Mentions d f)
unfolding data_of
data_among f d =
    let a = (data_adds {v = d} 0 f).among [] in
    (λ h. ⊎_elim (λ p. p) (λ r. absurd r) (a.0 h), λ p. a.1 (inl p))
