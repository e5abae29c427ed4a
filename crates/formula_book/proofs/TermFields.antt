-- Fields that are terms, but for absent ones at the end, one field after the other. Assumes nothing.
use Prim.Native.Nat.{ℕ}
use mathlib.Core.Path.{◌≡◌, refl, sym}
use mathlib.Core.Bool.{Bool, true, false, cond}
use mathlib.Core.Logic.{◌⊎◌, inl, inr}
use mathlib.Core.List.{List, [], ◌∷◌}
use borrow.Author.Tests.{ne_eqb}
use Rattle.definition.specs.01-Words.{absent}
use Rattle.definition.specs.12-Terms.{class_of, is_term, has_sort, is_instance, is_object, is_parameter, is_variable}
use Rattle.definition.specs.14-Book.{terms_first, all_absent}

-- What the fields left have to be, by whether one was absent before.
unfoldable pub left : (ended : Bool) → List ℕ → Bool
left ended ts = cond ended (all_absent ts) (terms_first ts)

absent_no_term : is_term (class_of absent) ≡ false
unfolding is_term class_of has_sort is_instance is_object is_parameter is_variable
absent_no_term = refl

pub left_absent : (ended : Bool) (t : ℕ) (ts : List ℕ) → t ≡ absent → left ended (t ∷ ts) ≡ left true ts
unfolding left terms_first all_absent
left_absent true t ts e = rw e refl
left_absent false t ts e = rw (e, absent_no_term) refl

pub left_term : (t : ℕ) (ts : List ℕ) → is_term (class_of t) ≡ true → left false (t ∷ ts) ≡ left false ts
unfolding left terms_first
left_term t ts e = rw e refl

pub left_other : (ended : Bool) (t : ℕ) (ts : List ℕ) → (t ≡ absent → ⊥) → (ended ≡ true) ⊎ (is_term (class_of t) ≡ false) → left ended (t ∷ ts) ≡ false
unfolding left terms_first all_absent
left_other true t ts n w = rw (ne_eqb t absent n) refl
left_other false t ts n (inr e) = rw (e, ne_eqb t absent n) refl
left_other false t ts n (inl e) = cc

pub left_none : (ended : Bool) → left ended [] ≡ true
unfolding left terms_first all_absent
left_none true = refl
left_none false = refl
