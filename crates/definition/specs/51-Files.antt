-- Case files written by name, for the desk cases and the examples. Nothing in the definition uses this file.
use Rattle.std.specs.Prelude.{ℕ, ◌+◌, List, [], ◌∷◌}
use Rattle.definition.specs.01-Words.{words, absent}
use Rattle.definition.specs.03-Lists.{join_all}
use Rattle.definition.specs.19-Rewriting.{laid_out}

-- The rows of the formula part.
unfoldable pub formula_row : (kind code x y z : ℕ) → List ℕ
formula_row kind code x y z = kind ∷ code ∷ words (x ∷ y ∷ z ∷ [])

unfoldable pub predicate_row : (code x y z : ℕ) → List ℕ
predicate_row c x y z = formula_row 0 c x y z

unfoldable pub owns_row : (x y : ℕ) → List ℕ
owns_row x y = formula_row 1 0 x y absent

unfoldable pub says_row : (x y z : ℕ) → List ℕ
says_row x y z = formula_row 2 0 x y z

unfoldable pub and_row : (x y : ℕ) → List ℕ
and_row x y = formula_row 3 0 x y absent

unfoldable pub implies_row : (x y : ℕ) → List ℕ
implies_row x y = formula_row 5 0 x y absent

-- Kind 6 with mark 1 (each use), kind 7 with mark 2 (once).
unfoldable pub after_row : (mark x y : ℕ) → List ℕ
after_row m x y = formula_row (m + 5) 0 x y absent

unfoldable pub communicates_row : (x y z : ℕ) → List ℕ
communicates_row x y z = formula_row 8 0 x y z

unfoldable pub creates_row : (x y : ℕ) → List ℕ
creates_row x y = formula_row 9 0 x y absent

unfoldable pub user_action_row : (code x y z : ℕ) → List ℕ
user_action_row c x y z = formula_row 10 c x y z

-- The numbers of one step.
unfoldable pub step : (rule formula argument start len : ℕ) → List ℕ
step r f a start len = r ∷ f ∷ a ∷ start ∷ len ∷ []

-- The audit hour of the examples, unless they say another.
abbrev pub audit_hour : ℕ
audit_hour = 50

-- The numbers of one obligation that names no row and is not due: due at the audit hour is not expired.
unfoldable pub not_due : (mark action : ℕ) → List ℕ
not_due mark action = mark ∷ action ∷ audit_hour ∷ absent ∷ []

-- A file of formula rows, and the numbers of the other parts.
pub record FileParts : Type 0 where
  pub agent : ℕ
  pub action : ℕ
  pub hour : ℕ
  pub formulas : List (List ℕ)
  pub rows : List ℕ
  pub observers : List ℕ
  pub conditions : List ℕ
  pub obligations : List (List ℕ)
  pub labels : List ℕ
  pub steps : List (List ℕ)
  pub premises : List ℕ

unfoldable pub file_of : FileParts → List ℕ
file_of w =
    laid_out w.agent w.action w.hour
    (join_all w.formulas
    ∷ words w.rows
    ∷ words w.observers
    ∷ words w.conditions
    ∷ words (join_all w.obligations)
    ∷ words w.labels
    ∷ words (join_all w.steps)
    ∷ words w.premises
    ∷ [])

-- What an evaluation unfolds of this file.
unfoldable pub evaluated_files : Unit {0}
unfolding formula_row predicate_row owns_row says_row and_row implies_row after_row communicates_row creates_row user_action_row step not_due file_of
evaluated_files = tt
