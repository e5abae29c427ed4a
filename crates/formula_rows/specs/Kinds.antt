-- The numbers of the kinds, and what a byte names.
use Rattle.std.specs.Prelude.{ℕ, ◌≡◌, ◌<◌, Result, Ok, Err}
use Rattle.formula_rows.specs.declared.kinds.Kind.{Kind}
use Rattle.formula_rows.specs.declared.kinds.Kind.TheVariants as kind
use Rattle.formula_rows.specs.declared.kinds.UnknownKind.{UnknownKind}

abbrev pub kind_number : Kind → ℕ
kind_number kind.Predicate = 0
kind_number kind.Owns = 1
kind_number kind.Says = 2
kind_number kind.And = 3
kind_number kind.ForAll = 4
kind_number kind.Implies = 5
kind_number kind.EachUse = 6
kind_number kind.Once = 7
kind_number kind.Communicates = 8
kind_number kind.Creates = 9
kind_number kind.UserAction = 10

-- A byte names the kind whose number it is; one above 10 names none.
abbrev pub KindOf : ℕ → Result Kind UnknownKind → Type 0
KindOf n (Ok k) = kind_number k ≡ n
KindOf n (Err e) = (10 < n) × (e.0 ≡ n)
