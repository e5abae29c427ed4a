-- Document 02, request 6: duties with a due hour, checks 31 and 32. They look at what the agent sees of a row, never at the log.
-- They answer definition 6 of source document 000: "if o ∈ obligs has expired then o ∈ S(a), i.e. each obligation that has expired has been (executed and) logged."
use Rattle.std.specs.Prelude.{ℕ, Bool, false, not, ◌&&◌, List, [], ◌∷◌, eqb, ltb}
use Rattle.std.proofs.Math.Option.{Option, none, some}
use Rattle.definition.specs.02-Ranges.{any}
use Rattle.definition.specs.04-Checks.{Check, each}
use Rattle.definition.specs.13-Formulas.{Formula, each_use, same}
use Rattle.definition.specs.16-Views.{RowView, hidden, struck, shows}
use Rattle.definition.specs.17-Case.{Case}

-- Expired: "an obligation due before the audit hour".
unfoldable pub is_expired : Case → ℕ → Bool
is_expired c o = ltb (c.obligation o).due c.hour

-- Does a row, as the agent sees it, carry this action? "An unseen row counts as not done", whatever it holds; a struck row has no action.
unfoldable pub carries : RowView → Formula → Bool
carries hidden f = false
carries struck f = false
carries (shows g) f = same g f

-- "A row seen by the agent that carries its action"; where no row is named, "not done".
unfoldable pub done_by : Case → Option ℕ → Formula → Bool
done_by c none f = false
done_by c (some k) f = carries (c.row k) f

unfoldable pub is_done : Case → ℕ → Bool
is_done c o = done_by c (c.obligation o).row (c.obligation o).formula

-- Check 31: "expired and not done", cited or not; place: the lowest obligation.
unfoldable pub undone : Case → ℕ → Bool
undone c o = is_expired c o && not (is_done c o)

-- Is it row k that is named?
unfoldable pub is_row : (k : ℕ) → Option ℕ → Bool
is_row k none = false
is_row k (some j) = eqb j k

-- Is the obligation an each-use one that names row k?
unfoldable pub uses_up : Case → (k o : ℕ) → Bool
uses_up c k o = eqb (c.obligation o).mark each_use && is_row k (c.obligation o).row

-- Does an each-use obligation before o name this row?
unfoldable pub used_up_before : Case → ℕ → Option ℕ → Bool
used_up_before c o none = false
used_up_before c o (some k) = any (uses_up c k) o 0

-- Check 32: "each-use and naming the row of an earlier each-use one"; place: the lowest obligation. "Expired or not": a row is compared by its number, seen or unseen, struck or not.
unfoldable pub names_again : Case → ℕ → Bool
names_again c o = eqb (c.obligation o).mark each_use && used_up_before c o (c.obligation o).row

-- Checks 31 and 32.
unfoldable pub duty_checks : Case → List Check
duty_checks c =
    each 31 c.obligations (undone c)
    ∷ each 32 c.obligations (names_again c)
    ∷ []

-- What an evaluation unfolds of this file.
unfoldable pub evaluated_duties : Unit {0}
unfolding is_expired carries done_by is_done undone is_row uses_up used_up_before names_again duty_checks
evaluated_duties = tt
