-- How long each text of the report is at most: a number has five digits, and the words are known. Assumes nothing.
use Prim.Native.Nat.{ℕ, ◌+◌, ◌*◌, ◌≤◌}
use mathlib.Core.Path.{◌≡◌}
use mathlib.Core.List.{List, [], ◌∷◌}
use native.Mathlib.Omega.{arith}
use lib.ListN.{length, take, drop, length-append, length-take, length-drop}
use Rattle.definition.specs.31-Outcome.{Verdict, passed, none_owed, refused}
use Rattle.definition.specs.33-Text.{line, pair, space, lines, verdict_line, entry_lines, report_text, case_word, duty_word, row_word, passed_word, refused_word}
use Rattle.check_case.proofs.Numerals.{numeral_most}

pub line_most : (word : List ℕ) (n : ℕ) → length (line word n) ≤ length word + 6
unfolding line
line_most word n = simp length-append (omega (arith, numeral_most n))

pub pair_most : (word : List ℕ) (a b : ℕ) → length (pair word a b) ≤ length word + 12
unfolding pair
pair_most word a b = simp length-append (omega (arith, numeral_most a, line_most space b))

pub lines_most : (word ns : List ℕ) → length word ≤ 5 → length (lines word ns) ≤ 11 * length ns
unfolding lines
lines_most word [] h = omega arith
lines_most word (n ∷ ns) h = simp length-append (omega (arith, h, line_most word n, lines_most word ns h))

pub verdict_most : (v : Verdict) → length (verdict_line v) ≤ 20
unfolding verdict_line
verdict_most (passed d r) = omega (arith, pair_most passed_word d r)
verdict_most none_owed = omega arith
verdict_most (refused n p) = omega (arith, pair_most refused_word n p)

-- The obligations and the log rows are apart in the room.
pub parts_apart : (d r : ℕ) (room : List ℕ) → length (take d room) + length (take r (drop d room)) ≤ length room
parts_apart d r room = simp (length-take, length-drop) (omega arith)

pub rows_fit :
    (room : List ℕ) (d r : ℕ) {duties rest rows : List ℕ} → duties ≡ take d room → rest ≡ drop d room → rows ≡ take r rest →
    length duties + length rows ≤ length room
rows_fit room d r first behind then = rw (then, behind, first) (parts_apart d r room)

pub entries_most : (v : Verdict) (room : List ℕ) → length (entry_lines v room) ≤ 11 * length room
unfolding entry_lines
entries_most (passed d r) room =
    simp length-append
    (omega (
      arith,
      lines_most duty_word (take d room) (omega arith),
      lines_most row_word (take r (drop d room)) (omega arith),
      parts_apart d r room,
    ))
entries_most none_owed room = omega arith
entries_most (refused n p) room = omega arith

pub report_most : (bytes : ℕ) (v : Verdict) (room : List ℕ) → length (report_text bytes v room) ≤ 31 + 11 * length room
unfolding report_text
report_most bytes v room = simp length-append (omega (arith, line_most case_word bytes, verdict_most v, entries_most v room))
