-- A line for one entry more is written behind the lines of those before it. Assumes nothing.
use Prim.Native.Nat.{ℕ, ◌+◌, ◌<◌}
use mathlib.Core.Path.{◌≡◌, sym, ap, ◌∙◌}
use mathlib.Core.List.{List, [], ◌∷◌, ◌++◌, append-nil, append_assoc}
use native.Mathlib.Numerals.{add-one}
use lib.ListN.{length, take, drop, get_or}
use lib.Seq.{take-suc}
use Rattle.definition.specs.31-Outcome.{passed}
use Rattle.definition.specs.33-Text.{line, lines, entry_lines, duty_word, row_word}

lines_snoc : (word ns : List ℕ) (n : ℕ) → lines word (ns ++ (n ∷ [])) ≡ lines word ns ++ line word n
unfolding lines
lines_snoc word [] n = append-nil (line word n)
lines_snoc word (m ∷ ns) n = ap (λ (t : List ℕ). line word m ++ t) (lines_snoc word ns n) ∙ sym (append_assoc (line word m) (lines word ns) (line word n))

pub lines_more :
    (word ns : List ℕ) (i : ℕ) → i < length ns →
    lines word (take i ns) ++ line word (get_or ns i 0) ≡ lines word (take (i + 1) ns)
lines_more word ns i h =
    sym (lines_snoc word (take i ns) (get_or ns i 0)) ∙ ap (lines word) (sym (take-suc ns i 0 h) ∙ ap (λ (k : ℕ). take k ns) (sym (add-one i)))

-- The lines of a passed case, by the parts of its room.
pub passed_lines :
    (room : List ℕ) (d r : ℕ) {duties rest rows : List ℕ} → duties ≡ take d room → rest ≡ drop d room → rows ≡ take r rest →
    lines duty_word duties ++ lines row_word rows ≡ entry_lines (passed d r) room
unfolding entry_lines
passed_lines room d r first behind then = rw (then, behind, first)
