-- How the code's sets and tables are read: each as a test of a number, or as what a step leaves behind.
use Rattle.std.specs.Prelude.{ℕ, ◌/◌, ◌%◌, ◌^◌, Bool, false, List, get_or, eqb}
use Rattle.definition.specs.22-Steps.{Labels, Rests, Left}
use Rattle.tables.specs.declared.rests.Resting.{Resting}

-- The labels that the binary digits of a number stand for.
unfoldable pub labels_of : ℕ → Labels
labels_of n l = eqb (n / 2 ^ l % 2) 1

-- What a step rests on.
abbrev pub rests_meant : Resting → Rests
rests_meant r = record { opens = labels_of r.opens.bits; cites = r.cites }

-- What a number says that a step leaves behind: the digits 0 to 31 are the labels left open, digit 32 tells that it is used, and digit 33 that it or a step above it cites evidence.
abbrev pub left_of : ℕ → Left
left_of n = record { rests = record { opens = labels_of (n % 2 ^ 32); cites = eqb (n / 2 ^ 33 % 2) 1 }; used = eqb (n / 2 ^ 32 % 2) 1 }

-- A table of flags, and the table of what the steps leave behind.
unfoldable pub marks : List Bool → ℕ → Bool
marks t k = get_or t k false

unfoldable pub left_in : List ℕ → ℕ → Left
left_in t k = left_of (get_or t k 0)

abbrev pub rests_of : List ℕ → ℕ → Rests
rests_of t k = (left_in t k).rests

abbrev pub opens_of : List ℕ → ℕ → Labels
opens_of t k = (left_in t k).rests.opens

abbrev pub used_of : List ℕ → ℕ → Bool
used_of t k = (left_in t k).used
