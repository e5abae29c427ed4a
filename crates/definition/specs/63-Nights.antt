-- Request 7 on examples, computed from the definition: nights of several files, and lists that 33 refuses; one list, one claim. proofs/NightInstances of the crate `cases` has two nights whose files are alike to their agents.
use Rattle.std.specs.Prelude.{ℕ, ◌/◌, ◌%◌, List, [], ◌∷◌, ◌++◌, map, ◌≡◌, refl, length, take, drop, replicate}
use Rattle.definition.specs.01-Words.{long, words}
use Rattle.definition.specs.04-Checks.{number_of, accepts, refuses}
use Rattle.definition.specs.13-Formulas.{each_use, once}
use Rattle.definition.specs.31-Outcome.{Verdict, passed, none_owed, refused}
use Rattle.definition.specs.32-Numbers.{verdict_entry}
use Rattle.definition.specs.36-Night.{pair_checks, Night, night}
use Rattle.definition.specs.51-Files.{not_due}
use Rattle.definition.specs.52-Evaluation.{evaluated}
use Rattle.definition.specs.53-Desk.{lent, grant_with, seen_by, owner_step, grant, twice, built}
use Rattle.definition.specs.55-HiddenRows.{two_rows}

-- The bytes of these numbers of 32 bits, one behind the other.
unfoldable pub longs : List ℕ → List ℕ
longs [] = []
longs (n ∷ ns) = words (n % 65536 ∷ n / 65536 ∷ []) ++ longs ns

-- What is lent, and what the night comes to.
pub record NightCase : Type 0 where
  pub files : List ℕ
  pub list : List ℕ
  pub verdicts : List (List ℕ)
  pub gives : Night

unfoldable pub computed_night : NightCase → Night
computed_night c = night c.files c.list c.verdicts lent

unfoldable pub expected_night : NightCase → Night
expected_night c = c.gives

-- The table of the examples: numbers that no verdict there has, all different.
unfoldable pub lent_verdicts : List (List ℕ)
lent_verdicts = (811 ∷ 812 ∷ 813 ∷ []) ∷ (821 ∷ 822 ∷ 823 ∷ []) ∷ (831 ∷ 832 ∷ 833 ∷ []) ∷ (841 ∷ 842 ∷ 843 ∷ []) ∷ (851 ∷ 852 ∷ 853 ∷ []) ∷ []

-- The files at these offsets and lengths come to these verdicts, and write these entries of the room.
unfoldable pub tells : (files numbers : List ℕ) → List Verdict → (entries : List ℕ) → NightCase
tells files numbers vs entries =
    record {
      files = files;
      list = longs numbers;
      verdicts = lent_verdicts;
      gives = record { answer = accepts (length vs); verdicts = map verdict_entry vs ++ drop (length vs) lent_verdicts; room = entries ++ drop (length entries) lent };
    }

-- The list is refused at this pair.
unfoldable pub refuses_pair : (files list : List ℕ) → ℕ → NightCase
refuses_pair files list k = record { files = files; list = list; verdicts = lent_verdicts; gives = record { answer = refuses 33 k; verdicts = lent_verdicts; room = lent } }

-- Grant where the agent does not see the row; Creator; Twice with two obligations, which needs three entries; and bytes between files.
unfoldable pub unseen : List ℕ
unseen = grant_with 0 4 0 1 (seen_by 0 ∷ owner_step ∷ []) (0 ∷ [])

unfoldable pub creator : List ℕ
creator = grant_with 0 0 0 0 [] []

unfoldable pub two_duties : List ℕ
two_duties = twice each_use (not_due each_use 0 ∷ not_due each_use 0 ∷ []) 1

-- Grant with a second row that the agent sees and cites; Twice with one obligation for all uses.
unfoldable pub second_row : List ℕ
second_row = two_rows 0 1 0 (0 ∷ []) 1

unfoldable pub once_duty : List ℕ
once_duty = twice once (not_due once 0 ∷ []) 0

unfoldable pub gap : List ℕ
gap = 170 ∷ 187 ∷ []

-- Four files with gaps before, between and behind them.
unfoldable pub four_files : List ℕ
four_files = gap ++ grant ++ unseen ++ gap ++ creator ++ grant ++ gap

unfoldable pub night_cases : List NightCase
night_cases =
    -- no pairs: no files
    tells [] [] [] []
    ∷ tells grant [] [] []
    -- one file, and as the last bytes of the buffer
    ∷ tells grant (0 ∷ 108 ∷ []) (passed 0 1 ∷ []) (0 ∷ [])
    ∷ tells (gap ++ grant) (2 ∷ 108 ∷ []) (passed 0 1 ∷ []) (0 ∷ [])
    -- a refused file and one that owes nothing write no entry and stop no other; gaps are not read; a file may have no bytes
    ∷ tells four_files (2 ∷ 108 ∷ 110 ∷ 108 ∷ 220 ∷ 86 ∷ 306 ∷ 108 ∷ []) (passed 0 1 ∷ refused 16 0 ∷ none_owed ∷ passed 0 1 ∷ []) (0 ∷ 0 ∷ [])
    ∷ tells four_files (110 ∷ 108 ∷ 218 ∷ 0 ∷ 218 ∷ 0 ∷ 306 ∷ 108 ∷ 416 ∷ 0 ∷ []) (refused 16 0 ∷ refused 1 0 ∷ refused 1 0 ∷ passed 0 1 ∷ refused 1 0 ∷ []) (0 ∷ [])
    -- a byte too few, and a byte too many, are another file
    ∷ tells four_files (2 ∷ 107 ∷ 306 ∷ 109 ∷ []) (refused 2 7 ∷ refused 2 7 ∷ []) []
    -- files that begin and end at odd bytes, the last one with the buffer
    ∷ tells (170 ∷ grant ++ grant) (1 ∷ 108 ∷ 109 ∷ 108 ∷ []) (passed 0 1 ∷ passed 0 1 ∷ []) (0 ∷ 0 ∷ [])
    -- each writes its own list behind that of the one before
    ∷ tells (grant ++ second_row ++ grant) (0 ∷ 108 ∷ 108 ∷ 124 ∷ 232 ∷ 108 ∷ []) (passed 0 1 ∷ passed 0 1 ∷ passed 0 1 ∷ []) (0 ∷ 1 ∷ 0 ∷ [])
    ∷ tells (second_row ++ once_duty) (0 ∷ 124 ∷ 124 ∷ 206 ∷ []) (passed 0 1 ∷ passed 1 1 ∷ []) (1 ∷ 0 ∷ 0 ∷ [])
    -- 23 tells the entries that the file itself needs, where the passes before it have left too few; the next file has them
    ∷ tells (grant ++ two_duties ++ grant) (0 ∷ 108 ∷ 108 ∷ 214 ∷ 322 ∷ 108 ∷ []) (passed 0 1 ∷ refused 23 3 ∷ passed 0 1 ∷ []) (0 ∷ 0 ∷ [])
    ∷ tells (grant ++ two_duties ++ grant) (108 ∷ 214 ∷ 322 ∷ 108 ∷ []) (passed 2 1 ∷ refused 23 1 ∷ []) (0 ∷ 1 ∷ 0 ∷ [])
    -- 33: a pair that ends beyond the buffer, by a byte, with no bytes of its own, by each byte of its numbers, and where the sum has 33 bits
    ∷ refuses_pair grant (longs (0 ∷ 109 ∷ [])) 0
    ∷ refuses_pair grant (longs (109 ∷ 0 ∷ [])) 0
    ∷ refuses_pair grant (longs (256 ∷ 0 ∷ [])) 0
    ∷ refuses_pair grant (longs (65536 ∷ 0 ∷ [])) 0
    ∷ refuses_pair grant (longs (16777216 ∷ 0 ∷ [])) 0
    ∷ refuses_pair grant (longs (0 ∷ 256 ∷ [])) 0
    ∷ refuses_pair grant (longs (0 ∷ 65536 ∷ [])) 0
    ∷ refuses_pair grant (longs (0 ∷ 16777216 ∷ [])) 0
    ∷ refuses_pair grant (longs (4294967295 ∷ 109 ∷ [])) 0
    ∷ refuses_pair grant (longs (1 ∷ 4294967295 ∷ [])) 0
    ∷ refuses_pair [] (longs (4294967295 ∷ 1 ∷ [])) 0
    -- a later one that ends beyond the buffer
    ∷ refuses_pair grant (longs (0 ∷ 108 ∷ 108 ∷ 1 ∷ [])) 1
    -- the last one's end is that of the pair just before
    ∷ refuses_pair (grant ++ grant ++ grant) (longs (0 ∷ 108 ∷ 108 ∷ 108 ∷ 215 ∷ 1 ∷ [])) 2
    -- one that begins before the last one's end, by a byte; the same file again; files in falling order
    ∷ refuses_pair grant (longs (0 ∷ 108 ∷ 107 ∷ 1 ∷ [])) 1
    ∷ refuses_pair grant (longs (0 ∷ 108 ∷ 0 ∷ 108 ∷ [])) 1
    ∷ refuses_pair (grant ++ grant) (longs (108 ∷ 108 ∷ 0 ∷ 108 ∷ [])) 1
    ∷ refuses_pair (grant ++ grant) (longs (108 ∷ 0 ∷ 107 ∷ 0 ∷ [])) 1
    -- one that is cut short, wherever; that pair alone, and behind a whole one
    ∷ refuses_pair grant (0 ∷ []) 0
    ∷ refuses_pair grant (take 7 (longs (0 ∷ 108 ∷ []))) 0
    ∷ refuses_pair grant (longs (0 ∷ 108 ∷ 108 ∷ [])) 1
    ∷ refuses_pair grant (longs (0 ∷ 108 ∷ []) ++ 108 ∷ []) 1
    -- the lowest is told: the last one's end is where the pair says, though it is at fault itself
    ∷ refuses_pair grant (longs (0 ∷ 109 ∷ 108 ∷ 0 ∷ 107 ∷ 0 ∷ []) ++ 0 ∷ []) 0
    ∷ refuses_pair grant (longs (0 ∷ 108 ∷ 107 ∷ 0 ∷ 200 ∷ 0 ∷ []) ++ 0 ∷ []) 1
    -- the 65th, whole and cut short
    ∷ refuses_pair [] (replicate 520 0) 64
    ∷ refuses_pair [] (replicate 513 0) 64
    -- the 64th cut short; and a lower one before the 65th
    ∷ refuses_pair [] (replicate 505 0) 63
    ∷ refuses_pair [] (longs (0 ∷ 0 ∷ 0 ∷ 1 ∷ []) ++ replicate 512 0) 1
    ∷ []

-- What builds the nights, for an evaluation to unfold.
unfoldable pub built_nights : List NightCase → List Night
unfolding built two_rows second_row once_duty longs computed_night expected_night lent_verdicts tells refuses_pair unseen creator two_duties gap four_files
built_nights cs = map computed_night cs

pub night_claim : map computed_night night_cases ≡ map expected_night night_cases
unfolding built_nights night_cases
night_claim = refl

-- 64 files are as many as there may be.
pub sixty_four : night [] (replicate 512 0) (replicate 64 (7 ∷ 8 ∷ 9 ∷ [])) lent ≡ record { answer = accepts 64; verdicts = replicate 64 (2 ∷ 1 ∷ 0 ∷ []); room = lent }
unfolding evaluated
sixty_four = refl

-- "32-bit", "low byte first".
pub low_byte_first : long (9 ∷ 4 ∷ 3 ∷ 2 ∷ 1 ∷ 9 ∷ []) 1 ≡ 16909060
unfolding evaluated
low_byte_first = refl

-- The number of the list's check.
pub list_numbers : map number_of (pair_checks [] []) ≡ 33 ∷ []
unfolding evaluated
list_numbers = refl
