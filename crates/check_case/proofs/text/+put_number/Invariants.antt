use Rattle.check_case.proofs.text.+put_number.Given as goal

-- Each step takes a digit off.
abbrev pub decreases-put_number : goal.decreases-put_number
decreases-put_number l = l.n
