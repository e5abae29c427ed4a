-- What the structs that C gets stand for.
use Rattle.definition.specs.32-Numbers as definition
use Rattle.answers.specs.declared.VerdictNumbers.{VerdictNumbers}
use Rattle.answers.specs.declared.RunNumbers.{RunNumbers}

unfoldable pub verdict_numbers_meant : VerdictNumbers → definition.VerdictNumbers
verdict_numbers_meant v = record { kind = v.kind; first = v.first; second = v.second }

unfoldable pub run_numbers_meant : RunNumbers → definition.RunNumbers
run_numbers_meant r = record { number = r.number; place = r.place }
