-- What was read whole is answered, and else the text is left alone.
use Rattle.std.proofs.Common.{refl}
use mathlib.Core.Logic.{⊎_elim}
use Rattle.definition.specs.34-Program.{printed}
use Rattle.check_case.proofs.tell.Goals as goal

pub returns-in-Whole : goal.returns-in-Whole
unfolding printed
returns-in-Whole c = rw c.in-Whole.is (c.answer.ensures.written, c.answer.ensures.prefix_len)

pub returns-in-More : goal.returns-in-More
unfolding printed
returns-in-More c = ⊎_elim (λ more. rw more.1 refl) (λ failed. rw failed refl) c.in-More.is
