-- What the code reads is the definition's number: its two halves.
use Rattle.std.proofs.Common.{rules}
use Rattle.definition.specs.01-Words.{word, long}
use Rattle.words.proofs.read_long.Goals as goal

pub returns : goal.returns
unfolding long word
returns c = search rules
