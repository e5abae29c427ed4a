-- What the code reads is the definition's number: the sum of the bytes.
use Rattle.std.proofs.Common.{rules}
use Rattle.definition.specs.01-Words.{word}
use Rattle.words.proofs.read_word.Goals as goal

pub returns : goal.returns
unfolding word
returns c = search rules
