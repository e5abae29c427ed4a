-- The part of the buffer that the word fills is the word's bytes.
use Rattle.std.proofs.Common.{arith, ap, refl, sym, ◌∙◌, ◌+◌, ◌-◌, ◌++◌, append_assoc, length, take, ℕ, List}
use borrow.Rule.Slice.PartMut.{post_of, Post-is}
use lib.Seq.{sets-eq}
use Rattle.check_case.proofs.text.put_word.Goals as goal

pub returns : goal.returns
returns c =
    let a = c.args in
    let end = a.at + length a.word.now in
    record {
      is =
          ap (λ (l : List ℕ). take a.at a.out.now ++ (l ++ post_of a.at (end - a.at) a.out.now)) c.copy_from_slice.ensures.after
          ∙ ap (λ (l : List ℕ). take a.at a.out.now ++ (a.word.now ++ l)) (Post-is a.at end a.out.now (omega arith))
          ∙ sym (append_assoc (take a.at a.out.now) a.word.now _)
          ∙ sym (sets-eq a.word.now a.out.now a.at c.requires);
      ends = refl;
    }
