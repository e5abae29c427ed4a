-- The text is that of the outcome, and it ends within the buffer.
use Rattle.std.proofs.Common.{arith, sym, ap, subst, ◌∙◌, ◌≤◌, ℕ, List, length}
use lib.Seq.{length-take-le}
use Rattle.definition.proofs.PromiseLaws.{answer_is, room_is}
use Rattle.definition.specs.31-Outcome.{outcome}
use Rattle.definition.specs.33-Text.{report_text, lent_room, answer_text}
use Rattle.checker.specs.Meanings.{verdict_meant}
use Rattle.check_case.specs.Written.{Written}
use Rattle.check_case.proofs.WrittenText.{kept}
use Rattle.check_case.proofs.Lengths.{report_most}
use Rattle.check_case.proofs.answer.Goals as goal

pub returns-clause-prefix_len : goal.returns-clause-prefix_len
returns-clause-prefix_len c =
    let k = c.check-verdict in
    let r = c.report in
    let within : r.result ≤ length r.new.out = omega (arith, r.ensures.ends, kept r.ensures, report_most (length c.args.case.now) (verdict_meant k.result) k.new.room) in
    (within, sym (length-take-le r.result r.new.out within))

pub returns-clause-written : goal.returns-clause-written
unfolding answer_text lent_room
returns-clause-written c =
    let case = c.args.case.now in
    let k = c.check-verdict in
    let r = c.report in
    let text = ap (λ v. report_text (length case) v k.new.room) (answer_is (λ v. v) k.ensures) ∙ ap (report_text (length case) (outcome case lent_room).verdict) (room_is (λ v. v) k.ensures) in
    subst (λ (t : List ℕ). Written c.args.text.now 0 t r.new.out r.result) text r.ensures
