-- `terms_first` meets its contract: field by field it goes on with what is left. Assumes nothing.
use Rattle.std.proofs.Common.{ℕ, ◌≡◌, ◌+◌, ◌∷◌, Bool, true, false, length, slice_index_or}
use Rattle.std.proofs.lemmas.List.{drop_more}
use Rattle.std.proofs.Math.Seq.{drop-length}
use mathlib.Core.Path.{refl, sym, ap, ◌∙◌}
use mathlib.Core.Logic.{inl, inr}
use native.Mathlib.Omega.{arith}
use lib.ListN.{drop}
use Rattle.definition.specs.14-Book.{terms_first}
use Rattle.formula_book.proofs.TermFields.{left, left_absent, left_term, left_other, left_none}
use Rattle.formula_book.proofs.fields.terms_first.Goals as goal
use Rattle.formula_book.proofs.fields.terms_first.Goals.{then-t, else-t+else-ended+else-not-is_term, then-ended-via-then-ended, then-ended-via-else-ended+then-not-is_term}

pub loop-t-init : goal.loop-t-init
unfolding left
loop-t-init c = refl

pub returns-then-ended : goal.returns-then-ended
returns-then-ended c =
    let l = c.loop-t in
    let xs = c.args.fields.now in
    let here : terms_first xs ≡ left l.ended (slice_index_or xs l.t-index 0 ∷ drop (l.t-index + 1) xs) = l.invariant ∙ ap (left l.ended) (drop_more xs l.t-index 0 c.loop-t-test.true) in
    sym (here ∙ left_other l.ended _ _ c.if-t.false (elim c.then-ended.branch [
      | then-ended-via-then-ended w ↦ inl w.if-ended.true
      | then-ended-via-else-ended+then-not-is_term w ↦ inr (sym w.is_term.ensures ∙ w.if-not-is_term.true)
    ]))

pub loop-t-preserved : goal.loop-t-preserved
loop-t-preserved c =
    let l = c.loop-t in
    let xs = c.args.fields.now in
    let rest = drop (l.t-index + 1) xs in
    let here : terms_first xs ≡ left l.ended (slice_index_or xs l.t-index 0 ∷ rest) = l.invariant ∙ ap (left l.ended) (drop_more xs l.t-index 0 c.loop-t-test.true) in
    elim c.if-t.branch [
      | then-t w ↦ here ∙ left_absent l.ended _ rest w.if-t.true ∙ sym (ap (λ b. left b rest) w.ended-is)
      | else-t+else-ended+else-not-is_term w ↦
          here ∙ ap (λ b. left b (slice_index_or xs l.t-index 0 ∷ rest)) w.if-ended.false ∙ left_term _ rest (sym w.is_term.ensures ∙ w.if-not-is_term.false)
          ∙ sym (ap (λ b. left b rest) (w.ended-is ∙ w.if-ended.false))
    ]

pub returns : goal.returns
returns c =
    let l = c.loop-t in
    let xs = c.args.fields.now in
    let past : l.t-index ≡ length xs = omega (arith, c.loop-t-test.false, c.loop-t.auto.t-index-end) in
    sym (l.invariant ∙ ap (λ (i : ℕ). left l.ended (drop i xs)) past ∙ ap (left l.ended) (drop-length xs) ∙ left_none l.ended)
