-- `fields_fit` meets its contract: the number of a kind that the byte names tells the entry of the table, and a byte that names none has no entry. Assumes nothing.
use Rattle.std.proofs.Common.{rules, ◌<◌, false, ℕ, Result, Ok, Err}
use mathlib.Core.Path.{◌≡◌, refl, sym, ap, ◌∙◌}
use mathlib.Core.Logic.{⊎_elim}
use lib.ListN.{get_or-eq_default}
use Rattle.definition.specs.14-Book.{book, fit_table, fields_fit, in_place}
use Rattle.formula_rows.specs.Meanings.{row_meant, sort_meant}
use Rattle.formula_rows.specs.Kinds.{kind_number, KindOf}
use Rattle.formula_rows.specs.declared.kinds.Kind.{Kind}
use Rattle.formula_rows.specs.declared.kinds.Kind.TheVariants as kind
use Rattle.formula_rows.specs.declared.kinds.UnknownKind.{UnknownKind}
use Rattle.formula_book.proofs.fields.fields_fit.Goals as goal

-- what the kind that a byte names tells of the byte, and that none is named
named : {n : ℕ} {r : Result Kind UnknownKind} {k m : Kind} → KindOf n r → r ≡ Ok k → k ≡ m → n ≡ kind_number m
named h e f = sym (rw e at h) ∙ ap kind_number f

far : {n : ℕ} (r : Result Kind UnknownKind) → KindOf n r → ((k : Kind) → r ≡ Ok k → ⊥) → 10 < n
far (Ok k) h none = absurd (none k refl)
far (Err e) h none = h.0

pub returns-in-Predicate : goal.returns-in-Predicate
unfolding fields_fit fit_table in_place row_meant sort_meant
returns-in-Predicate c = let is = named c.try_from.ensures c.in-Ok.is c.in-Predicate.is in search rules

pub returns-in-Owns : goal.returns-in-Owns
unfolding fields_fit fit_table in_place row_meant sort_meant
returns-in-Owns c =
    ⊎_elim (λ e. rw (named {m = kind.Owns} c.try_from.ensures c.in-Ok.is e) c.agent_and_data.ensures) (λ e. rw (named {m = kind.Creates} c.try_from.ensures c.in-Ok.is e) c.agent_and_data.ensures) c.in-Owns.is

pub returns-in-Says : goal.returns-in-Says
unfolding fields_fit fit_table in_place row_meant sort_meant
returns-in-Says c =
    ⊎_elim (λ e. rw (named {m = kind.Says} c.try_from.ensures c.in-Ok.is e) c.agent_policy_agent.ensures) (λ e. rw (named {m = kind.Communicates} c.try_from.ensures c.in-Ok.is e) c.agent_policy_agent.ensures) c.in-Says.is

pub returns-in-And : goal.returns-in-And
unfolding fields_fit fit_table in_place row_meant sort_meant
returns-in-And c =
    ⊎_elim (λ e. rw (named {m = kind.And} c.try_from.ensures c.in-Ok.is e) c.two_policies.ensures) (λ e. rw (named {m = kind.Implies} c.try_from.ensures c.in-Ok.is e) c.two_policies.ensures) c.in-And.is

pub returns-in-ForAll : goal.returns-in-ForAll
unfolding fields_fit fit_table in_place row_meant sort_meant
returns-in-ForAll c = rw (named c.try_from.ensures c.in-Ok.is c.in-ForAll.is) c.sort_and_body.ensures

pub returns-in-EachUse : goal.returns-in-EachUse
unfolding fields_fit fit_table in_place row_meant sort_meant
returns-in-EachUse c =
    ⊎_elim (λ e. rw (named {m = kind.EachUse} c.try_from.ensures c.in-Ok.is e) c.action_and_policy.ensures) (λ e. rw (named {m = kind.Once} c.try_from.ensures c.in-Ok.is e) c.action_and_policy.ensures) c.in-EachUse.is

pub returns-then-has_sort : goal.returns-then-has_sort
unfolding fields_fit fit_table in_place row_meant sort_meant
returns-then-has_sort c = let is = named c.try_from.ensures c.in-Ok.is c.in-UserAction.is in search rules

pub returns-else-has_sort : goal.returns-else-has_sort
unfolding fields_fit fit_table in_place row_meant sort_meant
returns-else-has_sort c = let is = named c.try_from.ensures c.in-Ok.is c.in-UserAction.is in search rules

pub returns-in_default : goal.returns-in_default
unfolding fields_fit fit_table in_place row_meant sort_meant
returns-in_default c = sym (get_or-eq_default (fit_table (book c.args.book.now) c.args.k (row_meant c.args.row)) false (far _ c.try_from.ensures c.in_default.not-Ok))
