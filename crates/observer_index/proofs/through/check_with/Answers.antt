-- `check_with` meets its contract: 30, or the checker on the table that the agent's own list gives. Assumes nothing.
use Rattle.std.proofs.Common.{rules, Err}
use mathlib.Core.Path.{◌≡◌, refl, sym, ap, ◌∙◌}
use native.Mathlib.Omega.{arith}
use Rattle.std.specs.Prelude.{not, true}
use Rattle.case_file.specs.Seen.{log_with}
use Rattle.definition.proofs.AdmissionLaws.{admitted_parted, admitted_logged}
use Rattle.definition.specs.03-Lists.{begins}
use Rattle.definition.specs.04-Checks.{try, single}
use Rattle.definition.specs.35-Index.{index_of}
use Rattle.definition.specs.48-Places.{OrderedLog}
use Rattle.observer_index.proofs.BuildingRuns.{parts_ordered}
use Rattle.observer_index.proofs.ThroughRuns.{all_hidden, index_begins, other_reported, through_reported, case_listed}
use Rattle.observer_index.proofs.through.check_with.Goals as goal
use Rattle.observer_index.proofs.through.check_with.Goals.{After-log_of-log, In_ok-single}

ordered : (c : After-log_of-log) → OrderedLog (log_with c.log_of-log.result.rows.now c.log_of-log.result.observers.now)
ordered c = parts_ordered _ (admitted_logged _ c.requires) c.log_of-log.ensures.0 c.log_of-log.ensures.1

-- The index lent is as built.
built : (c : In_ok-single) → begins (index_of (log_with c.log_of-log.result.rows.now c.log_of-log.result.observers.now)) c.args.index.now ≡ true
built c = sym c.is_index_of.ensures ∙ index_begins _ c.in_ok-single.ensures

pub log_of-log-requires : goal.log_of-log-requires
log_of-log-requires c = admitted_parted _ c.requires

pub is_index_of-requires : goal.is_index_of-requires
is_index_of-requires c = ordered (goal.at.is_index_of-requires c).After-log_of-log

pub returns-in_err-single : goal.returns-in_err-single
returns-in_err-single c =
    let e : c.from_residual.result ≡ Err c.in_err-single.field-0.0 = search rules in
    rw e (other_reported _ c.requires _ _ _ c.log_of-log.ensures.0 c.log_of-log.ensures.1 (c.in_err-single.ensures ∙ ap (λ b. try (single 30 0 (not b))) c.is_index_of.ensures))

pub agent_of-requires : goal.agent_of-requires
agent_of-requires c = admitted_parted _ c.requires

pub see_listed-requires : goal.see_listed-requires
see_listed-requires c = (record { observers = _; ordered = ordered (goal.at.see_listed-requires c).After-log_of-log; as_built = built (goal.at.see_listed-requires c).In_ok-single }, all_hidden _ refl)

pub part-requires : goal.part-requires
part-requires c = (admitted_parted _ c.requires, omega arith)

pub invariant_of-case : goal.invariant_of-case
invariant_of-case c = record {
  lent = case_listed _ c.requires c.part.ensures c.log_of-log.ensures.0 c.log_of-log.ensures.1 c.agent_of.ensures (all_hidden _ refl).long (c.see_listed.ensures _ (ordered (goal.at.invariant_of-case c).After-log_of-log) (built (goal.at.invariant_of-case c).In_ok-single));
}

pub returns : goal.returns
returns c = through_reported _ c.requires _ _ c.log_of-log.ensures.0 c.log_of-log.ensures.1 (built (goal.at.returns c).In_ok-single) c.check_admitted.ensures
