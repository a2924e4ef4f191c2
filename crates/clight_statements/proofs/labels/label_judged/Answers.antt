use Rattle.clight_expressions.proofs.Stops.{stops_on, fails_as}
use Rattle.clight_statements.proofs.Chains.{case_front, case_stops, case_made}
use Rattle.clight_statements.proofs.labels.label_judged.Goals as goal

pub returns-in_err-e-in-Case : goal.returns-in_err-e-in-Case
returns-in_err-e-in-Case c = fails_as _ _ c.from_residual.result c.in_err-e-in-Case.field-0.0 c.from_residual.ensures.1 (stops_on _ _ _ _ (case_front _ _ _ _ _ c.in-Case.is) c.in_err-e-in-Case.ensures)

pub returns-in_err-number_judged-in-Case : goal.returns-in_err-number_judged-in-Case
returns-in_err-number_judged-in-Case c = fails_as _ _ c.from_residual-in_err-number_judged-in-Case.result c.in_err-number_judged-in-Case.field-0.0 c.from_residual-in_err-number_judged-in-Case.ensures.1 (case_stops _ _ _ _ _ _ _ c.in_err-number_judged-in-Case.field-0.0 c.in-Case.is c.in_ok-e-in-Case.ensures c.in_err-number_judged-in-Case.ensures)

pub returns-in_ok-number_judged-in-Case : goal.returns-in_ok-number_judged-in-Case
returns-in_ok-number_judged-in-Case c = case_made _ _ _ _ _ _ _ _ c.in-Case.is c.in_ok-e-in-Case.ensures c.in_ok-number_judged-in-Case.ensures
