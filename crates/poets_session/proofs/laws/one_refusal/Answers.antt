use Rattle.poets_session.proofs.LawsRefused.{statements_refused_once, refused_once}
use Rattle.poets_session.proofs.laws.one_refusal.Goals as goal

pub returns-clause-refusal : goal.returns-clause-refusal
returns-clause-refusal c = λ text form names others r s h k. (refused_once text form names others r s h k).0

pub returns-clause-line : goal.returns-clause-line
returns-clause-line c = λ text form names others r s h k. (refused_once text form names others r s h k).1

pub returns-clause-statements : goal.returns-clause-statements
returns-clause-statements c = statements_refused_once
