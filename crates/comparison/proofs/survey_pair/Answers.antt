-- `survey_pair` meets its contract: demand 3 and two cuttings follow from the contracts of its two calls.
use Rattle.demands.proofs.Demands.{pair_surveyed}
use Rattle.comparison.proofs.survey_pair.Goals as goal

pub returns-clause-surveyed : goal.returns-clause-surveyed
returns-clause-surveyed c = pair_surveyed c.survey_at.ensures.closest.surveyed c.survey_at-2.ensures.closest.surveyed
