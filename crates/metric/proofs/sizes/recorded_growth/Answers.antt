use Rattle.metric.proofs.SizeLaws.{grows_energy, grows_other}
use Rattle.metric.proofs.sizes.recorded_growth.Goals as goal

pub returns-in-NodeEnergy-clause-result_len : goal.returns-in-NodeEnergy-clause-result_len
returns-in-NodeEnergy-clause-result_len c = λ own. grows_energy own _ _ _ c.in-NodeEnergy.ensures

pub returns-in_default : goal.returns-in_default
returns-in_default c = record {
  result_len = λ own. rw c.value_growth.ensures.result_len (grows_other own _ _ _ _ c.from.ensures c.in_default.not-NodeEnergy c.in_default.not-LinkQuality c.in_default.not-LinkColour);
  small = c.value_growth.ensures.small;
}
