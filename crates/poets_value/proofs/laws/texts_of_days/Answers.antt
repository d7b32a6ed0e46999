use Rattle.poets_value.proofs.Days.{text_of_day_is, day_of_text_is, range_of_text}
use Rattle.poets_value.proofs.laws.texts_of_days.Goals as goal

pub returns-clause-text : goal.returns-clause-text
returns-clause-text c = text_of_day_is

pub returns-clause-day : goal.returns-clause-day
returns-clause-day c = day_of_text_is

pub returns-clause-range : goal.returns-clause-range
returns-clause-range c = range_of_text
