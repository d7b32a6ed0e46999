use Rattle.poets_live.proofs.Following.{led_to_events}
use Rattle.poets_live.proofs.laws.led_to_events.Goals as goal

pub returns : goal.returns
returns c = led_to_events
