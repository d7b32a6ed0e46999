use Rattle.poets_mark.proofs.Placing.{fault_inside}
use Rattle.poets_mark.proofs.marking.fault_spot.Goals as goal

pub spot_at-requires : goal.spot_at-requires
spot_at-requires c =
    fault_inside c.args.text.now c.args.form c.in-Err.fault.names c.in-Err.fault.what c.in_ok-place-in-Err.place c.in-Err.ensures.refused c.in_ok-place-in-Err.ensures
