use Rattle.std.proofs.Common.{◌≤◌, length, arith}
use Rattle.version_store.proofs.Current.{filled_current, grown_current}
use Rattle.version_store.proofs.latest.make_room.Goals as goal

pub returns-in_err-number_all-clause-same : goal.returns-in_err-number_all-clause-same
returns-in_err-number_all-clause-same c = λ h now.
    grown_current h c.args.latest.now.items c.args.locations.now c.number_all.new.locations c.in_err-number_all.ensures.grown now

pub returns-clause-same : goal.returns-clause-same
returns-clause-same c = λ h now.
    let within : length c.fill.new.latest.items ≤ length c.number_all.new.locations = omega (arith, c.fill.ensures.within, c.len.ensures) in
    filled_current h c.fill.new.latest.items c.args.latest.now.items c.number_all.new.locations c.fill.ensures.same within
    (grown_current h c.args.latest.now.items c.args.locations.now c.number_all.new.locations c.in_ok-number_all.ensures.grown now)
