use Rattle.std.proofs.Common.{◌≡◌, length, rules}
use Rattle.version_store.proofs.Numbers.{added_index}
use Rattle.version_store.proofs.locations.Locations.add.Goals as goal

pub invariant_of-self-2 : goal.invariant_of-self-2
invariant_of-self-2 c =
    let count : c.len-number.result ≡ length c.self.inside.list.items = search rules in
    added_index c.self.inside.buckets c.add.new.buckets c.self.inside.list.items c.reserve.new.self.items c.push_within.new.list.items c.args.location.now
    c.in_ok-found.found c.in_ok-listed.listed c.hash_loc.result c.len-number.result c.self.invariant count c.hash_loc.ensures c.in_ok-found.ensures
    c.in_ok-listed.ensures c.in_ok-add.ensures.ok c.in_ok-reserve.ensures.items c.push_within.ensures
