use Rattle.std.proofs.Common.{take}
use Rattle.std.specs.List.{Contains}
use Rattle.trace_events.specs.declared.version.Version.{Version}
use Rattle.version_store.specs.Dependents.{listed_at, Grows}
use Rattle.version_store.specs.Hash.{hash_version}
use Rattle.version_store.proofs.followers.list_write.Given as goal

abbrev pub invariant-loop-on : goal.invariant-loop-on
invariant-loop-on l = record {
  grown : Grows l.fn.index l.index;
  listed : (u : Version) → Contains (take l.on-index l.deps) u → Contains (listed_at l.index (hash_version u)) (l.run, l.place);
}
