use Rattle.std.proofs.Common.{take}
use Rattle.version_store.specs.Table.{AllNumbered, IsGrown}
use Rattle.version_store.proofs.latest.number_all.Given as goal

abbrev pub invariant-loop-write : goal.invariant-loop-write
invariant-loop-write l = record {
  grown : IsGrown l.initial.locations l.locations;
  numbered : AllNumbered l.locations (take l.write-index l.writes);
}
