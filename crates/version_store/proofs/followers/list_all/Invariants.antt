use Rattle.std.proofs.Common.{◌≡◌, ◌+◌, length, take}
use Rattle.trace_events.specs.History.{History}
use Rattle.version_store.specs.Dependents.{Grows, ListsAll}
use Rattle.version_store.specs.Kept.{resolved}
use Rattle.version_store.proofs.followers.list_all.Given as goal

abbrev pub invariant-loop-i : goal.invariant-loop-i
invariant-loop-i l = record {
  grown : Grows l.fn.index l.index;
  listed : (h : History) → l.run.0 ≡ length h + 1 → l.found ≡ resolved h l.run.0 l.s.writes → ListsAll h l.index (take l.i l.s.writes);
}
