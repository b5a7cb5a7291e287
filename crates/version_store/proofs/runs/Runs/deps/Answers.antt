use Rattle.version_store.proofs.Extension.{found_deps}
use Rattle.version_store.proofs.runs.Runs.deps.Goals as goal

pub returns : goal.returns
returns c = found_deps c.self.inside.summaries.items c.args.self.now c.self.inside.kept.items c.as_slice.result.now c.in-Written.run' c.in-Written.place c.in-Some.index
    c.saturating_sub.result c.writes.result.now c.args.v.now c.kept_at.result.now
    c.self.invariant c.self.view_is c.in-Written.is c.writes.ensures.writes c.in-Some.ensures c.saturating_sub.ensures c.as_slice.ensures.value c.kept_at.ensures
