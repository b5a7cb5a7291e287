use Rattle.std.proofs.Common.{refl, rules, subst, take, ◌≡◌, length}
use Rattle.std.specs.Prelude.{is_ok}
use Rattle.trace_events.specs.Lawful.{IsLawful}
use Rattle.trace_events.specs.Trace.{Summary}
use Rattle.version_store.proofs.Extension.{kept_pushed}
use Rattle.version_store.proofs.runs.Runs.add.Goals as goal

pub invariant_of-self-2 : goal.invariant_of-self-2
invariant_of-self-2 c =
    let count : c.len.result ≡ length c.self.inside.summaries.items = search rules in
    kept_pushed c.self.inside.summaries.items c.args.self.now c.push.new.self.items c.self.inside.kept.items (take c.len.result c.self.inside.kept.items)
    c.keep.new.kept.items c.args.s c.len.result _ _ c.args.found (is_ok c.push.result)
    c.self.invariant (subst (λ (x : Summary). IsLawful x) c.s.view_is c.s.invariant) c.self.view_is refl refl c.requires count
    refl c.in_ok-keep.ensures.ok c.push.ensures.items
