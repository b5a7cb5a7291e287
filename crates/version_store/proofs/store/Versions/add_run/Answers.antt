use Rattle.std.proofs.Common.{◌≡◌, ◌+◌, ◌∙◌, ap, length, refl, subst, sym}
use Rattle.trace_events.specs.History.{History, writes_of}
use Rattle.version_store.specs.Dependents.{IsFollowed}
use Rattle.version_store.specs.Kept.{resolved}
use Rattle.version_store.specs.Table.{IsCurrent}
use Rattle.version_store.proofs.Current.{settled_told}
use Rattle.version_store.proofs.Following.{followed_told}
use Rattle.version_store.proofs.StaysKept.{followed_same, last_writes_of}
use Rattle.version_store.proofs.store.Versions.add_run.Goals as goal

pub invariant_of-self : goal.invariant_of-self
invariant_of-self c = (c.in_err-make_room.ensures.same c.self.inside.runs c.self.invariant.0, c.self.invariant.1)

pub invariant_of-self-in_err-keep_followed : goal.invariant_of-self-in_err-keep_followed
invariant_of-self-in_err-keep_followed c =
    let old = c.self.inside.followers in
    let new = c.keep_followed.new.followers in (
      c.in_ok-make_room.ensures.same c.self.inside.runs c.self.invariant.0,
      followed_same c.self.inside.runs old.index new.index old.held.items new.held.items old.touched.items new.touched.items
          c.self.invariant.1 c.in_err-keep_followed.ensures.grown c.len.result c.len.ensures.len c.in_err-keep_followed.ensures.held c.in_err-keep_followed.ensures.touched,
    )

pub invariant_of-self-in_err-add : goal.invariant_of-self-in_err-add
invariant_of-self-in_err-add c =
    let old = c.self.inside.followers in
    let new = c.keep_followed.new.followers in
    subst (λ (h : History). IsCurrent h c.make_room.new.locations c.make_room.new.latest.items × IsFollowed h new.index new.held.items new.touched.items) (sym c.in_err-add.ensures.err) (
      c.in_ok-make_room.ensures.same c.self.inside.runs c.self.invariant.0,
      followed_same c.self.inside.runs old.index new.index old.held.items new.held.items old.touched.items new.touched.items
          c.self.invariant.1 c.in_ok-keep_followed.ensures.grown c.len.result c.len.ensures.len c.in_ok-keep_followed.ensures.held c.in_ok-keep_followed.ensures.touched,
    )

pub invariant_of-self-2 : goal.invariant_of-self-2
invariant_of-self-2 c =
    let h = c.self.inside.runs in
    let old = c.self.inside.followers in
    let new = c.keep_followed.new.followers in
    let next : c.args.run.0 ≡ length h + 1 = c.requires ∙ ap (λ (x : History). length x + 1) (sym c.self.view_is) in
    let wrote : c.writes-writes.result.now ≡ c.args.s.writes =
    c.writes-writes.ensures.writes ∙ ap (λ (x : History). writes_of x c.args.run.0) c.in_ok-add.ensures.ok ∙ last_writes_of h c.args.s c.args.run.0 next in
    let found : c.in_ok-found.found ≡ resolved h c.args.run.0 c.args.s.writes =
    c.in_ok-found.ensures ∙ ap (λ (x : History). resolved x c.args.run.0 c.writes.result.now) (sym c.self.view_is) ∙ ap (resolved h c.args.run.0) c.writes.ensures.writes in (
      settled_told h c.args.self.now h c.add.new.self c.args.s c.make_room.new.locations c.args.run c.make_room.new.latest.items c.settle.new.latest.items
          c.writes-2.result.now c.writes-writes.result.now (c.in_ok-make_room.ensures.same h c.self.invariant.0)
          c.in_ok-make_room.ensures.numbered c.writes-2.ensures.writes wrote c.in_ok-make_room.ensures.enough c.self.view_is c.requires c.settle.ensures refl c.in_ok-add.ensures.ok,
      followed_told h c.add.new.self c.args.s c.len.ensures.lawful c.writes.ensures.lawful c.in_ok-add.ensures.ok old.index new.index old.held.items new.held.items
          old.touched.items new.touched.items c.in_ok-followed.followed.held.items c.in_ok-followed.followed.touched.items c.len.result c.len.ensures.len
          c.self.invariant.1 c.in_ok-keep_followed.ensures.grown (c.in_ok-keep_followed.ensures.listed h next found) c.in_ok-followed.ensures c.in_ok-keep_followed.ensures.new_held c.in_ok-keep_followed.ensures.new_touched,
    )
