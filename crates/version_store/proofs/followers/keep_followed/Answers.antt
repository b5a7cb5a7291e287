use Rattle.version_store.proofs.StaysKept.{keeps_push}
use Rattle.version_store.proofs.followers.keep_followed.Goals as goal

pub returns-in_err-keep-2-clause-held : goal.returns-in_err-keep-2-clause-held
returns-in_err-keep-2-clause-held c = keeps_push c.args.count c.args.followers.now.held.items c.keep.new.kept.items c.in_ok-held.held c.in_ok-keep.ensures.ok

pub returns-clause-held : goal.returns-clause-held
returns-clause-held c = keeps_push c.args.count c.args.followers.now.held.items c.keep.new.kept.items c.in_ok-held.held c.in_ok-keep.ensures.ok

pub returns-clause-touched : goal.returns-clause-touched
returns-clause-touched c = keeps_push c.args.count c.args.followers.now.touched.items c.keep-2.new.kept.items c.in_ok-touched.touched c.in_ok-keep-2.ensures.ok
