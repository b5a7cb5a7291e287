use Rattle.std.proofs.Common.{◌+◌, ap, sym, ◌∙◌, List, ℕ, arith, refl}
use Rattle.heap_objects.specs.Entries.{entry_of}
use Rattle.heap_objects.specs.Stamps.{has_stamp, stamps_at}
use Rattle.heap_objects.specs.declared.tree.Entry.{Entry}
use Rattle.heap_objects.proofs.DictLaws.{is_dict-more, is_dict-pushed}
use Rattle.heap_objects.proofs.dict.Dict.add.Goals as goal

pub invariant_of-self : goal.invariant_of-self
invariant_of-self c =
    let d = c.self.inside in
    is_dict-more d.index.listed d.next d.tree c.self.invariant c.list.new.self.listed d.next d.tree (omega arith) c.self.invariant.tree refl c.list.ensures.kept

pub invariant_of-self-in_err-push : goal.invariant_of-self-in_err-push
invariant_of-self-in_err-push c =
    let d = c.self.inside in
    is_dict-more d.index.listed d.next d.tree c.self.invariant c.list.new.self.listed (d.next + 1) c.push.new.self (omega arith) c.push.ensures.tree c.in_err-push.ensures.err c.list.ensures.kept

pub invariant_of-self-2 : goal.invariant_of-self-2
invariant_of-self-2 c =
    let d = c.self.inside in
    is_dict-pushed d.index.listed d.next d.tree c.self.invariant c.list.new.self.listed (d.next + 1) c.push.new.self (record { stamp = d.next; entry = c.args.entry }) refl refl
    c.push.ensures.tree c.in_ok-push.ensures.ok c.list.ensures.kept (ap (λ (n : ℕ). has_stamp (stamps_at c.list.new.self.listed n) d.next) (sym c.hash_key.ensures) ∙ c.in_ok-list.ensures.listed)
    (ap (λ (es : List Entry). entry_of es c.args.entry.key) c.self.view_is ∙ c.requires)
