use Rattle.std.proofs.Common.{◌≡◌, ap, sym, ◌∙◌, Some, None, List}
use Rattle.heap_objects.specs.DictRows.{row_among}
use Rattle.heap_objects.specs.Entries.{entry_of}
use Rattle.heap_objects.specs.Hash.{hash_key}
use Rattle.heap_objects.specs.Rows.{rows}
use Rattle.heap_objects.specs.Stamps.{stamps_at}
use Rattle.heap_objects.specs.declared.tree.Entry.{Entry}
use Rattle.heap_objects.proofs.DictLaws.{finds_entry, lacks_entry}
use Rattle.heap_objects.proofs.dict.Dict.get.Goals as goal

pub returns-in-Some : goal.returns-in-Some
returns-in-Some c =
    let d = c.self.inside in
    let stamps : c.at.result.now ≡ stamps_at d.index.listed (hash_key c.args.key.now) = c.at.ensures ∙ ap (stamps_at d.index.listed) c.hash_key.ensures in
    let found : row_among (rows d.tree) c.args.key.now (stamps_at d.index.listed (hash_key c.args.key.now)) ≡ Some c.in-Some.row.now =
    sym (c.in-Some.ensures ∙ ap (row_among (rows d.tree) c.args.key.now) stamps) in
    sym (finds_entry d.index.listed d.next d.tree c.self.invariant c.args.key.now c.in-Some.row.now found) ∙ ap (λ (es : List Entry). entry_of es c.args.key.now) c.self.view_is

pub returns-in-None : goal.returns-in-None
returns-in-None c =
    let d = c.self.inside in
    let stamps : c.at.result.now ≡ stamps_at d.index.listed (hash_key c.args.key.now) = c.at.ensures ∙ ap (stamps_at d.index.listed) c.hash_key.ensures in
    let found : row_among (rows d.tree) c.args.key.now (stamps_at d.index.listed (hash_key c.args.key.now)) ≡ None =
    sym (c.in-None.ensures ∙ ap (row_among (rows d.tree) c.args.key.now) stamps) in
    sym (lacks_entry d.index.listed d.next d.tree c.self.invariant c.args.key.now found) ∙ ap (λ (es : List Entry). entry_of es c.args.key.now) c.self.view_is
