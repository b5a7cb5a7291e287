use Rattle.std.proofs.Common.{◌≡◌, ap, sym, ◌∙◌, Some, None, List, ℕ}
use Rattle.std.specs.Option.{option_map}
use Rattle.heap_objects.specs.DictRows.{row_among}
use Rattle.heap_objects.specs.Entries.{without}
use Rattle.heap_objects.specs.Hash.{hash_key}
use Rattle.heap_objects.specs.Rows.{rows}
use Rattle.heap_objects.specs.Stamps.{stamps_at}
use Rattle.heap_objects.specs.declared.tree.Entry.{Entry}
use Rattle.heap_objects.specs.declared.tree.Row.{Row}
use Rattle.heap_objects.proofs.DictLaws.{is_dict-removed, removes_entry, removes_nothing}
use Rattle.heap_objects.proofs.dict.Dict.remove.Goals as goal

pub invariant_of-self : goal.invariant_of-self
invariant_of-self c =
    let d = c.self.inside in
    is_dict-removed d.index.listed d.next d.tree c.self.invariant c.unlist.new.self.listed c.remove.new.self c.in-Some.stamp c.remove.ensures.tree c.remove.ensures.rows c.unlist.ensures.kept

pub returns-in-Some : goal.returns-in-Some
returns-in-Some c =
    let d = c.self.inside in
    let stamps : c.at.result.now ≡ stamps_at d.index.listed (hash_key c.args.key.now) = c.at.ensures ∙ ap (stamps_at d.index.listed) c.hash_key-number.ensures in
    let found : Some c.in-Some.stamp ≡ option_map (λ r. r.stamp) (row_among (rows d.tree) c.args.key.now (stamps_at d.index.listed (hash_key c.args.key.now))) =
    c.in-Some.ensures ∙ ap (λ (ss : List ℕ). option_map (λ (r : Row). r.stamp) (row_among (rows d.tree) c.args.key.now ss)) stamps in
    removes_entry d.index.listed d.next d.tree c.self.invariant c.remove.new.self c.args.key.now c.in-Some.stamp found c.remove.ensures.rows
    ∙ ap (λ (es : List Entry). without es c.args.key.now) c.self.view_is

pub returns-in-None : goal.returns-in-None
returns-in-None c =
    let d = c.self.inside in
    let stamps : c.at.result.now ≡ stamps_at d.index.listed (hash_key c.args.key.now) = c.at.ensures ∙ ap (stamps_at d.index.listed) c.hash_key-number.ensures in
    let found : None ≡ option_map (λ r. r.stamp) (row_among (rows d.tree) c.args.key.now (stamps_at d.index.listed (hash_key c.args.key.now))) =
    c.in-None.ensures ∙ ap (λ (ss : List ℕ). option_map (λ (r : Row). r.stamp) (row_among (rows d.tree) c.args.key.now ss)) stamps in
    sym c.self.view_is ∙ removes_nothing d.index.listed d.next d.tree c.self.invariant c.args.key.now found ∙ ap (λ (es : List Entry). without es c.args.key.now) c.self.view_is
