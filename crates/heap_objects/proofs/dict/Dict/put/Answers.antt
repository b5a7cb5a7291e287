use Rattle.std.proofs.Common.{◌≡◌, ◌++◌, ◌∷◌, [], cond, ap, sym, ◌∙◌, Some, None, List, ℕ}
use Rattle.std.specs.Option.{is_some, option_map}
use Rattle.heap_objects.specs.DictRows.{row_among}
use Rattle.heap_objects.specs.Entries.{entry_of, with_entry, with_value}
use Rattle.heap_objects.specs.Hash.{hash_key}
use Rattle.heap_objects.specs.Rows.{rows}
use Rattle.heap_objects.specs.Stamps.{stamps_at}
use Rattle.heap_objects.specs.declared.tree.Entry.{Entry}
use Rattle.heap_objects.specs.declared.tree.Row.{Row}
use Rattle.heap_objects.proofs.DictLaws.{absent_entry, is_dict-set, sets_value}
use Rattle.heap_objects.proofs.StampLaws.{always, on_ok}
use Rattle.heap_objects.proofs.dict.Dict.put.Goals as goal

pub invariant_of-self : goal.invariant_of-self
invariant_of-self c =
    let d = c.self.inside in
    is_dict-set d.index.listed d.next d.tree c.self.invariant c.set_value.new.tree c.in-Some.stamp c.args.value c.set_value.ensures.tree c.set_value.ensures.rows

pub add-requires : goal.add-requires
add-requires c =
    let d = c.self.inside in
    let stamps : c.at.result.now ≡ stamps_at d.index.listed (hash_key c.args.key) = c.at.ensures ∙ ap (stamps_at d.index.listed) c.hash_key.ensures in
    let found : None ≡ option_map (λ r. r.stamp) (row_among (rows d.tree) c.args.key (stamps_at d.index.listed (hash_key c.args.key))) =
    c.in-None.ensures ∙ ap (λ (ss : List ℕ). option_map (λ (r : Row). r.stamp) (row_among (rows d.tree) c.args.key ss)) stamps in
    ap (λ (es : List Entry). entry_of es c.args.key) (sym c.self.view_is) ∙ absent_entry d.index.listed d.next d.tree c.self.invariant c.args.key found

pub returns-in-Some : goal.returns-in-Some
returns-in-Some c =
    let d = c.self.inside in
    let stamps : c.at.result.now ≡ stamps_at d.index.listed (hash_key c.args.key) = c.at.ensures ∙ ap (stamps_at d.index.listed) c.hash_key.ensures in
    let found : Some c.in-Some.stamp ≡ option_map (λ r. r.stamp) (row_among (rows d.tree) c.args.key (stamps_at d.index.listed (hash_key c.args.key))) =
    c.in-Some.ensures ∙ ap (λ (ss : List ℕ). option_map (λ (r : Row). r.stamp) (row_among (rows d.tree) c.args.key ss)) stamps in
    always c.set_value.result _ (sets_value d.index.listed d.next d.tree c.self.invariant c.set_value.new.tree c.args.key c.in-Some.stamp c.args.spelled c.args.value found c.set_value.ensures.rows
    ∙ ap (λ (es : List Entry). with_entry es c.args.key c.args.spelled c.args.value) c.self.view_is)

pub returns-in-None : goal.returns-in-None
returns-in-None c =
    let d = c.self.inside in
    let stamps : c.at.result.now ≡ stamps_at d.index.listed (hash_key c.args.key) = c.at.ensures ∙ ap (stamps_at d.index.listed) c.hash_key.ensures in
    let found : None ≡ option_map (λ r. r.stamp) (row_among (rows d.tree) c.args.key (stamps_at d.index.listed (hash_key c.args.key))) =
    c.in-None.ensures ∙ ap (λ (ss : List ℕ). option_map (λ (r : Row). r.stamp) (row_among (rows d.tree) c.args.key ss)) stamps in
    let absent : entry_of c.args.self.now c.args.key ≡ None =
    ap (λ (es : List Entry). entry_of es c.args.key) (sym c.self.view_is) ∙ absent_entry d.index.listed d.next d.tree c.self.invariant c.args.key found in
    on_ok c.add.result _ _ (λ is. is ∙ ap (λ b. cond b (with_value c.args.self.now c.args.key c.args.value)
    (c.args.self.now ++ record { key = c.args.key; spelled = c.args.spelled; value = c.args.value } ∷ [])) (sym (ap is_some absent))) c.add.ensures
