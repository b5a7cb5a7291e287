use Rattle.std.proofs.Common.{◌≡◌, ◌+◌, ◌<◌, ◌∷◌, length, drop, map, ap, sym, ◌∙◌, arith, rules}
use Rattle.std.proofs.lemmas.List.{drop_more}
use Rattle.py_ast.specs.Nodes.{count_from, nodes}
use Rattle.py_ast.specs.View.{view, views}
use Rattle.py_line.specs.Numbers.{size, size_of_all}
use Rattle.py_line.proofs.NumberRuns.{counted_more, same_more}
use Rattle.py_line.proofs.NumberedExprs.{numbered_And, numbered_Attr, numbered_Binary, numbered_Call, numbered_Choice, numbered_Compare, numbered_Dict, numbered_Item, numbered_Lambda, numbered_List, numbered_Name, numbered_Nil, numbered_Not, numbered_Number, numbered_Or, numbered_Sign, numbered_Text, numbered_Truth, numbered_Tuple}
use Rattle.py_line.proofs.numbering.+expressions.Goals as goal

pub numbered-returns-in_ok-copy-in-Name-clause-is : goal.numbered-returns-in_ok-copy-in-Name-clause-is
numbered-returns-in_ok-copy-in-Name-clause-is t c = numbered_Name c.args.next c.in-Name.field-0 c.args.e.now c.in-Name.name c.in_ok-copy-in-Name.field-0 c.in-Name.is c.in_ok-copy-in-Name.ensures

pub numbered-returns-in_ok-copy-in-Text-clause-is : goal.numbered-returns-in_ok-copy-in-Text-clause-is
numbered-returns-in_ok-copy-in-Text-clause-is t c = numbered_Text c.args.next c.in-Text.field-0 c.args.e.now c.in-Text.text c.in_ok-copy-in-Text.field-0 c.in-Text.is c.in_ok-copy-in-Text.ensures

pub numbered-returns-in-Number-clause-is : goal.numbered-returns-in-Number-clause-is
numbered-returns-in-Number-clause-is t c = numbered_Number c.args.next c.in-Number.field-0 c.args.e.now c.in-Number.n _ c.in-Number.is (search rules)

pub numbered-returns-in-Nil-clause-is : goal.numbered-returns-in-Nil-clause-is
numbered-returns-in-Nil-clause-is t c = numbered_Nil c.args.next c.in-Nil.field-0 c.args.e.now c.in-Nil.is

pub numbered-returns-in-Truth-clause-is : goal.numbered-returns-in-Truth-clause-is
numbered-returns-in-Truth-clause-is t c = numbered_Truth c.args.next c.in-Truth.field-0 c.args.e.now c.in-Truth.truth c.in-Truth.is

pub numbered-returns-in_ok-all-in-Tuple-clause-is : goal.numbered-returns-in_ok-all-in-Tuple-clause-is
numbered-returns-in_ok-all-in-Tuple-clause-is t c =
    numbered_Tuple c.args.next c.in-Tuple.field-0 c.args.e.now c.in-Tuple.all c.in_ok-all-in-Tuple.all c.in-Tuple.is
    (rw c.as_slice.ensures at c.in_ok-all-in-Tuple.ensures.is)

pub numbered-returns-in_ok-all-in-List-clause-is : goal.numbered-returns-in_ok-all-in-List-clause-is
numbered-returns-in_ok-all-in-List-clause-is t c =
    numbered_List c.args.next c.in-List.field-0 c.args.e.now c.in-List.all c.in_ok-all-in-List.all c.in-List.is
    (rw c.as_slice-in-List.ensures at c.in_ok-all-in-List.ensures.is)

pub numbered-returns-in_ok-all-in-Dict-clause-is : goal.numbered-returns-in_ok-all-in-Dict-clause-is
numbered-returns-in_ok-all-in-Dict-clause-is t c =
    numbered_Dict c.args.next c.in-Dict.field-0 c.args.e.now c.in-Dict.all c.in_ok-all-in-Dict.all c.in-Dict.is
    (rw c.as_slice-in-Dict.ensures at c.in_ok-all-in-Dict.ensures.is)

pub numbered-returns-in_ok-copy-in-Compare-clause-is : goal.numbered-returns-in_ok-copy-in-Compare-clause-is
numbered-returns-in_ok-copy-in-Compare-clause-is t c =
    numbered_Compare c.args.next c.in-Compare.field-0 c.args.e.now c.in-Compare.ops c.in_ok-copy-in-Compare.field-0 c.in-Compare.all c.in_ok-all-in-Compare.all
    c.in-Compare.is c.in_ok-copy-in-Compare.ensures (rw c.as_slice-in-Compare.ensures at c.in_ok-all-in-Compare.ensures.is)

pub numbered-returns-in_ok-part-in-Not-clause-is : goal.numbered-returns-in_ok-part-in-Not-clause-is
numbered-returns-in_ok-part-in-Not-clause-is t c =
    numbered_Not c.args.next c.in-Not.field-0 c.args.e.now c.in-Not.part c.in_ok-part-in-Not.part c.in-Not.is
    (rw c.get-in-Not.ensures at c.in_ok-part-in-Not.ensures.is)

pub numbered-returns-in_ok-part-in-Sign-clause-is : goal.numbered-returns-in_ok-part-in-Sign-clause-is
numbered-returns-in_ok-part-in-Sign-clause-is t c =
    numbered_Sign c.args.next c.in-Sign.field-0 c.args.e.now c.in-Sign.op c.in-Sign.part c.in_ok-part-in-Sign.part c.in-Sign.is
    (rw c.get-in-Sign.ensures at c.in_ok-part-in-Sign.ensures.is)

pub numbered-returns-in_ok-copy-in-Attr-clause-is : goal.numbered-returns-in_ok-copy-in-Attr-clause-is
numbered-returns-in_ok-copy-in-Attr-clause-is t c =
    numbered_Attr c.args.next c.in-Attr.field-0 c.args.e.now c.in-Attr.part c.in_ok-part-in-Attr.part c.in-Attr.name c.in_ok-copy-in-Attr.field-0
    c.in-Attr.is c.in_ok-copy-in-Attr.ensures (rw c.get-in-Attr.ensures at c.in_ok-part-in-Attr.ensures.is)

pub numbered-returns-in_ok-right-in-And-clause-is : goal.numbered-returns-in_ok-right-in-And-clause-is
numbered-returns-in_ok-right-in-And-clause-is t c =
    numbered_And c.args.next c.in-And.field-0 c.in_ok-left-in-And.after c.args.e.now c.in-And.left c.in-And.right c.in_ok-left-in-And.left c.in_ok-right-in-And.right
    c.in-And.is (rw c.get-in-And.ensures at c.in_ok-left-in-And.ensures.is) (rw c.get-in-And.ensures at c.in_ok-left-in-And.ensures.after)
    (rw c.get-in-And-2.ensures at c.in_ok-right-in-And.ensures.is)

pub numbered-returns-in_ok-right-in-Or-clause-is : goal.numbered-returns-in_ok-right-in-Or-clause-is
numbered-returns-in_ok-right-in-Or-clause-is t c =
    numbered_Or c.args.next c.in-Or.field-0 c.in_ok-left-in-Or.after c.args.e.now c.in-Or.left c.in-Or.right c.in_ok-left-in-Or.left c.in_ok-right-in-Or.right
    c.in-Or.is (rw c.get-in-Or.ensures at c.in_ok-left-in-Or.ensures.is) (rw c.get-in-Or.ensures at c.in_ok-left-in-Or.ensures.after)
    (rw c.get-in-Or-2.ensures at c.in_ok-right-in-Or.ensures.is)

pub numbered-returns-in_ok-right-in-Item-clause-is : goal.numbered-returns-in_ok-right-in-Item-clause-is
numbered-returns-in_ok-right-in-Item-clause-is t c =
    numbered_Item c.args.next c.in-Item.field-0 c.in_ok-left-in-Item.after c.args.e.now c.in-Item.left c.in-Item.right c.in_ok-left-in-Item.left c.in_ok-right-in-Item.right
    c.in-Item.is (rw c.get-in-Item.ensures at c.in_ok-left-in-Item.ensures.is) (rw c.get-in-Item.ensures at c.in_ok-left-in-Item.ensures.after)
    (rw c.get-in-Item-2.ensures at c.in_ok-right-in-Item.ensures.is)

pub numbered-returns-in_ok-right-in-Binary-clause-is : goal.numbered-returns-in_ok-right-in-Binary-clause-is
numbered-returns-in_ok-right-in-Binary-clause-is t c =
    numbered_Binary c.args.next c.in-Binary.field-0 c.in_ok-left-in-Binary.after c.args.e.now c.in-Binary.left c.in-Binary.right c.in_ok-left-in-Binary.left
    c.in_ok-right-in-Binary.right c.in-Binary.op c.in-Binary.is (rw c.get-in-Binary.ensures at c.in_ok-left-in-Binary.ensures.is)
    (rw c.get-in-Binary.ensures at c.in_ok-left-in-Binary.ensures.after) (rw c.get-in-Binary-2.ensures at c.in_ok-right-in-Binary.ensures.is)

pub numbered-returns-in_ok-otherwise-in-Choice-clause-is : goal.numbered-returns-in_ok-otherwise-in-Choice-clause-is
numbered-returns-in_ok-otherwise-in-Choice-clause-is t c =
    numbered_Choice c.args.next c.in-Choice.field-0 c.in_ok-value-in-Choice.after c.in_ok-test-in-Choice.after c.args.e.now c.in-Choice.value c.in-Choice.test c.in-Choice.otherwise
    c.in_ok-value-in-Choice.value c.in_ok-test-in-Choice.test c.in_ok-otherwise-in-Choice.otherwise c.in-Choice.is
    (rw c.get-in-Choice.ensures at c.in_ok-value-in-Choice.ensures.is) (rw c.get-in-Choice.ensures at c.in_ok-value-in-Choice.ensures.after)
    (rw c.get-in-Choice-2.ensures at c.in_ok-test-in-Choice.ensures.is) (rw c.get-in-Choice-2.ensures at c.in_ok-test-in-Choice.ensures.after)
    (rw c.get-in-Choice-3.ensures at c.in_ok-otherwise-in-Choice.ensures.is)

pub numbered-returns-in_ok-copy-in-Lambda-clause-is : goal.numbered-returns-in_ok-copy-in-Lambda-clause-is
numbered-returns-in_ok-copy-in-Lambda-clause-is t c =
    numbered_Lambda c.args.next c.in-Lambda.field-0 c.in_ok-defaults-in-Lambda.after c.args.e.now c.in-Lambda.value c.in_ok-value-in-Lambda.value
    c.in-Lambda.names c.in_ok-copy-in-Lambda.field-0 c.in-Lambda.defaults c.in_ok-defaults-in-Lambda.defaults c.in-Lambda.is c.in_ok-copy-in-Lambda.ensures
    (rw c.as_slice-in-Lambda.ensures at c.in_ok-defaults-in-Lambda.ensures.is) (rw c.as_slice-in-Lambda.ensures at c.in_ok-defaults-in-Lambda.ensures.after)
    (rw c.get.ensures at c.in_ok-value-in-Lambda.ensures.is)

pub numbered-returns-in_ok-arguments-in-Call-clause-is : goal.numbered-returns-in_ok-arguments-in-Call-clause-is
numbered-returns-in_ok-arguments-in-Call-clause-is t c =
    numbered_Call c.args.next c.in-Call.field-0 c.in_ok-function-in-Call.after c.args.e.now c.in-Call.function c.in_ok-function-in-Call.function
    c.in-Call.arguments c.in_ok-arguments-in-Call.arguments c.in-Call.is (rw c.get-in-Call.ensures at c.in_ok-function-in-Call.ensures.is)
    (rw c.get-in-Call.ensures at c.in_ok-function-in-Call.ensures.after) (rw c.as_slice-in-Call.ensures at c.in_ok-arguments-in-Call.ensures.is)

pub numbered_all-loop-e-preserved : goal.numbered_all-loop-e-preserved
numbered_all-loop-e-preserved t c =
    let i = c.loop-e.e-index in
    let all = c.args.all.now in
    let x = c.e-item.result in
    let inside : i < length all = omega arith in
    let head : drop i all ≡ x ∷ drop (i + 1) all = drop_more all i x inside ∙ ap (λ z. z ∷ drop (i + 1) all) (sym c.e-item.is) in
    let next : c.in_ok-one.after ≡ c.loop-e.at + size (view x) = c.in_ok-one.ensures.after in
    let at : c.loop-e.at + size_of_all (views (x ∷ drop (i + 1) all)) ≡ c.args.next + size_of_all (views all) = rw head at c.loop-e.invariant.after in
    rw c.in_ok-push.ensures.items (record {
      same = same_more view c.loop-e.done.items c.in_ok-one.one (view x) (map view (drop (i + 1) all)) (map view all) c.in_ok-one.ensures.is.same
          (rw head at c.loop-e.invariant.same);
      in_order = counted_more nodes c.loop-e.done.items c.in_ok-one.one (size (view x)) (size_of_all (views (drop (i + 1) all))) c.loop-e.at c.in_ok-one.after
          (count_from c.args.next (size_of_all (views all))) c.in_ok-one.ensures.is.in_order next (rw head at c.loop-e.invariant.in_order);
      after = omega arith;
    })
