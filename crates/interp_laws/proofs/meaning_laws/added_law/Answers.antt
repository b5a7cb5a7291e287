use Rattle.interp_laws.proofs.Kept.{binary_kept, collect_kept, contains_kept, equal_kept, less_kept, less_or_equal_kept, lookup_kept, make_dict_kept, make_list_kept, make_text_kept, make_tuple_kept, negate_kept, next_kept, plus_kept, truth_kept, tuple_kept, walk_kept}
use Rattle.interp_laws.proofs.KeptTexts.{delete_item_kept, show_kept, splice_kept, store_item_kept, subscript_kept, to_str_kept}
use Rattle.interp_laws.proofs.LaterLaws.{Any, added, later_reads, later_writes}
use Rattle.interp_laws.proofs.meaning_laws.added_law.Goals as goal
use Rattle.interp_machine.specs.Later.{IsLater}

pub returns-clause-truth : goal.returns-clause-truth
returns-clause-truth c = λ v. added _ (λ l. truth_kept (IsLater l) Any (later_reads l) v)

pub returns-clause-equal : goal.returns-clause-equal
returns-clause-equal c = λ a b. added _ (λ l. equal_kept (IsLater l) Any (later_reads l) a b)

pub returns-clause-less : goal.returns-clause-less
returns-clause-less c = λ a b. added _ (λ l. less_kept (IsLater l) Any (later_reads l) a b)

pub returns-clause-less_or_equal : goal.returns-clause-less_or_equal
returns-clause-less_or_equal c = λ a b. added _ (λ l. less_or_equal_kept (IsLater l) Any (later_reads l) a b)

pub returns-clause-show : goal.returns-clause-show
returns-clause-show c = λ v. added _ (λ l. show_kept (IsLater l) Any (later_reads l) v)

pub returns-clause-to_str : goal.returns-clause-to_str
returns-clause-to_str c = λ v. added _ (λ l. to_str_kept (IsLater l) Any (later_reads l) v)

pub returns-clause-binary : goal.returns-clause-binary
returns-clause-binary c = λ op a b. added _ (λ l. binary_kept (IsLater l) Any (later_reads l) (later_writes l) op a b)

pub returns-clause-negate : goal.returns-clause-negate
returns-clause-negate c = λ v. added _ (λ l. negate_kept (IsLater l) Any (later_reads l) v)

pub returns-clause-plus : goal.returns-clause-plus
returns-clause-plus c = λ v. added _ (λ l. plus_kept (IsLater l) Any (later_reads l) v)

pub returns-clause-contains : goal.returns-clause-contains
returns-clause-contains c = λ v c. added _ (λ l. contains_kept (IsLater l) Any (later_reads l) v c)

pub returns-clause-subscript : goal.returns-clause-subscript
returns-clause-subscript c = λ a i. added _ (λ l. subscript_kept (IsLater l) Any (later_reads l) (later_writes l) a i)

pub returns-clause-store_item : goal.returns-clause-store_item
returns-clause-store_item c = λ a i v. added _ (λ l. store_item_kept (IsLater l) Any (later_reads l) (later_writes l) a i v)

pub returns-clause-delete_item : goal.returns-clause-delete_item
returns-clause-delete_item c = λ a i. added _ (λ l. delete_item_kept (IsLater l) Any (later_reads l) (later_writes l) a i)

pub returns-clause-splice : goal.returns-clause-splice
returns-clause-splice c = λ o from tail. added _ (λ l. splice_kept (IsLater l) Any (later_reads l) (later_writes l) o from tail)

pub returns-clause-lookup : goal.returns-clause-lookup
returns-clause-lookup c = λ v a. added _ (λ l. lookup_kept (IsLater l) Any (later_reads l) v a)

pub returns-clause-walk : goal.returns-clause-walk
returns-clause-walk c = λ v. added _ (λ l. walk_kept (IsLater l) Any (later_reads l) v)

pub returns-clause-next : goal.returns-clause-next
returns-clause-next c = λ w. added _ (λ l. next_kept (IsLater l) Any (later_reads l) w)

pub returns-clause-collect : goal.returns-clause-collect
returns-clause-collect c = λ w. added _ (λ l. collect_kept (IsLater l) Any (later_reads l) w)

pub returns-clause-make_list : goal.returns-clause-make_list
returns-clause-make_list c = λ items. added _ (λ l. make_list_kept (IsLater l) Any (later_reads l) (later_writes l) items)

pub returns-clause-make_tuple : goal.returns-clause-make_tuple
returns-clause-make_tuple c = λ parts. added _ (λ l. make_tuple_kept (IsLater l) Any (later_reads l) parts)

pub returns-clause-tuple : goal.returns-clause-tuple
returns-clause-tuple c = λ parts. added _ (λ l. tuple_kept (IsLater l) Any (later_reads l) parts)

pub returns-clause-make_text : goal.returns-clause-make_text
returns-clause-make_text c = λ t. added _ (λ l. make_text_kept (IsLater l) Any (later_reads l) t)

pub returns-clause-make_dict : goal.returns-clause-make_dict
returns-clause-make_dict c = λ keys values. added _ (λ l. make_dict_kept (IsLater l) Any (later_reads l) (later_writes l) keys values)

pub returns-clause-error_of : goal.returns-clause-error_of
returns-clause-error_of c = λ kind name. added _ (λ l. ((later_reads l).error_of_made kind name).made)

pub returns-clause-error_with : goal.returns-clause-error_with
returns-clause-error_with c = λ class v. added _ (λ l. ((later_writes l).error_with_made class v).made)
