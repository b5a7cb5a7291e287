use Rattle.interp_laws.specs.Formed.{Allowed, AllowedAll, AllowedObject, AllowedStep, AllowedWalk, Any, IsFormed}
use Rattle.interp_laws.proofs.Kept.{contains_kept, equal_kept, less_kept, less_or_equal_kept, truth_kept}
use Rattle.interp_laws.proofs.KeptTexts.{show_kept, to_str_kept}
use Rattle.interp_laws.proofs.Lawful.{collect_lawful, ends, ends_kept, error_of_lawful, error_with_lawful, formed_reads, make_dict_lawful, make_list_lawful, make_text_lawful, make_tuple_lawful, next_lawful, tuple_lawful, walk_lawful}
use Rattle.interp_laws.proofs.LawfulOps.{binary_lawful, delete_item_lawful, lookup_lawful, negate_lawful, plus_lawful, splice_lawful, store_item_lawful, subscript_lawful}
use Rattle.interp_laws.proofs.laws.formed_law.Goals as goal

pub returns-clause-truth : goal.returns-clause-truth
returns-clause-truth c = λ codes v m steady formed. ends_kept codes steady _ (truth_kept (IsFormed codes) (λ n x. Allowed codes n.heap x) (formed_reads codes steady) v) m formed

pub returns-clause-equal : goal.returns-clause-equal
returns-clause-equal c = λ codes a b m steady formed. ends_kept codes steady _ (equal_kept (IsFormed codes) (λ n x. Allowed codes n.heap x) (formed_reads codes steady) a b) m formed

pub returns-clause-less : goal.returns-clause-less
returns-clause-less c = λ codes a b m steady formed. ends_kept codes steady _ (less_kept (IsFormed codes) (λ n x. Allowed codes n.heap x) (formed_reads codes steady) a b) m formed

pub returns-clause-less_or_equal : goal.returns-clause-less_or_equal
returns-clause-less_or_equal c = λ codes a b m steady formed. ends_kept codes steady _ (less_or_equal_kept (IsFormed codes) (λ n x. Allowed codes n.heap x) (formed_reads codes steady) a b) m formed

pub returns-clause-show : goal.returns-clause-show
returns-clause-show c = λ codes v m steady formed. ends_kept codes steady _ (show_kept (IsFormed codes) (λ n x. Allowed codes n.heap x) (formed_reads codes steady) v) m formed

pub returns-clause-to_str : goal.returns-clause-to_str
returns-clause-to_str c = λ codes v m steady formed. ends_kept codes steady _ (to_str_kept (IsFormed codes) (λ n x. Allowed codes n.heap x) (formed_reads codes steady) v) m formed

pub returns-clause-binary : goal.returns-clause-binary
returns-clause-binary c = λ codes op a b m steady formed g h. ends codes steady (Allowed codes) _ m (binary_lawful codes steady m.heap op a b g h) formed

pub returns-clause-negate : goal.returns-clause-negate
returns-clause-negate c = λ codes v m steady formed. ends codes steady (Allowed codes) _ m (negate_lawful codes steady m.heap v) formed

pub returns-clause-plus : goal.returns-clause-plus
returns-clause-plus c = λ codes v m steady formed. ends codes steady (Allowed codes) _ m (plus_lawful codes steady m.heap v) formed

pub returns-clause-contains : goal.returns-clause-contains
returns-clause-contains c = λ codes v c m steady formed. ends_kept codes steady _ (contains_kept (IsFormed codes) (λ n x. Allowed codes n.heap x) (formed_reads codes steady) v c) m formed

pub returns-clause-subscript : goal.returns-clause-subscript
returns-clause-subscript c = λ codes a i m steady formed g h. ends codes steady (Allowed codes) _ m (subscript_lawful codes steady m.heap a i g h) formed

pub returns-clause-store_item : goal.returns-clause-store_item
returns-clause-store_item c = λ codes a i v m steady formed g h. ends codes steady Any _ m (store_item_lawful codes steady m.heap a i v g h) formed

pub returns-clause-delete_item : goal.returns-clause-delete_item
returns-clause-delete_item c = λ codes a i m steady formed g. ends codes steady Any _ m (delete_item_lawful codes steady m.heap a i g) formed

pub returns-clause-splice : goal.returns-clause-splice
returns-clause-splice c = λ codes o from tail m steady formed g. ends codes steady Any _ m (splice_lawful codes steady m.heap o from tail g) formed

pub returns-clause-lookup : goal.returns-clause-lookup
returns-clause-lookup c = λ codes v a m steady formed g. ends codes steady (Allowed codes) _ m (lookup_lawful codes steady m.heap v a g) formed

pub returns-clause-walk : goal.returns-clause-walk
returns-clause-walk c = λ codes v m steady formed g. ends codes steady (AllowedWalk codes) _ m (walk_lawful codes steady m.heap v g) formed

pub returns-clause-next : goal.returns-clause-next
returns-clause-next c = λ codes w m steady formed g. ends codes steady (AllowedStep codes) _ m (next_lawful codes steady m.heap w g) formed

pub returns-clause-collect : goal.returns-clause-collect
returns-clause-collect c = λ codes w m steady formed g. ends codes steady (AllowedAll codes) _ m (collect_lawful codes steady m.heap w g) formed

pub returns-clause-make_list : goal.returns-clause-make_list
returns-clause-make_list c = λ codes items m steady formed g. ends codes steady (Allowed codes) _ m (make_list_lawful codes steady m.heap items g) formed

pub returns-clause-make_tuple : goal.returns-clause-make_tuple
returns-clause-make_tuple c = λ codes parts m steady formed g. ends codes steady (Allowed codes) _ m (make_tuple_lawful codes steady m.heap parts g) formed

pub returns-clause-tuple : goal.returns-clause-tuple
returns-clause-tuple c = λ codes parts m steady formed g. ends codes steady (Allowed codes) _ m (tuple_lawful codes steady m.heap parts g) formed

pub returns-clause-make_text : goal.returns-clause-make_text
returns-clause-make_text c = λ codes t m steady formed. ends codes steady (Allowed codes) _ m (make_text_lawful codes steady m.heap t) formed

pub returns-clause-make_dict : goal.returns-clause-make_dict
returns-clause-make_dict c = λ codes keys values m steady formed g h. ends codes steady (Allowed codes) _ m (make_dict_lawful codes steady m.heap keys values g h) formed

pub returns-clause-error_of : goal.returns-clause-error_of
returns-clause-error_of c = λ codes kind name m steady formed. ends codes steady (AllowedObject codes) _ m (error_of_lawful codes steady m.heap kind name) formed

pub returns-clause-error_with : goal.returns-clause-error_with
returns-clause-error_with c = λ codes class v m steady formed g. ends codes steady (AllowedObject codes) _ m (error_with_lawful codes steady m.heap class v g) formed
