use Rattle.std.proofs.Common.{◌≡◌, Some, arith, length, slice_get, ◌<◌, ◌∙◌, sym}
use Rattle.std.proofs.lemmas.Option.{slice_get_within}
use Rattle.flow_base.specs.Names.{symbol_of}
use Rattle.py_scope.proofs.name_list.NameList.place.Goals as goal

pub overflow_cast-result : goal.overflow_cast-result
overflow_cast-result c =
    let is : symbol_of c.self.inside.names c.args.name.now ≡ Some c.in-Some.symbol = sym c.known.ensures ∙ c.in-Some.is in
    let text : slice_get c.self.inside.names c.in-Some.symbol.0 ≡ Some c.args.name.now =
    c.names_law.ensures.text_at c.self.inside.names c.args.name.now c.in-Some.symbol is in
    let within : c.in-Some.symbol.0 < length c.self.inside.names = slice_get_within c.self.inside.names c.in-Some.symbol.0 c.args.name.now
    text in
    omega arith
