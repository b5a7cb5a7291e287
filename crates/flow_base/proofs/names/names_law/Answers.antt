use Rattle.std.proofs.Common.{ap}
use Rattle.flow_base.specs.Names.{symbol_of}
use Rattle.flow_base.proofs.NamesTable.{same_from_symbols, symbol_of-with_name, symbol_at, symbol_of-place, IsSome-with_name}
use Rattle.flow_base.proofs.names.names_law.Goals as goal

pub returns-clause-one_text : goal.returns-clause-one_text
returns-clause-one_text c = λ names s t k. (same_from_symbols names s t k, λ e. ap (symbol_of names) e)

pub returns-clause-stays : goal.returns-clause-stays
returns-clause-stays c = symbol_of-with_name

pub returns-clause-text_at : goal.returns-clause-text_at
returns-clause-text_at c = symbol_at

pub returns-clause-place_of : goal.returns-clause-place_of
returns-clause-place_of c = λ names s symbol u h. symbol_of-place names s symbol.0 u h

pub returns-clause-known : goal.returns-clause-known
returns-clause-known c = IsSome-with_name
