use Rattle.std.proofs.Common.{◌≡◌, refl}
use Rattle.exceptions_core.specs.Classes.{class_name}
use Rattle.exceptions_core.specs.declared.class.ExcClass.{ExcClass}
use Rattle.exceptions_core.specs.declared.class.ExcClass.TheVariants.{Exception, ArithmeticError, ZeroDivisionError, LookupError, IndexError, KeyError, NameError, UnboundLocalError, RuntimeError, RecursionError, AttributeError, TypeError, ValueError, AssertionError}
use Rattle.interp_laws.proofs.symbol_laws.symbols_law.Goals as goal
use Rattle.interp_machine.specs.Symbols.{class_symbol, known_texts, text_of}

named : (c : ExcClass) → text_of known_texts (class_symbol c) ≡ class_name c
named Exception = refl
named ArithmeticError = refl
named ZeroDivisionError = refl
named LookupError = refl
named IndexError = refl
named KeyError = refl
named NameError = refl
named UnboundLocalError = refl
named RuntimeError = refl
named RecursionError = refl
named AttributeError = refl
named TypeError = refl
named ValueError = refl
named AssertionError = refl

pub returns-clause-exceptions : goal.returns-clause-exceptions
returns-clause-exceptions c = named

pub returns-clause-args : goal.returns-clause-args
returns-clause-args c = refl

pub returns-clause-init : goal.returns-clause-init
returns-clause-init c = refl

pub returns-clause-lambda : goal.returns-clause-lambda
returns-clause-lambda c = refl

pub returns-clause-classes : goal.returns-clause-classes
returns-clause-classes c = refl

pub returns-clause-lists : goal.returns-clause-lists
returns-clause-lists c = refl

pub returns-clause-dicts : goal.returns-clause-dicts
returns-clause-dicts c = refl

pub returns-clause-texts : goal.returns-clause-texts
returns-clause-texts c = refl

pub returns-clause-tuples : goal.returns-clause-tuples
returns-clause-tuples c = refl
