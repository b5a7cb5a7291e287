use Rattle.std.proofs.Common.{◌∙◌, sym, ap, List, ℕ}
use Rattle.exceptions_core.proofs.UnderLaws.{named_has_name, name_is_named, all_classes}
use Rattle.exceptions_core.specs.Classes.{first_named}
use Rattle.exceptions_core.specs.declared.class.ExcClass.{ExcClass}
use Rattle.exceptions_core.proofs.class.class_named.Goals as goal

pub returns : goal.returns
returns c =
    let is = c.first_named.ensures ∙ ap (λ (name : List ℕ). first_named name all_classes) c.as_slice.ensures in
    λ (d : ExcClass). (λ e. named_has_name c.args.s.now all_classes d (sym is ∙ e), λ e. is ∙ name_is_named c.args.s.now d e)
