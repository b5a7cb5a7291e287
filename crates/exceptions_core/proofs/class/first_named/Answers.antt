use Rattle.std.proofs.Common.{◌∙◌, sym}
use Rattle.std.proofs.lemmas.Bool.{true≢false}
use Rattle.exceptions_core.proofs.UnderLaws.{passed}
use Rattle.exceptions_core.specs.declared.class.ExcClass.TheVariants.{Exception}
use Rattle.exceptions_core.proofs.class.first_named.Goals as goal

pub loop-c-preserved : goal.loop-c-preserved
loop-c-preserved c =
    passed c.args.name.now c.name_of.result.now c.loop-c.c-index c.args.classes.now Exception c.loop-c-test.true c.name_of.ensures
    (λ e. true≢false (sym (c.spells.ensures.1 e) ∙ c.if-spells.false))
    ∙ c.loop-c.invariant
