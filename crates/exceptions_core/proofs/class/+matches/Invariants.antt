use Rattle.exceptions_core.proofs.UnderLaws.{height}
use Rattle.exceptions_core.proofs.class.+matches.Given as goal

abbrev pub decreases-matches : goal.decreases-matches
decreases-matches l = height l.c
