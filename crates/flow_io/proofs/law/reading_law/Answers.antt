use Rattle.std.proofs.Common.{◌++◌}
use Rattle.flow_io.proofs.ReadingLaws.{line_answered, end_answered, limit_answered}
use Rattle.flow_io.proofs.law.reading_law.Goals as goal

pub returns-clause-line : goal.returns-clause-line
returns-clause-line c = λ given before after old new result reads. line_answered (old.pending ++ given) after new result reads.answer

pub returns-clause-end : goal.returns-clause-end
returns-clause-end c = λ given before after old new result reads. end_answered (old.pending ++ given) after new result reads.answer

pub returns-clause-limit : goal.returns-clause-limit
returns-clause-limit c = λ given before after old new result reads. limit_answered (old.pending ++ given) after new result reads.answer
