use Rattle.trace_events.proofs.Places.{at_start_read, at_written, kept_write_at, places_ascend, start_read_at}
use Rattle.trace_events.proofs.laws.trace_law.Goals as goal

pub returns-clause-start_reads : goal.returns-clause-start_reads
returns-clause-start_reads c = λ events l how. (start_read_at events l how, at_start_read events l how)

pub returns-clause-writes : goal.returns-clause-writes
returns-clause-writes c = λ events place l. (at_written events place l, kept_write_at events place l)

pub returns-clause-in_order : goal.returns-clause-in_order
returns-clause-in_order c = places_ascend
