use Rattle.kernel_core.proofs.CleanReplies.{answer_keeps_clean}
use Rattle.kernel_core.proofs.law.clean_reply_law.Goals as goal

pub returns : goal.returns
returns c = answer_keeps_clean
