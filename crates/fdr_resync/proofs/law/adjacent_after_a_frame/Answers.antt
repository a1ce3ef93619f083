use Rattle.fdr_sync.proofs.FrameSteps.{word_count_some}
use Rattle.fdr_resync.proofs.Adjacent.{frame_is_adjacent}
use Rattle.fdr_resync.proofs.law.adjacent_after_a_frame.Goals as goal

pub returns : goal.returns
returns c = λ bytes w at before after count is. frame_is_adjacent bytes w at before after (word_count_some w count) is
