use Rattle.fdr_readout.specs.Listing.{frame_words}
use Rattle.fdr_readout.proofs.events.read_frame.Goals as goal

pub returns-clause-rebuild : goal.returns-clause-rebuild
unfolding frame_words
returns-clause-rebuild c = λ t past at read scanner frame words rebuild. (
  rw words at (c.frame_words.ensures.within past at scanner frame),
  rw (c.frame_words.ensures.words past at scanner frame, words) at (c.frame.ensures.stands t read rebuild),
)
