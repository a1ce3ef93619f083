use Rattle.std.proofs.Common.{[], arith}
use Rattle.fdr_sync.proofs.FrameLemmas.{none_in_few_bytes}
use Rattle.fdr_sync.proofs.EventSteps.{decided_from_none}
use Rattle.fdr_sync.proofs.FrameSteps.{word_count_some}
use Rattle.fdr_resync.proofs.Following.{rest_from}
use Rattle.fdr_resync.proofs.Standing.{known_are}
use Rattle.fdr_resync.proofs.Growing.{frames_extend, decided_extends, events_extend}
use Rattle.fdr_resync.proofs.Ahead.{next_of_all}
use Rattle.fdr_resync.proofs.Longest.{none_kept_back}
use Rattle.fdr_resync.proofs.law.stays_decided.Goals as goal

pub returns-clause-frames : goal.returns-clause-frames
returns-clause-frames c = λ bytes more w count. frames_extend bytes more w (word_count_some w count)

pub returns-clause-decided : goal.returns-clause-decided
returns-clause-decided c = λ bytes more w count. decided_extends bytes more w (word_count_some w count)

pub returns-clause-empty : goal.returns-clause-empty
returns-clause-empty c = λ w count. decided_from_none [] w 0 (none_in_few_bytes [] w 0 (omega (arith, word_count_some w count)))

pub returns-clause-events : goal.returns-clause-events
returns-clause-events c = λ bytes more w count. events_extend bytes more w (word_count_some w count)

pub returns-clause-longest : goal.returns-clause-longest
returns-clause-longest c = none_kept_back

pub returns-clause-taken : goal.returns-clause-taken
returns-clause-taken c = λ k past st. (rest_from past.finished past.bytes past.words k.free, known_are k past st)

pub returns-clause-next : goal.returns-clause-next
returns-clause-next c = λ k past more e st count ends is. next_of_all k past more e st (word_count_some past.words count) ends is
