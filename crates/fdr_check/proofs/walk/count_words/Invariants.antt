use Rattle.std.proofs.Common.{◌≡◌, ◌+◌, ◌-◌, ◌≤◌, length, true}
use Rattle.fdr_check.specs.Occurrences.{is_on_word}
use Rattle.fdr_check.proofs.Walking.{words_before}
use Rattle.fdr_check.proofs.walk.count_words.Given as goal

abbrev pub invariant-loop-word : goal.invariant-loop-word
invariant-loop-word l = record {
  low : 1 ≤ l.word;
  near : l.word ≤ 2048;
  on : l.word ≤ l.words → is_on_word l.place l.word ≡ true;
  so_far : l.count ≡ length (words_before l.words l.place l.word);
}

abbrev pub decreases-loop-word : goal.decreases-loop-word
decreases-loop-word l = l.words + 1 - l.word
