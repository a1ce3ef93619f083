use Rattle.std.proofs.Common.{◌≡◌, ◌+◌, ◌-◌, ◌≤◌, ◌++◌, map, true}
use Rattle.fdr_check.specs.Occurrences.{is_on_word}
use Rattle.fdr_check.proofs.Walking.{words_before}
use Rattle.fdr_check.proofs.walk.add_words.Given as goal

abbrev pub invariant-loop-word : goal.invariant-loop-word
invariant-loop-word l = record {
  low : 1 ≤ l.word;
  near : l.word ≤ 2048;
  on : l.word ≤ l.words → is_on_word l.place l.word ≡ true;
  so_far : l.slots.items ≡ l.initial.slots.items ++ map (λ v. l.start + (v - 1)) (words_before l.words l.place l.word);
}

abbrev pub decreases-loop-word : goal.decreases-loop-word
decreases-loop-word l = l.words + 1 - l.word
