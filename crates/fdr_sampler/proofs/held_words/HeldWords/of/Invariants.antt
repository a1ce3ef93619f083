use Rattle.std.proofs.Common.{◌≡◌, ◌+◌, ◌*◌, ◌≤◌, map, take}
use Rattle.fdr_sampler.specs.declared.held_words.HeldSource.{HeldSource}
use Rattle.fdr_sampler.specs.Held.{source_of}
use Rattle.fdr_sampler.specs.HeldWords.{AreHeldWords}
use Rattle.fdr_sampler.proofs.held_words.HeldWords.of.Given as goal

abbrev pub invariant-loop-param : goal.invariant-loop-param
invariant-loop-param l = record {
  are : AreHeldWords l.sources.items l.starts.items l.end;
  sources : map (λ (h : HeldSource). h.source) l.sources.items ≡ map source_of (take l.param-index l.params);
  few : l.end ≤ 5 * l.param-index + 5;
}
