-- What a value of the program keeps.
use Rattle.fdr_sampler.specs.declared.sampler.Sampler.TheInside.{Inside}
use Rattle.fdr_sampler.specs.Kept.{SamplerKept}

-- what the program's sampler keeps
abbrev pub sampler_kept : Inside → SamplerKept
sampler_kept s = record {
  frame = s.frame;
  sources = s.held.sources;
  laid = s.schedule;
  held = s.held.words;
  raws = s.raws.items;
  slots_drawn = s.slots_drawn;
}
