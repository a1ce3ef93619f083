-- What a value of the program keeps.
use Rattle.fdr_gen.specs.declared.generator.Gen.TheInside.{Inside}
use Rattle.fdr_gen.specs.Past.{GeneratorKept}

-- what the program's generator keeps
abbrev pub generator_kept : Inside → GeneratorKept
generator_kept s = record { senders = s.senders.items; seconds = s.seconds; second = s.second; place = s.place; state = s.state; ended = s.ended }
