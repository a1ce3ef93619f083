-- What a value of the program keeps.
use Rattle.fdr_recon.specs.declared.past.Rebuild.TheInside.{Inside}
use Rattle.fdr_recon.specs.Kept.{RebuildKept}

-- what the program's rebuild keeps
abbrev pub rebuild_kept : Inside → RebuildKept
rebuild_kept r = record { frame = r.frame; params = r.scales.items; laid = r.plans.laid; words = r.words.items; joined = r.joined }
