use Rattle.fdr_top.proofs.Coding.{decoded_first}
use Rattle.fdr_top.proofs.decoding.decode_levels.Goals as goal

pub write_bits-requires : goal.write_bits-requires
write_bits-requires g c = record { fresh = decoded_first _ _ c.new-2.ensures c.in-Ok.ensures }
