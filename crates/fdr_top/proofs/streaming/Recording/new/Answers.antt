use Rattle.fdr_top.proofs.streaming.Recording.new.Goals as goal

pub returns : goal.returns
returns c = record { trace = c.in_ok-trace.ensures; stream = c.in_ok-stream.ensures }
