use Rattle.std.proofs.Common.{rules, ◌∙◌, ap}
use Rattle.fdr_slot.specs.Headers.{header_of, header_bytes, image_fault}
use Rattle.fdr_slot.proofs.HeaderLemmas.{header_of-header_bytes, image_fault-header_bytes}
use Rattle.fdr_slot.proofs.image.write_header.Goals as goal

pub returns-clause-bytes : goal.returns-clause-bytes
unfolding header_bytes
returns-clause-bytes c = search rules

pub returns-clause-reads_back : goal.returns-clause-reads_back
returns-clause-reads_back c =
    ap header_of (returns-clause-bytes c) ∙ header_of-header_bytes c.args.h.now c.requires

pub returns-clause-no_fault : goal.returns-clause-no_fault
returns-clause-no_fault c size enough =
    ap (λ bytes. image_fault bytes size) (returns-clause-bytes c)
    ∙ image_fault-header_bytes c.args.h.now size c.requires enough
