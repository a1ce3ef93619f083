use Rattle.std.proofs.Common.{◌∙◌, sym, ap, Err, rules}
use Rattle.fdr_top.specs.Refusals.{ring_fault}
use Rattle.fdr_top.proofs.Results.{err_same, memory_not_disk, ok_not_err}
use Rattle.fdr_top.proofs.ring_header.open_ring.Goals as goal

pub returns : goal.returns
returns g c = record {
  opened =
      let e = c.in-Ok.ensures in
      record {
        limits = e.limits;
        whole = e.whole;
        header = e.header;
        image = λ told. ap (ring_fault (c.args.slots, c.args.payload))
            ((g.met.D.Deck.sound c.args.deck.now).size told ∙ sym (c.read_ring.ensures.looks.learns.bytes told)) ∙ e.fits;
        readable = e.fits;
        fresh = c.in-Ok-new.ensures;
      };
  refused = search rules;
  shut = search rules;
  memory = search rules;
  looks = c.read_ring.ensures.looks;
  disk_fault = λ e. absurd (ok_not_err _ _ e);
  no_disk_fault = λ other. c.in-Ok.ensures.no_disk_fault (ok_not_err _ _);
}

-- where the image isn't read
pub returns-in-Err : goal.returns-in-Err
returns-in-Err g c = record {
  opened = search rules;
  refused = c.in-Err.ensures.refused;
  shut = c.in-Err.ensures.shut;
  memory = λ e. absurd (c.in-Err.ensures.not_memory (ap Err e));
  looks = c.read_ring.ensures.looks;
  disk_fault = λ e. c.in-Err.ensures.disk_fault (ap Err (err_same _ _ e));
  no_disk_fault = λ other. c.in-Err.ensures.no_disk_fault (λ e. other (ap Err (err_same _ _ e)));
}

-- where there is no room for reading its bits
pub returns-in_default : goal.returns-in_default
returns-in_default g c = record {
  opened = search rules;
  refused = search rules;
  shut = search rules;
  memory = λ e. c.in-Ok.ensures.fits;
  looks = c.read_ring.ensures.looks;
  disk_fault = λ e. absurd (memory_not_disk (err_same _ _ e));
  no_disk_fault = λ other. c.in-Ok.ensures.no_disk_fault (ok_not_err _ _);
}
