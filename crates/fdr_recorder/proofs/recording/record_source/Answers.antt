use Rattle.std.proofs.Common.{◌≡◌, ◌∙◌, ◌+◌, ◌-◌, ◌≤◌, ℕ, ap, sym, inl, inr, ⊎_elim, refl, subst, Err, arith}
use Rattle.fdr_deck.proofs.Composing.{refusal, same_fault, LearnsExtent-then}
use Rattle.fdr_slot.specs.declared.image.Header.{Header}
use Rattle.fdr_recover.specs.Images.{next_of}
use Rattle.fdr_recorder.specs.NewBlocks.{next_in}
use Rattle.fdr_recorder.specs.Ends.{IsRefusedAtStart}
use Rattle.fdr_recorder.specs.declared.error.SessionFault.{SessionFault}
use Rattle.fdr_recorder.specs.Past.{past_at_start}
use Rattle.fdr_recorder.specs.declared.error.SessionFault.TheVariants as session
use Rattle.fdr_recorder.proofs.Recordings.{RecordsSupply-refused, RecordsSupply-past_at_start}
use Rattle.fdr_recorder.proofs.SessionEnds.{begun_at, cut_after_start, cut_not_memory, keeps_input_then, not_short, recorded_after_start}
use Rattle.fdr_recorder.proofs.Refused.{ok_not_err}
use Rattle.fdr_recorder.proofs.recording.record_source.Goals as goal

refused_not_disk : (f : SessionFault) → IsRefusedAtStart f → f ≡ session.DiskFault → ⊥
refused_not_disk f refused is = subst IsRefusedAtStart is refused

blocks_between : (n first next announced : ℕ) → first ≡ n → first ≤ next → next ≡ announced → n + (next - first) ≡ announced
blocks_between n first next announced at up told = omega arith

-- no session was started
pub returns-in-Err : goal.returns-in-Err
returns-in-Err g c =
    let e = c.in-Err.ensures in
    let starts = c.start.ensures.starts in
    record {
      recorded = λ from gives. tt;
      ended = λ from gives. RecordsSupply-refused from c.args.sound.now _ _ _ c.in-Err.fault starts (record {
        not_end = λ ends. e.numbers (ap Err ends);
        image = λ bytes why is. e.image bytes why (ap Err is);
        small = λ why is. e.small why (ap Err is);
        short = λ past short. ⊎_elim (λ is. inl (ap Err (same_fault is))) (λ is. inr (ap Err (same_fault is))) (e.small_always short);
        words = λ image table is. e.words image table (ap Err is);
        old = λ is. e.old_version (ap Err is);
      });
      blocks = tt;
      memory = λ is. not_short _ (λ short. ⊎_elim (λ x. let y = sym is ∙ same_fault x in cc) (λ x. let y = sym is ∙ same_fault x in cc)
          (e.small_always short));
      memory_good = λ is told. e.no_memory told (ap Err is);
      memory_current = λ is told. e.memory_current told (ap Err is);
      untouched = λ refused. e.untouched (λ is. refused_not_disk c.in-Err.fault refused (same_fault is));
      looked = λ refused. e.looked (λ is. refused_not_disk c.in-Err.fault refused (same_fault is));
      announced = λ refused. e.refused.announced;
      input = λ refused. (starts.input, starts.input_faults);
      unpulled = λ still. (starts.input, starts.input_faults);
      learns = e.learns;
      input_fault = tt;
      disk_fault = λ fails. e.cause (ap Err fails);
      no_disk_fault = tt;
      no_fault_if_cut = λ other. e.no_fault (λ is. other (same_fault is));
    }

-- the recording was cut short
pub returns-in_err-closed : goal.returns-in_err-closed
returns-in_err-closed g c =
    let s = g.met.D.Deck.sound in
    let e = c.in_err-closed.field-0.0 in
    let a = c.in_err-closed.ensures in
    let starts = c.start.ensures.starts in
    let started = c.in-Ok.ensures.started in
    rw (refusal _ _ c.from_residual.ensures.1, ← c.in-Ok.ensures.no_fault (ok_not_err _ session.DiskFault)) (record {
      recorded = λ from gives. tt;
      ended = λ from gives. RecordsSupply-past_at_start from c.args.sound.now _ c.in-Ok.session _ _ _ _ (s c.args.deck.now) (s c.start.new.deck)
          starts started (a.ended from (past_at_start _ _ _ _) gives (begun_at _ _ c.in-Ok.session _ _ started))
          a.extent (cut_after_start _ a.only) c.in-Ok.ensures.good;
      blocks = tt;
      memory = λ is. absurd (cut_not_memory e a.only is);
      memory_good = λ is. absurd (cut_not_memory e a.only is);
      memory_current = λ is. absurd (cut_not_memory e a.only is);
      untouched = λ refused. absurd (cut_after_start e a.only e refl refused);
      looked = λ refused. absurd (cut_after_start e a.only e refl refused);
      announced = λ refused. absurd (cut_after_start e a.only e refl refused);
      input = λ refused. absurd (cut_after_start e a.only e refl refused);
      unpulled = λ still. let later = a.unpulled still in keeps_input_then _ _ _ _ (starts.input, starts.input_faults) refl later.0 later.1;
      learns = LearnsExtent-then _ _ _ _ c.start.ensures.learns a.extent;
      input_fault = tt;
      disk_fault = a.disk_fault;
      no_disk_fault = tt;
      no_fault_if_cut = a.no_fault_if_cut;
    })

-- all was recorded
pub returns : goal.returns
returns g c =
    let s = g.met.D.Deck.sound in
    let e = c.in_ok-closed.ensures in
    let starts = c.start.ensures.starts in
    let started = c.in-Ok.ensures.started in
    let held = (g.D.Deck.state c.args.deck.now).held in
    record {
      recorded = λ from gives. RecordsSupply-past_at_start from c.args.sound.now _ c.in-Ok.session _ _ _ _ (s c.args.deck.now) (s c.start.new.deck)
          starts started (e.closed from (past_at_start _ _ _ _) gives (begun_at _ _ c.in-Ok.session _ _ started))
          e.extent (recorded_after_start _) c.in-Ok.ensures.good;
      ended = λ from gives. tt;
      blocks = λ told. blocks_between (next_in held) c.next-first.result c.in_ok-closed.closed.next (g.D.Deck.state c.record_all.new.deck).announced
          (c.next-first.ensures ∙ started.next told ∙ ap (λ (h : Header). next_of h held) (started.header told))
          (subst (λ (n : ℕ). n ≤ c.in_ok-closed.closed.next) (sym c.next-first.ensures) e.later) e.next;
      memory = tt;
      memory_good = tt;
      memory_current = tt;
      untouched = tt;
      looked = tt;
      announced = tt;
      input = tt;
      unpulled = λ still. let later = e.unpulled still in keeps_input_then _ _ _ _ (starts.input, starts.input_faults) refl later.0 later.1;
      learns = LearnsExtent-then _ _ _ _ c.start.ensures.learns e.extent;
      input_fault = λ fails. rw starts.input_faults at (e.input_fault fails);
      disk_fault = tt;
      no_disk_fault = e.no_disk_fault ∙ c.in-Ok.ensures.no_fault (ok_not_err _ session.DiskFault);
      no_fault_if_cut = tt;
    }
