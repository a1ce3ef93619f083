-- What `recover` means, by its answer.
use Rattle.std.proofs.Common.{◌≡◌, ◌≢◌, ◌⊎◌, ⊎_elim, inl, inr, ℕ, ◌<◌, ◌≤◌, List, Some, None, IsTrue, arith, refl, sym, ap, ◌∙◌, subst}
use Rattle.std.specs.Prelude.{◌↔◌}
use Rattle.fdr_io.specs.Faults.{Rose}
use Rattle.fdr_io.specs.Told.{followed_by}
use Rattle.fdr_deck.specs.State.{State}
use Rattle.fdr_deck.specs.Moments.{IsSoundDeck}
use Rattle.fdr_pieces.proofs.Pulling.{LeavesStops-look}
use Rattle.fdr_slot.specs.Places.{image_size}
use Rattle.fdr_slot.specs.declared.image.Header.{Header}
use Rattle.fdr_slot.specs.declared.image.ImageFault.{ImageFault}
use Rattle.fdr_slot.specs.declared.image.ImageFault.TheVariants as fault
use Rattle.fdr_recover.specs.Images.{recovered_run}
use Rattle.fdr_recover.specs.Looks.{Looks}
use Rattle.fdr_recover.specs.ImageHeader.{header_in, image_fault_of}
use Rattle.fdr_recover.specs.Payloads.{payloads_of, run_in}
use Rattle.fdr_recover.specs.declared.error.RingFault.{RingFault}
use Rattle.fdr_recover.specs.declared.error.RingFault.TheVariants as ring
use Rattle.fdr_table.specs.Rows.{TableRows}
use Rattle.fdr_words.specs.Forms.{recover_image}
use Rattle.fdr_top.specs.Answers.{IsOwn}
use Rattle.fdr_top.specs.Commands.{Works}
use Rattle.fdr_top.specs.Doing.{Refines}
use Rattle.fdr_top.specs.InputTexts.{WritesFront}
use Rattle.fdr_top.specs.Meaning.{Effect, writes}
use Rattle.fdr_top.specs.Recover.{OnlyLooks, header_refusal}
use Rattle.fdr_top.specs.ImageRecovered.{RecoversImage}
use Rattle.fdr_top.specs.Refusals.{RefusesHeader}
use Rattle.fdr_top.specs.Runs.{WorkRun}
use Rattle.fdr_top.specs.Stages.{WritesNothing}
use Rattle.fdr_top.specs.declared.outcome.Outcome.{Outcome}
use Rattle.fdr_top.specs.declared.outcome.Outcome.TheVariants as outcome
use Rattle.fdr_top.proofs.Answering.{has_cause, image_unused, left_all, passes_keeps, writes_other}
use Rattle.fdr_top.proofs.Images.{OnlyLooks-then, run_same}
use Rattle.fdr_top.proofs.MeaningImages.{done_or_memory, failed_silent, header_or, header_reads, header_refuses, looked}
use Rattle.fdr_top.proofs.MeaningLeft.{wrote_nothing}
use Rattle.fdr_top.proofs.MeaningWords.{by_header}
use Rattle.fdr_top.proofs.RecordLines.{header_failed, header_faulty, takes_header}
use Rattle.fdr_top.proofs.Results.{disk_not_memory, done_not_memory, memory_not_disk}
use Rattle.fdr_top.proofs.Results.{memory_not_write, write_not_memory}

-- the payloads of the run of these bytes are written
abbrev payloads : List ℕ → Effect
payloads image = writes (payloads_of (run_in image)) outcome.Done

-- what recovering these bytes means
abbrev recovering : List ℕ → Effect
recovering image = by_header image (payloads image)

-- what memory leaves where it ends
no_header : (r : WorkRun) → r.answer ≡ outcome.NoMemory → RefusesHeader r.tells r.old r.new r.answer
no_header r e = record {
  refused = λ why refused. let c : outcome.NoMemory ≡ outcome.ImageRefused why = sym e ∙ refused in cc;
  small = λ why refused. let c : outcome.NoMemory ≡ outcome.ImageRefused why = sym e ∙ refused in absurd (cc);
  small_always = λ past. absurd (rw e at past);
  refused_always = λ why past. absurd (rw e at past);
}

memory_means : (path : List ℕ) (e : Effect) (r : WorkRun) → r.answer ≡ outcome.NoMemory → r.written_now ≡ r.written_before → OnlyLooks r.tells r.old r.new
    → IsTrue r.tells.bytes → Refines (recover_image path) e r
memory_means path e r is same looks told = inr (inr (inr (record { answer = is; text = same; image = looked r.tells r.old r.new told looks })))

promised : (path : List ℕ) (r : WorkRun) → OnlyLooks r.tells r.old r.new → RefusesHeader r.tells r.old r.new r.answer
    → (IsTrue r.tells.bytes → Refines (recover_image path) (recovering r.old.held) r) → RecoversImage path r
promised path r looks header means = record {
  looks = looks;
  header = header;
  means = λ told g held. subst (λ (image : List ℕ). Refines (recover_image path) (recovering image) r) (sym held) (means told);
}

-- where memory ends before the disk is looked at
pub recovers_nothing : (path : List ℕ) (r : WorkRun) → r.answer ≡ outcome.NoMemory → r.written_now ≡ r.written_before → OnlyLooks r.tells r.old r.new
    → RecoversImage path r
recovers_nothing path r e same looks = promised path r looks (no_header r e) (memory_means path (recovering r.old.held) r e same looks)

-- what is known at each exit
module _ (path : List ℕ) (t : TableRows) (r : WorkRun) (looks : OnlyLooks r.tells r.old r.new) (of : (r.answer ≡ outcome.NoMemory)
    ⊎ IsOwn (recover_image path) r.answer)
    (header : RefusesHeader r.tells r.old r.new r.answer)
    (means : IsTrue r.tells.bytes → Refines (recover_image path) (recovering r.old.held) r)
    (silent : WritesNothing r.answer → r.written_now ≡ r.written_before)
    (disk : r.answer ≡ outcome.DiskFault → Rose r.old.disk_faults r.new.disk_faults)
    (sink : r.answer ≡ outcome.WriteFault → Rose r.sink_before r.sink_now)
    (no_disk : r.answer ≢ outcome.DiskFault → r.new.disk_faults ≡ r.old.disk_faults)
    (no_sink : r.answer ≢ outcome.WriteFault → r.sink_now ≡ r.sink_before)
  where
    recovers : Works (recover_image path) t r
    recovers = record {
      answer = of;
      refusal = λ nothing. left_all r (silent nothing) (no_sink (writes_other r.answer outcome.WriteFault nothing tt)) looks.disk looks.learns
          looks.disk_work.passes.announced.announced (passes_keeps r.tells r.old r.new looks.disk_work.passes);
      stops = λ has nothing. LeavesStops-look r.tells r.old r.new looks.disk_work;
      unused = image_unused (recover_image path) r (λ no. absurd (no tt)) tt (λ none. none) (λ none. none) looks.disk_work.passes;
      causes = has_cause (recover_image path) r of (λ pulls. absurd pulls) (λ text. sink) (λ image. disk);
      no_fault_passed_over = record {
        input = λ read covers. looks.disk_work.passes.input_faults;
        write = λ other covers. no_sink other;
        disk = no_disk;
      };
      does = promised path r looks header means;
      complete = λ whole faultless. done_or_memory (recover_image path) (payloads r.old.held) r
          (subst (λ (e : Effect). Refines (recover_image path) e r) (header_reads r.old.held (payloads r.old.held) whole.1) (means whole.0)) faultless;
    }

-- where the header isn't read
pub unrecovered : (path : List ℕ) (t : TableRows) (r : WorkRun) (f : RingFault) → r.answer ≡ header_refusal f → OnlyLooks r.tells r.old r.new
    → (f ≡ ring.NotEmpty → ⊥) → (f ≡ ring.SeqEnd → ⊥)
    → (IsTrue r.tells.bytes → (why : ImageFault) → f ≡ ring.Image why → image_fault_of r.old.held ≡ Some why)
    → ((why : ImageFault) → f ≡ ring.Image why → (why ≡ fault.Small) ↔ (r.new.extent < 64))
    → (f ≡ ring.DiskFault → Rose r.old.disk_faults r.new.disk_faults) → (f ≢ ring.DiskFault → r.new.disk_faults ≡ r.old.disk_faults)
    → r.written_now ≡ r.written_before → r.sink_now ≡ r.sink_before → Works (recover_image path) t r
unrecovered path t r (ring.Image why) e looks not_empty not_end first small cause quiet same sink =
    recovers path t r looks (inr (subst (IsOwn (recover_image path)) (sym e) tt))
    (subst (RefusesHeader r.tells r.old r.new) (sym e) (header_faulty r.tells r.old r.new why (λ told. first told why refl) (small why refl)))
    (λ told. subst (λ (x : Effect). Refines (recover_image path) x r) (sym (header_refuses r.old.held (payloads r.old.held) why (first told why refl)))
    (inl (record {
      answer = e;
      text = wrote_nothing r.written_before r.written_now same;
      image = looked r.tells r.old r.new told looks;
    })))
    (λ nothing. same)
    (λ d. let c : outcome.ImageRefused why ≡ outcome.DiskFault = sym e ∙ d in absurd (cc))
    (λ w. let c : outcome.ImageRefused why ≡ outcome.WriteFault = sym e ∙ w in absurd (cc))
    (λ other. quiet (λ is. cc)) (λ other. sink)
unrecovered path t r ring.DiskFault e looks not_empty not_end first small cause quiet same sink =
    recovers path t r looks (inr (subst (IsOwn (recover_image path)) (sym e) tt))
    (subst (RefusesHeader r.tells r.old r.new) (sym e) (header_failed r.tells r.old r.new))
    (λ told. failed_silent (recover_image path) (recovering r.old.held) (payloads r.old.held) r tt
    (header_or r.old.held (payloads r.old.held)) refl e (cause refl) same)
    (λ nothing. same) (λ d. cause refl)
    (λ w. let c : outcome.DiskFault ≡ outcome.WriteFault = sym e ∙ w in absurd (cc))
    (λ other. absurd (other e)) (λ other. sink)
unrecovered path t r ring.NotEmpty e looks not_empty not_end first small cause quiet same sink = absurd (not_empty refl)
unrecovered path t r ring.SeqEnd e looks not_empty not_end first small cause quiet same sink = absurd (not_end refl)

-- where memory ends
pub none_recovered : (path : List ℕ) (t : TableRows) (r : WorkRun) → r.answer ≡ outcome.NoMemory → OnlyLooks r.tells r.old r.new
    → r.new.disk_faults ≡ r.old.disk_faults → r.written_now ≡ r.written_before → r.sink_now ≡ r.sink_before → Works (recover_image path) t r
none_recovered path t r e looks quiet same sink = recovers path t r looks (inl e) (no_header r e)
    (memory_means path (recovering r.old.held) r e same looks) (λ nothing. same)
    (λ d. absurd (memory_not_disk (sym e ∙ d))) (λ w. absurd (memory_not_write (sym e ∙ w))) (λ other. quiet) (λ other. sink)

-- where the run is written, or a front part of it
pub run_recovered : (path : List ℕ) (t : TableRows) (r : WorkRun) (mid : State) (h : Header) → IsSoundDeck r.tells r.old → OnlyLooks r.tells r.old mid
    → Looks r.tells mid r.new → (IsTrue r.tells.bytes → h ≡ header_in r.old.held) → (IsTrue r.tells.bytes → image_fault_of r.old.held ≡ None)
    → image_size h ≤ mid.extent → mid.disk_faults ≡ r.old.disk_faults
    → (r.answer ≡ outcome.Done) ⊎ ((r.answer ≡ outcome.WriteFault) ⊎ (r.answer ≡ outcome.DiskFault))
    → (r.answer ≡ outcome.Done → IsTrue r.tells.bytes → r.written_now ≡ followed_by r.written_before (payloads_of (recovered_run h mid.held)))
    → (IsTrue r.tells.bytes → WritesFront (payloads_of (recovered_run h mid.held)) r.written_before r.written_now)
    → (r.answer ≡ outcome.DiskFault → Rose mid.disk_faults r.new.disk_faults) → (r.answer ≡ outcome.WriteFault → Rose r.sink_before r.sink_now)
    → (r.answer ≢ outcome.DiskFault → r.new.disk_faults ≡ mid.disk_faults) → (r.answer ≢ outcome.WriteFault → r.sink_now ≡ r.sink_before)
    → Works (recover_image path) t r
run_recovered path t r mid h sound first second header good whole quiet answer all part disk sink no_disk no_sink =
    recovers path t r looks (inr own) (takes_header r.tells r.old r.new r.answer begun (λ short. omega (arith, short, second.extent, whole)) good) means
    (λ nothing. absurd (begun nothing)) cause sink (λ other. no_disk other ∙ quiet) no_sink
  where
    looks : OnlyLooks r.tells r.old r.new
    looks = OnlyLooks-then r.tells r.old mid r.new sound first second

    own : IsOwn (recover_image path) r.answer
    own = ⊎_elim (λ e. subst (IsOwn (recover_image path)) (sym e) tt)
        (λ cut. ⊎_elim (λ e. subst (IsOwn (recover_image path)) (sym e) tt) (λ e. subst (IsOwn (recover_image path)) (sym e) tt) cut) answer

    begun : WritesNothing r.answer → ⊥
    begun nothing = ⊎_elim (λ e. rw e at nothing) (λ cut. ⊎_elim (λ e. rw e at nothing) (λ e. rw e at nothing) cut) answer

    cause : r.answer ≡ outcome.DiskFault → Rose r.old.disk_faults r.new.disk_faults
    cause e = subst (λ (n : ℕ). Rose n r.new.disk_faults) quiet (disk e)

    means : IsTrue r.tells.bytes → Refines (recover_image path) (recovering r.old.held) r
    means told =
        let same = ap payloads_of (run_same r.tells r.old mid h first header told) in
        let image = looked r.tells r.old r.new told looks in
        let front = subst (λ (x : List ℕ). WritesFront x r.written_before r.written_now) same (part told) in
        subst (λ (x : Effect). Refines (recover_image path) x r) (sym (header_reads r.old.held (payloads r.old.held) (good told))) (⊎_elim
        (λ (e : r.answer ≡ outcome.Done). inl (record { answer = e; text = all e told ∙ ap (followed_by r.written_before) same; image = image }))
        (λ cut. ⊎_elim
        (λ (e : r.answer ≡ outcome.WriteFault). inr (inl (tt, record { answer = e; step = refl; cause = sink e; text = front; image = image })))
        (λ (e : r.answer ≡ outcome.DiskFault). inr (inr (inl (tt, record { answer = e; step = λ at. cc; cause = cause e; text = front }))))
        cut)
        answer)

-- there memory didn't end
pub run_remembered : (a : Outcome) → (a ≡ outcome.Done) ⊎ ((a ≡ outcome.WriteFault) ⊎ (a ≡ outcome.DiskFault)) → a ≡ outcome.NoMemory → ⊥
run_remembered a answer none = ⊎_elim (λ e. done_not_memory (sym e ∙ none))
    (λ cut. ⊎_elim (λ e. write_not_memory (sym e ∙ none)) (λ e. disk_not_memory (sym e ∙ none)) cut) answer
