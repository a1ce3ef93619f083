-- What a stop leaves while a command that writes its image does what is meant.
use Rattle.std.proofs.Common.{◌≡◌, ◌⊎◌, ⊎_elim, inl, inr, ℕ, zero, suc, ◌+◌, ◌-◌, ◌<◌, ◌≤◌, Bool, true, false, cond, List, [], ◌∷◌, ◌++◌, length, take}
use Rattle.std.proofs.Common.{Option, Some, None, IfSome, IsSome, IsTrue, refl, sym, ap, ◌∙◌, subst, arith, length-take}
use Rattle.std.proofs.lemmas.Bool.{cases_Bool, cases_lt}
use Rattle.std.proofs.lemmas.Bool.Decides.{nat_tests}
use Rattle.std.proofs.lemmas.List.{take-take}
use Rattle.std.specs.Prelude.{nat_lt}
use Rattle.fdr_bus.specs.Records.{good_prefix}
use Rattle.fdr_deck.specs.Moments.{EachMoment}
use Rattle.fdr_deck.specs.State.{Moment, State}
use Rattle.fdr_gen.specs.Trace.{generated_trace}
use Rattle.fdr_load.specs.Tables.{fault_in, table_in}
use Rattle.fdr_recorder.specs.NewBlocks.{MayRecord, new_blocks, next_in}
use Rattle.fdr_recover.proofs.BlockLemmas.{number_after-invalid, number_after-valid}
use Rattle.fdr_recover.specs.Blocks.{Block, next_among, number_after}
use Rattle.fdr_recover.specs.ImageHeader.{header_in}
use Rattle.fdr_recover.specs.Images.{block_in, head_at, next_of, recovered_run}
use Rattle.fdr_recover.specs.Payloads.{payloads_of, run_in}
use Rattle.fdr_ring.specs.Runs.{IsTail}
use Rattle.fdr_slot.specs.Heads.{is_valid}
use Rattle.fdr_slot.specs.Limits.{sequence_end}
use Rattle.fdr_slot.specs.declared.head.SlotHead.{SlotHead}
use Rattle.fdr_slot.specs.declared.image.Header.{Header}
use Rattle.fdr_table.specs.Bounds.{most_table_bytes}
use Rattle.fdr_table.specs.Faults.{table_bytes_fault}
use Rattle.fdr_table.specs.Rows.{TableRows}
use Rattle.fdr_load.specs.Supplies.{Supplied}
use Rattle.fdr_top.specs.Commands.{RunsCommand}
use Rattle.fdr_top.specs.Answers.{HasImage}
use Rattle.fdr_top.specs.Exceed.{exceedances_in}
use Rattle.fdr_top.specs.Format.{new_header}
use Rattle.fdr_top.specs.List.{listing_in}
use Rattle.fdr_top.specs.Salvage.{salvage_in}
use Rattle.fdr_top.specs.Stages.{WritesNothing}
use Rattle.fdr_top.specs.Runs.{CommandRun}
use Rattle.fdr_top.specs.declared.outcome.Outcome.TheVariants as outcome
use Rattle.fdr_top.specs.declared.outcome.Outcome.{Outcome}
use Rattle.fdr_words.specs.Forms.{Form, check_table, stream_line, list_bits, encode_bytes, decode_levels, writes_image}
use Rattle.fdr_words.specs.Forms.{format_image, record_line, recover_image, list_image, upgrade_image, salvage_image, exceed_image, drill_image}
use Rattle.fdr_top.proofs.MeaningWords.{IsPulled}
use Rattle.fdr_top.specs.Meaning.{Change, Effect, Given, Step, answers, at_start, at_table, at_work, bad_header, bad_rules, bad_table, by_table}
use Rattle.fdr_top.specs.Meaning.{changes, drilled, gets, made, meaning, not_empty, old_version, or_answers, other_words, raised, records, stays}
use Rattle.fdr_top.specs.Meaning.{trace_answer}
use Rattle.fdr_top.specs.Meaning.{unless, unreadable, writes}
use Rattle.fdr_top.specs.Doing.{IsTold, GaveTable, KeepsBlocks, MayLeave, WasGiven}

-- ---- what is worked isn't refused

unless_works : (reasons : List (Option Outcome)) (work : Effect) → (unless reasons work).step ≡ at_work → unless reasons work ≡ work
unless_works [] work at = refl
unless_works (None ∷ more) work at = unless_works more work at
unless_works (Some why ∷ more) work at = absurd (cc)

table_works : (s : Supplied) (work : TableRows → Effect) → (by_table s work).step ≡ at_work
    → (by_table s work ≡ work (table_in s.bytes)) × (bad_table s ≡ None)
table_works s work at = go (bad_table s) refl at
  where
    go : (o : Option Outcome) → bad_table s ≡ o → (or_answers at_table o (work (table_in s.bytes))).step ≡ at_work
        → (or_answers at_table o (work (table_in s.bytes)) ≡ work (table_in s.bytes)) × (o ≡ None)
    go None is w = (refl, refl)
    go (Some why) is w = absurd (cc)

-- no read of a table failed that is worked by
cut_table : (bytes : List ℕ) → bad_table (record { bytes = bytes; failed = true }) ≡ None → ⊥
unfolding fault_in table_bytes_fault
cut_table bytes none = ⊎_elim
    (λ (many : most_table_bytes < length bytes). grind (arith, nat_tests))
    (λ (few : length bytes ≤ most_table_bytes). grind (arith, nat_tests))
    (cases_lt most_table_bytes (length bytes))

worked_table : (s : Supplied) (r : CommandRun) → GaveTable s r → bad_table s ≡ None → IsSome r.rest_before → r.rest_before ≡ Some s.bytes
worked_table s r gave none some = go s.failed refl
  where
    all : (rest : Option (List ℕ)) → IsSome rest → IfSome rest (λ bytes. s.bytes ≡ bytes) → rest ≡ Some s.bytes
    all None some is = absurd (cc)
    all (Some bytes) some is = ap Some (sym is)

    go : (b : Bool) → s.failed ≡ b → r.rest_before ≡ Some s.bytes
    go false is = all r.rest_before some (gave.whole is)
    go true is = absurd (cut_table s.bytes (ap (λ (b : Bool). bad_table (record { bytes = s.bytes; failed = b })) (sym is) ∙ none))

-- ---- numbers

number_bound : (h : Header) (image : List ℕ) (i : ℕ) → number_after (block_in h image i) ≤ sequence_end
number_bound h image i = ⊎_elim
    (λ valid. let is = number_after-valid h image i (head_at h image i) refl valid in
    let low = below (head_at h image i) valid in omega (arith, is, low))
    (λ invalid. let is = number_after-invalid h image i (head_at h image i) refl invalid in omega (arith, is))
    (cases_Bool (is_valid h i (head_at h image i)))
  where
    below : (head : SlotHead) → is_valid h i head ≡ true → head.seq < sequence_end
    below head valid = grind (arith, nat_tests)

next_bound : (h : Header) (image : List ℕ) → next_of h image ≤ sequence_end
unfolding next_of
next_bound h image = go h.slots
  where
    go : (n : ℕ) → next_among n (block_in h image) ≤ sequence_end
    go zero = omega arith
    go (suc n) = omega (arith, go n, number_bound h image n)

-- ---- blocks that are being recorded

keeps_first : (blocks : List Block) (old : State) (m : Moment) → KeepsBlocks blocks old m
    → KeepsBlocks (take (sequence_end - next_in old.held) blocks) old m
keeps_first blocks old m k =
    let n = sequence_end - next_in old.held in
    let bound = next_bound (header_in old.held) m.image in
    let few : k.keeps.count ≤ n = omega (arith, bound, k.keeps.next) in
    let same : take k.keeps.count (take n blocks) ≡ take k.keeps.count blocks = take-take k.keeps.count n blocks few in
    record {
      keeps = record {
        kept = k.keeps.kept;
        count = k.keeps.count;
        fits = omega (arith, length-take n blocks, few, k.keeps.fits);
        run = subst (λ (x : List Block). IsTail ((header_in old.held).slots - 2) (run_in old.held ++ x) (recovered_run (header_in old.held) m.image))
            (sym same) k.keeps.run;
        next = k.keeps.next;
        announced = k.keeps.announced;
      };
      close = k.close;
    }

records_stops : (old : State) (blocks : List Block) (text : List ℕ) (answer : Outcome) (m : Moment) → (MayRecord old → KeepsBlocks blocks old m)
    → MayLeave (records old.held blocks text answer).image old m
records_stops old blocks text answer m keeps = either (nat_lt sequence_end (next_in old.held + length blocks))
    (record { step = at_work; answer = outcome.SeqEnd; text = []; image = gets (take (sequence_end - next_in old.held) blocks) })
    (record { step = at_work; answer = answer; text = text; image = gets blocks })
    (λ may. keeps_first blocks old m (keeps may)) keeps
  where
    either : (b : Bool) (some all : Effect) → MayLeave some.image old m → MayLeave all.image old m → MayLeave (cond b some all).image old m
    either true some all s a = s
    either false some all s a = a

-- ---- each command that writes its image

at_moments : (form : Form) (r : CommandRun) → RunsCommand form r → IsTold form r → (g : Given) → WasGiven form g r
    → IsPulled form g.input.bytes r → IsTrue (writes_image form)
    → (meaning form g).step ≡ at_work → EachMoment r.work.tells r.work.old r.work.new (MayLeave (meaning form g).image r.work.old)
at_moments (upgrade_image image) r runs told g given line writes at = λ tells m since.
    subst (λ (e : Effect). MayLeave e.image r.work.old m) (sym (unless_works (bad_header g.image ∷ []) (changes raised) at))
    ((runs.carries_out (table_in [])).disk_work.moments tells m since).image
at_moments (format_image path image slots payload) r runs told g given line writes at = λ tells m since.
    let work : TableRows → Effect = λ t. unless (not_empty g.image ∷ []) (changes (made (new_header slots payload t.frame.words))) in
    let past = table_works g.table work at in
    let same = runs.carries_out.1 g.table.bytes (worked_table g.table r (given.table refl) past.1 (told.table tt refl)) in
    let is = past.0 ∙ unless_works (not_empty g.image ∷ []) (changes (made (new_header slots payload (table_in g.table.bytes).frame.words)))
    (subst (λ (e : Effect). e.step ≡ at_work) past.0 at) in
    subst (λ (e : Effect). MayLeave e.image r.work.old m) (sym is)
    (subst (λ (t : TableRows). MayLeave (made (new_header slots payload t.frame.words)) r.work.old m) same
    ((runs.carries_out.3).disk_work.moments tells m since).image)
at_moments (record_line path image) r runs told g given line writes at = λ tells m since.
    let by = line.0.carries_out in
    let work : TableRows → Effect = λ t. unless (bad_header g.image ∷ other_words t g.image ∷ old_version g.image ∷ [])
    (records g.image (new_blocks t g.image (good_prefix g.input.bytes)) [] (trace_answer g.input)) in
    let past = table_works g.table work at in
    let t = table_in g.table.bytes in
    let same = by.1 g.table.bytes (worked_table g.table r (given.table refl) past.1 (told.table tt refl)) in
    let is = past.0 ∙ unless_works (bad_header g.image ∷ other_words t g.image ∷ old_version g.image ∷ [])
    (records g.image (new_blocks t g.image (good_prefix g.input.bytes)) [] (trace_answer g.input)) (subst (λ (e : Effect). e.step ≡ at_work) past.0 at) in
    let held = given.image tt in
    subst (λ (e : Effect). MayLeave e.image r.work.old m)
    (sym (is ∙ ap (λ (x : List ℕ). records x (new_blocks t x (good_prefix g.input.bytes)) [] (trace_answer g.input)) held))
    (records_stops r.work.old (new_blocks t r.work.old.held (good_prefix g.input.bytes)) [] (trace_answer g.input) m (λ may.
    subst (λ (x : List ℕ). KeepsBlocks (new_blocks t r.work.old.held (good_prefix x)) r.work.old m) (sym line.1)
    (subst (λ (u : TableRows). KeepsBlocks (new_blocks u r.work.old.held (good_prefix by.3.pulled)) r.work.old m) same
    (let b = by.3.blocks.moments may tells m since in record { keeps = b.keeps; close = b.close }))))
at_moments (drill_image path image seed frames) r runs told g given line writes at = λ tells m since.
    let d = runs.carries_out.3 in
    let of : TableRows → List ℕ → Effect = λ t x. records x (new_blocks t x (generated_trace t seed frames))
    (drilled t x (new_blocks t x (generated_trace t seed frames))) outcome.Done in
    let work : TableRows → Effect = λ t. unless (bad_header g.image ∷ other_words t g.image ∷ old_version g.image ∷ []) (of t g.image) in
    let past = table_works g.table work at in
    let t = table_in g.table.bytes in
    let same = runs.carries_out.1 g.table.bytes (worked_table g.table r (given.table refl) past.1 (told.table tt refl)) in
    let is = past.0 ∙ unless_works (bad_header g.image ∷ other_words t g.image ∷ old_version g.image ∷ []) (of t g.image)
    (subst (λ (e : Effect). e.step ≡ at_work) past.0 at) in
    subst (λ (e : Effect). MayLeave e.image r.work.old m) (sym (is ∙ ap (of t) (given.image tt)))
    (records_stops r.work.old (new_blocks t r.work.old.held (generated_trace t seed frames))
    (drilled t r.work.old.held (new_blocks t r.work.old.held (generated_trace t seed frames))) outcome.Done m (λ may.
    subst (λ (u : TableRows). KeepsBlocks (new_blocks u r.work.old.held (generated_trace u seed frames)) r.work.old m) same
    (let b = d.blocks.moments may tells m since in record { keeps = b.keeps; close = b.close })))
at_moments form r runs told g given line writes at = absurd (cc)

-- ---- what becomes of an image where a command doesn't come to its work

-- what holds of each refusal and of some work holds of it all
refusal_or : (P : Effect → Type 0) (refuses : (step : Step) (why : Outcome) → P (answers step why)) (step : Step) (why : Option Outcome) (work : Effect)
    → P work → P (or_answers step why work)
refusal_or P refuses step None work holds = holds
refusal_or P refuses step (Some why) work holds = refuses step why

refusals_or : (P : Effect → Type 0) (refuses : (step : Step) (why : Outcome) → P (answers step why)) (whys : List (Option Outcome)) (work : Effect)
    → P work → P (unless whys work)
refusals_or P refuses [] work holds = holds
refusals_or P refuses (why ∷ more) work holds = refusal_or P refuses at_start why (unless more work) (refusals_or P refuses more work holds)

table_or_work : (P : Effect → Type 0) (refuses : (step : Step) (why : Outcome) → P (answers step why)) (s : Supplied) (work : TableRows → Effect)
    → ((t : TableRows) → P (work t)) → P (by_table s work)
table_or_work P refuses s work holds = refusal_or P refuses at_table (bad_table s) (work (table_in s.bytes)) (holds (table_in s.bytes))

abbrev Stays : Effect → Type 0
Stays e = e.image ≡ stays

abbrev WorksOrStays : Effect → Type 0
WorksOrStays e = (e.step ≡ at_work) ⊎ Stays e

records_work : (image : List ℕ) (blocks : List Block) (text : List ℕ) (answer : Outcome) → WorksOrStays (records image blocks text answer)
records_work image blocks text answer = either (nat_lt sequence_end (next_in image + length blocks))
    (record { step = at_work; answer = outcome.SeqEnd; text = []; image = gets (take (sequence_end - next_in image) blocks) })
    (record { step = at_work; answer = answer; text = text; image = gets blocks }) (inl refl) (inl refl)
  where
    either : (b : Bool) (some all : Effect) → WorksOrStays some → WorksOrStays all → WorksOrStays (cond b some all)
    either true some all s a = s
    either false some all s a = a

works_or_stays : (form : Form) (g : Given) → IsTrue (writes_image form) → WorksOrStays (meaning form g)
works_or_stays (format_image path image slots payload) g writes = table_or_work WorksOrStays (λ step why. inr refl) g.table
    (λ t. unless (not_empty g.image ∷ []) (changes (made (new_header slots payload t.frame.words))))
    (λ t. refusals_or WorksOrStays (λ step why. inr refl) (not_empty g.image ∷ []) (changes (made (new_header slots payload t.frame.words))) (inl refl))
works_or_stays (record_line path image) g writes = table_or_work WorksOrStays (λ step why. inr refl) g.table
    (λ t. unless (bad_header g.image ∷ other_words t g.image ∷ old_version g.image ∷ [])
    (records g.image (new_blocks t g.image (good_prefix g.input.bytes)) [] (trace_answer g.input)))
    (λ t. refusals_or WorksOrStays (λ step why. inr refl) (bad_header g.image ∷ other_words t g.image ∷ old_version g.image ∷ [])
    (records g.image (new_blocks t g.image (good_prefix g.input.bytes)) [] (trace_answer g.input))
    (records_work g.image (new_blocks t g.image (good_prefix g.input.bytes)) [] (trace_answer g.input)))
works_or_stays (upgrade_image image) g writes = refusals_or WorksOrStays (λ step why. inr refl) (bad_header g.image ∷ []) (changes raised) (inl refl)
works_or_stays (drill_image path image seed frames) g writes =
    let of : TableRows → Effect = λ t. records g.image (new_blocks t g.image (generated_trace t seed frames))
    (drilled t g.image (new_blocks t g.image (generated_trace t seed frames))) outcome.Done in
    table_or_work WorksOrStays (λ step why. inr refl) g.table (λ t. unless (bad_header g.image ∷ other_words t g.image ∷ old_version g.image ∷ []) (of t))
    (λ t. refusals_or WorksOrStays (λ step why. inr refl) (bad_header g.image ∷ other_words t g.image ∷ old_version g.image ∷ []) (of t)
    (records_work g.image (new_blocks t g.image (generated_trace t seed frames))
    (drilled t g.image (new_blocks t g.image (generated_trace t seed frames))) outcome.Done))
works_or_stays form g writes = absurd (cc)

-- a command that writes its image: it comes to its work, or its image stays
writing : (form : Form) → IsTrue (writes_image form) → (r : CommandRun) → RunsCommand form r → IsTold form r → (g : Given) → WasGiven form g r
    → IsPulled form g.input.bytes r → HasImage form → ((meaning form g).step ≡ at_work) ⊎ WritesNothing r.work.answer
    → EachMoment r.work.tells r.work.old r.work.new (MayLeave (meaning form g).image r.work.old)
writing form writes r runs told g given line has when = ⊎_elim
    (λ (at : (meaning form g).step ≡ at_work). at_moments form r runs told g given line writes at)
    (λ (nothing : WritesNothing r.work.answer). ⊎_elim
    (λ (at : (meaning form g).step ≡ at_work). at_moments form r runs told g given line writes at)
    (λ (same : (meaning form g).image ≡ stays). λ tells m since.
    subst (λ (c : Change). MayLeave c r.work.old m) (sym same) ((runs.stops has nothing).moments tells m since))
    (works_or_stays form g writes))
    when

-- ---- all commands with an image

pub stops : (form : Form) (r : CommandRun) → RunsCommand form r → IsTold form r → (g : Given) → WasGiven form g r
    → IsPulled form g.input.bytes r → HasImage form → ((meaning form g).step ≡ at_work) ⊎ WritesNothing r.work.answer
    → EachMoment r.work.tells r.work.old r.work.new (MayLeave (meaning form g).image r.work.old)
stops (recover_image image) r runs told g given line has when = λ tells m since.
    subst (λ (c : Change). MayLeave c r.work.old m)
    (sym (refusals_or Stays (λ step why. refl) (bad_header g.image ∷ []) (writes (payloads_of (run_in g.image)) outcome.Done) refl))
    ((runs.carries_out (table_in [])).looks.disk_work.moments tells m since).image
stops (list_image path image) r runs told g given line has when = λ tells m since.
    let work : TableRows → Effect = λ t. unless (bad_header g.image ∷ other_words t g.image ∷ []) (writes (listing_in t g.image) outcome.Done) in
    subst (λ (c : Change). MayLeave c r.work.old m)
    (sym (table_or_work Stays (λ step why. refl) g.table work (λ t. refusals_or Stays (λ step why. refl) (bad_header g.image ∷ other_words t g.image ∷ [])
    (writes (listing_in t g.image) outcome.Done) refl)))
    (runs.carries_out.3.looks.disk_work.moments tells m since).image
stops (salvage_image path image ring) r runs told g given line has when = λ tells m since.
    let work : TableRows → Effect = λ t. unless (unreadable ring t g.image) (writes (salvage_in t ring g.image) outcome.Done) in
    subst (λ (c : Change). MayLeave c r.work.old m)
    (sym (table_or_work Stays (λ step why. refl) g.table work (λ t. refusals_or Stays (λ step why. refl) (unreadable ring t g.image)
    (writes (salvage_in t ring g.image) outcome.Done) refl)))
    (runs.carries_out.3.looks.disk_work.moments tells m since).image
stops (exceed_image path image) r runs told g given line has when = λ tells m since.
    let work : TableRows → Effect = λ t. unless (bad_header g.image ∷ other_words t g.image ∷ bad_rules t g.input ∷ [])
    (writes (exceedances_in t g.input.bytes g.image) outcome.Done) in
    subst (λ (c : Change). MayLeave c r.work.old m)
    (sym (table_or_work Stays (λ step why. refl) g.table work (λ t. refusals_or Stays (λ step why. refl)
    (bad_header g.image ∷ other_words t g.image ∷ bad_rules t g.input ∷ []) (writes (exceedances_in t g.input.bytes g.image) outcome.Done) refl)))
    (runs.carries_out.3.stops.moments tells m since)
stops (format_image path image slots payload) r runs told g given line has when = writing
    (format_image path image slots payload) refl r runs told g given line has when
stops (record_line path image) r runs told g given line has when = writing (record_line path image) refl r runs told g given line has when
stops (upgrade_image image) r runs told g given line has when = writing (upgrade_image image) refl r runs told g given line has when
stops (drill_image path image seed frames) r runs told g given line has when = writing
    (drill_image path image seed frames) refl r runs told g given line has when
stops form r runs told g given line has when = absurd has
