-- What a recording on two disks means where it doesn't record.
use Rattle.std.proofs.Common.{◌≡◌, ◌≢◌, ⊎_elim, inl, inr, ℕ, ◌+◌, ◌-◌, ◌<◌, Bool, true, false, List, [], ◌∷◌, length, Option, Some, None, refl, sym, ap}
use Rattle.std.proofs.Common.{◌∙◌, subst, arith}
use Rattle.std.specs.Prelude.{nat_lt, nat_eq, if◌then◌else◌}
use Rattle.std.specs.Option.{option_map}
use Rattle.std.proofs.lemmas.Bool.{cases_Bool}
use Rattle.std.proofs.lemmas.Bool.Decides.{nat_tests}
use Rattle.fdr_io.specs.declared.Input.TheVariants as input
use Rattle.fdr_bus.specs.Records.{good_prefix}
use Rattle.fdr_slot.specs.Limits.{sequence_end}
use Rattle.fdr_slot.specs.declared.image.Header.{Header}
use Rattle.fdr_recover.specs.Blocks.{Block}
use Rattle.fdr_recover.specs.Images.{next_of}
use Rattle.fdr_recover.specs.ImageHeader.{header_in}
use Rattle.fdr_recover.specs.Payloads.{run_in}
use Rattle.fdr_recover.proofs.BlockLemmas.{recovered_run-is_recovered}
use Rattle.fdr_table.specs.Reading.{first_some}
use Rattle.fdr_table.specs.Rows.{TableRows}
use Rattle.fdr_table.specs.declared.fault.TableFault.{TableFault}
use Rattle.fdr_load.specs.Tables.{IsAccepted, table_in}
use Rattle.fdr_recorder.specs.NewBlocks.{new_blocks, next_in}
use Rattle.fdr_twin.specs.declared.side.Side.{Side}
use Rattle.fdr_twin.specs.declared.side.Side.TheVariants.{First, Second}
use Rattle.fdr_pair.specs.Alike.{AreAlike, HaveOneHeader, IsFollowerFar, IsLeastDifferent, lead_on, follower_on, lead_image, follower_image}
use Rattle.fdr_pair.specs.Opening.{frame_refusal, same_header}
use Rattle.fdr_pair.specs.PairMoments.{HasFailedBeforePull}
use Rattle.fdr_pair.specs.PairRun.{LeavesPair, PairRun, RecordsPair, RunsPair}
use Rattle.fdr_twin.specs.Serving.{EachPairMoment}
use Rattle.fdr_pair.specs.Bringing.{HasNoFault}
use Rattle.fdr_pair.specs.PairWork.{IsLineMoment}
use Rattle.fdr_pair.specs.PairStages.{LeavesPairLine, WritesOnNeither}
use Rattle.fdr_pair.specs.declared.outcome.PairOutcome.{PairOutcome}
use Rattle.fdr_pair.specs.declared.outcome.PairOutcome.TheVariants as outcome
use Rattle.fdr_pair.proofs.Alikes.{header_of_side}
use Rattle.fdr_pair.proofs.Leading.{one_header}
use Rattle.fdr_pair.specs.PairMeaning.{PairEffect, PairGiven, PairStep, pair_answers, to_images, to_table, to_work, base, by_pair_table, of_both}
use Rattle.fdr_pair.specs.PairMeaning.{pair_meaning, records_on_both, refused_blocks, refused_far, refused_header, refused_headers, refused_images, trace_end}
use Rattle.fdr_pair.specs.PairMeaning.{pair_unless}
use Rattle.fdr_pair.specs.PairDoing.{DoesAllOnBoth, FailsOnly, IsPairTold, DoesPairAsMeant, Stays, WasPairGiven}
use Rattle.fdr_load.specs.Supplies.{Supplied}
use Rattle.fdr_pair.proofs.PairDifferences.{least_is, one_least}
use Rattle.fdr_pair.proofs.PairGivens.{came_all, failed_idle, fails_none, gave_none, given_by, keeps_idle, was_given, whole}
use Rattle.fdr_pair.proofs.Limits.{limits_in}
use Rattle.fdr_pair.proofs.PairHeaders.{first_after, first_append, header_list, opens, refusal_of}
use Rattle.fdr_pair.proofs.PairTables.{by_accepted, by_failed, by_refused}
use Rattle.fdr_pair.specs.Opening.{IsHeaderAnswer}

-- ---- what is meant once the table is accepted

-- a recording is at its work
step_records : (g : PairGiven) (blocks : List Block) (end : PairOutcome) → (records_on_both g blocks end).step ≡ to_work
step_records g blocks end = ⊎_elim
    (λ (over : nat_lt sequence_end (next_in (g.image (base g)) + length blocks) ≡ true). rw over refl)
    (λ (within : nat_lt sequence_end (next_in (g.image (base g)) + length blocks) ≡ false). rw within refl)
    (cases_Bool (nat_lt sequence_end (next_in (g.image (base g)) + length blocks)))

-- the recording isn't at the table's step
step_past : (why : Option PairOutcome) (g : PairGiven) (blocks : List Block) (end : PairOutcome)
    → (pair_unless to_images why (records_on_both g blocks end)).step ≢ to_table
step_past (Some why) g blocks end is = absurd (cc)
step_past None g blocks end is = let no : to_work ≡ to_table = sym (step_records g blocks end) ∙ is in cc

module _ (bytes : List ℕ) (accepted : IsAccepted bytes) (g : PairGiven) (table : g.table ≡ record { bytes = bytes; failed = false }) where
  abbrev pub blocks_of : List Block
  blocks_of = new_blocks (table_in bytes) (g.image (base g)) (good_prefix g.input.bytes)

  pub meant_past : pair_meaning g ≡ pair_unless to_images (refused_images (table_in bytes) g) (records_on_both g blocks_of (trace_end g.input))
  meant_past =
      let work : TableRows → PairEffect = λ (t : TableRows). pair_unless to_images (refused_images t g)
      (records_on_both g (new_blocks t (g.image (base g)) (good_prefix g.input.bytes)) (trace_end g.input)) in
      ap (λ (came : Supplied). by_pair_table came work) table ∙ by_accepted bytes work accepted

  pub meant_refused : (why : PairOutcome) → refused_images (table_in bytes) g ≡ Some why → pair_meaning g ≡ pair_answers to_images why
  meant_refused why is =
      meant_past ∙ ap (λ (o : Option PairOutcome). pair_unless to_images o (records_on_both g blocks_of (trace_end g.input))) is

  pub meant_recorded : refused_images (table_in bytes) g ≡ None → pair_meaning g ≡ records_on_both g blocks_of (trace_end g.input)
  meant_recorded is =
      meant_past ∙ ap (λ (o : Option PairOutcome). pair_unless to_images o (records_on_both g blocks_of (trace_end g.input))) is

  pub step_recorded : refused_images (table_in bytes) g ≡ None → (pair_meaning g).step ≡ to_work
  step_recorded is = ap (λ (m : PairEffect). m.step) (meant_recorded is) ∙ step_records g blocks_of (trace_end g.input)

  pub step_meant : (pair_meaning g).step ≢ to_table
  step_meant is = step_past (refused_images (table_in bytes) g) g blocks_of (trace_end g.input)
      (ap (λ (m : PairEffect). m.step) (sym meant_past) ∙ is)

-- ---- images that are alike, or nearly

pub none_first : {A : Type 0} (a b c d : Option A) → a ≡ None → b ≡ None → c ≡ None → d ≡ None → first_some (a ∷ b ∷ c ∷ d ∷ []) ≡ None
none_first a b c d ea eb ec ed = rw (ea, eb, ec, ed) refl

pub frame_fits : (words : ℕ) (h : Header) → h.words ≡ words → h.version ≡ 2 → frame_refusal words h ≡ None
frame_fits words h same version =
    let one : nat_eq h.words words ≡ true = grind (arith, nat_tests) in
    let other : nat_eq h.version 1 ≡ false = grind (arith, nat_tests) in
    rw (one, other) refl

same_self : (h k : Header) → k ≡ h → same_header h k ≡ true
same_self h k is = subst (λ (x : Header). same_header h x ≡ true) (sym is) (self h)
  where
    self : (x : Header) → same_header x x ≡ true
    self x = grind (arith, nat_tests)

module _ (r : PairRun) (table came : Supplied) (t : TableRows) where
  -- nothing failed
  abbrev pub of_both_sides : PairGiven
  of_both_sides = given_by r table came None

  pub one_header_passes : HaveOneHeader t.frame.words r.old
      → refused_images t of_both_sides ≡ first_some (refused_blocks r.old.first.held r.old.second.held ∷ refused_far of_both_sides ∷ [])
  one_header_passes one = first_after
      (refused_header of_both_sides First ∷ refused_header of_both_sides Second
      ∷ of_both None (refused_headers r.old.first.held r.old.second.held)
      ∷ frame_refusal t.frame.words (header_in (lead_image r.old)) ∷ [])
      (refused_blocks r.old.first.held r.old.second.held ∷ refused_far of_both_sides ∷ [])
      (none_first (refused_header of_both_sides First) (refused_header of_both_sides Second)
      (refused_headers r.old.first.held r.old.second.held) (frame_refusal t.frame.words (header_in (lead_image r.old)))
      (ap (option_map (outcome.ImageRefused First)) one.first)
      (ap (option_map (outcome.ImageRefused Second)) one.second)
      (ap (λ (b : Bool). if b then None else Some outcome.HeadersDiffer) (same_self (header_in r.old.first.held) (header_in r.old.second.held) one.same))
      (frame_fits t.frame.words (header_in (lead_image r.old))
      (ap (λ (h : Header). h.words) (header_of_side t.frame.words r.old (lead_on r.old) one) ∙ one.count)
      (ap (λ (h : Header). h.version) (header_of_side t.frame.words r.old (lead_on r.old) one) ∙ one.version)))

  -- the least difference of both runs
  pub difference_of : HaveOneHeader t.frame.words r.old → (o : Option ℕ) → IsLeastDifferent r.old o
      → refused_blocks r.old.first.held r.old.second.held ≡ option_map outcome.BlocksDiffer o
  difference_of one o least =
      let run = (recovered_run-is_recovered (header_in r.old.first.held) r.old.first.held (limits_in r.old.first.held one.first)).is_run in
      ap (option_map outcome.BlocksDiffer) (one_least (run_in r.old.first.held) (run_in r.old.second.held) _ o
      (least_is run.first (run_in r.old.first.held) (run_in r.old.second.held) run.numbered) least)

  -- by the lead's header and by its own the other side's next number is the same
  next_same : HaveOneHeader t.frame.words r.old → next_of (header_in (lead_image r.old)) (follower_image r.old) ≡ next_in (follower_image r.old)
  next_same one = ap (λ (h : Header). next_of h (follower_image r.old)) (sym (one_header t.frame.words r.old one))

  abbrev pub far_test : Bool
  far_test = nat_lt (next_in (follower_image r.old)) (next_in (lead_image r.old) - length (run_in (lead_image r.old)))

  pub is_far : HaveOneHeader t.frame.words r.old → IsFollowerFar r.old → refused_far of_both_sides ≡ Some (outcome.FarBehind (follower_on r.old))
  is_far one far =
      let same = next_same one in
      let less : next_in (follower_image r.old) < next_in (lead_image r.old) - length (run_in (lead_image r.old)) = omega (arith, far, same) in
      let test : far_test ≡ true = grind (arith, nat_tests) in
      ap (λ (b : Bool). if b then Some (outcome.FarBehind (follower_on r.old)) else None) test

  pub is_near : HaveOneHeader t.frame.words r.old → (IsFollowerFar r.old → ⊥) → refused_far of_both_sides ≡ None
  is_near one near = ⊎_elim
      (λ (test : far_test ≡ true).
      let less : next_in (follower_image r.old) < next_in (lead_image r.old) - length (run_in (lead_image r.old)) = grind (arith, nat_tests) in
      let same = next_same one in
      absurd (near (omega (arith, less, same))))
      (λ (test : far_test ≡ false). ap (λ (b : Bool). if b then Some (outcome.FarBehind (follower_on r.old)) else None) test)
      (cases_Bool far_test)

  pub alike_passes : AreAlike t.frame.words r.old → refused_images t of_both_sides ≡ None
  alike_passes alike =
      one_header_passes alike.header
      ∙ ap (λ (o : Option PairOutcome). first_some (o ∷ refused_far of_both_sides ∷ [])) (difference_of alike.header None alike.blocks)
      ∙ ap (λ (o : Option PairOutcome). first_some (o ∷ [])) (is_near alike.header alike.near)

  pub differ_refused : (seq : ℕ) → HaveOneHeader t.frame.words r.old → IsLeastDifferent r.old (Some seq)
      → refused_images t of_both_sides ≡ Some (outcome.BlocksDiffer seq)
  differ_refused seq one least =
      one_header_passes one
      ∙ ap (λ (o : Option PairOutcome). first_some (o ∷ refused_far of_both_sides ∷ [])) (difference_of one (Some seq) least)

  pub far_refused : HaveOneHeader t.frame.words r.old → IsLeastDifferent r.old None → IsFollowerFar r.old
      → refused_images t of_both_sides ≡ Some (outcome.FarBehind (follower_on r.old))
  far_refused one least far =
      one_header_passes one
      ∙ ap (λ (o : Option PairOutcome). first_some (o ∷ refused_far of_both_sides ∷ [])) (difference_of one None least)
      ∙ ap (λ (o : Option PairOutcome). first_some (o ∷ [])) (is_far one far)

-- ---- the answers

-- a refusal that leaves both images
pub refuses : (r : PairRun) (g : PairGiven) → WasPairGiven g r → (step : PairStep) (a : PairOutcome) → r.answer ≡ a → pair_meaning g ≡ pair_answers step a
    → Stays r
    → EachPairMoment r.tells r.old r.new (IsLineMoment r.old) → FailsOnly g r → DoesPairAsMeant r
refuses r g given step a e meant stays idle only = record {
  g = g;
  given = given;
  keeps = keeps_idle r g stays.line idle;
  does = inl (subst (λ (m : PairEffect). DoesAllOnBoth g m r) (sym meant) (record { answer = e; images = stays; failed = λ past. only }));
}

module _ (r : PairRun) (runs : RunsPair r) (told : IsPairTold r) (bytes : List ℕ) (is : r.rest_before ≡ Some bytes) where
  abbrev pub whole_table : Supplied
  whole_table = record { bytes = bytes; failed = false }

  abbrev pub came_none : Supplied
  came_none = came_all r []

  no_side : (side : Side) → None ≡ Some side → HasFailedBeforePull r.tells side r.old r.new
  no_side side never = absurd (cc)

  abbrev pub given_both : PairGiven
  given_both = given_by r whole_table came_none None

  was_given_both : Stays r → WasPairGiven given_both r
  was_given_both stays = was_given r whole_table came_none None (whole r bytes is) (gave_none r stays.line) no_side

  pub stays_by : LeavesPair r.tells r.old r.new r.answer → LeavesPairLine r.answer → WritesOnNeither r.answer → Stays r
  stays_by leaves line neither = record { images = λ side. leaves.disks side neither (inl told.bytes); line = leaves.line line }

  pub means_table : (row : ℕ) (f : TableFault) → r.answer ≡ outcome.TableRefused row f → Stays r → EachPairMoment r.tells r.old r.new (IsLineMoment r.old)
      → HasNoFault r.old r.new → DoesPairAsMeant r
  means_table row f e stays idle none = refuses r given_both (was_given_both stays) to_table (outcome.TableRefused row f) e
      (by_refused bytes (λ (t : TableRows). pair_unless to_images (refused_images t given_both)
      (records_on_both given_both (new_blocks t (given_both.image (base given_both)) (good_prefix given_both.input.bytes))
      (trace_end given_both.input))) row f
      (runs.table.refused row f bytes e is)) stays idle (fails_none r given_both none)

  pub means_unread : r.answer ≡ outcome.ReadFault input.Table → Stays r → EachPairMoment r.tells r.old r.new (IsLineMoment r.old) → HasNoFault r.old r.new
      → DoesPairAsMeant r
  means_unread e stays idle none =
      let cut = runs.table.fault_within_limit e in
      let table : Supplied = record { bytes = cut.0; failed = true } in
      let g = given_by r table came_none None in
      refuses r g (was_given r table came_none None (record { whole = λ no. absurd (cc); cut = λ yes. (runs.table_cause e, cut.2) })
      (gave_none r stays.line) no_side)
      to_table (outcome.ReadFault input.Table) e
      (by_failed cut.0 (λ (t : TableRows). pair_unless to_images (refused_images t g)
      (records_on_both g (new_blocks t (g.image (base g)) (good_prefix g.input.bytes)) (trace_end g.input))) cut.1) stays idle
      (fails_none r g none)

  pub means_memory : r.answer ≡ outcome.NoMemory → DoesPairAsMeant r
  means_memory e =
      let stays = stays_by (runs.memory e).leaves (subst LeavesPairLine (sym e) tt) (subst WritesOnNeither (sym e) tt) in
      record {
        g = given_both;
        given = was_given_both stays;
        does = inr (inr (inr (record { answer = e; images = stays })));
        keeps = keeps_idle r given_both stays.line ((runs.memory e).leaves.line_moments (subst LeavesPairLine (sym e) tt));
      }

  module _ (accepted : IsAccepted bytes) (rec : RecordsPair (table_in bytes) r) where
    -- BlocksDiffer and FarBehind
    means_refused : (why : PairOutcome) → r.answer ≡ why → refused_images (table_in bytes) given_both ≡ Some why
        → LeavesPairLine why → WritesOnNeither why → HasNoFault r.old r.new → DoesPairAsMeant r
    means_refused why e refused line neither none =
        let stays = stays_by rec.leaves (subst LeavesPairLine (sym e) line) (subst WritesOnNeither (sym e) neither) in
        refuses r given_both (was_given_both stays) to_images why e (meant_refused bytes accepted given_both refl why refused) stays
        (rec.leaves.line_moments (subst LeavesPairLine (sym e) line)) (fails_none r given_both none)

    pub means_differ : (seq : ℕ) → r.answer ≡ outcome.BlocksDiffer seq → DoesPairAsMeant r
    means_differ seq e =
        let differ = (rec.runs.differ seq e).1 told.bytes in
        means_refused (outcome.BlocksDiffer seq) e (differ_refused r whole_table came_none (table_in bytes) seq differ.header differ.blocks) tt tt
        (rec.runs.differ seq e).0

    pub means_far : (s : Side) → r.answer ≡ outcome.FarBehind s → DoesPairAsMeant r
    means_far s e =
        let far = (rec.runs.far s e).1 told.bytes in
        means_refused (outcome.FarBehind s) e
        (far_refused r whole_table came_none (table_in bytes) far.header far.blocks far.far
        ∙ ap (λ (x : Side). Some (outcome.FarBehind x)) (sym far.side)) tt tt (rec.runs.far s e).0

    pub means_lead : (s : Side) → r.answer ≡ outcome.LeadFault s → DoesPairAsMeant r
    means_lead s e =
        let lead = rec.causes.lead s e in
        let same : s ≡ lead_on r.old = lead.lead told.bytes in
        let line = rec.leaves.line (subst LeavesPairLine (sym e) tt) in
        record {
          g = given_both;
          given = was_given r whole_table came_none None (whole r bytes is) (gave_none r line) no_side;
          keeps = keeps_idle r given_both line (rec.leaves.line_moments (subst LeavesPairLine (sym e) tt));
          does = inr (inr (inl (record {
            answer = e ∙ ap outcome.LeadFault same;
            step = step_meant bytes accepted given_both refl;
            cause = subst (λ (x : Side). Rattle.fdr_pair.specs.Bringing.HasFailedAlone x r.old r.new) same lead.alone;
            header = lead.header told.bytes;
            image = subst (λ (x : Side). Rattle.fdr_pair.specs.Opening.LooksAtSide r.tells x r.old r.new) same lead.kept;
            behind = lead.behind told.bytes;
            line = line;
          })));
        }

    -- ImageRefused, HeadersDiffer, WordsDiffer and OldVersion
    by_header : IsHeaderAnswer r.answer → LeavesPairLine r.answer → WritesOnNeither r.answer → DoesPairAsMeant r
    by_header answer line neither =
        let by = rec.headers.only answer told.bytes in
        let words = (table_in bytes).frame.words in
        let stays = stays_by rec.leaves line neither in
        let idle = rec.leaves.line_moments line in
        let g = given_by r whole_table came_none by.failed in
        refuses r g (was_given r whole_table came_none by.failed (whole r bytes is) (gave_none r stays.line)
        (λ side failed. failed_idle r.tells side r.old r.new idle (by.rose side failed)))
        to_images r.answer refl
        (meant_refused bytes accepted g refl r.answer (first_append (header_list words g) (of_both by.failed
        (refused_blocks r.old.first.held r.old.second.held)
        ∷ of_both by.failed (refused_far g) ∷ []) r.answer (sym (opens words g) ∙ ap refusal_of by.refused))) stays idle by.only

    pub means_headers : (why : PairOutcome) → r.answer ≡ why → IsHeaderAnswer why → LeavesPairLine why → WritesOnNeither why → DoesPairAsMeant r
    means_headers why e answer line neither = by_header (subst IsHeaderAnswer (sym e) answer) (subst LeavesPairLine (sym e) line)
        (subst WritesOnNeither (sym e) neither)
