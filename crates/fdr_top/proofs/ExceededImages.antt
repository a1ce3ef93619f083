-- What listing the exceedances in an image leaves and answers.
use Rattle.std.proofs.Common.{◌≡◌, ◌⊎◌, ⊎_elim, inl, inr, ℕ, ◌+◌, ◌-◌, ◌<◌, ◌≤◌, List, [], ◌++◌, length, take, Option, Some, None, ap, sym, refl, ◌∙◌}
use Rattle.std.proofs.Common.{subst, arith, append-nil, length-append, add-zero}
use Rattle.std.specs.Prelude.{IsTrue}
use Rattle.std.proofs.lemmas.Bool.{cond-true, lt-ltb}
use Rattle.std.proofs.lemmas.List.{take_all, take-append-drop}
use Rattle.csv.specs.Machine.{next_record}
use Rattle.csv.specs.Reading.{records_from, strip_bom}
use Rattle.fdr_io.specs.Faults.{Rose}
use Rattle.fdr_io.specs.Told.{followed_by}
use Rattle.fdr_io.specs.declared.Input.TheVariants as input
use Rattle.fdr_io.proofs.Telling.{followed_by-nil}
use Rattle.fdr_deck.specs.Calls.{LeavesDisk}
use Rattle.fdr_deck.specs.Disk.{KeepsDisk, LearnsExtent}
use Rattle.fdr_deck.specs.Moments.{IsSoundDeck}
use Rattle.fdr_deck.specs.Pull.{KeepsInput}
use Rattle.fdr_deck.specs.State.{State, Tells}
use Rattle.fdr_pieces.proofs.Pulling.{LeavesStops-here, LeavesStops-look, LeavesStops-then}
use Rattle.fdr_pieces.specs.Pieces.{EndsInput, LeavesStops, PullsPieces, before_last, last_piece}
use Rattle.fdr_pieces.specs.declared.pieces.InputEnd.{InputEnd}
use Rattle.fdr_pieces.specs.declared.pieces.InputEnd.TheVariants as input_end
use Rattle.fdr_frame.specs.WordCount.{IsWordCount}
use Rattle.fdr_slot.specs.Places.{image_size}
use Rattle.fdr_slot.specs.declared.image.Header.{Header}
use Rattle.fdr_recover.specs.Blocks.{Block}
use Rattle.fdr_recover.specs.ImageHeader.{header_in, IsFor}
use Rattle.fdr_recover.specs.Images.{recovered_run}
use Rattle.fdr_recover.specs.Looks.{Looks}
use Rattle.fdr_recover.specs.Payloads.{run_in}
use Rattle.fdr_table.specs.Reading.{records_of}
use Rattle.fdr_table.specs.Rows.{TableRows}
use Rattle.fdr_exceed.specs.RuleFaults.{rules_fault}
use Rattle.fdr_exceed.specs.RuleAnswers.{rule_refused}
use Rattle.fdr_exceed.specs.Rules.{most_rule_bytes}
use Rattle.fdr_exceed.specs.declared.fault.RuleFault.{RuleFault}
use Rattle.fdr_exceed.specs.declared.fault.RuleFault.TheVariants as fault
use Rattle.fdr_exceed.specs.declared.fault.RulesError.{RulesError}
use Rattle.fdr_exceed.specs.declared.fault.RulesError.TheVariants as error
use Rattle.fdr_exceed.specs.declared.rule.Rule.{Rule}
use Rattle.fdr_words.specs.Forms.{exceed_image}
use Rattle.fdr_top.specs.Answers.{IsOwn}
use Rattle.fdr_top.specs.Exceed.{ExceedsImage, ExceedsRead, HasPulledRules, HasReadBlocks, HasRefusedRules, IsRulesAnswer, IsRulesEnd}
use Rattle.fdr_top.specs.Exceed.{exceedances_in, exceedances_of_blocks, rules_in, rules_refusal}
use Rattle.fdr_top.specs.List.{RefusesOpening}
use Rattle.fdr_top.specs.Recover.{OnlyLooks}
use Rattle.fdr_top.specs.Refusals.{RefusesImage}
use Rattle.fdr_top.specs.Stages.{IsPastTable, WritesNothing}
use Rattle.fdr_top.specs.declared.outcome.Outcome.{Outcome}
use Rattle.fdr_top.specs.declared.outcome.Outcome.TheVariants as outcome
use Rattle.fdr_top.proofs.Exceeds.{none_exceeded}
use Rattle.fdr_top.proofs.Images.{run_same}
use Rattle.fdr_top.proofs.ListedImages.{of_blocks_begun}
use Rattle.fdr_top.proofs.RecordLines.{no_differ, no_first, refuses_nothing, takes_image}

-- ---- what is pulled

-- pieces that are pulled between two stretches of calls that leave the input
pub pulled_between : (limit : ℕ) (tells : Tells) (old mid end new : State) (pulled : List ℕ) → KeepsInput old mid → PullsPieces limit tells mid end pulled
    → KeepsInput end new → PullsPieces limit tells old new pulled
pulled_between limit tells old mid end new pulled before pieces after = record {
  takes = record {
    taken = after.taken ∙ pieces.takes.taken ∙ ap (λ n. n + length pulled) before.taken;
    input = λ told. sym before.input ∙ pieces.takes.input told ∙ ap (λ (left : List ℕ). pulled ++ left) (sym after.input);
  };
  last = λ some. let is = pieces.last some in record {
    begins = omega (arith, is.begins, before.taken, after.pulled_before);
    gave_bytes = omega (arith, is.gave_bytes, after.pulled_before, after.taken);
    within_piece = omega (arith, is.within_piece, after.pulled_before, after.taken);
  };
  begun_within_limit = λ some. omega (arith, pieces.begun_within_limit some, before.taken, after.pulled_before);
  bounded = pieces.bounded;
}

-- no pieces
none_pulled : (limit : ℕ) (tells : Tells) (old new : State) → KeepsInput old new → PullsPieces limit tells old new []
none_pulled limit tells old new keeps = record {
  takes = record { taken = keeps.taken ∙ sym (add-zero old.taken); input = λ told. sym keeps.input };
  last = λ some. absurd (omega arith);
  begun_within_limit = λ some. absurd (omega arith);
  bounded = omega arith;
}

same_input : (d : State) → KeepsInput d d
same_input d = record { input = refl; taken = refl; pulled_before = refl }

-- all that is taken of the pieces
pub rules_taken : (old new : State) (pulled : List ℕ) → length pulled ≤ most_rule_bytes
    → before_last most_rule_bytes old new pulled ++ last_piece most_rule_bytes old new pulled ≡ pulled
rules_taken old new pulled few =
    take-append-drop (new.pulled_before - old.taken) (take most_rule_bytes pulled) ∙ take_all most_rule_bytes pulled few

-- where the end is reached, all of the input was pulled
pub whole_input : (limit : ℕ) (tells : Tells) (old new : State) (pulled : List ℕ) → PullsPieces limit tells old new pulled → new.input ≡ []
    → IsTrue tells.input → old.input ≡ pulled
whole_input limit tells old new pulled pieces end told =
    pieces.takes.input told ∙ ap (λ (left : List ℕ). pulled ++ left) end ∙ append-nil pulled

-- ---- which rules are refused

too_many : (t : TableRows) (bytes : List ℕ) → most_rule_bytes < length bytes → rules_fault t bytes ≡ Some (0, fault.Size)
unfolding rules_fault
too_many t bytes many = cond-true _ _ _ (lt-ltb most_rule_bytes (length bytes) many)

no_rules : (t : TableRows) → rules_fault t [] ≡ None
unfolding rules_fault records_of records_from strip_bom next_record
no_rules t = refl

refused_same : (r row : ℕ) (g f : RuleFault) → outcome.RuleRefused r g ≡ outcome.RuleRefused row f → (r ≡ row) × (g ≡ f)
refused_same r row g f e = (cc, cc)

-- more bytes came than rules may have
pub too_many_rules : (t : TableRows) (tells : Tells) (old new : State) (pulled : List ℕ) → PullsPieces most_rule_bytes tells old new pulled
    → most_rule_bytes < length pulled → HasRefusedRules t tells old new pulled (outcome.RuleRefused 0 fault.Size)
too_many_rules t tells old new pulled pieces many = record {
  pieces = pieces;
  rules = λ row f e. let same = refused_same 0 row fault.Size f e in too_many t pulled many ∙ ap (λ n. Some (n, fault.Size)) same.0
      ∙ ap (λ (g : RuleFault). Some (row, g)) same.1;
  rules_of_input = λ row f e told. let same = refused_same 0 row fault.Size f e in
      too_many t old.input (omega (arith, many, ap length (pieces.takes.input told), length-append pulled new.input))
      ∙ ap (λ n. Some (n, fault.Size)) same.0 ∙ ap (λ (g : RuleFault). Some (row, g)) same.1;
  few = λ e. absurd (cc);
  only = inl (0, fault.Size, refl);
}

-- a pull failed
pub no_more_rules : (t : TableRows) (tells : Tells) (old new : State) (pulled : List ℕ) → PullsPieces most_rule_bytes tells old new pulled
    → length pulled ≤ most_rule_bytes → HasRefusedRules t tells old new pulled (outcome.ReadFault input.Line)
no_more_rules t tells old new pulled pieces few = record {
  pieces = pieces;
  rules = λ row f e. absurd (cc);
  rules_of_input = λ row f e told. absurd (cc);
  few = λ e. few;
  only = inr (inl refl);
}

-- memory ended
pub no_room_for_rules : (t : TableRows) (tells : Tells) (old new : State) (pulled : List ℕ) → PullsPieces most_rule_bytes tells old new pulled
    → HasRefusedRules t tells old new pulled outcome.NoMemory
no_room_for_rules t tells old new pulled pieces = record {
  pieces = pieces;
  rules = λ row f e. absurd (cc);
  rules_of_input = λ row f e told. absurd (cc);
  few = λ e. absurd (cc);
  only = inr (inr refl);
}

-- the rules have a fault, or memory ended while they were read
pub rules_misread : (t : TableRows) (tells : Tells) (old new : State) (pulled : List ℕ) (e : RulesError) → PullsPieces most_rule_bytes tells old new pulled
    → (IsTrue tells.input → new.input ≡ []) → ((row : ℕ) (f : RuleFault) → e ≡ rule_refused row f → rules_fault t pulled ≡ Some (row, f))
    → HasRefusedRules t tells old new pulled (rules_refusal e)
rules_misread t tells old new pulled (error.Refused r g) pieces end first =
    let here : rules_fault t pulled ≡ Some (r, g) = first r g refl in
    let is : (row : ℕ) (f : RuleFault) → outcome.RuleRefused r g ≡ outcome.RuleRefused row f → rules_fault t pulled ≡ Some (row, f) =
    λ row f e. let same = refused_same r row g f e in here ∙ ap (λ n. Some (n, g)) same.0 ∙ ap (λ (h : RuleFault). Some (row, h)) same.1 in
    record {
      pieces = pieces;
      rules = is;
      rules_of_input = λ row f e told.
          ap (rules_fault t) (whole_input most_rule_bytes tells old new pulled pieces (end told) told) ∙ is row f e;
      few = λ e. absurd (cc);
      only = inl (r, g, refl);
    }
rules_misread t tells old new pulled error.NoMemory pieces end first = no_room_for_rules t tells old new pulled pieces

-- why they aren't read
pub rules_ended : (t : TableRows) (tells : Tells) (old new : State) (pulled bytes : List ℕ) (end : InputEnd) (answer : Outcome)
    → PullsPieces most_rule_bytes tells old new pulled → EndsInput most_rule_bytes tells new pulled end
    → bytes ≡ before_last most_rule_bytes old new pulled ++ last_piece most_rule_bytes old new pulled → IsRulesAnswer t bytes end answer
    → HasRefusedRules t tells old new pulled answer
rules_ended t tells old new pulled bytes input_end.End answer pieces ends taken is =
    let all : bytes ≡ pulled = taken ∙ rules_taken old new pulled (ends.end_within_limit refl) in
    subst (HasRefusedRules t tells old new pulled) (sym is.1) (rules_misread t tells old new pulled is.0 pieces (ends.empty refl)
    (λ row f e. ap (rules_fault t) (sym all) ∙ is.2 row f e))
rules_ended t tells old new pulled bytes input_end.Fault answer pieces ends taken is =
    subst (HasRefusedRules t tells old new pulled) (sym is) (no_more_rules t tells old new pulled pieces (ends.fault_within_limit refl))
rules_ended t tells old new pulled bytes input_end.TooLong answer pieces ends taken is =
    subst (HasRefusedRules t tells old new pulled) (sym is) (too_many_rules t tells old new pulled pieces (ends.many refl))

-- or they are
pub rules_are_read : (t : TableRows) (tells : Tells) (old new : State) (pulled bytes : List ℕ) (end : InputEnd)
    → PullsPieces most_rule_bytes tells old new pulled → EndsInput most_rule_bytes tells new pulled end
    → bytes ≡ before_last most_rule_bytes old new pulled ++ last_piece most_rule_bytes old new pulled → end ≡ input_end.End
    → rules_fault t bytes ≡ None → (bytes ≡ pulled) × HasPulledRules t tells old new pulled
rules_are_read t tells old new pulled bytes end pieces ends taken is none =
    let all : bytes ≡ pulled = taken ∙ rules_taken old new pulled (ends.end_within_limit is) in
    (all, record { pieces = pieces; no_fault = ap (rules_fault t) (sym all) ∙ none; end = ends.empty is })

-- none of these answers is another
pub of_rules : (P : Outcome → Type 0) (answer : Outcome) → ((row : ℕ) (f : RuleFault) → P (outcome.RuleRefused row f)) → P (outcome.ReadFault input.Line)
    → P outcome.NoMemory → IsRulesEnd answer → P answer
of_rules P answer refused read memory only = ⊎_elim
    (λ (x : (row : ℕ) × (f : RuleFault) × (answer ≡ outcome.RuleRefused row f)). subst P (sym x.2) (refused x.0 x.1))
    (λ (rest : (answer ≡ outcome.ReadFault input.Line) ⊎ (answer ≡ outcome.NoMemory)). ⊎_elim
    (λ (x : answer ≡ outcome.ReadFault input.Line). subst P (sym x) read)
    (λ (x : answer ≡ outcome.NoMemory). subst P (sym x) memory)
    rest)
    only

abbrev IsOther : Outcome → Outcome → Type 0
IsOther other answer = answer ≡ other → ⊥

pub rules_unread : (answer : Outcome) → IsRulesEnd answer → HasReadBlocks answer → ⊥
rules_unread answer only read = ⊎_elim
    (of_rules (IsOther outcome.Done) answer (λ row f e. cc) (λ e. cc) (λ e. cc) only)
    (λ (rest : (answer ≡ outcome.WriteFault) ⊎ (answer ≡ outcome.DiskFault)). ⊎_elim
    (of_rules (IsOther outcome.WriteFault) answer (λ row f e. cc) (λ e. cc) (λ e. cc) only)
    (of_rules (IsOther outcome.DiskFault) answer (λ row f e. cc) (λ e. cc) (λ e. cc) only)
    rest)
    read

-- done, or cut short by the sink, some block was read
written_read : (answer : Outcome) → (answer ≡ outcome.Done) ⊎ (answer ≡ outcome.WriteFault) → HasReadBlocks answer
written_read answer either =
    ⊎_elim (λ (x : answer ≡ outcome.Done). inl x) (λ (x : answer ≡ outcome.WriteFault). inr (inl x)) either

-- ---- the disk

keeps_then : (old mid new : State) → KeepsDisk old mid → KeepsDisk mid new → KeepsDisk old new
keeps_then old mid new first second = record {
  held = second.held ∙ first.held;
  no_more = λ image leaves. first.no_more image (second.no_more image leaves);
  no_less = λ image leaves. second.no_less image (first.no_less image leaves);
}

learns_then : (tells : Tells) (old mid new : State) → LearnsExtent tells old mid → new.extent ≡ mid.extent → LearnsExtent tells old new
learns_then tells old mid new first same = record {
  bytes = λ told. same ∙ first.bytes told;
  stops = λ told. same ∙ first.stops told;
  known = λ some. same ∙ first.known some;
}

-- an image that is for the table's frames isn't refused
unrefused : (t : TableRows) (tells : Tells) (old new : State) (answer : Outcome) → IsRulesEnd answer → (new.extent < 64 → ⊥)
    → (IsTrue tells.bytes → IsFor t.frame.words old.held) → RefusesImage t tells old new answer
unrefused t tells old new answer only long for = record {
  header = record {
    refused = λ why e. absurd (of_rules (IsOther (outcome.ImageRefused why)) answer (λ row f x. cc) (λ x. cc) (λ x. cc) only e);
    small = λ why e. absurd (of_rules (IsOther (outcome.ImageRefused why)) answer (λ row f x. cc) (λ x. cc) (λ x. cc) only e);
    small_always = λ past short. absurd (long short);
    refused_always = λ why past told first. absurd (no_first old.held why (for told).no_fault first);
  };
  words = λ image table e. absurd (of_rules (IsOther (outcome.WordsDiffer image table)) answer (λ row f x. cc) (λ x. cc) (λ x. cc) only e);
  words_always = λ image past told other differ. absurd (differ (sym other.words ∙ (for told).words));
}

-- ---- the answers

no_first_rule : (fault : Option (ℕ × RuleFault)) (x : ℕ × RuleFault) → fault ≡ None → fault ≡ Some x → ⊥
no_first_rule fault x e some = let c : ◌≡◌ {A = Option (ℕ × RuleFault)} None (Some x) = sym e ∙ some in cc

shut_other : (answer other : Outcome) → RefusesOpening answer → (RefusesOpening other → ⊥) → answer ≡ other → ⊥
shut_other answer other shut not e = not (subst RefusesOpening e shut)

-- the disk was looked at, and then pieces were pulled
stops_then : (tells : Tells) (old mid new : State) → OnlyLooks tells old mid → LeavesStops tells mid new → LeavesStops tells old new
stops_then tells old mid new looks stopped =
    LeavesStops-then tells old mid new (LeavesStops-look tells old mid looks.disk_work) looks.disk stopped

-- the image wasn't opened
pub unopened : (t : TableRows) (tells : Tells) (old new : State) (written : Option (List ℕ)) (before after : ℕ) (answer : Outcome)
    → IsWordCount t.frame.words → OnlyLooks tells old new → RefusesOpening answer → RefusesImage t tells old new answer
    → ExceedsImage t tells old new written written before after answer
unopened t tells old new written before after answer count looks shut image =
    let undone : (answer ≡ outcome.Done) ⊎ (answer ≡ outcome.WriteFault) → ⊥ = λ either.
    ⊎_elim (shut_other answer outcome.Done shut (λ x. x)) (shut_other answer outcome.WriteFault shut (λ x. x)) either in
    record {
      disk = looks.disk;
      learns = looks.learns;
      stops = LeavesStops-look tells old new looks.disk_work;
      image = image;
      good = λ either told. absurd (undone either);
      pulled = [];
      pieces = none_pulled most_rule_bytes tells old new looks.disk_work.passes.input;
      end = λ either told. absurd (undone either);
      rules = λ row f e. absurd (shut_other answer (outcome.RuleRefused row f) shut (λ x. x) e);
      rules_always = λ row f past some. absurd (no_first_rule (rules_fault t []) (row, f) (no_rules t) some);
      rules_of_input = λ row f e told. absurd (shut_other answer (outcome.RuleRefused row f) shut (λ x. x) e);
      no_fault = λ read. no_rules t;
      few = λ e. omega arith;
      text = λ done told. absurd (undone (inl done));
      part = λ read told. (0, sym (followed_by-nil written));
      drained = λ fails told none. none_exceeded (rules_in t []) t _ _ written count;
      unwritten = λ none. refl;
      cut = λ e. inl (looks.disk_work.passes.input.taken, refl);
    }

some_first : (fault : Option (ℕ × RuleFault)) (r row : ℕ) (g f : RuleFault) → fault ≡ Some (r, g) → fault ≡ Some (row, f) → (r ≡ row) × (g ≡ f)
some_first fault r row g f one two =
    let same : ◌≡◌ {A = Option (ℕ × RuleFault)} (Some (r, g)) (Some (row, f)) = sym one ∙ two in
    let pair : ◌≡◌ {A = ℕ × RuleFault} (r, g) (row, f) = cc in
    (ap (λ (p : ℕ × RuleFault). p.0) pair, ap (λ (p : ℕ × RuleFault). p.1) pair)

-- what is answered where the rules have a fault
always : (t : TableRows) (tells : Tells) (old new : State) (pulled : List ℕ) (answer : Outcome) → HasRefusedRules t tells old new pulled answer
    → (row : ℕ) (f : RuleFault) → IsPastTable answer → rules_fault t pulled ≡ Some (row, f)
    → (answer ≡ outcome.RuleRefused row f) ⊎ (answer ≡ outcome.ReadFault input.Line)
always t tells old new pulled answer refused row f past some = ⊎_elim
    (λ (x : (r : ℕ) × (g : RuleFault) × (answer ≡ outcome.RuleRefused r g)).
    let same = some_first (rules_fault t pulled) x.0 row x.1 f (refused.rules x.0 x.1 x.2) some in
    inl (x.2 ∙ ap (λ n. outcome.RuleRefused n x.1) same.0 ∙ ap (λ (g : RuleFault). outcome.RuleRefused row g) same.1))
    (λ (rest : (answer ≡ outcome.ReadFault input.Line) ⊎ (answer ≡ outcome.NoMemory)). ⊎_elim
    (λ (x : answer ≡ outcome.ReadFault input.Line). inr x)
    (λ (x : answer ≡ outcome.NoMemory). absurd (subst IsPastTable x past))
    rest)
    refused.only

-- the rules weren't read
pub rules_refused : (t : TableRows) (tells : Tells) (old mid new : State) (written : Option (List ℕ)) (before after : ℕ) (pulled : List ℕ)
    (answer : Outcome)
    → OnlyLooks tells old mid → 64 ≤ mid.extent → (IsTrue tells.bytes → IsFor t.frame.words old.held) → LeavesDisk mid new → LeavesStops tells mid new
    → HasRefusedRules t tells mid new pulled answer → ExceedsImage t tells old new written written before after answer
rules_refused t tells old mid new written before after pulled answer looks long for leaves stopped refused = record {
  stops = stops_then tells old mid new looks stopped;
  disk = keeps_then old mid new looks.disk leaves.disk;
  learns = learns_then tells old mid new looks.learns leaves.extent;
  image = unrefused t tells old new answer refused.only (λ short. omega (arith, short, leaves.extent, long)) for;
  good = λ either told. for told;
  pulled = pulled;
  pieces = pulled_between most_rule_bytes tells old mid new new pulled looks.disk_work.passes.input refused.pieces (same_input new);
  end = λ either told. absurd (rules_unread answer refused.only (written_read answer either));
  rules = refused.rules;
  rules_always = always t tells mid new pulled answer refused;
  rules_of_input = λ row f e told. ap (rules_fault t) (sym looks.disk_work.passes.input.input) ∙ refused.rules_of_input row f e told;
  no_fault = λ read. absurd (rules_unread answer refused.only read);
  few = refused.few;
  text = λ done told. absurd (rules_unread answer refused.only (inl done));
  part = λ read told. absurd (rules_unread answer refused.only read);
  drained = λ fails. absurd (rules_unread answer refused.only (inr (inr fails)));
  unwritten = λ none. refl;
  cut = λ e. absurd (rules_unread answer refused.only (inr (inr e)));
}

-- memory ended behind the rules
pub no_room_to_watch : (t : TableRows) (tells : Tells) (old mid new : State) (written : Option (List ℕ)) (before after : ℕ) (pulled : List ℕ)
    → OnlyLooks tells old mid → LeavesDisk mid new → LeavesStops tells mid new → HasPulledRules t tells mid new pulled
    → ExceedsImage t tells old new written written before after outcome.NoMemory
no_room_to_watch t tells old mid new written before after pulled looks leaves stopped read = record {
  stops = stops_then tells old mid new looks stopped;
  disk = keeps_then old mid new looks.disk leaves.disk;
  learns = learns_then tells old mid new looks.learns leaves.extent;
  image = refuses_nothing t tells old new outcome.NoMemory (λ past. past);
  good = λ either told. absurd (rules_unread outcome.NoMemory (inr (inr refl)) (written_read outcome.NoMemory either));
  pulled = pulled;
  pieces = pulled_between most_rule_bytes tells old mid new new pulled looks.disk_work.passes.input read.pieces (same_input new);
  end = λ either told. absurd (rules_unread outcome.NoMemory (inr (inr refl)) (written_read outcome.NoMemory either));
  rules = λ row f e. absurd (cc);
  rules_always = λ row f past some. absurd past;
  rules_of_input = λ row f e told. absurd (cc);
  no_fault = λ either. read.no_fault;
  few = λ e. absurd (cc);
  text = λ done told. absurd (cc);
  part = λ either told. absurd (rules_unread outcome.NoMemory (inr (inr refl)) either);
  drained = λ fails. absurd (cc);
  unwritten = λ none. refl;
  cut = λ e. absurd (cc);
}

-- the blocks were read
pub blocks_exceeded : (t : TableRows) (tells : Tells) (old mid end new : State) (h : Header) (rules : List Rule) (before now : Option (List ℕ))
    (sink_before sink_now : ℕ) (pulled : List ℕ) (answer : Outcome) → OnlyLooks tells old mid → LeavesDisk mid end
    → LeavesStops tells mid end → Looks tells end new
    → (IsTrue tells.bytes → h ≡ header_in old.held) → (IsTrue tells.bytes → IsFor t.frame.words old.held) → image_size h ≤ mid.extent
    → HasPulledRules t tells mid end pulled → rules ≡ rules_in t pulled → HasReadBlocks answer
    → (answer ≡ outcome.Done → IsTrue tells.bytes → now ≡ followed_by before (exceedances_of_blocks rules t h.version (recovered_run h end.held)))
    → (IsTrue tells.bytes → (k : ℕ) × (now ≡ followed_by before (take k (exceedances_of_blocks rules t h.version (recovered_run h end.held)))))
    → (answer ≡ outcome.DiskFault → IsTrue tells.bytes → (Rose sink_before sink_now → ⊥)
    → ExceedsRead rules t h.version (recovered_run h end.held) before now)
    → ExceedsImage t tells old new before now sink_before sink_now answer
blocks_exceeded t tells old mid end new h rules before now sink_before sink_now pulled answer looks leaves stopped last header for long read are of
    text part drained =
    let listed : IsTrue tells.bytes → exceedances_of_blocks rules t h.version (recovered_run h end.held) ≡ exceedances_in t pulled old.held = λ told.
    ap (λ (rs : List Rule). exceedances_of_blocks rs t h.version (recovered_run h end.held)) are
    ∙ ap (λ (image : List ℕ). exceedances_of_blocks (rules_in t pulled) t h.version (recovered_run h image)) leaves.disk.held
    ∙ ap (λ (x : Header). exceedances_of_blocks (rules_in t pulled) t x.version (recovered_run h mid.held)) (header told)
    ∙ ap (exceedances_of_blocks (rules_in t pulled) t (header_in old.held).version) (run_same tells old mid h looks header told) in
    let begun = of_blocks_begun answer of in
    record {
      disk = keeps_then old end new (keeps_then old mid end looks.disk leaves.disk) last.disk;
      learns = learns_then tells old mid new looks.learns (last.extent ∙ leaves.extent);
      stops = LeavesStops-then tells old end new (stops_then tells old mid end looks stopped) (keeps_then old mid end looks.disk leaves.disk)
          (LeavesStops-look tells end new last.disk_work);
      image = takes_image t tells old new answer begun (λ short. omega (arith, short, last.extent, leaves.extent, long)) for;
      good = λ either told. for told;
      pulled = pulled;
      pieces = pulled_between most_rule_bytes tells old mid end new pulled looks.disk_work.passes.input read.pieces last.disk_work.passes.input;
      end = λ either told. last.disk_work.passes.input.input ∙ read.end told;
      rules = λ row f e. absurd (begun (subst WritesNothing (sym e) tt));
      rules_always = λ row f past some. absurd (no_first_rule (rules_fault t pulled) (row, f) read.no_fault some);
      rules_of_input = λ row f e told. absurd (begun (subst WritesNothing (sym e) tt));
      no_fault = λ either. read.no_fault;
      few = λ e. absurd (⊎_elim (λ (x : answer ≡ outcome.Done). let c : outcome.Done ≡ outcome.ReadFault input.Line = sym x ∙ e in cc)
          (λ (rest : (answer ≡ outcome.WriteFault) ⊎ (answer ≡ outcome.DiskFault)). ⊎_elim
          (λ (x : answer ≡ outcome.WriteFault). let c : outcome.WriteFault ≡ outcome.ReadFault input.Line = sym x ∙ e in cc)
          (λ (x : answer ≡ outcome.DiskFault). let c : outcome.DiskFault ≡ outcome.ReadFault input.Line = sym x ∙ e in cc) rest) of);
      text = λ done told. text done told ∙ ap (followed_by before) (listed told);
      part = λ either told. let p = part told in (p.0, p.1 ∙ ap (λ (l : List ℕ). followed_by before (take p.0 l)) (listed told));
      drained = λ fails told none.
          let run : recovered_run h end.held ≡ run_in old.held = ap (recovered_run h) leaves.disk.held ∙ run_same tells old mid h looks header told in
          subst (λ (v : ℕ). ExceedsRead (rules_in t pulled) t v (run_in old.held) before now) (ap (λ (x : Header). x.version) (header told))
          (subst (λ (l : List Block). ExceedsRead (rules_in t pulled) t h.version l before now) run
          (subst (λ (rs : List Rule). ExceedsRead rs t h.version (recovered_run h end.held) before now) are (drained fails told none)));
      unwritten = λ none. absurd (none of);
      cut = λ e. inr (λ told. last.disk_work.passes.input.input ∙ read.end told, for);
    }

-- the rules have no fault, the image is for the table's frames, and nothing fails: the exceedances are listed, or memory ended
pub exceed_done : (path image : List ℕ) (t : TableRows) (tells : Tells) (old new : State) (before now : Option (List ℕ)) (f_before f_now : ℕ)
    (answer : Outcome) → (answer ≡ outcome.NoMemory) ⊎ IsOwn (exceed_image path image) answer
    → ExceedsImage t tells old new before now f_before f_now answer
    → IsTrue tells.input → rules_fault t old.input ≡ None → IsTrue tells.bytes → IsFor t.frame.words old.held
    → (answer ≡ outcome.ReadFault input.Line → ⊥) → (answer ≡ outcome.DiskFault → ⊥) → (answer ≡ outcome.WriteFault → ⊥)
    → (answer ≡ outcome.Done) ⊎ (answer ≡ outcome.NoMemory)
exceed_done path image t tells old new before now f_before f_now outcome.Done of lists line none told for read disk sink = inl refl
exceed_done path image t tells old new before now f_before f_now (outcome.ImageRefused why) of lists line none told for read disk sink =
    absurd (no_first old.held why for.no_fault (lists.image.header.refused why refl told))
exceed_done path image t tells old new before now f_before f_now (outcome.WordsDiffer words table) of lists line none told for read disk sink =
    absurd (no_differ t tells old new (outcome.WordsDiffer words table) words table lists.image told for refl)
exceed_done path image t tells old new before now f_before f_now (outcome.RuleRefused row f) of lists line none told for read disk sink =
    absurd (no_first_rule (rules_fault t old.input) (row, f) none (lists.rules_of_input row f refl line))
exceed_done path image t tells old new before now f_before f_now outcome.WriteFault of lists line none told for read disk sink = absurd (sink refl)
exceed_done path image t tells old new before now f_before f_now outcome.DiskFault of lists line none told for read disk sink = absurd (disk refl)
exceed_done path image t tells old new before now f_before f_now outcome.NoMemory of lists line none told for read disk sink = inr refl
exceed_done path image t tells old new before now f_before f_now (outcome.ReadFault input.Line) of lists line none told for read disk sink = absurd (read refl)
exceed_done path image t tells old new before now f_before f_now (outcome.ReadFault input.Table) of lists line none told for read disk sink =
    ⊎_elim (λ memory. absurd (cc)) (λ own. absurd own) of
exceed_done path image t tells old new before now f_before f_now answer of lists line none told for read disk sink =
    ⊎_elim (λ memory. inr memory) (λ own. absurd own) of

-- where the work isn't begun, the deck isn't touched and nothing is written
pub exceeds_nothing : (t : TableRows) (tells : Tells) (d : State) (written : Option (List ℕ)) (before after : ℕ) (answer : Outcome)
    → IsSoundDeck tells d
    → (IsPastTable answer → ⊥)
    → ExceedsImage t tells d d written written before after answer
exceeds_nothing t tells d written before after answer sound early =
    let not : (other : Outcome) → IsPastTable other → answer ≡ other → ⊥ = λ other past e. early (subst IsPastTable (sym e) past) in
    let undone : (answer ≡ outcome.Done) ⊎ (answer ≡ outcome.WriteFault) → ⊥ = λ either.
    ⊎_elim (not outcome.Done tt) (not outcome.WriteFault tt) either in
    record {
      disk = record { held = refl; no_more = λ image leaves. leaves; no_less = λ image leaves. leaves };
      learns = record { bytes = λ told. refl; stops = λ told. refl; known = λ some. refl };
      stops = LeavesStops-here tells d sound;
      image = refuses_nothing t tells d d answer early;
      good = λ either told. absurd (undone either);
      pulled = [];
      pieces = none_pulled most_rule_bytes tells d d (same_input d);
      end = λ either told. absurd (undone either);
      rules = λ row f e. absurd (not (outcome.RuleRefused row f) tt e);
      rules_always = λ row f past some. absurd (early past);
      rules_of_input = λ row f e told. absurd (not (outcome.RuleRefused row f) tt e);
      no_fault = λ read. no_rules t;
      few = λ e. omega arith;
      text = λ done told. absurd (undone (inl done));
      part = λ read told. (0, sym (followed_by-nil written));
      drained = λ fails. absurd (not outcome.DiskFault tt fails);
      unwritten = λ none. refl;
      cut = λ e. inl (refl, refl);
    }

-- an image has its header
pub long_image : (h : Header) (n : ℕ) → image_size h ≤ n → 64 ≤ n
long_image h n long = omega (arith, long)

-- an answer where no image is opened is one of the command's, or memory ended
pub opening_own : (path image : List ℕ) (answer : Outcome) → RefusesOpening answer → (answer ≡ outcome.NoMemory) ⊎ IsOwn (exceed_image path image) answer
opening_own path image (outcome.ImageRefused why) shut = inr tt
opening_own path image (outcome.WordsDiffer words table) shut = inr tt
opening_own path image outcome.DiskFault shut = inr tt
opening_own path image outcome.NoMemory shut = inl refl
opening_own path image answer shut = absurd shut
