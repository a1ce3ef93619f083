-- How the answers of recording on two disks go with the table.
use Rattle.std.proofs.Common.{◌≡◌, ◌≢◌, ◌⊎◌, ⊎_elim, inl, inr, ℕ, ◌+◌, ◌<◌, ◌≤◌, true, List, [], ◌++◌, length, Option, Some, None, Result, Err}
use Rattle.std.proofs.Common.{ap, sym, refl, ◌∙◌, subst, arith, length-append}
use Rattle.std.specs.Prelude.{IfSome, nat_lt}
use Rattle.std.proofs.lemmas.Bool.{cases_lt}
use Rattle.std.proofs.lemmas.Bool.Decides.{nat_tests}
use Rattle.fdr_io.specs.Faults.{Rose}
use Rattle.fdr_io.specs.Limits.{piece_bytes}
use Rattle.fdr_io.specs.Told.{preceded_by}
use Rattle.fdr_io.specs.declared.Input.TheVariants as input
use Rattle.fdr_io.proofs.Telling.{preceded_by-end}
use Rattle.fdr_table.specs.Bounds.{most_table_bytes}
use Rattle.fdr_table.specs.Faults.{table_bytes_fault}
use Rattle.fdr_table.specs.Rows.{TableRows}
use Rattle.fdr_table.specs.declared.fault.TableFault.{TableFault}
use Rattle.fdr_table.specs.declared.fault.TableFault.TheVariants as fault
use Rattle.fdr_check.specs.Soundness.{IsSound}
use Rattle.fdr_load.specs.Limits.{TakesAtMost}
use Rattle.fdr_load.specs.Tables.{IsAccepted, IsTableRefused, fault_in, table_in}
use Rattle.fdr_load.specs.declared.load.LoadFault.{LoadFault}
use Rattle.fdr_load.specs.declared.load.LoadFault.TheVariants as load
use Rattle.fdr_deck.specs.State.{Tells}
use Rattle.fdr_twin.specs.Pair.{Pair}
use Rattle.fdr_twin.specs.Sound.{IsSoundPair}
use Rattle.fdr_pair.specs.PairAnswers.{table_refusal_of}
use Rattle.fdr_pair.specs.PairRun.{IsWholePair, OnlyLooksAtPair, ReadsPairTable}
use Rattle.fdr_pair.specs.PairRun.{RecordsPair, RunsPair}
use Rattle.fdr_pair.specs.PairStages.{EndsBeforeDisks, IsPastPairTable}
use Rattle.fdr_pair.specs.declared.outcome.PairOutcome.{PairOutcome}
use Rattle.fdr_pair.specs.declared.outcome.PairOutcome.TheVariants as outcome
use Rattle.fdr_pair.proofs.PairWorks.{looked_here}
use Rattle.fdr_pair.specs.SideCounts.{CountsBoth}
use Rattle.fdr_pair.proofs.SideCounts.{counted_here}

-- ---- a source that tells its bytes

-- what was taken to the end is all that was told
taken_is_all : (old new : Option (List ℕ)) (taken bytes : List ℕ) → old ≡ preceded_by taken new → IfSome new (λ left. left ≡ []) → old ≡ Some bytes
    → bytes ≡ taken
taken_is_all old new taken bytes whole end told = rw told at (preceded_by-end old taken new whole end)

-- no bytes are both accepted and refused
not_both : (bytes : List ℕ) (row : ℕ) (f : TableFault) → IsAccepted bytes → IsTableRefused bytes row f → ⊥
not_both bytes row f accepted refused = let c : ◌≡◌ {A = Option (ℕ × TableFault)} None (Some (row, f)) = sym accepted ∙ refused in cc

longer : (old new : Option (List ℕ)) (taken bytes : List ℕ) → old ≡ preceded_by taken new → old ≡ Some bytes → length taken ≤ length bytes
unfolding preceded_by
longer old None taken bytes whole told = cc
longer old (Some left) taken bytes whole told =
    let e : taken ++ left ≡ bytes = cc in
    omega (arith, length-append taken left, ap length e)

-- too many bytes are refused for their number
too_many : (bytes : List ℕ) → most_table_bytes < length bytes → fault_in bytes ≡ Some (0, fault.Size)
unfolding fault_in table_bytes_fault
too_many bytes many =
    let test : nat_lt 1048576 (length bytes) ≡ true = grind (arith, nat_tests) in
    rw test refl

-- what was refused of a front part is refused of all that was told, where the part is all or too large
refused_told : (old new : Option (List ℕ)) (taken bytes : List ℕ) (row : ℕ) (f : TableFault) → IsTableRefused taken row f → old ≡ preceded_by taken new
    → (length taken ≤ most_table_bytes → IfSome new (λ left. left ≡ [])) → old ≡ Some bytes → IsTableRefused bytes row f
refused_told old new taken bytes row f refused whole end told = ⊎_elim
    (λ (many : most_table_bytes < length taken). too_many bytes (omega (arith, many, longer old new taken bytes whole told)) ∙ sym (too_many taken many)
    ∙ refused)
    (λ (few : length taken ≤ most_table_bytes). subst (λ (x : List ℕ). IsTableRefused x row f) (sym (taken_is_all old new taken bytes whole (end few) told))
    refused)
    (cases_lt most_table_bytes (length taken))

-- a told source of few bytes was taken to its end
taken_to_end : (old new : Option (List ℕ)) (taken bytes : List ℕ) → old ≡ preceded_by taken new
    → (length taken ≤ most_table_bytes → IfSome new (λ left. left ≡ []))
    → old ≡ Some bytes → length bytes ≤ most_table_bytes → new ≡ Some []
unfolding preceded_by
taken_to_end old None taken bytes whole end told few = cc
taken_to_end old (Some left) taken bytes whole end told few = ap Some (end (omega (arith, longer old (Some left) taken bytes whole told)))

preceded_none : (rest : Option (List ℕ)) → rest ≡ preceded_by [] rest
unfolding preceded_by
preceded_none None = refl
preceded_none (Some left) = refl

-- ---- the answer

not_refused : (answer : PairOutcome) (row : ℕ) (f : TableFault) → IsPastPairTable answer ⊎ (answer ≡ outcome.NoMemory)
    → answer ≡ outcome.TableRefused row f → ⊥
not_refused answer row f either e = ⊎_elim
    (λ (past : IsPastPairTable answer). subst IsPastPairTable e past)
    (λ (memory : answer ≡ outcome.NoMemory). let c : outcome.TableRefused row f ≡ outcome.NoMemory = sym e ∙ memory in cc)
    either

not_failed : (answer : PairOutcome) → IsPastPairTable answer ⊎ (answer ≡ outcome.NoMemory) → answer ≡ outcome.ReadFault input.Table → ⊥
not_failed answer either e = ⊎_elim
    (λ (past : IsPastPairTable answer). subst IsPastPairTable e past)
    (λ (memory : answer ≡ outcome.NoMemory). let c : outcome.ReadFault input.Table ≡ outcome.NoMemory = sym e ∙ memory in cc)
    either

-- past the table the words aren't refused any more
pub not_usage : (answer : PairOutcome) → IsPastPairTable answer ⊎ (answer ≡ outcome.NoMemory) → answer ≡ outcome.Usage → ⊥
not_usage answer either e = ⊎_elim
    (λ (past : IsPastPairTable answer). subst IsPastPairTable e past)
    (λ (memory : answer ≡ outcome.NoMemory). let c : outcome.Usage ≡ outcome.NoMemory = sym e ∙ memory in cc)
    either

-- past the table the disks may have been asked
pub not_before : (answer : PairOutcome) → IsPastPairTable answer ⊎ (answer ≡ outcome.NoMemory) → EndsBeforeDisks answer → ⊥
not_before outcome.Usage either before = ⊎_elim (λ (past : IsPastPairTable outcome.Usage). past) (λ (e : outcome.Usage ≡ outcome.NoMemory). absurd (cc)) either
not_before (outcome.TableRefused row f) either before = not_refused (outcome.TableRefused row f) row f either refl
not_before (outcome.ReadFault input.Table) either before = not_failed (outcome.ReadFault input.Table) either refl
not_before answer either before = before

-- a table that wasn't loaded doesn't say that the words are refused
pub refusal_not_usage : (f : LoadFault) → table_refusal_of f ≡ outcome.Usage → ⊥
refusal_not_usage (load.Refused row x) e = cc
refusal_not_usage load.Failed e = cc
refusal_not_usage load.NoMemory e = cc

refusal_not_past : (f : LoadFault) → IsPastPairTable (table_refusal_of f) → ⊥
refusal_not_past (load.Refused row x) past = past
refusal_not_past load.Failed past = past
refusal_not_past load.NoMemory past = past

was_refused : (f : LoadFault) (row : ℕ) (x : TableFault) → table_refusal_of f ≡ outcome.TableRefused row x → f ≡ load.Refused row x
was_refused (load.Refused r y) row x e = let first : r ≡ row = cc in let second : y ≡ x = cc in cc
was_refused load.Failed row x e = absurd (cc)
was_refused load.NoMemory row x e = absurd (cc)

was_failed : (f : LoadFault) → table_refusal_of f ≡ outcome.ReadFault input.Table → f ≡ load.Failed
was_failed (load.Refused r y) e = absurd (cc)
was_failed load.Failed e = refl
was_failed load.NoMemory e = absurd (cc)

-- ---- a twin that isn't asked for anything

pub only_looks_here : (tells : Tells) (p : Pair) (answer : PairOutcome) → IsSoundPair tells p → OnlyLooksAtPair tells p p answer
only_looks_here tells p answer sound = let work = looked_here tells p sound in record {
  time = work.time;
  moments = work.moments;
  leaves = record {
    line = λ left. work.line;
    line_moments = λ left. work.line_moments;
    disks = λ side left told. record {
      extent = record { bytes = λ known. refl; stops = λ known. refl; known = λ known. refl };
      disk = record { held = refl; no_more = λ image is. is; no_less = λ image is. is };
    };
  };
}

-- ---- a table that was accepted

-- The table was read to its end and is accepted.
module _ (old new : Option (List ℕ)) (t : TableRows)
    (read : (bytes : List ℕ) × IsAccepted bytes × (t ≡ table_in bytes) × (old ≡ preceded_by bytes new)) (end : IfSome new (λ left. left ≡ []))
    (sound : IsSound t) where
  reads_accepted : (answer : PairOutcome) → IsPastPairTable answer ⊎ (answer ≡ outcome.NoMemory) → ReadsPairTable old new answer
  reads_accepted answer either = record {
    refused_taken = λ row f e. absurd (not_refused answer row f either e);
    refused = λ row f bytes e told. absurd (not_refused answer row f either e);
    refused_always = λ row f bytes told refused.
        absurd (not_both read.0 row f read.1
        (subst (λ (x : List ℕ). IsTableRefused x row f) (taken_is_all old new read.0 bytes read.3 end told) refused));
    refused_at_end = λ row f bytes e told few. absurd (not_refused answer row f either e);
    accepted_at_end = λ past. end;
    fault_within_limit = λ e. absurd (not_failed answer either e);
  }

  told_table : (bytes : List ℕ) → old ≡ Some bytes → IsAccepted bytes × (t ≡ table_in bytes)
  told_table bytes told =
      let all = taken_is_all old new read.0 bytes read.3 end told in
      (subst IsAccepted (sym all) read.1, read.2 ∙ ap table_in (sym all))

  -- a recording by it
  pub runs_accepted : (before now : ℕ) (tells : Tells) (p q : Pair) (answer : PairOutcome)
      → TakesAtMost (most_table_bytes + piece_bytes) old new → now ≡ before
      → IsPastPairTable answer ⊎ (answer ≡ outcome.NoMemory)
      → RecordsPair t
      (record { rest_before = old; rest_now = new; table_before = before; table_now = now; tells = tells; old = p; new = q; answer = answer })
      → (answer ≡ outcome.NoMemory → OnlyLooksAtPair tells p q answer) → CountsBoth p q
      → RunsPair (record { rest_before = old; rest_now = new; table_before = before; table_now = now; tells = tells; old = p; new = q; answer = answer })
  runs_accepted before now tells p q answer bounded quiet either records memory counts = record {
    table = reads_accepted answer either;
    bounded = bounded;
    table_cause = λ e. absurd (not_failed answer either e);
    no_table_fault = λ not. quiet;
    counts = counts;
    before = λ early. absurd (not_before answer either early);
    records = λ past. (t, told_table, sound, records);
    memory = memory;
    complete = λ whole faultless not.
        let here = told_table whole.0 whole.1 in
        records.complete (subst (λ (x : TableRows). IsWholePair x tells p) (sym here.1) whole.3) faultless;
  }

-- the same recording, whatever is said of the source of its table
pub records_by : (t : TableRows) (rest left after : Option (List ℕ)) (faults before now : ℕ) (tells : Tells) (p q : Pair) (answer : PairOutcome)
    → RecordsPair t
    (record { rest_before = rest; rest_now = rest; table_before = faults; table_now = faults; tells = tells; old = p; new = q; answer = answer })
    → RecordsPair t
    (record { rest_before = left; rest_now = after; table_before = before; table_now = now; tells = tells; old = p; new = q; answer = answer })
records_by t rest left after faults before now tells p q answer records = record {
  pulled = records.pulled;
  pulls = records.pulls;
  time = records.time;
  keeps = records.keeps;
  ends = records.ends;
  headers = records.headers;
  runs = records.runs;
  leaves = records.leaves;
  causes = records.causes;
  lives = records.lives;
  complete = records.complete;
}

-- ---- a table that wasn't loaded

answer_of : Option (ℕ × TableFault) → PairOutcome
answer_of None = outcome.NoMemory
answer_of (Some at) = outcome.TableRefused at.0 at.1

-- bytes are refused for one fault
one_refusal : (bytes : List ℕ) (r row : ℕ) (y x : TableFault) → IsTableRefused bytes r y → IsTableRefused bytes row x
    → outcome.TableRefused r y ≡ outcome.TableRefused row x
unfolding answer_of
one_refusal bytes r row y x one two =
    let same : ◌≡◌ {A = Option (ℕ × TableFault)} (Some (r, y)) (Some (row, x)) = sym one ∙ two in
    ap answer_of same

-- The table wasn't read, or was refused, and nothing else was done.
module _ {R : Type 0} (old new : Option (List ℕ)) (before now : ℕ) (f : LoadFault)
    (refused : (row : ℕ) (x : TableFault) → ◌≡◌ {A = Result R LoadFault} (Err f) (Err (load.Refused row x))
    → (bytes : List ℕ) × IsTableRefused bytes row x × (old ≡ preceded_by bytes new)
    × (length bytes ≤ most_table_bytes → IfSome new (λ left. left ≡ [])) × (length bytes ≤ most_table_bytes + piece_bytes))
    (fault : ◌≡◌ {A = Result R LoadFault} (Err f) (Err load.Failed) → Rose before now)
    (quiet : ◌≢◌ {A = Result R LoadFault} (Err f) (Err load.Failed) → now ≡ before)
    (within : ◌≡◌ {A = Result R LoadFault} (Err f) (Err load.Failed)
    → (bytes : List ℕ) × (length bytes ≤ most_table_bytes) × (old ≡ preceded_by bytes new)) where
  refused_rows : (row : ℕ) (x : TableFault) → table_refusal_of f ≡ outcome.TableRefused row x
      → (bytes : List ℕ) × IsTableRefused bytes row x × (old ≡ preceded_by bytes new)
      × (length bytes ≤ most_table_bytes → IfSome new (λ left. left ≡ [])) × (length bytes ≤ most_table_bytes + piece_bytes)
  refused_rows row x e = refused row x (ap Err (was_refused f row x e))

  told_as_refused : (row : ℕ) (x : TableFault) (bytes : List ℕ) → table_refusal_of f ≡ outcome.TableRefused row x → old ≡ Some bytes
      → IsTableRefused bytes row x
  told_as_refused row x bytes e told = let r = refused_rows row x e in refused_told old new r.0 bytes row x r.1 r.2 r.3 told

  which : (a : LoadFault) → f ≡ a → ((row : ℕ) (x : TableFault) (bytes : List ℕ) → old ≡ Some bytes → IsTableRefused bytes row x
      → ((table_refusal_of a ≡ outcome.TableRefused row x) ⊎ (table_refusal_of a ≡ outcome.ReadFault input.Table))
      ⊎ (table_refusal_of a ≡ outcome.NoMemory))
  which (load.Refused r y) is row x bytes told wrong = inl (inl (one_refusal bytes r row y x (told_as_refused r y bytes (ap table_refusal_of is) told) wrong))
  which load.Failed is row x bytes told wrong = inl (inr refl)
  which load.NoMemory is row x bytes told wrong = inr refl

  reads_refused : ReadsPairTable old new (table_refusal_of f)
  reads_refused = record {
    refused_taken = λ row x e. let r = refused_rows row x e in (r.0, r.1, r.2, r.4);
    refused = told_as_refused;
    refused_always = which f refl;
    refused_at_end = λ row x bytes e told few. let r = refused_rows row x e in taken_to_end old new r.0 bytes r.2 r.3 told few;
    accepted_at_end = λ past. absurd (refusal_not_past f past);
    fault_within_limit = λ e. within (ap Err (was_failed f e));
  }

  -- where all was there, memory ended
  memory_left : (a : LoadFault) → f ≡ a → (bytes : List ℕ) → old ≡ Some bytes → IsAccepted bytes → (Rose before now → ⊥)
      → (table_refusal_of a ≡ outcome.Done) ⊎ (table_refusal_of a ≡ outcome.NoMemory)
  memory_left (load.Refused row x) is bytes told accepted not =
      absurd (not_both bytes row x accepted (told_as_refused row x bytes (ap table_refusal_of is) told))
  memory_left load.Failed is bytes told accepted not = absurd (not (fault (ap Err is)))
  memory_left load.NoMemory is bytes told accepted not = inr refl

  pub runs_refused : (tells : Tells) (p : Pair) → TakesAtMost (most_table_bytes + piece_bytes) old new → IsSoundPair tells p
      → RunsPair (record {
        rest_before = old;
        rest_now = new;
        table_before = before;
        table_now = now;
        tells = tells;
        old = p;
        new = p;
        answer = table_refusal_of f;
      })
  runs_refused tells p bounded sound = record {
    table = reads_refused;
    bounded = bounded;
    table_cause = λ e. fault (ap Err (was_failed f e));
    no_table_fault = λ not. quiet (λ e. not (failed_answer e));
    counts = counted_here p;
    before = λ early. (only_looks_here tells p (table_refusal_of f) sound, record { first = refl; second = refl });
    records = λ past. absurd (refusal_not_past f past);
    memory = λ e. only_looks_here tells p (table_refusal_of f) sound;
    complete = λ whole faultless not. memory_left f refl whole.0 whole.1 whole.2 not;
  }
    where
      failed_answer : ◌≡◌ {A = Result R LoadFault} (Err f) (Err load.Failed) → table_refusal_of f ≡ outcome.ReadFault input.Table
      failed_answer e = let same : f ≡ load.Failed = cc in ap table_refusal_of same

-- ---- memory ended before the table was read

pub runs_unread : (rest : Option (List ℕ)) (faults : ℕ) (tells : Tells) (p : Pair) → IsSoundPair tells p
    → RunsPair (record {
      rest_before = rest;
      rest_now = rest;
      table_before = faults;
      table_now = faults;
      tells = tells;
      old = p;
      new = p;
      answer = outcome.NoMemory;
    })
runs_unread rest faults tells p sound = record {
  table = record {
    refused_taken = λ row f e. absurd (cc);
    refused = λ row f bytes e told. absurd (cc);
    refused_always = λ row f bytes told refused. inr refl;
    refused_at_end = λ row f bytes e told few. absurd (cc);
    accepted_at_end = λ past. absurd past;
    fault_within_limit = λ e. absurd (cc);
  };
  bounded = ([], omega arith, preceded_none rest);
  table_cause = λ e. absurd (cc);
  no_table_fault = λ not. refl;
  counts = counted_here p;
  before = λ early. absurd early;
  records = λ past. absurd past;
  memory = λ e. only_looks_here tells p outcome.NoMemory sound;
  complete = λ whole faultless not. inr refl;
}
