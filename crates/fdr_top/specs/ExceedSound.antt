-- The taker that watches for exceedances keeps the laws of takers. What makes a type a taker names this, and a contract names
-- nothing of its own crate's proofs/. So it is here, by lemmas of the crates below.
use Rattle.std.proofs.Common.{◌≡◌, ℕ, ◌+◌, List, [], ◌∷◌, ◌++◌, Option, length, sym, ap, refl, ◌∙◌, subst, append_assoc, append-nil, length-append}
use Rattle.std.proofs.Common.{arith}
use Rattle.std.proofs.lemmas.List.Concat.{flat_map-append}
use Rattle.std.proofs.lemmas.List.Elements.{filter_map-append}
use Rattle.fdr_io.specs.Output.{Emits, EmitsPart}
use Rattle.fdr_io.proofs.OutputSteps.{Emits-nil, Emits-then, EmitsPart-then, EmitsPart-longer}
use Rattle.fdr_table.specs.Rows.{TableRows}
use Rattle.fdr_exceed.specs.Exceedances.{WatchStep, exceedances}
use Rattle.fdr_exceed.specs.declared.rule.Rule.{Rule}
use Rattle.fdr_exceed.proofs.Stepping.{exceedances-push, lines_of_step}
use Rattle.fdr_readout.specs.Entries.{Entry, row_of_entry}
use Rattle.fdr_readout.specs.Summary.{rows_among}
use Rattle.fdr_readout.specs.Takers.{TakerLaws}
use Rattle.fdr_top.specs.Exceed.{text_of_lines}
use Rattle.fdr_top.specs.Exceeding.{WriterKept, HasTakenLines, EndLines, GivesSteps, FailsInSteps, TakesEntries, FailsInEntries, rows_with}
use Rattle.fdr_top.specs.Exceed.{entry_steps, steps_of_entries}

-- ---- lines that further steps end

-- no further steps
none_ended : (rules : List Rule) (steps : List WatchStep) → EndLines rules steps [] []
none_ended rules steps = ap (exceedances rules) (append-nil steps) ∙ sym (append-nil (exceedances rules steps))

-- one after another
ended_then : (rules : List Rule) (steps xs ys : List WatchStep) (first second : List (List ℕ)) → EndLines rules steps xs first
    → EndLines rules (steps ++ xs) ys second → EndLines rules steps (xs ++ ys) (first ++ second)
ended_then rules steps xs ys first second one two =
    ap (exceedances rules) (sym (append_assoc steps xs ys)) ∙ two ∙ ap (λ (lines : List (List ℕ)). lines ++ second) one
    ∙ append_assoc (exceedances rules steps) first second

-- further steps end some lines
some_ended : (rules : List Rule) (steps more : List WatchStep) → (lines : List (List ℕ)) × EndLines rules steps more lines
some_ended rules steps [] = ([], none_ended rules steps)
some_ended rules steps (s ∷ more) =
    let rest = some_ended rules (steps ++ s ∷ []) more in
    let here = lines_of_step rules steps s in
    (here ++ rest.0, ended_then rules steps (s ∷ []) more here rest.0 (exceedances-push rules steps s) rest.1)

text_then : (first second : List (List ℕ)) → text_of_lines (first ++ second) ≡ text_of_lines first ++ text_of_lines second
text_then first second = flat_map-append (λ (line : List ℕ). line) first second

steps_then : (xs ys : List Entry) → steps_of_entries (xs ++ ys) ≡ steps_of_entries xs ++ steps_of_entries ys
steps_then xs ys = flat_map-append entry_steps xs ys

rows_then : (a : WriterKept) (xs ys : List Entry) → rows_with a (xs ++ ys) ≡ rows_with a xs + length (rows_among ys)
rows_then a xs ys =
    omega (arith, ap length (filter_map-append row_of_entry xs ys), length-append (rows_among xs) (rows_among ys))

-- ---- steps one after another

gives_none : (written : Option (List ℕ)) (a : WriterKept) (steps : List WatchStep) → HasTakenLines a.watch steps
    → GivesSteps written written a a steps []
gives_none written a steps had = record {
  lines = [];
  ended = none_ended a.watch.rules steps;
  all = subst (HasTakenLines a.watch) (sym (append-nil steps)) had;
  emits = Emits-nil written a.waits;
}

gives_then : (o p q : Option (List ℕ)) (a b c : WriterKept) (steps xs ys : List WatchStep) → b.watch.rules ≡ a.watch.rules
    → GivesSteps o p a b steps xs → GivesSteps p q b c (steps ++ xs) ys → GivesSteps o q a c steps (xs ++ ys)
gives_then o p q a b c steps xs ys rules first second = record {
  lines = first.lines ++ second.lines;
  ended = ended_then a.watch.rules steps xs ys first.lines second.lines first.ended
      (subst (λ (rs : List Rule). EndLines rs (steps ++ xs) ys second.lines) rules second.ended);
  all = subst (HasTakenLines c.watch) (append_assoc steps xs ys) second.all;
  emits = subst (Emits o q a.waits c.waits) (sym (text_then first.lines second.lines))
      (Emits-then o p q a.waits b.waits c.waits (text_of_lines first.lines) (text_of_lines second.lines) first.emits second.emits);
}

-- a fault after steps that were given is a fault in all of them
pub fails_after : (o p q : Option (List ℕ)) (a b : WriterKept) (steps xs ys : List WatchStep) → b.watch.rules ≡ a.watch.rules
    → GivesSteps o p a b steps xs → FailsInSteps p q b (steps ++ xs) ys → FailsInSteps o q a steps (xs ++ ys)
fails_after o p q a b steps xs ys rules first second = record {
  lines = first.lines ++ second.lines;
  ended = ended_then a.watch.rules steps xs ys first.lines second.lines first.ended
      (subst (λ (rs : List Rule). EndLines rs (steps ++ xs) ys second.lines) rules second.ended);
  emits = subst (EmitsPart o q a.waits) (sym (text_then first.lines second.lines))
      (EmitsPart-then o p q a.waits b.waits (text_of_lines first.lines) (text_of_lines second.lines) first.emits second.emits);
}

-- a fault in some steps is one in these and further ones
pub fails_ahead : (o p : Option (List ℕ)) (a : WriterKept) (steps xs ys : List WatchStep) → FailsInSteps o p a steps xs
    → FailsInSteps o p a steps (xs ++ ys)
fails_ahead o p a steps xs ys first =
    let rest = some_ended a.watch.rules (steps ++ xs) ys in
    record {
      lines = first.lines ++ rest.0;
      ended = ended_then a.watch.rules steps xs ys first.lines rest.0 first.ended rest.1;
      emits = subst (EmitsPart o p a.waits) (sym (text_then first.lines rest.0))
          (EmitsPart-longer o p a.waits (text_of_lines first.lines) (text_of_lines rest.0) first.emits);
    }

-- ---- the laws

-- entries of which the watch is given nothing
pub takes_nothing : (written : Option (List ℕ)) (a : WriterKept) (entries : List Entry) → steps_of_entries entries ≡ [] → rows_among entries ≡ []
    → TakesEntries written written a a entries
takes_nothing written a entries steps rows = record {
  rules = refl;
  rows = λ few. omega (arith, ap length rows);
  given = λ few before had. subst (GivesSteps written written a a before) (sym steps) (gives_none written a before had);
}

takes_then : (o p q : Option (List ℕ)) (a b c : WriterKept) (xs ys : List Entry) → TakesEntries o p a b xs → TakesEntries p q b c ys
    → TakesEntries o q a c (xs ++ ys)
takes_then o p q a b c xs ys first second = record {
  rules = second.rules ∙ first.rules;
  rows = λ few.
      let all = rows_then a xs ys in
      let one = first.rows (omega (arith, all, few)) in
      let two = second.rows (omega (arith, all, few, one)) in
      omega (arith, all, one, two);
  given = λ few steps had.
      let all = rows_then a xs ys in
      let one = first.rows (omega (arith, all, few)) in
      let gave = first.given (omega (arith, all, few)) steps had in
      subst (GivesSteps o q a c steps) (sym (steps_then xs ys))
      (gives_then o p q a b c steps (steps_of_entries xs) (steps_of_entries ys) first.rules gave
      (second.given (omega (arith, all, few, one)) (steps ++ steps_of_entries xs) gave.all));
}

takes_fails : (o p q : Option (List ℕ)) (a b : WriterKept) (xs ys : List Entry) → TakesEntries o p a b xs → FailsInEntries p q b ys
    → FailsInEntries o q a (xs ++ ys)
takes_fails o p q a b xs ys first fails = λ few steps had.
    let all = rows_then a xs ys in
    let one = first.rows (omega (arith, all, few)) in
    let gave = first.given (omega (arith, all, few)) steps had in
    subst (FailsInSteps o q a steps) (sym (steps_then xs ys))
    (fails_after o p q a b steps (steps_of_entries xs) (steps_of_entries ys) first.rules gave
    (fails (omega (arith, all, few, one)) (steps ++ steps_of_entries xs) gave.all))

fails_early : (o p : Option (List ℕ)) (a : WriterKept) (xs ys : List Entry) → FailsInEntries o p a xs → FailsInEntries o p a (xs ++ ys)
fails_early o p a xs ys fails = λ few steps had.
    let all = rows_then a xs ys in
    subst (FailsInSteps o p a steps) (sym (steps_then xs ys))
    (fails_ahead o p a steps (steps_of_entries xs) (steps_of_entries ys) (fails (omega (arith, all, few)) steps had))

-- what the taker of exceedances takes and where it fails keep the laws of takers
pub exceed_laws : {O : Type 0} (written : O → Option (List ℕ)) → TakerLaws
    (λ (t : TableRows) (a : WriterKept) (o : O) (b : WriterKept) (p : O) (xs : List Entry). TakesEntries (written o) (written p) a b xs)
    (λ (t : TableRows) (a : WriterKept) (o p : O) (xs : List Entry). FailsInEntries (written o) (written p) a xs)
exceed_laws written = record {
  nothing = λ t a o. takes_nothing (written o) a [] refl refl;
  then = λ t a b c o p q xs ys first second. takes_then (written o) (written p) (written q) a b c xs ys first second;
  fails_then = λ t a b o p q xs ys first fails. takes_fails (written o) (written p) (written q) a b xs ys first fails;
  fails_before = λ t a o p xs ys fails. fails_early (written o) (written p) a xs ys fails;
}
