-- Lines that are taken of a watch, one after another.
use Rattle.std.proofs.Common.{◌≡◌, ℕ, suc, ◌+◌, ◌^◌, ◌≤◌, List, [], ◌∷◌, ◌++◌, length, map, take, drop, Option, Some, ap, sym, ◌∙◌, subst, arith}
use Rattle.std.proofs.Common.{append-nil, append_assoc, length-append, length-drop, add-zero, take-append-drop}
use Rattle.std.specs.Prelude.{slice_get, Result, Ok, Err, OnOk, OnErr}
use Rattle.std.proofs.lemmas.List.{take_all}
use Rattle.std.proofs.lemmas.List.Concat.{flat_map-append}
use Rattle.std.proofs.lemmas.Option.{get_or_from_slice_get, slice_get_within}
use Rattle.std.proofs.Math.Seq.{take-suc, take-append_seam}
use Rattle.fdr_io.specs.Output.{Emits, EmitsPart}
use Rattle.fdr_io.specs.Told.{followed_by}
use Rattle.fdr_io.proofs.Telling.{followed_by-followed_by, followed_by-append-take}
use Rattle.fdr_io.proofs.OutputSteps.{Emits-nil, Emits-then, EmitsPart-then, EmitsPart-longer}
use Rattle.fdr_exceed.specs.Exceedances.{WatchStep, exceedances}
use Rattle.fdr_exceed.specs.Watching.{RepresentsWatch, WatchKept, line_due}
use Rattle.fdr_exceed.specs.declared.rule.Rule.{Rule}
use Rattle.fdr_exceed.proofs.Stepping.{exceedances-push, lines_of_step}
use Rattle.fdr_top.specs.Exceed.{steps_of_entries, text_of_lines}
use Rattle.fdr_readout.specs.Entries.{Entry}
use Rattle.fdr_top.specs.Exceeding.{EndLines, FailsInSteps, GivesSteps, HasTakenLines, TakesEntries, WriterKept, rows_with}

abbrev all_lines : WatchKept → List WatchStep → List (List ℕ)
all_lines w steps = exceedances w.rules steps

-- Of the lines that these steps end some were taken, from one on, and they went out, or wait to.
pub record HasPutLines (written_before written_now : Option (List ℕ)) (waits_before waits_now : List ℕ) (w : WatchKept) (steps : List WatchStep) (taken : ℕ)
    : Type 0 where
  pub lines : List (List ℕ)
  pub stands : RepresentsWatch w steps (taken + length lines)
  pub front : take (taken + length lines) (all_lines w steps) ≡ take taken (all_lines w steps) ++ lines
  pub emits : Emits written_before written_now waits_before waits_now (text_of_lines lines)

pub put_none : (written : Option (List ℕ)) (waits : List ℕ) (w : WatchKept) (steps : List WatchStep) (taken : ℕ) → RepresentsWatch w steps taken
    → HasPutLines written written waits waits w steps taken
put_none written waits w steps taken stands = record {
  lines = [];
  stands = subst (RepresentsWatch w steps) (sym (add-zero taken)) stands;
  front = ap (λ n. take n (all_lines w steps)) (add-zero taken) ∙ sym (append-nil (take taken (all_lines w steps)));
  emits = Emits-nil written waits;
}

take_next : (xs : List (List ℕ)) (i : ℕ) (x : List ℕ) → slice_get xs i ≡ Some x → take (suc i) xs ≡ take i xs ++ x ∷ []
take_next xs i x is =
    take-suc xs i x (slice_get_within xs i x is) ∙ ap (λ (y : List ℕ). take i xs ++ y ∷ []) (get_or_from_slice_get xs i x x is)

text_one : (lines : List (List ℕ)) (line : List ℕ) → text_of_lines (lines ++ line ∷ []) ≡ text_of_lines lines ++ line
text_one lines line =
    flat_map-append (λ (l : List ℕ). l) lines (line ∷ []) ∙ ap (λ (l : List ℕ). text_of_lines lines ++ l) (append-nil line)

-- one line more
module _ (o p q : Option (List ℕ)) (u v x : List ℕ) (w : WatchKept) (steps : List WatchStep) (taken : ℕ) (line : List ℕ)
    (had : HasPutLines o p u v w steps taken) (next_line : slice_get (all_lines w steps) (taken + length had.lines) ≡ Some line) where
  longer : taken + length (had.lines ++ line ∷ []) ≡ suc (taken + length had.lines)
  longer = omega (arith, length-append had.lines (line ∷ []))

  front_more : take (taken + length (had.lines ++ line ∷ [])) (all_lines w steps) ≡ take taken (all_lines w steps) ++ (had.lines ++ line ∷ [])
  front_more =
      ap (λ n. take n (all_lines w steps)) longer ∙ take_next (all_lines w steps) (taken + length had.lines) line next_line
      ∙ ap (λ (ls : List (List ℕ)). ls ++ line ∷ []) had.front ∙ append_assoc (take taken (all_lines w steps)) had.lines (line ∷ [])

  pub put_one : (next : WatchKept) → next.rules ≡ w.rules → RepresentsWatch next steps (taken + length had.lines + 1) → Emits p q v x line
      → HasPutLines o q u x next steps taken
  put_one next rules stands emits = record {
    lines = had.lines ++ line ∷ [];
    stands = subst (RepresentsWatch next steps) (omega (arith, longer)) stands;
    front = subst (λ (rs : List Rule). take (taken + length (had.lines ++ line ∷ [])) (exceedances rs steps)
        ≡ take taken (exceedances rs steps) ++ (had.lines ++ line ∷ [])) (sym rules) front_more;
    emits = subst (Emits o q u x) (sym (text_one had.lines line)) (Emits-then o p q u v x (text_of_lines had.lines) line had.emits emits);
  }

  -- or it failed
  abbrev rest : List (List ℕ)
  rest = drop (taken + length (had.lines ++ line ∷ [])) (all_lines w steps)

  pub put_failed : EmitsPart p q v line → (lines : List (List ℕ))
      × (all_lines w steps ≡ take taken (all_lines w steps) ++ lines) × EmitsPart o q u (text_of_lines lines)
  put_failed part = (
    (had.lines ++ line ∷ []) ++ rest,
    sym (take-append-drop (taken + length (had.lines ++ line ∷ [])) (all_lines w steps))
        ∙ ap (λ (ls : List (List ℕ)). ls ++ rest) front_more ∙ append_assoc (take taken (all_lines w steps)) (had.lines ++ line ∷ []) rest,
    subst (EmitsPart o q u) (sym (flat_map-append (λ (l : List ℕ). l) (had.lines ++ line ∷ []) rest))
        (EmitsPart-longer o q u (text_of_lines (had.lines ++ line ∷ [])) (text_of_lines rest)
        (subst (EmitsPart o q u) (sym (text_one had.lines line)) (EmitsPart-then o p q u v (text_of_lines had.lines) line had.emits part))),
  )

-- no line was left
pub put_last : (o p : Option (List ℕ)) (u v : List ℕ) (w next : WatchKept) (steps : List WatchStep) (taken : ℕ) → (had : HasPutLines o p u v w steps taken)
    → next.rules ≡ w.rules → RepresentsWatch next steps (taken + length had.lines + 0) → HasPutLines o p u v next steps taken
put_last o p u v w next steps taken had rules stands = record {
  lines = had.lines;
  stands = subst (RepresentsWatch next steps) (add-zero (taken + length had.lines)) stands;
  front = subst (λ (rs : List Rule). take (taken + length had.lines) (exceedances rs steps) ≡ take taken (exceedances rs steps) ++ had.lines) (sym rules)
      had.front;
  emits = had.emits;
}

-- all of them
all_counted : (w : WatchKept) (steps : List WatchStep) (n : ℕ) → RepresentsWatch w steps n → w.due ≡ [] → n ≡ length (all_lines w steps)
all_counted w steps n stands nothing =
    let none : length (drop n (all_lines w steps)) ≡ 0 =
    ap (length {A = List ℕ}) (sym stands.due ∙ ap (map (line_due w.rules)) nothing) in
    omega (arith, length-drop n (all_lines w steps), none, stands.within)

module _ (o p : Option (List ℕ)) (u v : List ℕ) (w : WatchKept) (steps : List WatchStep) (taken : ℕ) (had : HasPutLines o p u v w steps taken)
    (nothing : w.due ≡ []) where
  pub put_stands : HasTakenLines w steps
  put_stands =
      let n : taken + length had.lines ≡ length (all_lines w steps) = all_counted w steps (taken + length had.lines) had.stands nothing in
      subst (RepresentsWatch w steps) n had.stands

  pub put_all : all_lines w steps ≡ take taken (all_lines w steps) ++ had.lines
  put_all =
      let n : taken + length had.lines ≡ length (all_lines w steps) = all_counted w steps (taken + length had.lines) had.stands nothing in
      sym (take_all (taken + length had.lines) (all_lines w steps) (omega (arith, n))) ∙ had.front

-- the lines behind those that were taken before a step are those that the step ends
pub lines_behind : (rules : List Rule) (steps : List WatchStep) (s : WatchStep) (lines : List (List ℕ))
    → exceedances rules (steps ++ s ∷ []) ≡ take (length (exceedances rules steps)) (exceedances rules (steps ++ s ∷ [])) ++ lines
    → EndLines rules steps (s ∷ []) lines
lines_behind rules steps s lines all =
    let before = exceedances rules steps in
    let first : take (length before) (exceedances rules (steps ++ s ∷ [])) ≡ before =
    ap (take (length before)) (exceedances-push rules steps s) ∙ take-append_seam before (lines_of_step rules steps s) in
    all ∙ ap (λ (ls : List (List ℕ)). ls ++ lines) first

-- ---- a step that was given

pub step_given : (o p : Option (List ℕ)) (a now : WriterKept) (rules : List Rule) (steps : List WatchStep) (s : WatchStep) (lines : List (List ℕ))
    → rules ≡ a.watch.rules
    → exceedances rules (steps ++ s ∷ []) ≡ take (length (exceedances a.watch.rules steps)) (exceedances rules (steps ++ s ∷ [])) ++ lines
    → HasTakenLines now.watch (steps ++ s ∷ []) → Emits o p a.waits now.waits (text_of_lines lines) → GivesSteps o p a now steps (s ∷ [])
step_given o p a now rules steps s lines same all stands emits = record {
  lines = lines;
  ended = lines_behind a.watch.rules steps s lines (subst (λ (rs : List Rule). exceedances rs (steps ++ s ∷ [])
      ≡ take (length (exceedances a.watch.rules steps)) (exceedances rs (steps ++ s ∷ [])) ++ lines) same all);
  all = stands;
  emits = emits;
}

pub step_failed : (o p : Option (List ℕ)) (a : WriterKept) (rules : List Rule) (steps : List WatchStep) (s : WatchStep) (lines : List (List ℕ))
    → rules ≡ a.watch.rules
    → exceedances rules (steps ++ s ∷ []) ≡ take (length (exceedances a.watch.rules steps)) (exceedances rules (steps ++ s ∷ [])) ++ lines
    → EmitsPart o p a.waits (text_of_lines lines) → FailsInSteps o p a steps (s ∷ [])
step_failed o p a rules steps s lines same all emits = record {
  lines = lines;
  ended = lines_behind a.watch.rules steps s lines (subst (λ (rs : List Rule). exceedances rs (steps ++ s ∷ [])
      ≡ take (length (exceedances a.watch.rules steps)) (exceedances rs (steps ++ s ∷ [])) ++ lines) same all);
  emits = emits;
}

-- ---- what waits goes out

pub written_after : (a b c : Option (List ℕ)) (u w text : List ℕ) → Emits a b u w text → c ≡ followed_by b w → c ≡ followed_by a (u ++ text)
written_after a b c u w text emits last =
    last ∙ ap (λ told. followed_by told w) emits.written ∙ followed_by-followed_by a emits.gone w ∙ ap (followed_by a) emits.waits

pub part_after : (a b c : Option (List ℕ)) (u w text : List ℕ) (k : ℕ) → Emits a b u w text → c ≡ followed_by b (take k w) → EmitsPart a c u text
part_after a b c u w text k emits last = record {
  count = length emits.gone + k;
  written = last ∙ ap (λ told. followed_by told (take k w)) emits.written ∙ followed_by-append-take a emits.gone w k
      ∙ ap (λ (x : List ℕ). followed_by a (take (length emits.gone + k) x)) emits.waits;
}

-- ---- where a call went well, or failed

-- what holds of all holds where it went well
pub each_ok : {T E A : Type 0} (P Q : A → Type 0) (r : Result T E) → ((x : A) → P x → OnOk r (Q x)) → OnOk r ((x : A) → P x → Q x)
each_ok P Q (Ok v) holds = holds
each_ok P Q (Err e) holds = tt

pub each_err : {T E A : Type 0} (P Q : A → Type 0) (r : Result T E) → ((x : A) → P x → OnErr r (Q x)) → OnErr r ((x : A) → P x → Q x)
each_err P Q (Ok v) holds = tt
each_err P Q (Err e) holds = holds

pub where_ok : {T E : Type 0} (P Q : Type 0) (r : Result T E) → (P → OnOk r Q) → OnOk r (P → Q)
where_ok P Q (Ok v) holds = holds
where_ok P Q (Err e) holds = tt

pub where_err : {T E : Type 0} (P Q : Type 0) (r : Result T E) → (P → OnErr r Q) → OnErr r (P → Q)
where_err P Q (Ok v) holds = tt
where_err P Q (Err e) holds = holds

-- entries whose steps were given
pub entries_given : (o p : Option (List ℕ)) (a b : WriterKept) (entries : List Entry) → b.watch.rules ≡ a.watch.rules
    → (rows_with a entries ≤ 2 ^ 63 → b.watch.rows ≡ rows_with a entries)
    → (rows_with a entries ≤ 2 ^ 63 → (steps : List WatchStep) → HasTakenLines a.watch steps → GivesSteps o p a b steps (steps_of_entries entries))
    → TakesEntries o p a b entries
entries_given o p a b entries rules rows given = record { rules = rules; rows = rows; given = given }
