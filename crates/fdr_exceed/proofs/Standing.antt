-- A watch represents the steps that were given and the lines that were taken.
use Rattle.std.proofs.Common.{◌≡◌, ◌∙◌, ap, sym, refl, subst, ℕ, ◌+◌, ◌<◌, ◌≤◌, List, [], ◌∷◌, ◌++◌, length, map, drop, Option, Some, None, arith}
use Rattle.std.proofs.Common.{length-append, length-drop}
use Rattle.std.specs.Prelude.{All, slice_get, option_map}
use Rattle.std.specs.Option.{option_to_list}
use Rattle.std.proofs.Math.Seq.{drop-append_seam}
use Rattle.std.proofs.lemmas.List.{drop-drop}
use Rattle.std.proofs.lemmas.Option.{get_or_from_slice_get, slice_get_within}
use Rattle.std.proofs.lemmas.List.Elements.{All-drop}
use Rattle.circular_buffer.specs.Buffer.{Buffer, buffer}
use Rattle.circular_buffer.proofs.Places.{slice_get-drop}
use Rattle.fdr_exceed.specs.declared.rule.Rule.{Rule}
use Rattle.fdr_exceed.specs.declared.hits.Hits.{Hits}
use Rattle.fdr_exceed.specs.declared.watch.Exceedance.{Exceedance}
use Rattle.fdr_exceed.specs.Exceedances.{WatchStep, exceedances}
use Rattle.fdr_exceed.specs.Watching.{AreHits, AreWindows, IsWatchKept, RepresentsWatch, WatchKept, line_due, due_to}
use Rattle.fdr_exceed.proofs.Stepping.{due-lines, exceedances-push, lines_of_step}

kept_hits : (w next : WatchKept) (steps : List WatchStep) → next.rules ≡ w.rules → next.hits ≡ w.hits → AreHits w.rules steps w.hits
    → AreHits next.rules steps next.hits
kept_hits w next steps rules hits are =
    subst (λ (rs : List Rule). AreHits rs steps next.hits) (sym rules) (subst (AreHits w.rules steps) (sym hits) are)

kept_windows : (w next : WatchKept) (steps : List WatchStep) → next.rules ≡ w.rules → next.windows ≡ w.windows → next.sources ≡ w.sources
    → AreWindows w.rules w.sources steps w.windows → AreWindows next.rules next.sources steps next.windows
kept_windows w next steps rules windows sources are =
    subst (λ (rs : List Rule). AreWindows rs next.sources steps next.windows) (sym rules)
    (subst (λ (xs : List ℕ). AreWindows w.rules xs steps next.windows) (sym sources) (subst (AreWindows w.rules w.sources steps) (sym windows) are))

no_exceedances : (rules : List Rule) → exceedances rules [] ≡ []
unfolding exceedances
no_exceedances rules = refl

-- before the first step
pub stands-first : (w : WatchKept) → AreHits w.rules [] w.hits → AreWindows w.rules w.sources [] w.windows → w.due ≡ [] → RepresentsWatch w [] 0
stands-first w hits windows due = record {
  hits = hits;
  windows = windows;
  due = ap (map (line_due w.rules)) due ∙ sym (no_exceedances w.rules);
  within = omega arith;
}

all_taken : (lines : List (List ℕ)) (taken : ℕ) → [] ≡ drop taken lines → taken ≤ length lines → taken ≡ length lines
all_taken lines taken nothing within =
    let none : length (drop taken lines) ≡ 0 = ap (length {A = List ℕ}) (sym nothing) in
    omega (arith, length-drop taken lines, none, within)

-- a step more, where no line was due
pub stands-step : (w next : WatchKept) (steps : List WatchStep) (s : WatchStep) (taken : ℕ) → RepresentsWatch w steps taken → w.due ≡ []
    → next.rules ≡ w.rules → next.sources ≡ w.sources
    → AreHits w.rules (steps ++ s ∷ []) next.hits → AreWindows w.rules w.sources (steps ++ s ∷ []) next.windows
    → next.due ≡ due_to w.rules steps s (length w.rules) → RepresentsWatch next (steps ++ s ∷ []) taken
stands-step w next steps s taken stands nothing rules sources hits windows due =
    let before = exceedances w.rules steps in
    let lines = lines_of_step w.rules steps s in
    let all : exceedances next.rules (steps ++ s ∷ []) ≡ before ++ lines =
    ap (λ (rs : List Rule). exceedances rs (steps ++ s ∷ [])) rules ∙ exceedances-push w.rules steps s in
    let count : taken ≡ length before = all_taken before taken (ap (map (line_due w.rules)) (sym nothing) ∙ stands.due) stands.within in
    record {
      hits = subst (λ (rs : List Rule). AreHits rs (steps ++ s ∷ []) next.hits) (sym rules) hits;
      windows = subst (λ (rs : List Rule). AreWindows rs next.sources (steps ++ s ∷ []) next.windows) (sym rules)
          (subst (λ (xs : List ℕ). AreWindows w.rules xs (steps ++ s ∷ []) next.windows) (sym sources) windows);
      due = ap (λ (rs : List Rule). map (line_due rs) next.due) rules ∙ ap (map (line_due w.rules)) due ∙ due-lines w.rules steps s
          ∙ sym (ap (drop taken) all ∙ ap (λ n. drop n (before ++ lines)) count ∙ drop-append_seam before lines);
      within = omega (arith, count, ap (length {A = List ℕ}) all, length-append before lines);
    }

-- the line that comes next is the first of those that weren't taken
first_left : (lines : List (List ℕ)) (taken : ℕ) → slice_get (drop taken lines) 0 ≡ slice_get lines taken
first_left lines taken = slice_get-drop taken lines 0 taken (omega arith)

-- what a watch has taken once more
pub record TakesInput (w next : WatchKept) (steps : List WatchStep) (taken : ℕ) (line : Option (List ℕ)) : Type 0 where
  pub here : line ≡ slice_get (exceedances w.rules steps) taken
  pub stands : RepresentsWatch next steps (taken + length (option_to_list line))

takes_by : (w next : WatchKept) (steps : List WatchStep) (taken : ℕ) (due : List Exceedance) → RepresentsWatch w steps taken → w.due ≡ due
    → next.rules ≡ w.rules
    → next.hits ≡ w.hits → next.windows ≡ w.windows → next.sources ≡ w.sources → next.due ≡ drop 1 due
    → TakesInput w next steps taken (option_map (line_due w.rules) (slice_get due 0))
takes_by w next steps taken [] stands due_is rules hits windows sources left =
    let lines = exceedances w.rules steps in
    let nothing : drop taken lines ≡ [] = sym stands.due ∙ ap (map (line_due w.rules)) due_is in
    let same : taken + length (option_to_list {X = List ℕ} None) ≡ taken = omega arith in
    record {
      here = sym (ap (λ (xs : List (List ℕ)). slice_get xs 0) nothing) ∙ first_left lines taken;
      stands = subst (RepresentsWatch next steps) (sym same) (record {
        hits = kept_hits w next steps rules hits stands.hits;
        windows = kept_windows w next steps rules windows sources stands.windows;
        due = ap (λ (rs : List Rule). map (line_due rs) next.due) rules ∙ ap (map (line_due w.rules)) left ∙ sym nothing
            ∙ ap (λ (rs : List Rule). drop taken (exceedances rs steps)) (sym rules);
        within = subst (λ (rs : List Rule). taken ≤ length (exceedances rs steps)) (sym rules) stands.within;
      });
    }
takes_by w next steps taken (e ∷ rest) stands due_is rules hits windows sources left =
    let lines = exceedances w.rules steps in
    let some : drop taken lines ≡ line_due w.rules e ∷ map (line_due w.rules) rest = sym stands.due ∙ ap (map (line_due w.rules)) due_is in
    let more : length (drop taken lines) ≡ 1 + length (map (line_due w.rules) rest) = omega (arith, ap (length {A = List ℕ}) some) in
    record {
      here = sym (ap (λ (xs : List (List ℕ)). slice_get xs 0) some) ∙ first_left lines taken;
      stands = record {
        hits = kept_hits w next steps rules hits stands.hits;
        windows = kept_windows w next steps rules windows sources stands.windows;
        due = ap (λ (rs : List Rule). map (line_due rs) next.due) rules ∙ ap (map (line_due w.rules)) left
            ∙ sym (ap (drop 1) some) ∙ drop-drop 1 taken lines
            ∙ ap (λ (rs : List Rule). drop (taken + 1) (exceedances rs steps)) (sym rules);
        within = subst (λ (rs : List Rule). taken + 1 ≤ length (exceedances rs steps)) (sym rules) (omega (arith, length-drop taken lines, more));
      };
    }

-- the line of the first exceedance that is due is taken
pub stands-take : (w next : WatchKept) (steps : List WatchStep) (taken : ℕ) → RepresentsWatch w steps taken → next.rules ≡ w.rules
    → next.hits ≡ w.hits → next.windows ≡ w.windows → next.sources ≡ w.sources → next.due ≡ drop 1 w.due
    → TakesInput w next steps taken (option_map (line_due w.rules) (slice_get w.due 0))
stands-take w next steps taken stands rules hits windows sources left = takes_by w next steps taken w.due stands refl rules hits windows sources left

pub due-first : (n : ℕ) (due : List Exceedance) (e : Exceedance) → All (λ (x : Exceedance). x.rule < n) due → slice_get due 0 ≡ Some e → e.rule < n
due-first n due e inside first =
    let within = slice_get_within due 0 e first in
    subst (λ (x : Exceedance). x.rule < n) (get_or_from_slice_get due 0 e e first) (inside 0 e within)

-- a step that was given to all rules, where no line was due
pub stands-given : (w next : WatchKept) (rules : List Rule) (hits later : List Hits) (due : List Exceedance) (steps : List WatchStep) (s : WatchStep)
    (taken : ℕ)
    → RepresentsWatch w steps taken → w.due ≡ [] → rules ≡ w.rules → hits ≡ w.hits → next.rules ≡ w.rules → next.sources ≡ w.sources
    → AreWindows w.rules w.sources (steps ++ s ∷ []) next.windows → next.hits ≡ later → next.due ≡ due
    → (AreHits rules steps hits → AreHits rules (steps ++ s ∷ []) later) → (AreHits rules steps hits → due ≡ due_to rules steps s (length rules))
    → RepresentsWatch next (steps ++ s ∷ []) taken
stands-given w next rules hits later due steps s taken stands nothing rules_is hits_is next_rules next_sources next_windows next_hits next_due goes ends =
    let are : AreHits rules steps hits = subst (λ (rs : List Rule). AreHits rs steps hits) (sym rules_is) (subst (AreHits w.rules steps)
    (sym hits_is) stands.hits) in
    stands-step w next steps s taken stands nothing next_rules next_sources
    (subst (AreHits w.rules (steps ++ s ∷ [])) (sym next_hits) (subst (λ (rs : List Rule). AreHits rs (steps ++ s ∷ []) later) rules_is (goes are)))
    next_windows
    (next_due ∙ ends are ∙ ap (λ (rs : List Rule). due_to rs steps s (length rs)) rules_is)

-- nothing was due, and nothing is
pub due-empty : (due : List Exceedance) → slice_get due 0 ≡ None → due ≡ []
due-empty [] none = refl
due-empty (e ∷ due) none = absurd (cc)

pub due-none : (due left : List Exceedance) → slice_get due 0 ≡ None → left ≡ drop 1 due → left ≡ []
due-none due left none is = is ∙ ap (drop 1) (due-empty due none)

-- the first of those that are due was taken
pub due-one-less : (due left : List Exceedance) (e : Exceedance) → slice_get due 0 ≡ Some e → left ≡ drop 1 due → length left + 1 ≡ length due
due-one-less due left e first is = omega (arith, slice_get_within due 0 e first, ap (length {A = Exceedance}) is, length-drop 1 due)

-- what holds of a watch still holds with fewer due
pub kept-less : (w : WatchKept) (capacity : ℕ) (first_of next_of : List ℕ) (due : Buffer Exceedance) → IsWatchKept w capacity first_of next_of
    → due ≡ buffer (drop 1 w.due) capacity
    → IsWatchKept (record { rules = w.rules; hits = w.hits; windows = w.windows; sources = w.sources; due = due.items; rows = w.rows }) due.capacity first_of
    next_of
kept-less w capacity first_of next_of due kept is = record {
  rules = kept.rules;
  hits = kept.hits;
  windows = kept.windows;
  sources = kept.sources;
  first = kept.first;
  next = kept.next;
  room = ap (λ (b : Buffer Exceedance). b.capacity) is ∙ kept.room;
  due = subst (All (λ (e : Exceedance). e.rule < length w.rules)) (sym (ap (λ (b : Buffer Exceedance). b.items) is))
      (All-drop (λ (e : Exceedance). e.rule < length w.rules) 1 w.due kept.due);
  short = kept.short;
}
