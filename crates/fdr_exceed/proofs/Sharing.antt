-- The windows of rules, some of which share one.
use Rattle.std.proofs.Common.{◌≡◌, ◌≢◌, ◌∙◌, ap, sym, refl, subst, ℕ, ◌+◌, ◌-◌, ◌<◌, ◌≤◌, ⊎_elim, Bool, true, false, ◌==◌, List, [], ◌∷◌, ◌++◌, length}
use Rattle.std.proofs.Common.{drop, set, Option, Some, None, arith, length-append, length-drop, get_or-set_same, get_or-set_other}
use Rattle.std.specs.Prelude.{ℤ, if◌then◌else◌, slice_index, OnOk}
use Rattle.std.specs.declared.result.Result.{Result}
use Rattle.std.specs.declared.result.Result.TheVariants.{Ok, Err}
use Rattle.std.proofs.lemmas.Bool.{cases_lt}
use Rattle.std.proofs.lemmas.Bool.Decides.{nat_tests}
use Rattle.std.proofs.lemmas.List.{drop-append-le, drop-drop, get_or_append_left}
use Rattle.std.proofs.Math.Seq.{drop-nil, get_or-append_seam}
use Rattle.circular_buffer.specs.Buffer.{Buffer, keep_last}
use Rattle.fdr_recon.specs.declared.Row.{Row}
use Rattle.fdr_exceed.specs.declared.rule.Rule.{Rule}
use Rattle.fdr_exceed.specs.declared.rule.RuleKind.{RuleKind}
use Rattle.fdr_exceed.specs.declared.rule.RuleKind.TheVariants as kind
use Rattle.fdr_exceed.specs.Exceedances.{WatchStep, RowStep, ResetStep, compared, rows_since, values_of}
use Rattle.fdr_exceed.specs.Watching.{AreSources, AreWindows, HasWindow, HaveWindows, IsNextOf, cleared, pushed, rule_at, window_at, windows_given}
use Rattle.fdr_exceed.proofs.HitLists.{values-push}
use Rattle.fdr_exceed.proofs.Stepping.{rows-other, rows-own, rows_since-push}

-- the last values of those that were kept, with one more
kept_more : (n : ℕ) (xs : List ℤ) (v : ℤ) → keep_last n (keep_last n xs ++ v ∷ []) ≡ keep_last n (xs ++ v ∷ [])
kept_more n xs v =
    let k = length xs - n in
    let kept : length (drop k xs) ≡ length xs - k = length-drop k xs in
    let front : drop k (xs ++ v ∷ []) ≡ drop k xs ++ v ∷ [] = drop-append-le k xs (v ∷ []) (omega arith) in
    let sum : k + (length (drop k xs ++ v ∷ []) - n) ≡ length (xs ++ v ∷ []) - n =
    omega (arith, length-append (drop k xs) (v ∷ []), length-append xs (v ∷ []), kept) in
    ap (drop (length (drop k xs ++ v ∷ []) - n)) (sym front) ∙ drop-drop (length (drop k xs ++ v ∷ []) - n) k (xs ++ v ∷ [])
    ∙ ap (λ m. drop m (xs ++ v ∷ [])) sum

window_more : (k : RuleKind) (count : ℕ) (w : Option (Buffer ℤ)) (values : List ℤ) (v : ℤ) → HasWindow k count w values
    → HasWindow k count (pushed v w) (values ++ v ∷ [])
window_more kind.Above count w values v has = tt
window_more kind.Below count w values v has = tt
window_more kind.Change count None values v has = has
window_more kind.Change count (Some w) values v has =
    (has.0, ap (λ n. keep_last n (w.items ++ v ∷ [])) has.0 ∙ ap (λ (xs : List ℤ). keep_last count (xs ++ v ∷ [])) has.1 ∙ kept_more count values v)

not_own : (a b : ℕ) → a ≡ b → (a == b) ≡ false → ⊥
not_own a b same isnt = absurd (grind (arith, nat_tests, same, isnt))

above_no_change : kind.Above ≡ kind.Change → ⊥
above_no_change e = absurd (cc)

below_no_change : kind.Below ≡ kind.Change → ⊥
below_no_change e = absurd (cc)

window_less : (k : RuleKind) (count : ℕ) (w : Option (Buffer ℤ)) (values : List ℤ) → HasWindow k count w values → HasWindow k count (cleared w) []
window_less kind.Above count w values has = tt
window_less kind.Below count w values has = tt
window_less kind.Change count None values has = has
window_less kind.Change count (Some w) values has = (has.0, sym (drop-nil (length {A = ℤ} [] - count)))

-- the end of a stretch
pub windows-reset : (rules : List Rule) (sources : List ℕ) (steps : List WatchStep) (old new : List (Option (Buffer ℤ))) → AreSources rules sources
    → length old ≡ length rules → ((j : ℕ) → j < length old → window_at new j ≡ cleared (window_at old j))
    → AreWindows rules sources steps old → AreWindows rules sources (steps ++ ResetStep ∷ []) new
windows-reset rules sources steps old new are count each had k within =
    let rule = rule_at rules k in
    let j = slice_index sources k in
    let inside : j < length old = omega (arith, within, are.within k within, count) in
    subst (λ (o : Option (Buffer ℤ)). HasWindow rule.kind rule.count o (values_of (rows_since rule (steps ++ ResetStep ∷ [])))) (sym (each j inside))
    (subst (λ (rows : List Row). HasWindow rule.kind rule.count (cleared (window_at old j)) (values_of rows)) (sym (rows_since-push rule steps ResetStep))
    (window_less rule.kind rule.count (window_at old j) (values_of (rows_since rule steps)) (had k within)))

-- and where the windows are behind a reference
pub windows-reset-at : (rules : List Rule) (sources : List ℕ) (steps : List WatchStep) (old olds new : List (Option (Buffer ℤ))) → AreSources rules sources
    → length old ≡ length rules → olds ≡ old → ((j : ℕ) → j < length olds → window_at new j ≡ cleared (window_at olds j))
    → AreWindows rules sources steps old → AreWindows rules sources (steps ++ ResetStep ∷ []) new
windows-reset-at rules sources steps old olds new are count olds_is each =
    windows-reset rules sources steps old new are count
    (subst (λ (ws : List (Option (Buffer ℤ))). (j : ℕ) → j < length ws → window_at new j ≡ cleared (window_at ws j)) olds_is each)

-- the windows of the steps, behind references
pub windows-behind : (rules rs : List Rule) (sources ss : List ℕ) (steps : List WatchStep) (windows ws : List (Option (Buffer ℤ))) → rs ≡ rules → ss ≡ sources
    → ws ≡ windows → AreWindows rules sources steps windows → AreWindows rs ss steps ws
windows-behind rules rs sources ss steps windows ws rs_is ss_is ws_is are =
    subst (λ (q : List Rule). AreWindows q ss steps ws) (sym rs_is)
    (subst (λ (q : List ℕ). AreWindows rules q steps ws) (sym ss_is) (subst (AreWindows rules sources steps) (sym ws_is) are))

pub windows-ahead : (rules rs : List Rule) (sources ss : List ℕ) (steps : List WatchStep) (windows : List (Option (Buffer ℤ))) → rs ≡ rules → ss ≡ sources
    → AreWindows rs ss steps windows → AreWindows rules sources steps windows
windows-ahead rules rs sources ss steps windows rs_is ss_is are =
    subst (λ (q : List Rule). AreWindows q sources steps windows) rs_is (subst (λ (q : List ℕ). AreWindows rs q steps windows) ss_is are)

-- ---- a row given to the rules of its parameter one after another

-- The windows of those of the first n rules that have one of their own took the row, where it is one of theirs.
pub record ArePushed (rules : List Rule) (sources : List ℕ) (r : Row) (n : ℕ) (first now : List (Option (Buffer ℤ))) : Type 0 where
  pub done : (j : ℕ) → j < n → (rule_at rules j).kind ≡ kind.Change → slice_index sources j ≡ j → (rule_at rules j).param ≡ r.param
      → window_at now j ≡ pushed r.value (window_at first j)
  pub other : (j : ℕ) → (rule_at rules j).param ≢ r.param → window_at now j ≡ window_at first j
  pub rest : (j : ℕ) → n ≤ j → window_at now j ≡ window_at first j

pub none-pushed : (rules : List Rule) (sources : List ℕ) (r : Row) (first : List (Option (Buffer ℤ))) → ArePushed rules sources r 0 first first
none-pushed rules sources r first = record { done = λ j low k own p. absurd (omega arith); other = λ j p. refl; rest = λ j low. refl }

-- the windows stay as they are
same_pushed : (rules : List Rule) (sources : List ℕ) (r : Row) (i : ℕ) (first now : List (Option (Buffer ℤ))) → ArePushed rules sources r i first now
    → ((rule_at rules i).kind ≡ kind.Change → slice_index sources i ≡ i → ⊥) → ArePushed rules sources r (i + 1) first now
same_pushed rules sources r i first now had none = record {
  done = λ j low k own p. ⊎_elim
      (λ before. had.done j before k own p)
      (λ here. let same : j ≡ i = omega arith in
      absurd (none (ap (λ m. (rule_at rules m).kind) (sym same) ∙ k) (ap (slice_index sources) (sym same) ∙ own ∙ same)))
      (cases_lt j i);
  other = had.other;
  rest = λ j low. had.rest j (omega arith);
}

-- window i takes the row
more_pushed : (rules : List Rule) (sources : List ℕ) (r : Row) (i : ℕ) (first now : List (Option (Buffer ℤ))) → ArePushed rules sources r i first now
    → i < length now → (rule_at rules i).param ≡ r.param
    → ArePushed rules sources r (i + 1) first (set now i (pushed r.value (window_at now i)))
more_pushed rules sources r i first now had within own =
    let w = pushed r.value (window_at now i) in
    record {
      done = λ j low k place p. ⊎_elim
          (λ before. get_or-set_other now i j w None (omega arith) ∙ had.done j before k place p)
          (λ here. let same : j ≡ i = omega arith in
          ap (window_at (set now i w)) same ∙ get_or-set_same now i w None within ∙ ap (pushed r.value) (had.rest i (omega arith))
          ∙ ap (λ m. pushed r.value (window_at first m)) (sym same))
          (cases_lt j i);
      other = λ j p. get_or-set_other now i j w None (λ e. p (ap (λ m. (rule_at rules m).param) e ∙ own)) ∙ had.other j p;
      rest = λ j low. get_or-set_other now i j w None (omega arith) ∙ had.rest j (omega arith);
    }

by_place : (rules : List Rule) (sources : List ℕ) (r : Row) (i : ℕ) (first now : List (Option (Buffer ℤ))) (b : Bool) → ArePushed rules sources r i first now
    → i < length now → (rule_at rules i).param ≡ r.param → (slice_index sources i == i) ≡ b
    → ArePushed rules sources r (i + 1) first (if b then set now i (pushed r.value (window_at now i)) else now)
by_place rules sources r i first now true had within own is = more_pushed rules sources r i first now had within own
by_place rules sources r i first now false had within own isnt =
    same_pushed rules sources r i first now had (λ k place. not_own (slice_index sources i) i place isnt)

by_kind : (rules : List Rule) (sources : List ℕ) (r : Row) (i : ℕ) (first now : List (Option (Buffer ℤ))) (k : RuleKind)
    → ArePushed rules sources r i first now → i < length now → (rule_at rules i).param ≡ r.param → (rule_at rules i).kind ≡ k
    → ArePushed rules sources r (i + 1) first (windows_given k sources i r.value now)
by_kind rules sources r i first now kind.Above had within own is =
    same_pushed rules sources r i first now had (λ k place. above_no_change (sym is ∙ k))
by_kind rules sources r i first now kind.Below had within own is =
    same_pushed rules sources r i first now had (λ k place. below_no_change (sym is ∙ k))
by_kind rules sources r i first now kind.Change had within own is =
    by_place rules sources r i first now (slice_index sources i == i) had within own refl

-- rule i is given the row
pub one-pushed : (rules : List Rule) (sources : List ℕ) (r : Row) (i : ℕ) (first now new : List (Option (Buffer ℤ))) (q : Rule) (v : ℤ)
    → ArePushed rules sources r i first now → i < length now → (rule_at rules i).param ≡ r.param → q ≡ rule_at rules i → v ≡ r.value
    → new ≡ windows_given q.kind sources i v now → ArePushed rules sources r (i + 1) first new
one-pushed rules sources r i first now new q v had within own q_is v_is is =
    subst (ArePushed rules sources r (i + 1) first)
    (sym (is ∙ ap (λ (p : Rule). windows_given p.kind sources i v now) q_is ∙ ap (λ (y : ℤ). windows_given (rule_at rules i).kind sources i y now) v_is))
    (by_kind rules sources r i first now (rule_at rules i).kind had within own refl)

-- rules of other parameters are passed over
pub others-pushed : (rules : List Rule) (sources : List ℕ) (r : Row) (n m param : ℕ) (first now : List (Option (Buffer ℤ)))
    → ArePushed rules sources r n first now → IsNextOf rules n param m → param ≡ r.param → ArePushed rules sources r m first now
others-pushed rules sources r n m param first now had next same = record {
  done = λ j low k own p. ⊎_elim
      (λ before. had.done j before k own p)
      (λ past. absurd (next.none j past low (p ∙ sym same)))
      (cases_lt j n);
  other = had.other;
  rest = λ j low. had.rest j (omega (arith, low, next.from));
}

has_more : (k : RuleKind) (count : ℕ) (old new : Option (Buffer ℤ)) (values : List ℤ) (v : ℤ) → HasWindow k count old values
    → (k ≡ kind.Change → new ≡ pushed v old) → HasWindow k count new (values ++ v ∷ [])
has_more kind.Above count old new values v has is = tt
has_more kind.Below count old new values v has is = tt
has_more kind.Change count old new values v has is =
    subst (λ (o : Option (Buffer ℤ)). HasWindow kind.Change count o (values ++ v ∷ [])) (sym (is refl)) (window_more kind.Change count old values v has)

-- the window of a rule that was given the row
has_own : (rules : List Rule) (sources : List ℕ) (steps : List WatchStep) (r : Row) (n k : ℕ) (first now : List (Option (Buffer ℤ)))
    → AreSources rules sources → ArePushed rules sources r n first now → AreWindows rules sources steps first → k < n → k < length rules
    → (rule_at rules k).param ≡ r.param → HasWindow (rule_at rules k).kind (rule_at rules k).count (window_at now (slice_index sources k))
    (values_of (rows_since (rule_at rules k) steps) ++ r.value ∷ [])
has_own rules sources steps r n k first now are given had low within own =
    let rule = rule_at rules k in
    let s = slice_index sources k in
    has_more rule.kind rule.count (window_at first s) (window_at now s) (values_of (rows_since rule steps)) r.value (had k within)
    (λ change. given.done s (omega (arith, low, are.within k within)) (are.kind k within ∙ change) (are.own k within) (are.same k within ∙ own))

has_row : (rules : List Rule) (sources : List ℕ) (steps : List WatchStep) (r : Row) (n k : ℕ) (first now : List (Option (Buffer ℤ))) (b : Bool)
    → AreSources rules sources → ArePushed rules sources r n first now → AreWindows rules sources steps first → k < n → k < length rules
    → ((rule_at rules k).param == r.param) ≡ b → HasWindow (rule_at rules k).kind (rule_at rules k).count (window_at now (slice_index sources k))
    (values_of (rows_since (rule_at rules k) (steps ++ RowStep r ∷ [])))
has_row rules sources steps r n k first now true are given had low within is =
    let rule = rule_at rules k in
    let rows = rows_since rule steps in
    let own : rule.param ≡ r.param = grind (arith, nat_tests, is) in
    subst (HasWindow rule.kind rule.count (window_at now (slice_index sources k)))
    (sym (ap values_of (rows-own rule steps r own) ∙ values-push rows r)) (has_own rules sources steps r n k first now are given had low within own)
has_row rules sources steps r n k first now false are given had low within isnt =
    let rule = rule_at rules k in
    let other : rule.param ≢ r.param = λ e. not_own rule.param r.param e isnt in
    subst (λ (rows : List Row). HasWindow rule.kind rule.count (window_at now (slice_index sources k)) (values_of rows))
    (sym (rows-other rules steps r k other))
    (subst (λ (o : Option (Buffer ℤ)). HasWindow rule.kind rule.count o (values_of (rows_since rule steps)))
    (sym (given.other (slice_index sources k) (λ e. other (sym (are.same k within) ∙ e)))) (had k within))

-- every rule was given the row
pub windows-row : (rules : List Rule) (sources : List ℕ) (steps : List WatchStep) (r : Row) (n : ℕ) (first now : List (Option (Buffer ℤ)))
    → AreSources rules sources → ArePushed rules sources r n first now → n ≡ length rules → AreWindows rules sources steps first
    → AreWindows rules sources (steps ++ RowStep r ∷ []) now
windows-row rules sources steps r n first now are given all had k within =
    has_row rules sources steps r n k first now ((rule_at rules k).param == r.param) are given had (omega (arith, within, all)) within refl

-- what rule i compares at a row of its parameter that its window has
pub compared-own : (rules : List Rule) (sources : List ℕ) (first now : List (Option (Buffer ℤ))) (steps : List WatchStep) (r : Row) (i : ℕ) (x : Option ℤ)
    (q : Rule) (v : ℤ) → AreSources rules sources → ArePushed rules sources r (i + 1) first now → AreWindows rules sources steps first
    → i < length rules → (rule_at rules i).param ≡ r.param → q ≡ rule_at rules i → v ≡ r.value
    → ((values : List ℤ) → HasWindow q.kind q.count (window_at now (slice_index sources i)) (values ++ v ∷ [])
    → x ≡ compared q.kind q.count (values ++ v ∷ []))
    → x ≡ compared (rule_at rules i).kind (rule_at rules i).count (values_of (rows_since (rule_at rules i) steps ++ r ∷ []))
compared-own rules sources first now steps r i x q v are given had within own q_is v_is gives =
    let rule = rule_at rules i in
    let rows = rows_since rule steps in
    let w = window_at now (slice_index sources i) in
    let has : HasWindow q.kind q.count w (values_of rows ++ v ∷ []) =
    subst (λ (p : Rule). HasWindow p.kind p.count w (values_of rows ++ v ∷ [])) (sym q_is)
    (subst (λ (y : ℤ). HasWindow rule.kind rule.count w (values_of rows ++ y ∷ [])) (sym v_is)
    (has_own rules sources steps r (i + 1) i first now are given had (omega arith) within own)) in
    gives (values_of rows) has ∙ ap (λ (p : Rule). compared p.kind p.count (values_of rows ++ v ∷ [])) q_is
    ∙ ap (λ (y : ℤ). compared rule.kind rule.count (values_of rows ++ y ∷ [])) v_is ∙ ap (compared rule.kind rule.count) (sym (values-push rows r))

-- ---- windows before the first row

pub have-none : (rules : List Rule) → HaveWindows rules 0 [] []
have-none rules = record {
  count = refl;
  places = refl;
  within = λ k low. absurd (omega arith);
  own = λ k low. absurd (omega arith);
  kind = λ k low. absurd (omega arith);
  same = λ k low. absurd (omega arith);
  has = λ k low. absurd (omega arith);
}

have_more : (rules : List Rule) (n s : ℕ) (windows : List (Option (Buffer ℤ))) (sources : List ℕ) (w : Option (Buffer ℤ)) → HaveWindows rules n windows sources
    → s ≤ n → slice_index (sources ++ s ∷ []) s ≡ s → (rule_at rules s).kind ≡ (rule_at rules n).kind → (rule_at rules s).param ≡ (rule_at rules n).param
    → HasWindow (rule_at rules n).kind (rule_at rules n).count (window_at (windows ++ w ∷ []) s) []
    → HaveWindows rules (n + 1) (windows ++ w ∷ []) (sources ++ s ∷ [])
have_more rules n s windows sources w had low own same_kind param has =
    let all = sources ++ s ∷ [] in
    let old : (k : ℕ) → k < n → slice_index all k ≡ slice_index sources k =
    λ k before. get_or_append_left sources (s ∷ []) 0 k (omega (arith, had.places)) in
    let new : slice_index all n ≡ s =
    ap (slice_index all) (sym had.places) ∙ get_or-append_seam sources s [] 0 in
    record {
      count = omega (arith, length-append windows (w ∷ []), had.count);
      places = omega (arith, length-append sources (s ∷ []), had.places);
      within = λ k inside. ⊎_elim
          (λ before. omega (arith, old k before, had.within k before))
          (λ here. let same : k ≡ n = omega arith in subst (λ j. slice_index all j ≤ j) (sym same) (omega (arith, new, low)))
          (cases_lt k n);
      own = λ k inside. ⊎_elim
          (λ before. ap (slice_index all) (old k before) ∙ old (slice_index sources k) (omega (arith, before, had.within k before)) ∙ had.own k before
          ∙ sym (old k before))
          (λ here. let same : k ≡ n = omega arith in
          subst (λ j. slice_index all (slice_index all j) ≡ slice_index all j) (sym same) (ap (slice_index all) new ∙ own ∙ sym new))
          (cases_lt k n);
      kind = λ k inside. ⊎_elim
          (λ before. ap (λ j. (rule_at rules j).kind) (old k before) ∙ had.kind k before)
          (λ here. let same : k ≡ n = omega arith in
          subst (λ j. (rule_at rules (slice_index all j)).kind ≡ (rule_at rules j).kind) (sym same)
          (ap (λ j. (rule_at rules j).kind) new ∙ same_kind))
          (cases_lt k n);
      same = λ k inside. ⊎_elim
          (λ before. ap (λ j. (rule_at rules j).param) (old k before) ∙ had.same k before)
          (λ here. let same : k ≡ n = omega arith in
          subst (λ j. (rule_at rules (slice_index all j)).param ≡ (rule_at rules j).param) (sym same)
          (ap (λ j. (rule_at rules j).param) new ∙ param))
          (cases_lt k n);
      has = λ k inside. ⊎_elim
          (λ before. subst (λ o. HasWindow (rule_at rules k).kind (rule_at rules k).count o [])
          (sym (ap (window_at (windows ++ w ∷ [])) (old k before)
          ∙ get_or_append_left windows (w ∷ []) None (slice_index sources k) (omega (arith, before, had.within k before, had.count)))) (had.has k before))
          (λ here. let same : k ≡ n = omega arith in
          subst (λ j. HasWindow (rule_at rules j).kind (rule_at rules j).count (window_at (windows ++ w ∷ []) (slice_index all j)) [])
          (sym same)
          (subst (λ j. HasWindow (rule_at rules n).kind (rule_at rules n).count (window_at (windows ++ w ∷ []) j) []) (sym new) has))
          (cases_lt k n);
    }

-- a window of the rule's own
pub have-own : (rules : List Rule) (n : ℕ) (windows : List (Option (Buffer ℤ))) (sources : List ℕ) (w : Option (Buffer ℤ)) → HaveWindows rules n windows sources
    → HasWindow (rule_at rules n).kind (rule_at rules n).count w [] → HaveWindows rules (n + 1) (windows ++ w ∷ []) (sources ++ n ∷ [])
have-own rules n windows sources w had has =
    have_more rules n n windows sources w had (omega arith)
    (ap (slice_index (sources ++ n ∷ [])) (sym had.places) ∙ get_or-append_seam sources n [] 0) refl refl
    (subst (λ o. HasWindow (rule_at rules n).kind (rule_at rules n).count o [])
    (sym (ap (window_at (windows ++ w ∷ [])) (sym had.count) ∙ get_or-append_seam windows w [] None)) has)

-- the window of a rule before it
pub have-shared : (rules : List Rule) (n j : ℕ) (windows : List (Option (Buffer ℤ))) (sources : List ℕ) → HaveWindows rules n windows sources → j < n
    → (rule_at rules j).kind ≡ (rule_at rules n).kind → (rule_at rules j).param ≡ (rule_at rules n).param → (rule_at rules j).count ≡ (rule_at rules n).count
    → HaveWindows rules (n + 1) (windows ++ None ∷ []) (sources ++ slice_index sources j ∷ [])
have-shared rules n j windows sources had low same_kind same_param same_count =
    let s = slice_index sources j in
    let before : s < n = omega (arith, low, had.within j low) in
    have_more rules n s windows sources None had (omega (arith, before))
    (get_or_append_left sources (s ∷ []) 0 s (omega (arith, before, had.places)) ∙ had.own j low)
    (had.kind j low ∙ same_kind) (had.same j low ∙ same_param)
    (subst (λ k. HasWindow k (rule_at rules n).count (window_at (windows ++ None ∷ []) s) []) same_kind
    (subst (λ m. HasWindow (rule_at rules j).kind m (window_at (windows ++ None ∷ []) s) []) same_count
    (subst (λ o. HasWindow (rule_at rules j).kind (rule_at rules j).count o [])
    (sym (get_or_append_left windows (None ∷ []) None s (omega (arith, before, had.count)))) (had.has j low))))

-- what holds of two facts that hold where a call went well
pub both-on-ok : {T E : Type 0} (r : Result T E) {P Q R : Type 0} → OnOk r P → OnOk r Q → (P → Q → R) → OnOk r R
both-on-ok (Ok x) p q both = both p q
both-on-ok (Err e) p q both = tt
