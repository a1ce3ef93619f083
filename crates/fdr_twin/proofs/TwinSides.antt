-- The side that the twin in memory is turned to, at a call.
use Rattle.std.proofs.Common.{◌≡◌, ⊎_elim, inl, ℕ, ◌-◌, ◌^◌, ◌≤◌, List, [], ◌∷◌, ◌++◌, refl, sym, ◌∙◌, ap, arith, rules, length-append}
use Rattle.std.proofs.Common.{Option, None, Vec}
use Rattle.fdr_io.specs.Faults.{next_count}
use Rattle.fdr_deck.specs.declared.calls.Call.{Call}
use Rattle.fdr_twin.specs.declared.calls.SideCall.{SideCall}
use Rattle.std.specs.declared.alloc.Global.{Global}
use Rattle.fdr_deck.specs.Memory.{HasOneCallMore, IsEntered, FitsDisk, AreInside, held_by, held_after, held_in, current}
use Rattle.fdr_deck.proofs.MemoryCalls.{held_push}
use Rattle.fdr_deck.proofs.MemoryStops.{AreInside-push}
use Rattle.fdr_twin.specs.TwinFaces.{entries_long, entries_push}
use Rattle.fdr_twin.specs.declared.side.Side.{Side}
use Rattle.fdr_twin.specs.declared.side.Side.TheVariants.{First, Second}
use Rattle.fdr_twin.specs.Pair.{other_side}
use Rattle.fdr_twin.specs.Rest.{HasSameRest}
use Rattle.fdr_twin.specs.declared.calls.Span.{Span}
use Rattle.fdr_twin.specs.declared.calls.TwinEntry.{TwinEntry}
use Rattle.fdr_twin.specs.TwinMemory.{TwinMemory, call_of, HasOneTwinCallMore, IsWholeTwin, call_on, entry_on}
use Rattle.fdr_twin.specs.TwinMemory.{entries_on, facing, memory_on, side_memory, counts_on, twin_pair, entered_by, IsFresh, IsTwinEntered}
use Rattle.fdr_twin.specs.TwinMemory.{IsTwinFailed, IsTwinLost, raise}
use Rattle.fdr_twin.specs.TwinSound.{twin_rest_here}
use Rattle.fdr_twin.proofs.TwinRest.{counts_same, entered_on, entered_rest, lost_rest, unentered_rest}

facing_same : (side : Side) (call : Call) → facing side side call ≡ call
facing_same First call = refl
facing_same Second call = refl

module _ (call : SideCall) (old new : TwinMemory) (entered : IsTwinEntered call old new) where
  -- an entered call, as one change
  entered_same : new ≡ entered_by old old.turned call new.span new.input new.input_faults
  entered_same =
      rw (← entered.entries, ← entered.turned, ← entered.first, ← entered.second, ← entered.failing, ← entered.dead_first, ← entered.dead_second) refl

  pub side_entered : IsEntered (call_of call) (side_memory old) (side_memory new)
  side_entered = rw entered_same
      (rw (facing_same old.turned (call_of call)) at (entered_on call old new.span new.input new.input_faults entered.fresh old.turned))

  pub entered_twin_rest : HasSameRest (twin_pair old) (twin_pair new)
  entered_twin_rest = rw entered_same (entered_rest call old new.span new.input new.input_faults entered.fresh entered.other_faults entered.own_faults)

-- a call that found no memory
pub lost_twin_rest : (old new : TwinMemory) → (side_memory old).disk_faults ≤ (side_memory new).disk_faults → IsTwinLost old new
    → HasSameRest (twin_pair old) (twin_pair new)
lost_twin_rest old new le lost = ⊎_elim
    (λ is. rw is.1 (lost_rest old (2 ^ 64 - 1) is.0 (rw is.1 at le)))
    (λ is. rw is.1 (twin_rest_here old))
    lost

-- the same, by what was before
pub lost_from : (old mid new : TwinMemory) → mid ≡ old → (side_memory mid).disk_faults ≤ (side_memory new).disk_faults → IsTwinLost mid new
    → HasSameRest (twin_pair old) (twin_pair new)
lost_from old mid new is le lost = rw (← is) (lost_twin_rest mid new le lost)

raise_fresh : (side : Side) (old now : Span) → IsFresh old now → IsFresh old (raise side now)
raise_fresh First old now fresh = search (rules, fresh)
raise_fresh Second old now fresh = search (rules, fresh)

raise_other : (side : Side) (now : Span) → counts_on (other_side side) (raise side now) ≡ counts_on (other_side side) now
raise_other First now = refl
raise_other Second now = refl

raise_count : (side : Side) (old now : Span) → now.first_faults ≡ old.first_faults → now.second_faults ≡ old.second_faults
    → counts_on side (raise side now) ≡ next_count (counts_on side old)
raise_count First old now one two = ap next_count one
raise_count Second old now one two = ap next_count two

-- a call that was entered, and whose fault was then counted
module _ (call : SideCall) (old mid new : TwinMemory) (entered : IsTwinEntered call old mid) (is : new ≡ record mid { span = raise mid.turned mid.span })
    (le : (side_memory mid).disk_faults ≤ (side_memory new).disk_faults) where
  pub entered_counted : IsTwinEntered call old new
  entered_counted = rw (is, entered.turned) (record {
    entries = entered.entries;
    fresh = raise_fresh old.turned old.span mid.span entered.fresh;
    turned = refl;
    first = entered.first;
    second = entered.second;
    failing = entered.failing;
    dead_first = entered.dead_first;
    dead_second = entered.dead_second;
    other_faults = raise_other old.turned mid.span ∙ entered.other_faults;
    own_faults = omega (arith, rw (is, entered.turned) at le, entered.own_faults);
  })

  pub failed_counted : (mid.span.first_faults ≡ old.span.first_faults) × (mid.span.second_faults ≡ old.span.second_faults) → IsTwinFailed call old new
  failed_counted counts = record {
    entered = entered_counted;
    counted = rw (is, entered.turned) (raise_count old.turned old.span mid.span counts.0 counts.1);
  }

-- what both sides hold after one more call
held_more : (x : Side) (es : List TwinEntry) (e : TwinEntry) (first : List ℕ)
    → held_after (entries_on x (es ++ e ∷ [])) first ≡ held_by (call_on x e) (held_after (entries_on x es) first)
held_more x es e first = rw (entries_push x es e) (held_push (entries_on x es) (entry_on x e) first)

inside_more : (x : Side) (es : List TwinEntry) (e : TwinEntry) (first : List ℕ) → AreInside (entries_on x es) first
    → FitsDisk (call_on x e) (held_after (entries_on x es) first) → AreInside (entries_on x (es ++ e ∷ [])) first
inside_more x es e first all last = rw (entries_push x es e) (AreInside-push (entries_on x es) (entry_on x e) first all last)

held_kept : (x side : Side) (call : SideCall) (held : List ℕ) → ((l : List ℕ) → held_by (call_of call) l ≡ l)
    → held_by (facing x side (call_of call)) held ≡ held
held_kept First First call held kept = kept held
held_kept First Second call held kept = refl
held_kept Second First call held kept = refl
held_kept Second Second call held kept = kept held

module _ (first second : List ℕ) (fc sc : Option (Vec ℕ Global)) (es es' : List TwinEntry) (span now : Span) (line : List ℕ) (side : Side) (call : SideCall)
    (whole : IsWholeTwin first second fc sc es span line) (is : es' ≡ es ++ (record { side = side; call = call; span = span } ∷ []))
    (first_none : now.first_lost ≡ None) (second_none : now.second_lost ≡ None) (taken : now.taken ≡ span.taken)
    (fits : FitsDisk (facing First side (call_of call)) (held_after (entries_on First es) first)
    × FitsDisk (facing Second side (call_of call)) (held_after (entries_on Second es) second)) where
  abbrev entry : TwinEntry
  entry = record { side = side; call = call; span = span }

  -- a call that leaves this of both
  pub whole_more : (fc' sc' : Option (Vec ℕ Global)) → held_by (facing First side (call_of call)) (current first fc) ≡ current first fc'
      → held_by (facing Second side (call_of call)) (current second sc) ≡ current second sc' → IsWholeTwin first second fc' sc' es' now line
  whole_more fc' sc' one two = record {
    taken = omega (arith, taken, whole.taken);
    first_held = rw is (held_more First es entry first ∙ rw whole.first_held one);
    second_held = rw is (held_more Second es entry second ∙ rw whole.second_held two);
    first_inside = rw is (inside_more First es entry first whole.first_inside fits.0);
    second_inside = rw is (inside_more Second es entry second whole.second_inside fits.1);
    first_nested = rw first_none tt;
    second_nested = rw second_none tt;
    first_full = rw first_none tt;
    second_full = rw second_none tt;
  }

  -- a call that leaves what both hold
  pub whole_kept : ((l : List ℕ) → held_by (call_of call) l ≡ l) → IsWholeTwin first second fc sc es' now line
  whole_kept kept = whole_more fc sc (held_kept First side call (current first fc) kept) (held_kept Second side call (current second sc) kept)

-- a call that fits the disk of its side fits both, as the kept parts say it
fits_both : (side : Side) (d : TwinMemory) (call : SideCall) → FitsDisk (call_of call) (held_in (memory_on side d))
    → FitsDisk (facing First side (call_of call)) (held_after (entries_on First d.entries) d.first)
    × FitsDisk (facing Second side (call_of call)) (held_after (entries_on Second d.entries) d.second)
fits_both First d call fits = (fits, tt)
fits_both Second d call fits = (tt, fits)

pub fits_view : (view now : TwinMemory) (call : SideCall) → view ≡ now → FitsDisk (call_of call) (held_in (side_memory now))
    → FitsDisk (facing First view.turned (call_of call)) (held_after (entries_on First view.entries) view.first)
    × FitsDisk (facing Second view.turned (call_of call)) (held_after (entries_on Second view.entries) view.second)
fits_view view now call is fits = fits_both view.turned view call (rw (← is) at fits)

-- what the side held, as the kept parts say it
pub held_view : (view now : TwinMemory) → view ≡ now → held_in (side_memory now) ≡ held_in (side_memory view)
held_view view now is = ap (λ (m : TwinMemory). held_in (side_memory m)) (sym is)

-- a pull that was entered, and then took bytes
module _ (mid new : TwinMemory) (turned : new.turned ≡ mid.turned)
    (span : new.span ≡ record mid.span { taken = new.span.taken; pulled_before = new.span.pulled_before }) where
  same_counts : (side : Side) → counts_on side new.span ≡ counts_on side mid.span
  same_counts side = counts_same side new.span mid.span (ap (λ (x : Span). x.first_faults) span) (ap (λ (x : Span). x.second_faults) span)

  pub took_count : (side_memory new).disk_faults ≡ (side_memory mid).disk_faults
  took_count = rw turned (same_counts mid.turned)

  pub took_entered : (call : SideCall) (old : TwinMemory) → IsTwinEntered call old mid → new.entries ≡ mid.entries → new.first ≡ mid.first
      → new.second ≡ mid.second → new.failing ≡ mid.failing → new.dead_first ≡ mid.dead_first → new.dead_second ≡ mid.dead_second
      → IsTwinEntered call old new
  took_entered call old entered entries first second failing dead_first dead_second = record {
    entries = entries ∙ entered.entries;
    fresh = rw span (search (rules, entered.fresh));
    turned = turned ∙ entered.turned;
    first = first ∙ entered.first;
    second = second ∙ entered.second;
    failing = failing ∙ entered.failing;
    dead_first = dead_first ∙ entered.dead_first;
    dead_second = dead_second ∙ entered.dead_second;
    other_faults = same_counts (other_side old.turned) ∙ entered.other_faults;
    own_faults = omega (arith, same_counts old.turned, entered.own_faults);
  }

-- a pull that was entered and failed
pub entered_line : (call : SideCall) (old mid new : TwinMemory) (n : ℕ) → IsTwinEntered call old mid → new ≡ record mid { input_faults = n }
    → IsTwinEntered call old new
entered_line call old mid new n entered is = rw is (search (rules, entered))

-- a pull that failed without an entry
pub line_rest : (old mid new : TwinMemory) (n : ℕ) → mid ≡ old → new ≡ record mid { input_faults = n } → HasSameRest (twin_pair old) (twin_pair new)
line_rest old mid new n same is = rw (is, same) (unentered_rest old old.span n (λ left m is. is) (λ left m is. inl is) refl (omega arith))

-- a side of a twin that has one call more has one call more
pub side_numbered : (old new : TwinMemory) → HasOneTwinCallMore old new → HasOneCallMore (side_memory old) (side_memory new)
side_numbered old new more = omega (arith, entries_long old.turned old.entries, entries_long new.turned new.entries, more)

-- a call that failed and was entered has a number
pub failed_numbered : (call : SideCall) (old new : TwinMemory) → IsTwinFailed call old new → HasOneTwinCallMore old new
failed_numbered call old new failed = rw failed.entered.entries (length-append old.entries _)
