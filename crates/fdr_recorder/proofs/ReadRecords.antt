-- The records that were read of a trace.
use Rattle.std.proofs.Common.{◌≡◌, ℕ, ◌-◌, ◌<◌, ⊎_elim, true, false, List, [], ◌∷◌, ◌++◌, ap, sym, refl, ◌∙◌, length-append, arith}
use Rattle.std.proofs.lemmas.Bool.{cases_Bool}
use Rattle.std.proofs.lemmas.List.{append-nil}
use Rattle.fdr_bus.specs.declared.BusRecord.{BusRecord}
use Rattle.fdr_bus.specs.declared.RecordKind.TheVariants.{Word, End}
use Rattle.fdr_bus.specs.Records.{good_prefix, is_end}
use Rattle.fdr_bus.proofs.TraceLemmas.{good_prefix-append}
use Rattle.fdr_deck.specs.State.{State, Tells}
use Rattle.fdr_trace.specs.Kept.{TraceKept}
use Rattle.fdr_trace.specs.Pulls.{PullsUntilDecided}
use Rattle.fdr_trace.specs.Reading.{RepresentsTrace, IsNextRecord}
use Rattle.fdr_trace.proofs.Pulling.{PullsUntilDecided-then}
use Rattle.fdr_trace.proofs.Records.{Reads-counts}

pub PullsUntilDecided-next : (tells : Tells) (a b c : State) (bytes more : List ℕ) → PullsUntilDecided tells a b [] bytes
    → PullsUntilDecided tells b c bytes more
    → PullsUntilDecided tells a c [] (bytes ++ more)
PullsUntilDecided-next tells a b c bytes more first second = PullsUntilDecided-then tells a b c [] bytes more first second

-- the good records of the bytes begin with those that were read
pub good_so_far : (k : TraceKept) (bytes : List ℕ) (records : List BusRecord) → RepresentsTrace k bytes records
    → (later : List BusRecord) × (good_prefix bytes ≡ records ++ later)
good_so_far k bytes records reads =
    let grown = good_prefix-append reads.read k.waiting in
    (grown.0, ap good_prefix reads.split ∙ grown.1 ∙ ap (λ (x : List BusRecord). x ++ grown.0) (sym reads.good))

-- the good records of the bytes begin with those that were read and the next
pub good_with_next : (k : TraceKept) (bytes : List ℕ) (records : List BusRecord) (r : BusRecord) → IsNextRecord k bytes records r
    → (later : List BusRecord) × (good_prefix bytes ≡ (records ++ r ∷ []) ++ later)
good_with_next k bytes records r next = ⊎_elim
    (λ (ends : is_end r ≡ true). ([], next.ends ends ∙ sym (append-nil (records ++ r ∷ []))))
    (λ (goes_on : is_end r ≡ false). good_so_far k bytes (records ++ r ∷ []) (next.more goes_on))
    (cases_Bool (is_end r))

pub is_end-yes : (r : BusRecord) → r.kind ≡ End → is_end r ≡ true
is_end-yes r e = rw e refl

pub is_end-no : (r : BusRecord) → r.kind ≡ Word → is_end r ≡ false
is_end-no r e = rw e refl

-- a record more was counted
pub count_rises : (k k' : TraceKept) (bytes bytes' : List ℕ) (records : List BusRecord) (r : BusRecord) → RepresentsTrace k bytes records
    → RepresentsTrace k' bytes' (records ++ r ∷ []) → 4294967296 - k'.count < 4294967296 - k.count
count_rises k k' bytes bytes' records r before after =
    omega (arith, before.count, after.count, length-append records (r ∷ []), Reads-counts k' bytes' (records ++ r ∷ []) after)
