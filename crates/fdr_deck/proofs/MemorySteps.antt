-- Calls of the deck in memory after which a fault is counted, and those that are to fail.
use Rattle.std.proofs.Common.{◌≡◌, ◌⊎◌, inl, inr, ⊎_elim, Bool, false, List, [], ◌∷◌, length, ap, sym, ◌∙◌, arith, length-append}
use Rattle.std.specs.Prelude.{◌↔◌, IsTrue}
use Rattle.std.proofs.lemmas.Bool.{false≢true}
use Rattle.fdr_deck.specs.Announced.{least_announced, greatest_announced}
use Rattle.fdr_deck.specs.Memory.{Memory, IsEntered, IsUnentered, IsListed, IsFailedCall, HasOneCallMore, KeepsPulled}
use Rattle.fdr_deck.specs.declared.calls.Call.{Call}
use Rattle.fdr_deck.specs.declared.calls.Numbers.{Numbers}
use Rattle.fdr_deck.specs.declared.calls.Entry.{Entry}

-- a call was entered, and then something was done that has no number
pub entered_then : (call : Call) (old mid new : Memory) → IsEntered call old mid → IsUnentered mid new → IsEntered call old new
entered_then call old mid new entered same = record {
  entries = same.entries ∙ entered.entries;
  announced = ap (λ (n : Numbers). n.announced.number) same.numbers ∙ entered.announced;
  least = ap (λ (n : Numbers). least_announced n.announced) same.numbers ∙ entered.least;
  greatest = ap (λ (n : Numbers). greatest_announced n.announced) same.numbers ∙ entered.greatest;
  first = same.first ∙ entered.first;
  failing = same.failing ∙ entered.failing;
}

pub unentered_then : (old mid new : Memory) → IsUnentered old mid → IsUnentered mid new → IsUnentered old new
unentered_then old mid new first second = record {
  entries = second.entries ∙ first.entries;
  numbers = second.numbers ∙ first.numbers;
  first = second.first ∙ first.first;
  failing = second.failing ∙ first.failing;
}

pub pulled_then : (old mid new : Memory) → KeepsPulled old mid → KeepsPulled mid new → KeepsPulled old new
pulled_then old mid new first second = record {
  input = second.input ∙ first.input;
  taken = second.taken ∙ first.taken;
  pulled_before = second.pulled_before ∙ first.pulled_before;
  input_faults = second.input_faults ∙ first.input_faults;
}

-- a call that was entered has a number
pub one_more : (call : Call) (old new : Memory) → IsEntered call old new → HasOneCallMore old new
one_more call old new entered =
    omega (
      arith,
      ap (λ (es : List Entry). length es) entered.entries,
      length-append old.entries (record { call = call; numbers = old.numbers } ∷ []),
    )

-- a listed call failed
pub failed_listed : (call : Call) (old new : Memory) → IsListed old → IsEntered call old new ⊎ IsUnentered old new → IsFailedCall old new
failed_listed call old new listed = ⊎_elim (λ entered. inl (listed, one_more call old new entered)) (λ same. inr same)

-- a call that isn't to fail isn't listed
pub not_listed : (fails : Bool) (old : Memory) → IsTrue fails ↔ IsListed old → fails ≡ false → IsListed old → ⊥
not_listed fails old means passes listed = false≢true (sym passes ∙ means.1 listed)
