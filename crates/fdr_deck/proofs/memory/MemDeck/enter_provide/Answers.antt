use Rattle.std.proofs.Common.{◌≡◌, List, ap, length, subst, sym, ◌∙◌, [], ◌∷◌, ◌++◌}
use Rattle.fdr_deck.specs.Memory.{Memory, AreInside, held_after, held_in}
use Rattle.fdr_deck.specs.declared.calls.Call.TheVariants.{Provide}
use Rattle.fdr_deck.specs.declared.calls.Entry.{Entry}
use Rattle.fdr_deck.proofs.MemoryCalls.{held_push}
use Rattle.fdr_deck.proofs.MemoryStops.{AreInside-push}
use Rattle.fdr_deck.proofs.memory.MemDeck.enter_provide.Goals as goal

pub invariant_of-self : goal.invariant_of-self
invariant_of-self c =
    let entry : Entry = record { call = Provide c.args.size; numbers = c.self.inside.numbers } in
    let entries = c.self.inside.entries.items in
    let first = c.self.inside.first.items in (
      c.self.invariant.0,
      ap (λ (es : List Entry). held_after es first) c.in-Ok.ensures.items ∙ held_push entries entry first ∙ sym c.in_ok-zeros.ensures,
      subst (λ (es : List Entry). AreInside es first) (sym c.in-Ok.ensures.items)
          (AreInside-push entries entry first c.self.invariant.2 (subst (λ (m : Memory). length (held_in m) ≡ 0) (sym c.self.view_is) c.requires)),
    )

pub returns-in-Ok-clause-entered : goal.returns-in-Ok-clause-entered
returns-in-Ok-clause-entered c = record {
  entries = c.in-Ok.ensures.items ∙ ap (λ (m : Memory). m.entries ++ record { call = Provide c.args.size; numbers = m.numbers } ∷ []) c.self.view_is;
  announced = c.begin_anew.ensures.number ∙ ap (λ (m : Memory). m.numbers.announced.number) c.self.view_is;
  least = c.begin_anew.ensures.least ∙ ap (λ (m : Memory). m.numbers.announced.number) c.self.view_is;
  greatest = c.begin_anew.ensures.greatest ∙ ap (λ (m : Memory). m.numbers.announced.number) c.self.view_is;
  first = ap (λ (m : Memory). m.first) c.self.view_is;
  failing = ap (λ (m : Memory). m.failing) c.self.view_is;
}

pub returns-in-Ok-clause-pulled : goal.returns-in-Ok-clause-pulled
returns-in-Ok-clause-pulled c = record {
  input = ap (λ (m : Memory). m.input) c.self.view_is;
  taken = ap (λ (m : Memory). m.numbers.taken) c.self.view_is;
  pulled_before = ap (λ (m : Memory). m.numbers.pulled_before) c.self.view_is;
  input_faults = ap (λ (m : Memory). m.input_faults) c.self.view_is;
}

pub returns-in-Ok-clause-disk_faults : goal.returns-in-Ok-clause-disk_faults
returns-in-Ok-clause-disk_faults c = ap (λ (m : Memory). m.disk_faults) c.self.view_is
