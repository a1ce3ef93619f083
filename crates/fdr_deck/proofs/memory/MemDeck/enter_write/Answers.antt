use Rattle.std.proofs.Common.{◌≡◌, ℕ, ◌+◌, ◌≤◌, subst, List, length, sym, ap, ◌∙◌, arith, [], ◌∷◌, ◌++◌}
use Rattle.std.proofs.lemmas.List.{with_items_is}
use Rattle.fdr_deck.specs.Disk.{patched}
use Rattle.fdr_deck.specs.Memory.{Memory, AreInside, held_after, held_in, current}
use Rattle.fdr_deck.specs.declared.calls.Call.TheVariants.{Write}
use Rattle.fdr_deck.specs.declared.calls.Entry.{Entry}
use Rattle.fdr_deck.proofs.MemoryCalls.{held_push}
use Rattle.fdr_deck.proofs.MemoryStops.{AreInside-push}
use Rattle.fdr_deck.proofs.memory.MemDeck.enter_write.Goals as goal

pub invariant_of-self-in-Ok : goal.invariant_of-self-in-Ok
invariant_of-self-in-Ok c =
    let entry : Entry = record { call = Write c.args.at c.in_ok-copy.copy; numbers = c.self.inside.numbers } in
    let entries = c.self.inside.entries.items in
    let first = c.self.inside.first.items in
    let was : held_after entries first ≡ c.in_ok-image.image.items =
    c.self.invariant.1 ∙ sym (c.in_ok-image.ensures.taken ∙ ap (λ (l : List ℕ). current l c.self.inside.changed) c.deref.ensures.value) in
    let bytes = ap (λ (l : List ℕ). patched c.args.at l (held_after entries first)) c.in_ok-copy.ensures in
    let long : length c.patch.new.image ≡ c.in_ok-image.image.len = omega (arith, c.patch.auto.image, c.in_ok-image.image.ok) in
    let room : c.args.at + length c.args.bytes.now ≤ length (held_after entries first) =
    subst (λ (m : Memory). c.args.at + length c.args.bytes.now ≤ length (held_in m)) (sym c.self.view_is) c.requires in
    let image = ap (λ (l : List ℕ). patched c.args.at c.args.bytes.now l) (was ∙ sym c.deref_mut.ensures.value) in (
      c.self.invariant.0,
      ap (λ (es : List Entry). held_after es first) c.in-Ok.ensures.items ∙ held_push entries entry first ∙ bytes ∙ image ∙ sym c.patch.ensures
          ∙ sym (with_items_is c.in_ok-image.image c.patch.new.image long),
      subst (λ (es : List Entry). AreInside es first) (sym c.in-Ok.ensures.items)
          (AreInside-push entries entry first c.self.invariant.2 (omega (arith, ap (λ (l : List ℕ). length l) c.in_ok-copy.ensures, room))),
    )

pub returns-in-Ok-clause-entered : goal.returns-in-Ok-clause-entered
returns-in-Ok-clause-entered c = (
  c.in_ok-copy.copy,
  c.in_ok-copy.ensures,
  record {
    entries = c.in-Ok.ensures.items
        ∙ ap (λ (m : Memory). m.entries ++ record { call = Write c.args.at c.in_ok-copy.copy; numbers = m.numbers } ∷ []) c.self.view_is;
    announced = c.begin_anew.ensures.number ∙ ap (λ (m : Memory). m.numbers.announced.number) c.self.view_is;
    least = c.begin_anew.ensures.least ∙ ap (λ (m : Memory). m.numbers.announced.number) c.self.view_is;
    greatest = c.begin_anew.ensures.greatest ∙ ap (λ (m : Memory). m.numbers.announced.number) c.self.view_is;
    first = ap (λ (m : Memory). m.first) c.self.view_is;
    failing = ap (λ (m : Memory). m.failing) c.self.view_is;
  },
)

pub returns-in-Ok-clause-pulled : goal.returns-in-Ok-clause-pulled
returns-in-Ok-clause-pulled c = record {
  input = ap (λ (m : Memory). m.input) c.self.view_is;
  taken = ap (λ (m : Memory). m.numbers.taken) c.self.view_is;
  pulled_before = ap (λ (m : Memory). m.numbers.pulled_before) c.self.view_is;
  input_faults = ap (λ (m : Memory). m.input_faults) c.self.view_is;
}

pub returns-in-Ok-clause-disk_faults : goal.returns-in-Ok-clause-disk_faults
returns-in-Ok-clause-disk_faults c = ap (λ (m : Memory). m.disk_faults) c.self.view_is
