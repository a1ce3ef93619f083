use Rattle.std.proofs.Common.{◌+◌, List, ℕ, length, drop, ap, sym, subst, ◌∙◌, arith, length-drop}
use Rattle.std.proofs.lemmas.List.{drop-drop}
use Rattle.fdr_io.specs.Told.{Gives}
use Rattle.fdr_deck.specs.Memory.{Memory}
use Rattle.fdr_deck.proofs.memory.MemDeck.take_next.Goals as goal

pub returns : goal.returns
returns c = record {
  bound = omega (arith, c.copy_next-n.ensures.count);
  full =
      let all = ap (λ (l : List ℕ). length l) c.deref.ensures.value in
      let left = ap (λ (s : Memory). length s.input) c.self.view_is in
      omega (arith, c.copy_next-n.ensures.count, all, left, length-drop c.self.inside.numbers.taken c.self.inside.input.items);
  given =
      let buf = c.copy_next-n.new.buf in
      let n = c.copy_next-n.result in
      let given : Gives (drop c.self.inside.numbers.taken c.self.inside.input.items) buf n =
      subst (λ (l : List ℕ). Gives (drop c.self.inside.numbers.taken l) buf n) c.deref.ensures.value c.copy_next-n.ensures.given in
      subst (λ (s : Memory). Gives s.input buf n) c.self.view_is given;
  left = sym (drop-drop c.copy_next-n.result c.self.inside.numbers.taken c.self.inside.input.items)
      ∙ ap (λ (s : Memory). drop c.copy_next-n.result s.input) c.self.view_is;
  taken = ap (λ (s : Memory). s.numbers.taken + c.copy_next-n.result) c.self.view_is;
  began = λ some. c.pull_began-self-inside.ensures.some some ∙ ap (λ (s : Memory). s.numbers.taken) c.self.view_is;
  ended = λ none. c.pull_began-self-inside.ensures.none none ∙ ap (λ (s : Memory). s.numbers.pulled_before) c.self.view_is;
  announced = ap (λ (s : Memory). s.numbers.announced) c.self.view_is;
  entries = ap (λ (s : Memory). s.entries) c.self.view_is;
  first = ap (λ (s : Memory). s.first) c.self.view_is;
  failing = ap (λ (s : Memory). s.failing) c.self.view_is;
  disk_faults = ap (λ (s : Memory). s.disk_faults) c.self.view_is;
  input_faults = ap (λ (s : Memory). s.input_faults) c.self.view_is;
}
