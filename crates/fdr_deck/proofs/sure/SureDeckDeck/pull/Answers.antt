use Rattle.std.proofs.Common.{◌+◌, List, ℕ, length, drop, ap, inl, sym, refl, subst, ◌∙◌, arith, length-drop}
use Rattle.std.proofs.lemmas.Bool.{false≢true}
use Rattle.std.proofs.lemmas.List.{drop-drop}
use Rattle.fdr_io.specs.Told.{Gives}
use Rattle.fdr_deck.specs.Sure.{Sure}
use Rattle.fdr_deck.proofs.sure.SureDeckDeck.pull.Goals as goal

pub returns-clause-bound : goal.returns-clause-bound
returns-clause-bound c = omega (arith, c.copy_next-n.ensures.count)

pub returns-clause-full : goal.returns-clause-full
returns-clause-full c =
    let all = ap (λ (l : List ℕ). length l) c.deref.ensures.value in
    let left = ap (λ (s : Sure). length s.input) c.self.view_is in
    omega (arith, c.copy_next-n.ensures.count, all, left, length-drop c.self.inside.at c.self.inside.input.items)

pub returns-clause-pulls : goal.returns-clause-pulls
returns-clause-pulls c =
    let buf = c.copy_next-n.new.buf in
    let n = c.copy_next-n.result in
    let given : Gives (drop c.self.inside.at c.self.inside.input.items) buf n =
    subst (λ (l : List ℕ). Gives (drop c.self.inside.at l) buf n) c.deref.ensures.value c.copy_next-n.ensures.given in
    record {
      taken = ap (λ (s : Sure). s.taken + n) c.self.view_is;
      began = λ some. c.pull_began-self-inside.ensures.some some ∙ ap (λ (s : Sure). s.taken) c.self.view_is;
      ended = λ none. c.pull_began-self-inside.ensures.none none ∙ ap (λ (s : Sure). s.pulled_before) c.self.view_is;
      given = λ told. subst (λ (s : Sure). Gives s.input buf n) c.self.view_is given;
      left = λ told. sym (drop-drop n c.self.inside.at c.self.inside.input.items) ∙ ap (λ (s : Sure). drop n s.input) c.self.view_is;
      faults = refl;
    }

pub returns-clause-kept : goal.returns-clause-kept
returns-clause-kept c = tt

pub returns-clause-cause : goal.returns-clause-cause
returns-clause-cause c = tt

pub returns-clause-sure : goal.returns-clause-sure
returns-clause-sure c = refl

pub returns-clause-disk : goal.returns-clause-disk
returns-clause-disk c = record {
  disk = record { held = ap (λ (s : Sure). s.image) c.self.view_is; no_more = λ image left. left; no_less = λ image left. left };
  extent = ap (λ (s : Sure). length s.image) c.self.view_is;
  disk_faults = refl;
}

pub returns-clause-announced : goal.returns-clause-announced
returns-clause-announced c = record {
  announced = c.begin_anew.ensures.number ∙ ap (λ (s : Sure). s.announced.number) c.self.view_is;
  numbers = inl (c.begin_anew.ensures.least ∙ sym c.begin_anew.ensures.number, c.begin_anew.ensures.greatest ∙ sym c.begin_anew.ensures.number);
}

pub returns-clause-fresh : goal.returns-clause-fresh
returns-clause-fresh c = record {
  least = c.begin_anew.ensures.least ∙ sym c.begin_anew.ensures.number;
  greatest = c.begin_anew.ensures.greatest ∙ sym c.begin_anew.ensures.number;
}

pub returns-clause-time : goal.returns-clause-time
returns-clause-time c = record {
  later = omega arith;
  earlier = λ told. absurd (false≢true told);
  added = λ told. absurd (false≢true told);
  no_more = λ told. absurd (false≢true told);
}

pub returns-clause-moments : goal.returns-clause-moments
returns-clause-moments c = λ told. absurd (false≢true told)
