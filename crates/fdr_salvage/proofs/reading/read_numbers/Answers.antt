use Rattle.std.proofs.Common.{◌<◌, length, refl, sym, ap, ◌∙◌, subst, arith, rules}
use Rattle.std.specs.Prelude.{All}
use Rattle.std.proofs.lemmas.List.Elements.{All-nil}
use Rattle.fdr_slot.specs.Limits.{sequence_end}
use Rattle.fdr_recover.proofs.Looking.{Looks-here, Looks-then}
use Rattle.fdr_salvage.specs.Runs.{slot_numbers}
use Rattle.fdr_salvage.proofs.Numbers.{numbers_more}
use Rattle.fdr_salvage.proofs.reading.read_numbers.Goals as goal

pub loop-slot-init : goal.loop-slot-init
unfolding slot_numbers
loop-slot-init g c = record {
  looks = Looks-here _ _ (g.met.D.Deck.sound c.args.deck.now);
  faults = refl;
  fresh = λ less. absurd (omega (arith, less));
  rest = g.met.D.Deck.rest_here c.args.deck.now;
  fit = subst (All (λ number. number < sequence_end)) (sym c.requires.empty) (All-nil (λ number. number < sequence_end));
  few = omega (arith, ap length c.requires.empty);
  numbers = λ told. c.requires.empty;
}

pub returns-in_err-read_number-clause-looks : goal.returns-in_err-read_number-clause-looks
returns-in_err-read_number-clause-looks g c =
    Looks-then _ _ _ _ (g.met.D.Deck.sound c.args.deck.now) c.loop-slot.invariant.looks c.read_number.ensures.looks

pub loop-slot-preserved : goal.loop-slot-preserved
loop-slot-preserved g c =
    let inv = c.loop-slot.invariant in
    record {
      looks = Looks-then _ _ _ _ (g.met.D.Deck.sound c.args.deck.now) inv.looks c.read_number.ensures.looks;
      faults = c.in_ok-read_number.ensures.succeeds.disk_faults ∙ inv.faults;
      fresh = λ some. c.in_ok-read_number.ensures.succeeds.fresh;
      rest = g.met.D.Deck.rest_then _ _ _ inv.rest c.read_number.ensures.rest;
      fit = c.in_ok-read_number.ensures.fit;
      few = omega (arith, c.in_ok-read_number.ensures.few, inv.few);
      numbers = λ told.
          numbers_more c.args.h.now (g.D.Deck.state c.args.deck.now).held (g.D.Deck.state c.loop-slot.deck).held c.loop-slot.numbers.items
          c.read_number.new.numbers.items c.loop-slot.slot (c.in_ok-read_number.ensures.numbers told) inv.looks.disk.held (inv.numbers told);
    }

pub returns-clause-numbers : goal.returns-clause-numbers
returns-clause-numbers c = search rules
