use Rattle.std.proofs.Common.{◌≡◌, List, ℕ, length, ap, inl, sym, refl, ◌∙◌, arith}
use Rattle.std.specs.Prelude.{Vec}
use Rattle.std.specs.declared.alloc.Global.{Global}
use Rattle.std.specs.Vec.{with_items}
use Rattle.std.proofs.lemmas.Bool.{false≢true}
use Rattle.std.proofs.lemmas.List.{with_items_is}
use Rattle.fdr_deck.specs.Disk.{patched}
use Rattle.fdr_deck.specs.Sure.{Sure}
use Rattle.fdr_deck.proofs.Torn.{Torn-patched, length-patched}
use Rattle.fdr_deck.proofs.sure.SureDeckDeck.write.Goals as goal

-- what a Vec holds whose slice was written
written : (image : Vec ℕ Global) (at : ℕ) (bytes before after old : List ℕ) → before ≡ image.items → image.items ≡ old → length after ≡ image.len
    → after ≡ patched at bytes before → (with_items image after).items ≡ patched at bytes old
written image at bytes before after old slice is long patch =
    with_items_is image after long ∙ patch ∙ ap (λ (l : List ℕ). patched at bytes l) slice ∙ ap (λ (l : List ℕ). patched at bytes l) is

pub returns-clause-writes : goal.returns-clause-writes
returns-clause-writes c =
    let long : length c.patch.new.image ≡ c.self.inside.image.len = omega (arith, c.patch.auto.image, c.self.inside.image.ok) in
    let held : (with_items c.self.inside.image c.patch.new.image).items ≡ patched c.args.at c.args.bytes.now c.args.self.now.image =
    written c.self.inside.image c.args.at c.args.bytes.now _ c.patch.new.image c.args.self.now.image c.deref_mut.ensures.value
    (ap (λ (s : Sure). s.image) c.self.view_is) long c.patch.ensures in
    record { held = λ told. held; pending = λ told from image was torn. absurd (false≢true told) }

pub returns-clause-tears : goal.returns-clause-tears
returns-clause-tears c =
    let long : length c.patch.new.image ≡ c.self.inside.image.len = omega (arith, c.patch.auto.image, c.self.inside.image.ok) in
    let held : (with_items c.self.inside.image c.patch.new.image).items ≡ patched c.args.at c.args.bytes.now c.args.self.now.image =
    written c.self.inside.image c.args.at c.args.bytes.now _ c.patch.new.image c.args.self.now.image c.deref_mut.ensures.value
    (ap (λ (s : Sure). s.image) c.self.view_is) long c.patch.ensures in
    record {
      held = λ told. rw held (Torn-patched c.args.at c.args.bytes.now c.args.self.now.image c.requires);
      no_more = λ told image left. absurd (false≢true told);
      no_less = λ told image left. absurd (false≢true told);
    }

pub returns-clause-extent : goal.returns-clause-extent
returns-clause-extent c =
    let long : length c.patch.new.image ≡ c.self.inside.image.len = omega (arith, c.patch.auto.image, c.self.inside.image.ok) in
    let held : (with_items c.self.inside.image c.patch.new.image).items ≡ patched c.args.at c.args.bytes.now c.args.self.now.image =
    written c.self.inside.image c.args.at c.args.bytes.now _ c.patch.new.image c.args.self.now.image c.deref_mut.ensures.value
    (ap (λ (s : Sure). s.image) c.self.view_is) long c.patch.ensures in
    ap (λ (l : List ℕ). length l) held ∙ length-patched c.args.at c.args.bytes.now c.args.self.now.image c.requires

pub returns-clause-moments : goal.returns-clause-moments
returns-clause-moments c = λ told. absurd (false≢true told)

pub returns-clause-passes : goal.returns-clause-passes
returns-clause-passes c = record {
  input = record {
    input = ap (λ (s : Sure). s.input) c.self.view_is;
    taken = ap (λ (s : Sure). s.taken) c.self.view_is;
    pulled_before = ap (λ (s : Sure). s.pulled_before) c.self.view_is;
  };
  input_faults = refl;
  announced = record {
    announced = c.begin_anew.ensures.number ∙ ap (λ (s : Sure). s.announced.number) c.self.view_is;
    numbers = inl (c.begin_anew.ensures.least ∙ sym c.begin_anew.ensures.number, c.begin_anew.ensures.greatest ∙ sym c.begin_anew.ensures.number);
  };
  disk_faults = omega arith;
  time = record {
    later = omega arith;
    earlier = λ told. absurd (false≢true told);
    added = λ told. absurd (false≢true told);
    no_more = λ told. absurd (false≢true told);
  };
}
