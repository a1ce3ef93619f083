-- What an image keeps, over blocks that are recorded one after another.
use Rattle.std.proofs.Common.{◌≡◌, ⊎_elim, ℕ, suc, ◌+◌, ◌-◌, ◌≤◌, List, [], ◌∷◌, ◌++◌}
use Rattle.std.proofs.Common.{length, take, drop, refl, sym, ◌∙◌, ap, subst, arith, length-append, length-drop, append_assoc}
use Rattle.std.proofs.lemmas.List.{drop-append-le, drop-drop, take-append-le, append-nil}
use Rattle.fdr_slot.specs.declared.image.Header.{Header}
use Rattle.fdr_recover.specs.Blocks.{Block}
use Rattle.fdr_recover.specs.Images.{recovered_run, next_of}
use Rattle.fdr_ring.specs.Runs.{IsTail, KeepsRun, HasSame, HasAdded, MayAdd, last_blocks}
use Rattle.fdr_recorder.specs.Keeping.{RecoversPrefix, RecoversAll, RecoversPrefixAfter}
use Rattle.fdr_ring.proofs.Turning.{KeepsHeader-then}

pub tail_on : (m : ℕ) (whole part more rest : List Block) → IsTail m whole part → IsTail m (part ++ more) rest → IsTail m (whole ++ more) rest
tail_on m whole part more rest was is =
    let long : length part ≡ length whole - was.lost = ap (λ (l : List Block). length l) was.tail ∙ length-drop was.lost whole in
    let joined : part ++ more ≡ drop was.lost (whole ++ more) = ap (λ (l : List Block). l ++ more) was.tail
    ∙ sym (drop-append-le was.lost whole more was.within) in
    record {
      lost = was.lost + is.lost;
      within = omega (arith, is.within, was.within, long, length-append part more, length-append whole more);
      tail = is.tail ∙ ap (λ (l : List Block). drop is.lost l) joined ∙ drop-drop is.lost was.lost (whole ++ more);
      enough = omega (arith, is.enough, was.enough, length-append part more, length-append whole more);
    }

pub tail_same : (m : ℕ) (whole : List Block) → IsTail m whole whole
tail_same m whole = record { lost = 0; within = omega arith; tail = refl; enough = omega arith }

-- nothing was added
pub keeps_run : (h : Header) (entry image : List ℕ) (new : List Block) (told : ℕ) → KeepsRun h (h.slots - 2) entry image → told ≤ next_of h entry
    → RecoversPrefix h entry (recovered_run h entry) new told image
keeps_run h entry image new told keeps le = record {
  kept = keeps.kept;
  count = 0;
  fits = omega arith;
  run = subst (λ (l : List Block). IsTail (h.slots - 2) l (recovered_run h image)) (sym (append-nil (recovered_run h entry))) keeps.run;
  next = omega (arith, keeps.next);
  announced = omega (arith, keeps.next, le);
}

-- with an added block
pub all_added : (h : Header) (b : Block) (entry middle image : List ℕ) → KeepsRun h (h.slots - 2) entry middle → HasAdded h b middle image
    → RecoversAll h entry (recovered_run h entry) (b ∷ []) image
all_added h b entry middle image keeps added = record {
  kept = KeepsHeader-then entry middle image keeps.kept added.kept;
  run = tail_on (h.slots - 2) (recovered_run h entry) (recovered_run h middle) (b ∷ []) (recovered_run h image) keeps.run
      (subst (λ (l : List Block). IsTail (h.slots - 2) l (recovered_run h image)) added.run (tail_same (h.slots - 2) (recovered_run h image)));
  next = omega (arith, keeps.next, added.next);
}

-- the block was added, or it wasn't
pub keeps_added : (h : Header) (b : Block) (entry middle image : List ℕ) (told : ℕ) → KeepsRun h (h.slots - 2) entry middle
    → HasAdded h b middle image → told ≤ next_of h entry + 1 → RecoversPrefix h entry (recovered_run h entry) (b ∷ []) told image
keeps_added h b entry middle image told keeps added le = let all = all_added h b entry middle image keeps added in record {
  kept = all.kept;
  count = 1;
  fits = omega arith;
  run = all.run;
  next = all.next;
  announced = omega (arith, all.next, le);
}

pub keeps_same : (h : Header) (entry middle image : List ℕ) (new : List Block) (told : ℕ) → KeepsRun h (h.slots - 2) entry middle
    → HasSame h middle image → told ≤ next_of h entry → RecoversPrefix h entry (recovered_run h entry) new told image
keeps_same h entry middle image new told keeps same le = keeps_run h entry image new told (record {
  kept = KeepsHeader-then entry middle image keeps.kept same.kept;
  run = subst (λ (l : List Block). IsTail (h.slots - 2) (recovered_run h entry) l) (sym same.run) keeps.run;
  next = same.next ∙ keeps.next;
}) le

pub keeps_may : (h : Header) (b : Block) (entry middle image : List ℕ) (told : ℕ) → KeepsRun h (h.slots - 2) entry middle → MayAdd h b middle image
    → told ≤ next_of h entry → RecoversPrefix h entry (recovered_run h entry) (b ∷ []) told image
keeps_may h b entry middle image told keeps may le = ⊎_elim
    (λ same. keeps_same h entry middle image (b ∷ []) told keeps same le)
    (λ added. keeps_added h b entry middle image told keeps added (omega (arith, le)))
    may

take_all : (xs ys : List Block) (n : ℕ) → take (length xs + n) (xs ++ ys) ≡ xs ++ take n ys
take_all [] ys n = let e : 0 + n ≡ n = omega arith in ap (λ (m : ℕ). take m ys) e
take_all (x ∷ xs) ys n = let e : suc (length xs) + n ≡ suc (length xs + n) = omega arith in ap (λ (m : ℕ). take m (x ∷ (xs ++ ys))) e
    ∙ ap (λ (l : List Block). x ∷ l) (take_all xs ys n)

pub keeps_on : (h : Header) (entry middle image : List ℕ) (old new more : List Block) (told : ℕ) → RecoversAll h entry old new middle
    → RecoversPrefix h middle (recovered_run h middle) more told image → RecoversPrefix h entry old (new ++ more) told image
keeps_on h entry middle image old new more told has keeps = record {
  kept = KeepsHeader-then entry middle image has.kept keeps.kept;
  count = length new + keeps.count;
  fits = omega (arith, keeps.fits, length-append new more);
  run = subst (λ (l : List Block). IsTail (h.slots - 2) l (recovered_run h image)) (append_assoc old new (take keeps.count more)
      ∙ ap (λ (l : List Block). old ++ l) (sym (take_all new more keeps.count)))
      (tail_on (h.slots - 2) (old ++ new) (recovered_run h middle) (take keeps.count more) (recovered_run h image) has.run keeps.run);
  next = omega (arith, keeps.next, has.next);
  announced = keeps.announced;
}

pub keeps_more : (h : Header) (entry image : List ℕ) (old new more : List Block) (told : ℕ) → RecoversPrefix h entry old new told image
    → RecoversPrefix h entry old (new ++ more) told image
keeps_more h entry image old new more told keeps = record {
  kept = keeps.kept;
  count = keeps.count;
  fits = omega (arith, keeps.fits, length-append new more);
  run = subst (λ (l : List Block). IsTail (h.slots - 2) (old ++ l) (recovered_run h image)) (sym (take-append-le keeps.count new more keeps.fits)) keeps.run;
  next = keeps.next;
  announced = keeps.announced;
}

pub all_on : (h : Header) (entry middle image : List ℕ) (old new more : List Block) → RecoversAll h entry old new middle
    → RecoversAll h middle (recovered_run h middle) more image → RecoversAll h entry old (new ++ more) image
all_on h entry middle image old new more has also = record {
  kept = KeepsHeader-then entry middle image has.kept also.kept;
  run = subst (λ (l : List Block). IsTail (h.slots - 2) l (recovered_run h image)) (append_assoc old new more) (tail_on (h.slots - 2) (old ++ new)
      (recovered_run h middle) more (recovered_run h image) has.run also.run);
  next = omega (arith, also.next, has.next, length-append new more);
}

pub same_run : (h : Header) (image : List ℕ) → KeepsRun h (h.slots - 2) image image
same_run h image = record { kept = record { size = refl; header = refl }; run = tail_same (h.slots - 2) (recovered_run h image); next = refl }

-- before the first block
pub keeps_none : (h : Header) (image : List ℕ) → RecoversAll h image (recovered_run h image) [] image
keeps_none h image = record {
  kept = record { size = refl; header = refl };
  run = subst (λ (l : List Block). IsTail (h.slots - 2) l (recovered_run h image)) (sym (append-nil (recovered_run h image))) (tail_same
      (h.slots - 2) (recovered_run h image));
  next = omega arith;
}

pub keeps_behind : (h : Header) (entry image : List ℕ) (whole old new : List Block) (told : ℕ) → IsTail (h.slots - 2) whole old
    → RecoversPrefix h entry old new told image → RecoversPrefixAfter h whole new image
keeps_behind h entry image whole old new told tail keeps = record {
  count = keeps.count;
  fits = keeps.fits;
  run = tail_on (h.slots - 2) whole old (take keeps.count new) (recovered_run h image) tail keeps.run;
}

-- of the last N - 1 blocks the last N - 2 and one more are the last N - 1 again
pub last_one_more : (n : ℕ) (whole run : List Block) (b : Block) → 2 ≤ n → run ≡ last_blocks (n - 1) whole
    → last_blocks (n - 2) run ++ b ∷ [] ≡ last_blocks (n - 1) (whole ++ b ∷ [])
last_one_more n whole run b two is =
    let long : length run ≡ length whole - (length whole - (n - 1)) = ap (λ (l : List Block). length l) is ∙ length-drop (length whole - (n - 1)) whole in
    let first = length whole - (n - 1) in
    let more = length run - (n - 2) in
    let all : first + more ≡ length (whole ++ b ∷ []) - (n - 1) = omega (arith, long, two, length-append whole (b ∷ [])) in
    let within : first + more ≤ length whole = omega (arith, long, two) in
    ap (λ (l : List Block). drop more l ++ b ∷ []) is
    ∙ ap (λ (l : List Block). l ++ b ∷ []) (drop-drop more first whole)
    ∙ sym (drop-append-le (first + more) whole (b ∷ []) within)
    ∙ ap (λ k. drop k (whole ++ b ∷ [])) all
