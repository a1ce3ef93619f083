-- Calls that were interrupted, and a last one.
use Rattle.std.proofs.Common.{◌≡◌, ◌⊎◌, inl, inr, ⊎_elim, ℕ, ◌+◌, ◌-◌, ◌^◌, ◌≤◌, List, replicate, refl, sym, ap, ◌∙◌, subst, arith}
use Rattle.std.specs.Prelude.{IsTrue}
use Rattle.fdr_io.specs.Faults.{Rose}
use Rattle.fdr_deck.specs.Disk.{Torn}
use Rattle.fdr_storage.specs.Disk.{Told, StoredFile, IsSoundDisk}
use Rattle.fdr_storage.specs.Calls.{Keeps, KeepsMarks, Goes, HasCallCause, HasSameCounts, WritesFile, TearsFile, GrowsFile}
use Rattle.fdr_storage.specs.declared.refusal.Refusal.TheVariants.{Interrupted, Failed}
use Rattle.fdr_storage.proofs.Steps.{Keeps-here, Keeps-then, Goes-here, Goes-keep}
use Rattle.fdr_storage_deck.specs.Causes.{GaveUp, NoneFailed}

KeepsMarks-then : (old mid new : StoredFile) → KeepsMarks old mid → KeepsMarks mid new → KeepsMarks old new
KeepsMarks-then old mid new first second = record { whole = second.whole ∙ first.whole; flushed = second.flushed ∙ first.flushed }

-- This many calls were interrupted.
pub record Waits (told : Told) (count : ℕ) (old new : StoredFile) : Type 0 where
  pub keeps : Keeps old new
  pub marks : KeepsMarks old new
  pub goes : Goes told old new
  pub no_fault : NoneFailed told old new
  pub interruptions : IsTrue told.bytes → (old.interruptions + count ≤ new.interruptions) ⊎ (2 ^ 64 - 1 ≤ new.interruptions)

pub Waits-here : (told : Told) (d : StoredFile) → IsSoundDisk told d → Waits told 0 d d
Waits-here told d sound = record {
  keeps = Keeps-here d;
  marks = record { whole = refl; flushed = refl };
  goes = Goes-here told d sound;
  no_fault = λ told. refl;
  interruptions = λ told. inl (omega arith);
}

pub Waits-more : (told : Told) (count : ℕ) (old mid new : StoredFile) → IsSoundDisk told new → Waits told count old mid → Keeps mid new × KeepsMarks mid new →
    Goes told mid new
    → HasCallCause told Interrupted mid new → Waits told (count + 1) old new
Waits-more told count old mid new sound waits undone goes cause = record {
  keeps = Keeps-then old mid new waits.keeps undone.0;
  marks = KeepsMarks-then old mid new waits.marks undone.1;
  goes = Goes-keep told old mid new sound waits.keeps waits.goes goes;
  no_fault = λ is. (cause is).0 ∙ waits.no_fault is;
  interruptions = λ is. more (waits.interruptions is) (cause is).1;
}
  where
    more : (old.interruptions + count ≤ mid.interruptions) ⊎ (2 ^ 64 - 1 ≤ mid.interruptions) → Rose mid.interruptions new.interruptions
        → (old.interruptions + (count + 1) ≤ new.interruptions) ⊎ (2 ^ 64 - 1 ≤ new.interruptions)
    more (inl so_far) rose = grind arith
    more (inr all) rose = inr (omega (arith, all, rose))

pub Waits-goes : (told : Told) (count : ℕ) (old mid new : StoredFile) → IsSoundDisk told new → Waits told count old mid → Goes told mid new → Goes told old new
Waits-goes told count old mid new sound waits goes = Goes-keep told old mid new sound waits.keeps waits.goes goes

pub Waits-keeps : (told : Told) (count : ℕ) (old mid new : StoredFile) → Waits told count old mid → Keeps mid new → Keeps old new
Waits-keeps told count old mid new waits keeps = Keeps-then old mid new waits.keeps keeps

pub Waits-writes : (told : Told) (count at : ℕ) (bytes : List ℕ) (old mid new : StoredFile) → Waits told count old mid → WritesFile told at bytes mid new
    → WritesFile told at bytes old new
Waits-writes told count at bytes old mid new waits writes = record {
  held = λ is. subst (λ (h : List ℕ). new.held ≡ Rattle.fdr_deck.specs.Disk.patched at bytes h) waits.keeps.held (writes.held is);
  pending = λ is from image was torn. writes.pending is from image (waits.keeps.no_less from was) torn;
}

pub Waits-tears : (told : Told) (count at n : ℕ) (old mid new : StoredFile) → Waits told count old mid → TearsFile told at n mid new → TearsFile told at n old
    new
Waits-tears told count at n old mid new waits tears = record {
  held = λ is. subst (λ (h : List ℕ). Torn at n h new.held) waits.keeps.held (tears.held is);
  no_more = λ is image left. let was = tears.no_more is image left in (was.0, (waits.keeps.no_more was.0 was.1.0, was.1.1));
  no_less = λ is image was. tears.no_less is image (waits.keeps.no_less image was);
}

pub Waits-kept : (told : Told) (count at n : ℕ) (old new : StoredFile) → Waits told count old new → TearsFile told at n old new
Waits-kept told count at n old new waits = record {
  held = λ is. subst (λ (h : List ℕ). Torn at n old.held h) (sym waits.keeps.held) (record { size = refl; front = refl; behind = refl });
  no_more = λ is image left. (image, (waits.keeps.no_more image left, record { size = refl; front = refl; behind = refl }));
  no_less = λ is image was. waits.keeps.no_less image was;
}

pub Waits-grows : (told : Told) (count at most : ℕ) (old mid new : StoredFile) → Waits told count old mid → GrowsFile told at most mid new → GrowsFile told at
    most old new
Waits-grows told count at most old mid new waits grows = record {
  held = grows.held;
  no_more = λ is image left. ⊎_elim (λ was. inl (waits.keeps.no_more image was)) (λ zeros. inr zeros) (grows.no_more is image left);
  no_less = λ is image was. grows.no_less is image (waits.keeps.no_less image was);
}

pub Waits-padded : (told : Told) (count at most : ℕ) (old new : StoredFile) → (IsTrue told.bytes → old.held ≡ replicate at 0) → Waits told count old new
    → GrowsFile told at most old new
Waits-padded told count at most old new zeros waits = record {
  held = λ is. (0, (omega arith, waits.keeps.held ∙ zeros is ∙ ap (λ (k : ℕ). replicate k 0) (same at)));
  no_more = λ is image left. inl (waits.keeps.no_more image left);
  no_less = λ is image was. waits.keeps.no_less image was;
}
  where
    same : (k : ℕ) → k ≡ k + 0
    same k = omega arith

pub Waits-counts : (told : Told) (count : ℕ) (old mid new : StoredFile) → Waits told count old mid → HasSameCounts mid new → NoneFailed told old new
Waits-counts told count old mid new waits same is = same.faults ∙ waits.no_fault is

pub Waits-failed : (told : Told) (count : ℕ) (old mid new : StoredFile) → Waits told count old mid → HasCallCause told Failed mid new → GaveUp told old new
Waits-failed told count old mid new waits cause is = inl (subst (λ (n : ℕ). Rose n new.faults) (waits.no_fault is) (cause is).0)

pub Waits-out : (told : Told) (count : ℕ) (old new : StoredFile) → 2 ^ 64 - 1 ≤ count → Waits told count old new → GaveUp told old new
Waits-out told count old new many waits is =
    inr (⊎_elim {C = 2 ^ 64 - 1 ≤ new.interruptions} (λ all. omega (arith, all, many)) (λ all. all) (waits.interruptions is))
