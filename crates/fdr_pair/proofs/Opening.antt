-- What was read of the headers of both sides.
use Rattle.std.proofs.Common.{◌≡◌, ◌≢◌, ◌⊎◌, inl, inr, ⊎_elim, ℕ, ◌-◌, ◌^◌, ◌<◌, ◌≤◌, Bool, true, false, List, refl, sym, ◌∙◌, ap, arith, subst}
use Rattle.std.proofs.Common.{Option, Some, None}
use Rattle.std.proofs.lemmas.Bool.{cond-true, cond-false, lt-ltb, le-ltb, eqb-true, eqb-false, and_parts}
use Rattle.std.specs.Prelude.{IsTrue, IfOk, OnOk, IfErr, Result, Ok, Err, nat_lt, nat_eq, if◌then◌else◌, ◌&&◌, ◌↔◌}
use Rattle.fdr_io.specs.Faults.{Rose}
use Rattle.fdr_deck.specs.State.{State, Tells}
use Rattle.fdr_deck.specs.Disk.{KeepsDisk, LearnsExtent}
use Rattle.fdr_deck.specs.Calls.{Succeeds}
use Rattle.fdr_slot.specs.Places.{image_size}
use Rattle.fdr_slot.specs.declared.image.ImageFault.TheVariants as image_fault
use Rattle.fdr_recover.specs.declared.error.RingFault.{RingFault}
use Rattle.fdr_recover.specs.declared.error.RingFault.TheVariants as ring
use Rattle.fdr_twin.specs.Same.{IsSameState}
use Rattle.fdr_slot.specs.Limits.{IsInLimits}
use Rattle.fdr_slot.specs.declared.image.Header.{Header}
use Rattle.fdr_slot.specs.declared.image.ImageFault.{ImageFault}
use Rattle.fdr_recover.specs.ImageHeader.{image_fault_of, header_in}
use Rattle.fdr_twin.specs.declared.side.Side.{Side}
use Rattle.fdr_twin.specs.declared.side.Side.TheVariants.{First, Second}
use Rattle.fdr_twin.specs.Pair.{Pair, disk_on, seen}
use Rattle.fdr_twin.specs.Rest.{LeavesSide}
use Rattle.fdr_twin.specs.Sound.{IsSoundPair}
use Rattle.fdr_twin.specs.Serving.{Serves}
use Rattle.fdr_pair.specs.PairWork.{PairWork, IsLookedAt}
use Rattle.fdr_pair.proofs.PairWorks.{work_then, looked_first, looked_second}
use Rattle.fdr_pair.specs.Bringing.{HasNoFault}
use Rattle.fdr_pair.specs.declared.outcome.PairOutcome.{PairOutcome}
use Rattle.fdr_pair.specs.declared.outcome.PairOutcome.TheVariants as outcome
use Rattle.fdr_pair.specs.declared.open.SideHeader.{SideHeader}
use Rattle.fdr_pair.specs.declared.open.SideHeader.TheVariants.{Read, Refused, Failed}
use Rattle.fdr_pair.specs.declared.open.LivingSides.{LivingSides}
use Rattle.fdr_pair.specs.declared.open.LivingSides.TheVariants.{Both, OnlyFirst, OnlySecond}
use Rattle.fdr_pair.specs.declared.open.Opened.{Opened}
use Rattle.fdr_pair.specs.Opening.{side_header, header_or_fault, header_read, header_after, same_header, common_header}
use Rattle.fdr_pair.specs.Opening.{opened_unless, checked, opening, IsReadOf, FitsExtent, IsCountedAs}
use Rattle.fdr_pair.specs.Opening.{LooksAtSide, ReadsHeader, AreLiving, OnLiving, IsHeaderOn, HasLivingSide, IsOpeningRefusal}
use Rattle.fdr_pair.specs.Opening.{AreCountsBelowMost, IsHeaderAnswer, IsRefusedByHeaders, read_unless}
use Rattle.fdr_pair.specs.SideCounts.{CountsBoth}

-- reading the header of an image, as it is on the deck of a twin that is turned to a side
module _ (tells : Tells) (side : Side) (s t : State) (p q : Pair) (before : IsSameState s (seen side p)) (after : IsSameState t (seen side q))
    (extent : LearnsExtent tells s t) (disk : KeepsDisk s t) where
  pub looks_at : LooksAtSide tells side p q
  looks_at = record {
    extent = record {
      bytes = λ told. after.extent ∙ extent.bytes told ∙ sym before.extent;
      stops = λ told. after.extent ∙ extent.stops told ∙ sym before.extent;
      known = λ some. after.extent ∙ extent.known (subst (λ (n : ℕ). 0 < n) before.extent some) ∙ sym before.extent;
    };
    disk = record {
      held = after.held ∙ disk.held ∙ sym before.held;
      no_more = λ image is. before.leaves image (disk.no_more image (after.left image is));
      no_less = λ image is. after.leaves image (disk.no_less image (before.left image is));
    };
  }

  pub reads_as : (r : Result Header RingFault)
      → (IsTrue tells.bytes → IfOk r (λ h. h ≡ header_in s.held))
      → (IsTrue tells.bytes → OnOk r (image_fault_of s.held ≡ None))
      → (IsTrue tells.bytes → (why : ImageFault) → r ≡ Err (ring.Image why) → image_fault_of s.held ≡ Some why)
      → ((why : ImageFault) → r ≡ Err (ring.Image why) → (why ≡ image_fault.Small) ↔ (t.extent < 64))
      → (r ≢ Err ring.NotEmpty × r ≢ Err ring.SeqEnd)
      → IfOk r IsInLimits → IfOk r (λ h. image_size h ≤ t.extent)
      → (r ≢ Err ring.DiskFault → Succeeds s t)
      → (r ≡ Err ring.DiskFault → Rose s.disk_faults t.disk_faults)
      → ReadsHeader tells side (side_header r) p q
  reads_as (Ok h) read good first_fault small only limits whole succeeds cause = record {
    read = λ told.
        let none : image_fault_of (disk_on side p).held ≡ None = ap image_fault_of before.held ∙ good told in
        let is : h ≡ header_in (disk_on side p).held = read told ∙ ap header_in (sym before.held) in
        ap Read is ∙ ap (λ (o : Option ImageFault). header_or_fault o (header_in (disk_on side p).held)) (sym none);
    fits = (limits, subst (λ (n : ℕ). image_size h ≤ n) (sym after.extent) whole);
    faults = after.disk_faults ∙ (succeeds (λ is. absurd (cc))).disk_faults ∙ sym before.disk_faults;
    looks = looks_at;
  }
  reads_as (Err (ring.Image why)) read good first_fault small only limits whole succeeds cause = record {
    read = λ told.
        let some : image_fault_of (disk_on side p).held ≡ Some why = ap image_fault_of before.held ∙ first_fault told why refl in
        ap (λ (o : Option ImageFault). header_or_fault o (header_in (disk_on side p).held)) (sym some);
    fits = subst (λ (n : ℕ). (why ≡ image_fault.Small) ↔ (n < 64)) (sym after.extent) (small why refl);
    faults = after.disk_faults ∙ (succeeds (λ is. absurd (cc))).disk_faults ∙ sym before.disk_faults;
    looks = looks_at;
  }
  reads_as (Err ring.DiskFault) read good first_fault small only limits whole succeeds cause = record {
    read = λ told. tt;
    fits = tt;
    faults = subst (λ (n : ℕ). Rose n (disk_on side q).faults) (sym before.disk_faults)
        (subst (λ (n : ℕ). Rose s.disk_faults n) (sym after.disk_faults) (cause refl));
    looks = looks_at;
  }
  reads_as (Err ring.NotEmpty) read good first_fault small only limits whole succeeds cause = absurd (only.0 refl)
  reads_as (Err ring.SeqEnd) read good first_fault small only limits whole succeeds cause = absurd (only.1 refl)

-- what was read of a side, after calls that leave it
pub reads_then : (tells : Tells) (side : Side) (r : SideHeader) (p q t : Pair) → ReadsHeader tells side r p q → LeavesSide side q t
    → ReadsHeader tells side r p t
reads_then tells side r p q t reads left = record {
  read = reads.read;
  fits = subst (λ (n : ℕ). FitsExtent r n) (sym left.disk.extent) reads.fits;
  faults = subst (λ (n : ℕ). IsCountedAs r (disk_on side p).faults n) (sym left.disk.faults) reads.faults;
  looks = record {
    extent = record {
      bytes = λ told. left.disk.extent ∙ reads.looks.extent.bytes told;
      stops = λ told. left.disk.extent ∙ reads.looks.extent.stops told;
      known = λ some. left.disk.extent ∙ reads.looks.extent.known some;
    };
    disk = record {
      held = left.disk.held ∙ reads.looks.disk.held;
      no_more = λ image is. reads.looks.disk.no_more image (left.disk.no_more image is);
      no_less = λ image is. left.disk.no_less image (reads.looks.disk.no_less image is);
    };
  };
}

-- what is read of a side, before which calls left it
pub then_reads : (tells : Tells) (side : Side) (r : SideHeader) (p q t : Pair) → LeavesSide side p q → ReadsHeader tells side r q t
    → ReadsHeader tells side r p t
then_reads tells side r p q t left reads = record {
  read = λ told. subst (λ (l : List ℕ). IsReadOf r l) left.disk.held (reads.read told);
  fits = reads.fits;
  faults = subst (λ (n : ℕ). IsCountedAs r n (disk_on side t).faults) left.disk.faults reads.faults;
  looks = record {
    extent = record {
      bytes = λ told. reads.looks.extent.bytes told ∙ left.disk.extent;
      stops = λ told. reads.looks.extent.stops told ∙ left.disk.extent;
      known = λ some. reads.looks.extent.known (subst (λ (n : ℕ). 0 < n) (sym left.disk.extent) some) ∙ left.disk.extent;
    };
    disk = record {
      held = reads.looks.disk.held ∙ left.disk.held;
      no_more = λ image is. left.disk.no_more image (reads.looks.disk.no_more image is);
      no_less = λ image is. reads.looks.disk.no_less image (left.disk.no_less image is);
    };
  };
}

-- the disks of both sides are looked at, one after the other
pub both_looked : (tells : Tells) (old mid new : Pair) → IsSoundPair tells old → IsSoundPair tells mid → KeepsDisk (seen First old) (seen First mid)
    → Serves tells First old.first.may_leave old mid → CountsBoth old mid → Serves tells Second mid.second.may_leave mid new → CountsBoth mid new
    → PairWork tells (IsLookedAt old) old new
both_looked tells old mid new sound sound_mid keeps one counts_one two counts_two =
    work_then tells (IsLookedAt old) (IsLookedAt mid) (IsLookedAt old) old mid new sound_mid (looked_first tells old mid sound one counts_one)
    (looked_second tells mid new sound_mid two counts_two) (λ stops m is. is)
    (λ stops m is. record { first = keeps.no_more m.first is.first; second = one.other.disk.no_more m.second is.second })

-- what was read of a side is shown by its counts and its bytes
pub header_shown : (tells : Tells) (side : Side) (r : SideHeader) (p q : Pair) → ReadsHeader tells side r p q → IsTrue tells.bytes
    → (disk_on side q).faults < 2 ^ 64 - 1 → header_after (disk_on side p) (disk_on side q) ≡ r
header_shown tells side Failed p q reads told below =
    let rose : (disk_on side p).faults < (disk_on side q).faults = omega (arith, reads.faults, below) in
    cond-true (nat_lt (disk_on side p).faults (disk_on side q).faults) Failed (header_read (disk_on side p).held)
    (lt-ltb (disk_on side p).faults (disk_on side q).faults rose)
header_shown tells side (Refused why) p q reads told below =
    let same : (disk_on side q).faults ≤ (disk_on side p).faults = omega (arith, reads.faults) in
    cond-false (nat_lt (disk_on side p).faults (disk_on side q).faults) Failed (header_read (disk_on side p).held)
    (le-ltb (disk_on side p).faults (disk_on side q).faults same) ∙ sym (reads.read told)
header_shown tells side (Read h) p q reads told below =
    let same : (disk_on side q).faults ≤ (disk_on side p).faults = omega (arith, reads.faults) in
    cond-false (nat_lt (disk_on side p).faults (disk_on side q).faults) Failed (header_read (disk_on side p).held)
    (le-ltb (disk_on side p).faults (disk_on side q).faults same) ∙ sym (reads.read told)

-- a header that was read of an image is its header, and the image has no fault
no_fault_in : (o : Option ImageFault) (h k : Header) → Read h ≡ header_or_fault o k → o ≡ None
no_fault_in None h k is = refl
no_fault_in (Some why) h k is = absurd (cc)

the_header_in : (o : Option ImageFault) (h k : Header) → Read h ≡ header_or_fault o k → h ≡ k
the_header_in None h k is = cc
the_header_in (Some why) h k is = absurd (cc)

pub header_on_side : (tells : Tells) (side : Side) (h : Header) (p q : Pair) → ReadsHeader tells side (Read h) p q → IsHeaderOn tells h side p q
header_on_side tells side h p q reads = record {
  limits = reads.fits.0;
  whole = reads.fits.1;
  read = λ told. the_header_in (image_fault_of (disk_on side p).held) h (header_in (disk_on side p).held) (reads.read told);
  no_fault = λ told. no_fault_in (image_fault_of (disk_on side p).held) h (header_in (disk_on side p).held) (reads.read told);
}

header_by : (a b c d e f g i : ℕ) → a ≡ e → b ≡ f → c ≡ g → d ≡ i
    → (let x : Header = record { slots = a; payload = b; words = c; version = d } in x) ≡ record { slots = e; payload = f; words = g; version = i }
header_by a b c d e f g i slots payload words version = cc

-- headers that are the same in each number are the same
header_same : (h k : Header) → same_header h k ≡ true → h ≡ k
header_same h k same =
    let two = nat_eq h.slots k.slots && nat_eq h.payload k.payload in
    let last = and_parts (two && nat_eq h.words k.words) (nat_eq h.version k.version) same in
    let more = and_parts two (nat_eq h.words k.words) last.0 in
    let both = and_parts (nat_eq h.slots k.slots) (nat_eq h.payload k.payload) more.0 in
    header_by h.slots h.payload h.words h.version k.slots k.payload k.words k.version (eqb-true h.slots k.slots both.0)
    (eqb-true h.payload k.payload both.1) (eqb-true h.words k.words more.1) (eqb-true h.version k.version last.1)

-- both sides have a header
both_of : (b : Bool) (h k : Header) (opened o : Opened) → same_header h k ≡ b
    → (if b then Ok opened else Err outcome.HeadersDiffer) ≡ Ok o → (o ≡ opened) × (h ≡ k)
both_of true h k opened o same is = (cc, header_same h k same)
both_of false h k opened o same is = absurd (cc)

module _ (tells : Tells) (p q : Pair) where
  -- which sides haven't failed
  pub living_sides : (a b : SideHeader) (o : Opened) → ReadsHeader tells First a p q → ReadsHeader tells Second b p q → common_header a b ≡ Ok o
      → AreLiving o.living p q
  living_sides Failed Failed o first second is = absurd (cc)
  living_sides (Refused why) b o first second is = absurd (cc)
  living_sides Failed (Refused why) o first second is = absurd (cc)
  living_sides (Read h) (Refused why) o first second is = absurd (cc)
  living_sides (Read h) Failed o first second is =
      let opened : record { header = h; living = OnlyFirst } ≡ o = cc in
      subst (λ (x : Opened). AreLiving x.living p q) opened (record { rose = second.faults; other = first.faults })
  living_sides Failed (Read h) o first second is =
      let opened : record { header = h; living = OnlySecond } ≡ o = cc in
      subst (λ (x : Opened). AreLiving x.living p q) opened (record { rose = first.faults; other = second.faults })
  living_sides (Read h) (Read k) o first second is =
      let both = both_of (same_header h k) h k (record { header = h; living = Both }) o refl is in
      subst (λ (x : Opened). AreLiving x.living p q) (sym both.0) (record { first = first.faults; second = second.faults })

  -- the header is that of each of them
  pub living_header : (a b : SideHeader) (o : Opened) → ReadsHeader tells First a p q → ReadsHeader tells Second b p q → common_header a b ≡ Ok o
      → OnLiving o.living (λ side. IsHeaderOn tells o.header side p q)
  living_header Failed Failed o first second is = absurd (cc)
  living_header (Refused why) b o first second is = absurd (cc)
  living_header Failed (Refused why) o first second is = absurd (cc)
  living_header (Read h) (Refused why) o first second is = absurd (cc)
  living_header (Read h) Failed o first second is =
      let opened : record { header = h; living = OnlyFirst } ≡ o = cc in
      subst (λ (x : Opened). OnLiving x.living (λ side. IsHeaderOn tells x.header side p q)) opened (header_on_side tells First h p q first)
  living_header Failed (Read h) o first second is =
      let opened : record { header = h; living = OnlySecond } ≡ o = cc in
      subst (λ (x : Opened). OnLiving x.living (λ side. IsHeaderOn tells x.header side p q)) opened (header_on_side tells Second h p q second)
  living_header (Read h) (Read k) o first second is =
      let both = both_of (same_header h k) h k (record { header = h; living = Both }) o refl is in
      subst (λ (x : Opened). OnLiving x.living (λ side. IsHeaderOn tells x.header side p q)) (sym both.0) (
        header_on_side tells First h p q first,
        header_on_side tells Second h p q (subst (λ (x : Header). ReadsHeader tells Second (Read x) p q) (sym both.1) second),
      )

  -- a side that hasn't failed
  living_one : (s : LivingSides) → AreLiving s p q → HasLivingSide p q
  living_one Both living = inl living.first
  living_one OnlyFirst living = inl living.other
  living_one OnlySecond living = inr living.other

  pub one_living : (a b : SideHeader) (o : Opened) → ReadsHeader tells First a p q → ReadsHeader tells Second b p q → common_header a b ≡ Ok o
      → HasLivingSide p q
  one_living a b o first second is = living_one o.living (living_sides a b o first second is)

  differ_of : (c : Bool) (words : ℕ) (opened : Opened) (why : PairOutcome)
      → (if c then Ok opened else Err outcome.HeadersDiffer) ≡ Err why → HasNoFault p q → IsOpeningRefusal words why p q
  differ_of true words opened why is none = absurd (cc)
  differ_of false words opened why is none =
      let differ : outcome.HeadersDiffer ≡ why = cc in
      subst (λ (x : PairOutcome). IsOpeningRefusal words x p q) differ none

  -- why there is no common header
  pub no_common_header : (words : ℕ) (a b : SideHeader) (why : PairOutcome) → ReadsHeader tells First a p q → ReadsHeader tells Second b p q
      → common_header a b ≡ Err why → IsOpeningRefusal words why p q
  no_common_header words Failed Failed why first second is =
      let fault : outcome.DiskFault ≡ why = cc in
      subst (λ (x : PairOutcome). IsOpeningRefusal words x p q) fault (first.faults, second.faults)
  no_common_header words (Refused bad) b why first second is =
      let fault : outcome.ImageRefused First bad ≡ why = cc in
      subst (λ (x : PairOutcome). IsOpeningRefusal words x p q) fault (first.faults, first.fits)
  no_common_header words Failed (Refused bad) why first second is =
      let fault : outcome.ImageRefused Second bad ≡ why = cc in
      subst (λ (x : PairOutcome). IsOpeningRefusal words x p q) fault (second.faults, second.fits)
  no_common_header words (Read h) (Refused bad) why first second is =
      let fault : outcome.ImageRefused Second bad ≡ why = cc in
      subst (λ (x : PairOutcome). IsOpeningRefusal words x p q) fault (second.faults, second.fits)
  no_common_header words (Read h) Failed why first second is = absurd (cc)
  no_common_header words Failed (Read h) why first second is = absurd (cc)
  no_common_header words (Read h) (Read k) why first second is =
      differ_of (same_header h k) words (record { header = h; living = Both }) why is (record { first = first.faults; second = second.faults })

  refusal_of : (c d : Bool) (words : ℕ) (x : Opened) (why : PairOutcome) → nat_eq x.header.words words ≡ c → HasLivingSide p q
      → opened_unless (if c then (if d then Some outcome.OldVersion else None) else Some (outcome.WordsDiffer x.header.words words)) x ≡ Err why
      → IsOpeningRefusal words why p q
  refusal_of true true words x why test living is =
      let fault : outcome.OldVersion ≡ why = cc in
      subst (λ (y : PairOutcome). IsOpeningRefusal words y p q) fault living
  refusal_of true false words x why test living is = absurd (cc)
  refusal_of false d words x why test living is =
      let fault : outcome.WordsDiffer x.header.words words ≡ why = cc in
      subst (λ (y : PairOutcome). IsOpeningRefusal words y p q) fault (refl, eqb-false x.header.words words test, living)

  refused_by : (words : ℕ) (r : Result Opened PairOutcome) (why : PairOutcome) → ((x : Opened) → r ≡ Ok x → HasLivingSide p q)
      → ((e : PairOutcome) → r ≡ Err e → IsOpeningRefusal words e p q) → checked words r ≡ Err why → IsOpeningRefusal words why p q
  refused_by words (Err e) why living none is = none why is
  refused_by words (Ok x) why living none is =
      refusal_of (nat_eq x.header.words words) (nat_eq x.header.version 1) words x why refl (living x refl) is

  -- why both sides aren't opened
  pub not_opened : (words : ℕ) (a b : SideHeader) (why : PairOutcome) → ReadsHeader tells First a p q → ReadsHeader tells Second b p q
      → opening words a b ≡ Err why → IsOpeningRefusal words why p q
  not_opened words a b why first second is = refused_by words (common_header a b) why (λ x found. one_living a b x first second found)
      (λ e found. no_common_header words a b e first second found) is

  limits_of : (h : Header) (s : LivingSides) → OnLiving s (λ side. IsHeaderOn tells h side p q) → IsInLimits h
  limits_of h Both on = on.0.limits
  limits_of h OnlyFirst on = on.limits
  limits_of h OnlySecond on = on.limits

  -- the version of the header that both sides are opened by
  pub second_version : (a b : SideHeader) (o : Opened) → ReadsHeader tells First a p q → ReadsHeader tells Second b p q → common_header a b ≡ Ok o
      → (o.header.version ≡ 1 → ⊥) → o.header.version ≡ 2
  second_version a b o first second is other =
      let limits = limits_of o.header o.living (living_header a b o first second is) in
      let least : 1 ≤ o.header.version = limits.least_version in
      let most : o.header.version ≤ 2 = limits.most_version in
      omega (arith, least, most, other)

passed : (c d : Bool) (words : ℕ) (x o : Opened)
    → opened_unless (if c then (if d then Some outcome.OldVersion else None) else Some (outcome.WordsDiffer x.header.words words)) x ≡ Ok o
    → (c ≡ true) × (d ≡ false) × (x ≡ o)
passed true true words x o is = absurd (cc)
passed true false words x o is = (refl, refl, cc)
passed false d words x o is = absurd (cc)

-- The sides were opened by this header.
pub record IsOpenedBy (count : ℕ) (r : Result Opened PairOutcome) (o : Opened) : Type 0 where
  pub common : r ≡ Ok o
  pub words : o.header.words ≡ count
  pub version : o.header.version ≡ 1 → ⊥

checked_ok : (words : ℕ) (r : Result Opened PairOutcome) (o : Opened) → checked words r ≡ Ok o → IsOpenedBy words r o
checked_ok words (Err e) o is = absurd (cc)
checked_ok words (Ok x) o is =
    let found = passed (nat_eq x.header.words words) (nat_eq x.header.version 1) words x o is in
    subst (λ (y : Opened). IsOpenedBy words (Ok x) y) found.2 (record {
      common = refl;
      words = eqb-true x.header.words words found.0;
      version = eqb-false x.header.version 1 found.1;
    })

pub opened_by : (words : ℕ) (a b : SideHeader) (o : Opened) → opening words a b ≡ Ok o → IsOpenedBy words (common_header a b) o
opened_by words a b o is = checked_ok words (common_header a b) o is

pub if_ok : (r : Result Opened PairOutcome) (P : Opened → Type 0) → ((o : Opened) → r ≡ Ok o → P o) → IfOk r P
if_ok (Ok o) P holds = holds o refl
if_ok (Err e) P holds = tt

pub if_err : (r : Result Opened PairOutcome) (P : PairOutcome → Type 0) → ((e : PairOutcome) → r ≡ Err e → P e) → IfErr r P
if_err (Ok o) P holds = tt
if_err (Err e) P holds = holds e refl

-- both failed, which isn't an answer of the headers
no_disk_fault : IsHeaderAnswer outcome.DiskFault → ⊥
no_disk_fault is = ⊎_elim
    (λ refused. let never = refused.2 in absurd (cc))
    (λ more. ⊎_elim
    (λ differ. absurd (cc))
    (λ rest. ⊎_elim (λ words. let never = words.2 in absurd (cc)) (λ version. absurd (cc)) rest)
    more)
    is

of_both_sides : (P : Side → Type 0) → P First → P Second → (side : Side) → P side
of_both_sides P first second First = first
of_both_sides P first second Second = second

unless_this : (failed : Option Side) (side : Side) (read : SideHeader) → failed ≡ Some side → read_unless failed side read ≡ Failed
unless_this None side read is = absurd (cc)
unless_this (Some First) First read is = refl
unless_this (Some First) Second read is = absurd (cc)
unless_this (Some Second) First read is = absurd (cc)
unless_this (Some Second) Second read is = refl

unless_other : (failed : Option Side) (side : Side) (read : SideHeader) → (failed ≡ Some side → ⊥) → read_unless failed side read ≡ read
unless_other None side read not = refl
unless_other (Some First) First read not = absurd (not refl)
unless_other (Some First) Second read not = refl
unless_other (Some Second) First read not = refl
unless_other (Some Second) Second read not = absurd (not refl)

-- what was read of a side, and its count: it failed and its count rose, or its image was read
read_or_failed : (tells : Tells) (side : Side) (r : SideHeader) (p q : Pair) → ReadsHeader tells side r p q → IsTrue tells.bytes
    → ((r ≡ Failed) × Rose (disk_on side p).faults (disk_on side q).faults)
    ⊎ ((r ≡ header_read (disk_on side p).held) × ((disk_on side q).faults ≡ (disk_on side p).faults))
read_or_failed tells side Failed p q reads told = inl (refl, reads.faults)
read_or_failed tells side (Refused why) p q reads told = inr (reads.read told, reads.faults)
read_or_failed tells side (Read h) p q reads told = inr (reads.read told, reads.faults)

-- a refusal by the headers, by the side that failed
pub refused_as_read : (tells : Tells) (words : ℕ) (a b : SideHeader) (p q : Pair) (why : PairOutcome) → ReadsHeader tells First a p q
    → ReadsHeader tells Second b p q → opening words a b ≡ Err why → IsHeaderAnswer why → IsTrue tells.bytes → IsRefusedByHeaders words p q why
refused_as_read tells words a b p q why first second is answer told = ⊎_elim
    (λ one. ⊎_elim
    (λ other.
    let e : Err outcome.DiskFault ≡ Err why = subst (λ (x : SideHeader). opening words x Failed ≡ Err why) one.0
    (subst (λ (x : SideHeader). opening words a x ≡ Err why) other.0 is) in
    let fault : outcome.DiskFault ≡ why = cc in
    absurd (no_disk_fault (subst IsHeaderAnswer (sym fault) answer)))
    (λ other. record {
      failed = Some First;
      rose = λ side e. let same : First ≡ side = cc in subst (λ (x : Side). Rose (disk_on x p).faults (disk_on x q).faults) same one.1;
      only = of_both_sides (λ (x : Side). (Some First ≡ Some x) ⊎ ((disk_on x q).faults ≡ (disk_on x p).faults)) (inl refl) (inr other.1);
      refused = subst (λ (x : SideHeader). opening words x (header_read p.second.held) ≡ Err why) one.0
          (subst (λ (x : SideHeader). opening words a x ≡ Err why) other.0 is);
    })
    (read_or_failed tells Second b p q second told))
    (λ one. ⊎_elim
    (λ other. record {
      failed = Some Second;
      rose = λ side e. let same : Second ≡ side = cc in subst (λ (x : Side). Rose (disk_on x p).faults (disk_on x q).faults) same other.1;
      only = of_both_sides (λ (x : Side). (Some Second ≡ Some x) ⊎ ((disk_on x q).faults ≡ (disk_on x p).faults)) (inr one.1) (inl refl);
      refused = subst (λ (x : SideHeader). opening words x Failed ≡ Err why) one.0
          (subst (λ (x : SideHeader). opening words a x ≡ Err why) other.0 is);
    })
    (λ other. record {
      failed = None;
      rose = λ side e. absurd (cc);
      only = of_both_sides (λ (x : Side). (None ≡ Some x) ⊎ ((disk_on x q).faults ≡ (disk_on x p).faults)) (inr one.1) (inr other.1);
      refused = subst (λ (x : SideHeader). opening words x (header_read p.second.held) ≡ Err why) one.0
          (subst (λ (x : SideHeader). opening words a x ≡ Err why) other.0 is);
    })
    (read_or_failed tells Second b p q second told))
    (read_or_failed tells First a p q first told)

-- where no count is at its greatest, the counts show which side failed
pub refused_after : (words : ℕ) (p q : Pair) (why : PairOutcome) → IsRefusedByHeaders words p q why → AreCountsBelowMost q
    → opening words (header_after p.first q.first) (header_after p.second q.second) ≡ Err why
refused_after words p q why by below =
    subst (λ (x : SideHeader). opening words x (header_after p.second q.second) ≡ Err why) (sym (shows First below.first))
    (subst (λ (x : SideHeader). opening words (read_unless by.failed First (header_read p.first.held)) x ≡ Err why) (sym (shows Second below.second))
    by.refused)
  where
    shows_same : (side : Side) → (disk_on side q).faults < 2 ^ 64 - 1 → (disk_on side q).faults ≡ (disk_on side p).faults
        → header_after (disk_on side p) (disk_on side q) ≡ read_unless by.failed side (header_read (disk_on side p).held)
    shows_same side most same =
        cond-false (nat_lt (disk_on side p).faults (disk_on side q).faults) Failed (header_read (disk_on side p).held)
        (le-ltb (disk_on side p).faults (disk_on side q).faults (omega (arith, same)))
        ∙ sym (unless_other by.failed side (header_read (disk_on side p).held)
        (λ failed. let rose = by.rose side failed in omega (arith, rose, same, most)))

    shows : (side : Side) → (disk_on side q).faults < 2 ^ 64 - 1
        → header_after (disk_on side p) (disk_on side q) ≡ read_unless by.failed side (header_read (disk_on side p).held)
    shows side most = ⊎_elim
        (λ failed.
        let rose = by.rose side failed in
        let more : (disk_on side p).faults < (disk_on side q).faults = omega (arith, rose, most) in
        cond-true (nat_lt (disk_on side p).faults (disk_on side q).faults) Failed (header_read (disk_on side p).held)
        (lt-ltb (disk_on side p).faults (disk_on side q).faults more)
        ∙ sym (unless_this by.failed side (header_read (disk_on side p).held) failed))
        (λ same. shows_same side most same)
        (by.only side)
