-- Counts of faults over the steps of a start, and the answer that the headers give by them.
use Rattle.std.proofs.Common.{◌≡◌, ⊎_elim, ℕ, ◌-◌, ◌^◌, ◌<◌, ◌≤◌, Bool, true, false, List, refl, sym, ◌∙◌, ap, subst, arith}
use Rattle.std.proofs.Common.{Option, Some, None}
use Rattle.std.proofs.lemmas.Bool.{cond-true, cond-false, lt-ltb, le-ltb, eq-eqb, ne_eqb, and_from}
use Rattle.std.specs.Prelude.{IsTrue, Ok, Err, nat_lt, nat_eq, if◌then◌else◌, ◌&&◌, ⊤}
use Rattle.fdr_io.specs.Faults.{Rose}
use Rattle.fdr_deck.specs.State.{Tells}
use Rattle.fdr_slot.specs.declared.image.Header.{Header}
use Rattle.fdr_slot.specs.declared.image.ImageFault.{ImageFault}
use Rattle.fdr_recover.specs.ImageHeader.{image_fault_of, header_in}
use Rattle.fdr_twin.specs.declared.side.Side.{Side}
use Rattle.fdr_twin.specs.declared.side.Side.TheVariants.{First, Second}
use Rattle.fdr_twin.specs.Pair.{Pair, Disk, disk_on}
use Rattle.fdr_pair.specs.Alike.{HaveOneHeader}
use Rattle.fdr_pair.specs.Bringing.{HasNoFault, HasFailedAlone}
use Rattle.fdr_pair.specs.Opening.{header_or_fault, header_read, header_after, same_header, frame_refusal, opened_unless, checked, opening}
use Rattle.fdr_pair.specs.Opening.{AreCountsBelowMost, AreLiving, OnLiving, IsHeaderOn}
use Rattle.fdr_pair.specs.declared.open.LivingSides.{LivingSides}
use Rattle.fdr_pair.specs.declared.open.LivingSides.TheVariants.{Both, OnlyFirst, OnlySecond}
use Rattle.fdr_pair.specs.declared.open.Opened.{Opened}
use Rattle.fdr_pair.specs.declared.open.SideHeader.{SideHeader}
use Rattle.fdr_pair.specs.declared.open.SideHeader.TheVariants.{Read, Refused, Failed}
use Rattle.fdr_pair.specs.declared.outcome.PairOutcome.{PairOutcome}
use Rattle.fdr_pair.specs.declared.outcome.PairOutcome.TheVariants as outcome
use Rattle.fdr_pair.proofs.StartSteps.{HasOpened}
use Rattle.fdr_pair.specs.Opening.{IsHeaderAnswer}

-- Below 2^64 - 1 the count is no less than before.
abbrev pub KeepsCount : ℕ → ℕ → Type 0
KeepsCount old new = new < 2 ^ 64 - 1 → old ≤ new

-- So it is on both sides.
pub record KeepsCounts (old new : Pair) : Type 0 where
  pub first : KeepsCount old.first.faults new.first.faults
  pub second : KeepsCount old.second.faults new.second.faults

pub count_same : (old new : ℕ) → new ≡ old → KeepsCount old new
count_same old new same below = omega (arith, same)

pub count_rose : (old new : ℕ) → Rose old new → KeepsCount old new
count_rose old new rose below = omega (arith, rose, below)

pub counts_none : (old new : Pair) → HasNoFault old new → KeepsCounts old new
counts_none old new none = record {
  first = count_same old.first.faults new.first.faults none.first;
  second = count_same old.second.faults new.second.faults none.second;
}

pub counts_failed : (side : Side) (old new : Pair) → HasFailedAlone side old new → KeepsCounts old new
counts_failed First old new failed = record {
  first = count_rose old.first.faults new.first.faults failed.rose;
  second = count_same old.second.faults new.second.faults failed.other;
}
counts_failed Second old new failed = record {
  first = count_same old.first.faults new.first.faults failed.other;
  second = count_rose old.second.faults new.second.faults failed.rose;
}

pub counts_then : (old mid new : Pair) → KeepsCounts old mid → KeepsCounts mid new → KeepsCounts old new
counts_then old mid new one two = record {
  first = λ below.
      let later = two.first below in
      let earlier = one.first (omega (arith, later, below)) in
      omega (arith, earlier, later);
  second = λ below.
      let later = two.second below in
      let earlier = one.second (omega (arith, later, below)) in
      omega (arith, earlier, later);
}

-- a fault that was counted shows later
rose_shows : (a b c : ℕ) → Rose a b → KeepsCount b c → c < 2 ^ 64 - 1 → a < c
rose_shows a b c rose keeps below = let later = keeps below in omega (arith, rose, later, below)

-- no fault was counted over all, and so none between
pub none_rose : (side : Side) (old mid new : Pair) → Rose (disk_on side old).faults (disk_on side mid).faults → KeepsCounts mid new
    → AreCountsBelowMost new → HasNoFault old new → ⊥
none_rose First old mid new rose keeps below none =
    let shows = rose_shows old.first.faults mid.first.faults new.first.faults rose keeps.first below.first in
    omega (arith, shows, none.first)
none_rose Second old mid new rose keeps below none =
    let shows = rose_shows old.second.faults mid.second.faults new.second.faults rose keeps.second below.second in
    omega (arith, shows, none.second)

-- no side has failed, where no fault was counted over all
pub both_living : (s : LivingSides) (old mid new : Pair) → AreLiving s old mid → KeepsCounts mid new → AreCountsBelowMost new → HasNoFault old new
    → s ≡ Both
both_living Both old mid new living keeps below none = refl
both_living OnlyFirst old mid new living keeps below none = absurd (none_rose Second old mid new living.rose keeps below none)
both_living OnlySecond old mid new living keeps below none = absurd (none_rose First old mid new living.rose keeps below none)

-- The answer is one that the headers give, by its form.
abbrev pub IsOfHeaders : PairOutcome → Type 0
IsOfHeaders (outcome.ImageRefused s why) = ⊤
IsOfHeaders outcome.HeadersDiffer = ⊤
IsOfHeaders (outcome.WordsDiffer image table) = ⊤
IsOfHeaders outcome.OldVersion = ⊤
IsOfHeaders outcome.Done = ⊥
IsOfHeaders outcome.Usage = ⊥
IsOfHeaders (outcome.TableRefused row f) = ⊥
IsOfHeaders (outcome.TraceRefused index f) = ⊥
IsOfHeaders outcome.SeqEnd = ⊥
IsOfHeaders (outcome.ReadFault i) = ⊥
IsOfHeaders outcome.DiskFault = ⊥
IsOfHeaders outcome.NoMemory = ⊥
IsOfHeaders (outcome.BlocksDiffer seq) = ⊥
IsOfHeaders (outcome.LeadFault s) = ⊥
IsOfHeaders (outcome.FarBehind s) = ⊥

pub of_headers : (why : PairOutcome) → IsHeaderAnswer why → IsOfHeaders why
of_headers why is = ⊎_elim
    (λ refused. subst IsOfHeaders (sym refused.2) tt)
    (λ more. ⊎_elim
    (λ differ. subst IsOfHeaders (sym differ) tt)
    (λ rest. ⊎_elim
    (λ words. subst IsOfHeaders (sym words.2) tt)
    (λ version. subst IsOfHeaders (sym version) tt)
    rest)
    more)
    is

-- What is read of a side's header is this header, or the side failed.
abbrev IsReadAs : Header → SideHeader → Type 0
IsReadAs h Failed = ⊤
IsReadAs h (Refused why) = ⊥
IsReadAs h (Read k) = k ≡ h

-- a header that fits the table's frames isn't refused
frame_right : (words : ℕ) (h : Header) → h.words ≡ words → h.version ≡ 2 → frame_refusal words h ≡ None
frame_right words h same version =
    cond-true (nat_eq h.words words) (if nat_eq h.version 1 then Some outcome.OldVersion else None) (Some (outcome.WordsDiffer h.words words))
    (eq-eqb h.words words same)
    ∙ cond-false (nat_eq h.version 1) (Some outcome.OldVersion) None (ne_eqb h.version 1 (λ one. omega (arith, one, version)))

right_opens : (words : ℕ) (o : Opened) (why : PairOutcome) → o.header.words ≡ words → o.header.version ≡ 2 → checked words (Ok o) ≡ Err why → ⊥
right_opens words o why same version is =
    let opens : opened_unless (frame_refusal words o.header) o ≡ Ok o =
    ap (λ (x : Option PairOutcome). opened_unless x o) (frame_right words o.header same version) in
    absurd (cc)

-- a header is the same as itself
header_itself : (h : Header) → same_header h h ≡ true
header_itself h =
    let slots = eq-eqb h.slots h.slots refl in
    let payload = eq-eqb h.payload h.payload refl in
    let words = eq-eqb h.words h.words refl in
    let version = eq-eqb h.version h.version refl in
    and_from (nat_eq h.slots h.slots && nat_eq h.payload h.payload && nat_eq h.words h.words) (nat_eq h.version h.version)
    (and_from (nat_eq h.slots h.slots && nat_eq h.payload h.payload) (nat_eq h.words h.words)
    (and_from (nat_eq h.slots h.slots) (nat_eq h.payload h.payload) slots payload) words) version

header_twice : (h k l : Header) → k ≡ h → l ≡ h → same_header k l ≡ true
header_twice h k l one two =
    subst (λ (x : Header). same_header x l ≡ true) (sym one) (subst (λ (x : Header). same_header h x ≡ true) (sym two) (header_itself h))

-- two headers that are this one open both sides
two_open : (words : ℕ) (h k l : Header) (why : PairOutcome) → h.words ≡ words → h.version ≡ 2 → k ≡ h → l ≡ h
    → opening words (Read k) (Read l) ≡ Err why → ⊥
two_open words h k l why same version one two is =
    let both : Opened = record { header = k; living = Both } in
    let opens : checked words (if same_header k l then Ok both else Err outcome.HeadersDiffer) ≡ checked words (Ok both) =
    ap (λ (b : Bool). checked words (if b then Ok both else Err outcome.HeadersDiffer)) (header_twice h k l one two) in
    right_opens words both why (ap (λ (x : Header). x.words) one ∙ same) (ap (λ (x : Header). x.version) one ∙ version) (sym opens ∙ is)

-- sides that are read as one header, or failed, give no header answer
no_header_answer : (words : ℕ) (h : Header) (a b : SideHeader) (why : PairOutcome) → h.words ≡ words → h.version ≡ 2 → IsReadAs h a → IsReadAs h b
    → IsHeaderAnswer why → opening words a b ≡ Err why → ⊥
no_header_answer words h Failed Failed why same version one two header is =
    let fault : outcome.DiskFault ≡ why = cc in
    of_headers outcome.DiskFault (subst IsHeaderAnswer (sym fault) header)
no_header_answer words h (Refused bad) b why same version one two header is = one
no_header_answer words h Failed (Refused bad) why same version one two header is = two
no_header_answer words h (Read k) (Refused bad) why same version one two header is = two
no_header_answer words h (Read k) Failed why same version one two header is =
    right_opens words (record { header = k; living = OnlyFirst }) why (ap (λ (x : Header). x.words) one ∙ same)
    (ap (λ (x : Header). x.version) one ∙ version) is
no_header_answer words h Failed (Read k) why same version one two header is =
    right_opens words (record { header = k; living = OnlySecond }) why (ap (λ (x : Header). x.words) two ∙ same)
    (ap (λ (x : Header). x.version) two ∙ version) is
no_header_answer words h (Read k) (Read l) why same version one two header is = two_open words h k l why same version one two is

-- the header of an image without a fault
read_of : (image : List ℕ) (h : Header) → image_fault_of image ≡ None → h ≡ header_in image → header_read image ≡ Read h
read_of image h none is = ap (λ (o : Option ImageFault). header_or_fault o (header_in image)) none ∙ ap Read (sym is)

read_by : (b : Bool) (h : Header) (r : SideHeader) → r ≡ Read h → IsReadAs h (if b then Failed else r)
read_by true h r is = tt
read_by false h r is = subst (IsReadAs h) (sym is) refl

-- what is shown of a side with this header
living_read : (h : Header) (d e : Disk) → image_fault_of d.held ≡ None → h ≡ header_in d.held → IsReadAs h (header_after d e)
living_read h d e none is = read_by (nat_lt d.faults e.faults) h (header_read d.held) (read_of d.held h none is)

-- what is shown of a side that has failed
failed_read : (h : Header) (d e : Disk) → d.faults < e.faults → IsReadAs h (header_after d e)
failed_read h d e rose = subst (IsReadAs h)
    (sym (cond-true (nat_lt d.faults e.faults) Failed (header_read d.held) (lt-ltb d.faults e.faults rose))) tt

module _ (tells : Tells) (h : Header) (p0 p1 q : Pair) (keeps : KeepsCounts p1 q) (told : IsTrue tells.bytes) (below : AreCountsBelowMost q) where
  first_read : (s : LivingSides) → AreLiving s p0 p1 → OnLiving s (λ side. IsHeaderOn tells h side p0 p1) → IsReadAs h (header_after p0.first q.first)
  first_read Both living on = living_read h p0.first q.first (on.0.no_fault told) (on.0.read told)
  first_read OnlyFirst living on = living_read h p0.first q.first (on.no_fault told) (on.read told)
  first_read OnlySecond living on =
      failed_read h p0.first q.first (rose_shows p0.first.faults p1.first.faults q.first.faults living.rose keeps.first below.first)

  second_read : (s : LivingSides) → AreLiving s p0 p1 → OnLiving s (λ side. IsHeaderOn tells h side p0 p1)
      → IsReadAs h (header_after p0.second q.second)
  second_read Both living on = living_read h p0.second q.second (on.1.no_fault told) (on.1.read told)
  second_read OnlyFirst living on =
      failed_read h p0.second q.second (rose_shows p0.second.faults p1.second.faults q.second.faults living.rose keeps.second below.second)
  second_read OnlySecond living on = living_read h p0.second q.second (on.no_fault told) (on.read told)

-- The headers give no answer over a longer time, once they were read.
pub still_opened : (tells : Tells) (words : ℕ) (o : Opened) (p0 p1 q : Pair) → HasOpened tells words o p0 p1 → KeepsCounts p1 q → IsTrue tells.bytes
    → AreCountsBelowMost q → (why : PairOutcome) → IsHeaderAnswer why
    → opening words (header_after p0.first q.first) (header_after p0.second q.second) ≡ Err why → ⊥
still_opened tells words o p0 p1 q opened keeps told below why header is =
    no_header_answer words o.header (header_after p0.first q.first) (header_after p0.second q.second) why opened.words opened.version
    (first_read tells o.header p0 p1 q keeps told below o.living opened.living opened.header)
    (second_read tells o.header p0 p1 q keeps told below o.living opened.living opened.header)
    header is

-- a disk of which no fault was counted
unfailed_read : (d e : Disk) → e.faults ≡ d.faults → header_after d e ≡ header_read d.held
unfailed_read d e same = cond-false (nat_lt d.faults e.faults) Failed (header_read d.held) (le-ltb d.faults e.faults (omega (arith, same)))

-- Images with one header are opened, where no fault is counted.
pub one_header_opens : (words : ℕ) (p q : Pair) (why : PairOutcome) → HaveOneHeader words p → HasNoFault p q
    → opening words (header_after p.first q.first) (header_after p.second q.second) ≡ Err why → ⊥
one_header_opens words p q why have none is =
    let h = header_in p.first.held in
    let k = header_in p.second.held in
    let first : header_after p.first q.first ≡ Read h = unfailed_read p.first q.first none.first ∙ read_of p.first.held h have.first refl in
    let second : header_after p.second q.second ≡ Read k = unfailed_read p.second q.second none.second ∙ read_of p.second.held k have.second refl in
    two_open words h h k why have.count have.version refl have.same
    (sym (ap (λ (x : SideHeader). opening words x (Read k)) first) ∙ sym (ap (λ (x : SideHeader). opening words (header_after p.first q.first) x) second)
    ∙ is)
