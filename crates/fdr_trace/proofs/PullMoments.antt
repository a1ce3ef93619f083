-- What pulls leave of a deck, and their moments.
use Rattle.std.proofs.Common.{◌≡◌, ◌⊎◌, inl, inr, ⊎_elim, ℕ, ◌+◌, ◌-◌, ◌<◌, List, [], ◌++◌, length, sym, ◌∙◌, length-append, arith}
use Rattle.std.proofs.lemmas.Bool.{cases_lt}
use Rattle.std.proofs.lemmas.List.{take-append-le, take_at}
use Rattle.fdr_bus.specs.declared.BusRecord.{BusRecord}
use Rattle.fdr_bus.specs.Records.{most_records}
use Rattle.fdr_deck.specs.State.{State, Tells, Moment}
use Rattle.fdr_deck.specs.Calls.{KeepsAnnounced, HasOneAnnounced, LeavesDisk}
use Rattle.fdr_deck.specs.Moments.{HasSamePulls, IsNow, IsInsideCall, Within, Elapses, EachMoment, IsSoundDeck}
use Rattle.fdr_deck.specs.Pull.{KeepsInput}
use Rattle.fdr_deck.proofs.Moments.{Elapses-here, Elapses-then, EachMoment-then, EachMoment-weaken, KeepsAnnounced-here, KeepsAnnounced-then}
use Rattle.fdr_deck.proofs.Moments.{KeepsAnnounced-least, KeepsAnnounced-greatest}
use Rattle.fdr_trace.specs.Kept.{TraceKept}
use Rattle.fdr_trace.specs.Moments.{IsNeededPull, IsPullMoment, IsTraceMoment, PullsForRecord}
use Rattle.fdr_trace.specs.Pulls.{PullsPiece, PullsUntilDecided}
use Rattle.fdr_trace.specs.Reading.{RepresentsTrace}
use Rattle.fdr_trace.proofs.Pulling.{LeavesDisk-here, LeavesDisk-then}
use Rattle.fdr_trace.proofs.Records.{Reads-good, Reads-undecided}

-- what pulls leave of a deck
pub record KeepsDeck (tells : Tells) (old new : State) : Type 0 where
  pub disk : LeavesDisk old new
  pub announced : KeepsAnnounced old new
  pub fresh : old.taken < new.taken → HasOneAnnounced new
  pub time : Elapses tells old new

pub KeepsDeck-here : (tells : Tells) (d : State) → IsSoundDeck tells d → KeepsDeck tells d d
KeepsDeck-here tells d sound = record {
  disk = LeavesDisk-here d;
  announced = KeepsAnnounced-here d;
  fresh = λ more. absurd (omega (arith, more));
  time = Elapses-here tells d sound;
}

pub KeepsDeck-then : (tells : Tells) (a b c : State) → KeepsDeck tells a b → LeavesDisk b c → KeepsAnnounced b c
    → (a.taken < c.taken → HasOneAnnounced c) → Elapses tells b c → KeepsDeck tells a c
KeepsDeck-then tells a b c first disk told fresh time = record {
  disk = LeavesDisk-then a b c first.disk disk;
  announced = KeepsAnnounced-then a b c first.announced told;
  fresh = fresh;
  time = Elapses-then tells a b c first.time time;
}

-- a pull that took nothing leaves the numbers fresh
pub KeepsDeck-kept : (tells : Tells) (a b c : State) → KeepsDeck tells a b → LeavesDisk b c → KeepsAnnounced b c
    → KeepsInput b c → Elapses tells b c → KeepsDeck tells a c
KeepsDeck-kept tells a b c first disk told line time = KeepsDeck-then tells a b c first disk told (λ more. ⊎_elim
    (λ anew. record { least = anew.0; greatest = anew.1 })
    (λ kept. let was = first.fresh (omega (arith, line.taken, more)) in
    record { least = kept.0 ∙ was.least ∙ sym told.announced; greatest = kept.1 ∙ was.greatest ∙ sym told.announced })
    told.numbers) time

-- bytes pulled after the last pull leave it as it is
pub IsNeededPull-more : (start : ℕ) (bytes more later : List ℕ) (records : List BusRecord) (before taken : ℕ)
    → IsNeededPull start bytes more records before taken → IsNeededPull start bytes (more ++ later) records before taken
IsNeededPull-more start bytes more later records before taken last =
    let front = take-append-le (before - start) more later (omega (arith, last.pull.begins, last.pull.gave_bytes, last.within)) in
    record {
      pull = last.pull;
      within = omega (arith, last.within, length-append more later);
      read = rw front last.read;
      undecided = rw front last.undecided;
    }

-- the last pull after one pull more, before which no whole record waited
pub last_pulled : (tells : Tells) (a b c : State) (k : TraceKept) (bytes more piece : List ℕ) (records : List BusRecord)
    → b.taken ≡ a.taken + length more → PullsForRecord tells a b bytes more records → RepresentsTrace k (bytes ++ more) records
    → length k.waiting < 16 → length records < most_records
    → PullsPiece tells b c piece → 0 < length (more ++ piece) → IsNeededPull a.taken bytes (more ++ piece) records c.pulled_before
    c.taken
last_pulled tells a b c k bytes more piece records taken was reads waits few pull some = ⊎_elim
    (λ here.
    let began = pull.began here in
    let front = take_at more piece (c.pulled_before - a.taken) (omega (arith, began, taken)) in
    record {
      pull = record {
        begins = omega (arith, began, taken);
        gave_bytes = omega (arith, began, pull.takes.taken, here);
        within_piece = omega (arith, began, pull.takes.taken, pull.within_piece);
      };
      within = omega (arith, taken, pull.takes.taken, length-append more piece);
      read = rw front (Reads-good k (bytes ++ more) records reads waits);
      undecided = rw front (Reads-undecided k (bytes ++ more) records reads waits few);
    })
    (λ none.
    let same : c.taken ≡ b.taken = omega (arith, pull.takes.taken, none) in
    rw (pull.none (omega (arith, none)), same) (IsNeededPull-more a.taken bytes more piece records b.pulled_before b.taken
    (was.last (omega (arith, some, length-append more piece, none)))))
    (cases_lt 0 (length piece))

-- a moment whose numbers of bytes are those of a deck from which so much was pulled
pulled_since : (tells : Tells) (a s : State) (bytes more : List ℕ) (records : List BusRecord) (m : Moment)
    → PullsUntilDecided tells a s bytes more → (0 < length more → IsNeededPull a.taken bytes more records s.pulled_before s.taken)
    → (0 < length more → m.announced ≡ a.announced) → HasSamePulls s m
    → HasSamePulls a m ⊎ IsPullMoment a bytes more records m
pulled_since tells a s bytes more records m pulls last told here = ⊎_elim
    (λ some. inr (record {
      announced = told some;
      last = rw (here.pulled_before, here.taken) (last some);
    }))
    (λ none. inl (record {
      taken = omega (arith, here.taken, pulls.takes.taken, none);
      pulled_before = here.pulled_before
          ∙ pulls.none (omega (arith, none));
    }))
    (cases_lt 0 (length more))

-- Nothing was pulled yet.
pub PullsForRecord-none : (tells : Tells) (d : State) (bytes : List ℕ) (records : List BusRecord) → IsSoundDeck tells d
    → PullsForRecord tells d d bytes [] records
PullsForRecord-none tells d bytes records sound = record {
  last = λ some. absurd (omega (arith, some));
  moments = λ told m since.
      let now = sound.only_now told m since in
      record { image = now.image; least = now.least; greatest = now.greatest; pulled = inl now.pulled };
}

-- One pull more, whatever it answered: by what it leaves the last pull is still needed.
pub PullsForRecord-then : (tells : Tells) (a b c : State) (bytes more later : List ℕ) (records : List BusRecord)
    → IsSoundDeck tells a → KeepsDeck tells a b → PullsUntilDecided tells a b bytes more → PullsForRecord tells a b bytes more records
    → LeavesDisk b c → Elapses tells b c → EachMoment tells b c (Within b c) → PullsUntilDecided tells a c bytes later
    → ((before taken : ℕ) → IsNeededPull a.taken bytes more records before taken → IsNeededPull a.taken bytes later records before taken)
    → (0 < length later → IsNeededPull a.taken bytes later records c.pulled_before c.taken) → PullsForRecord tells a c bytes later records
PullsForRecord-then tells a b c bytes more later records sound deck pulls was disk time moments pulls_now still last = record {
  last = last;
  moments = EachMoment-then tells a b c (IsTraceMoment a bytes later records) deck.time time
      (EachMoment-weaken tells a b (IsTraceMoment a bytes more records) (IsTraceMoment a bytes later records) (λ m is. record {
        image = is.image;
        least = is.least;
        greatest = is.greatest;
        pulled = widen m is.pulled;
      }) was.moments)
      (λ told m since. ⊎_elim (at_start m) (amid m) (moments told m since));
}
  where
    widen : (m : Moment) → HasSamePulls a m ⊎ IsPullMoment a bytes more records m → HasSamePulls a m ⊎ IsPullMoment a bytes later records m
    widen m = ⊎_elim (λ here. inl here)
        (λ pulling. inr (record { announced = pulling.announced; last = still m.pulled_before m.taken pulling.last }))

    told_fresh : (m : Moment) → IsNow b m → 0 < length more → m.announced ≡ a.announced
    told_fresh m now some =
        let fresh = deck.fresh (omega (arith, pulls.takes.taken, some)) in
        omega (arith, now.least, now.greatest, fresh.least, fresh.greatest, deck.announced.announced)

    at_start : (m : Moment) → IsNow b m → IsTraceMoment a bytes later records m
    at_start m now = record {
      image = deck.disk.disk.no_more m.image now.image;
      least = omega (arith, KeepsAnnounced-least tells a b sound deck.announced, now.least);
      greatest = omega (arith, KeepsAnnounced-greatest tells a b sound deck.announced, now.greatest);
      pulled = widen m (pulled_since tells a b bytes more records m pulls was.last (told_fresh m now) now.pulled);
    }

    amid : (m : Moment) → IsInsideCall b c m → IsTraceMoment a bytes later records m
    amid m inside =
        let told : m.announced ≡ a.announced = inside.announced ∙ deck.announced.announced in
        record {
          image = ⊎_elim (λ left. deck.disk.disk.no_more m.image left)
              (λ left. deck.disk.disk.no_more m.image (disk.disk.no_more m.image left)) inside.image;
          least = omega (arith, told, sound.least);
          greatest = omega (arith, told, sound.greatest);
          pulled = ⊎_elim
              (λ here. widen m (pulled_since tells a b bytes more records m pulls was.last (λ some. told) here))
              (λ there. pulled_since tells a c bytes later records m pulls_now last (λ some. told) there)
              inside.pulled;
        }
