use Rattle.std.proofs.Common.{◌≡◌, ℕ, ◌+◌, ◌%◌, ◌^◌, Result, Err, refl, sym, ◌∙◌, ap, subst}
use Rattle.std.specs.Prelude.{IfErr, IfOk}
use Rattle.std.proofs.lemmas.Result.{err_from_is_err_and}
use Rattle.fdr_slot.specs.declared.image.Header.{Header}
use Rattle.fdr_table.specs.Rows.{FrameRow, TableRows}
use Rattle.fdr_pair.specs.Opening.{IsOpeningRefusal, IsRefusedByHeaders, opening, header_after}
use Rattle.fdr_pair.specs.Room.{IsRoomFor}
use Rattle.fdr_pair.specs.declared.outcome.PairOutcome.{PairOutcome}
use Rattle.fdr_pair.specs.declared.start.PairStart.{PairStart}
use Rattle.fdr_pair.proofs.StartEnds.{started}
use Rattle.fdr_pair.proofs.StartMoments.{keeps_looked, keeps_searched, keeps_joining, keeps_not_going, keeps_going}
use Rattle.fdr_pair.proofs.StartRefusals.{refused_opening, refused_memory, refused_runs, refused_join, refused_going}
use Rattle.fdr_pair.proofs.StartSteps.{HasOpened, HasFoundRuns, HasJoinedSides}
use Rattle.fdr_pair.proofs.start.start_pair.Given.{Over}
use Rattle.fdr_pair.proofs.start.start_pair.Goals.{After-open_sides, After-new, After-join_sides, After-go_on}
use Rattle.fdr_pair.proofs.start.start_pair.Goals as goal

-- what is so of the answer that is handed on
answered : (r : Result PairStart PairOutcome) (P : PairOutcome → Type 0) (handed why : PairOutcome) → r ≡ Err handed → handed ≡ why → P why → IfErr r P
answered r P handed why is same holds = subst (λ (x : Result PairStart PairOutcome). IfErr x P) (sym is) (subst P (sym same) holds)

-- an answer that is a fault started nothing
unstarted : (r : Result PairStart PairOutcome) (P : PairStart → Type 0) (handed : PairOutcome) → r ≡ Err handed → IfOk r P
unstarted r P handed is = subst (λ (x : Result PairStart PairOutcome). IfOk x P) (sym is) tt

-- the table's words in a subframe
words_of : (g : Over) (c : After-open_sides g) → c.words.inside.words ≡ c.args.sound.now.frame.words
words_of g c = ap (λ (f : FrameRow). f.words) (c.words.view_is ∙ c.frame.ensures ∙ ap (λ (t : TableRows). t.frame) c.table.ensures)

-- the steps that were done
opened_at : (g : Over) (c : After-new g) → HasOpened g.T.Deck.tells c.args.sound.now.frame.words c.in_ok-opened.opened (g.T.Twin.pair c.args.twin.now)
    (g.T.Twin.pair c.open_sides.new.twin)
opened_at g c = let e = c.in_ok-opened.ensures in record {
  living = e.living;
  header = e.header;
  words = e.words ∙ ap (λ (f : FrameRow). f.words) (c.words.view_is ∙ c.frame.ensures ∙ ap (λ (t : TableRows). t.frame) c.table.ensures);
  version = e.version;
  first = e.first;
  second = e.second;
  work = e.work;
  sound = g.met.T.Twin.sound_pair c.open_sides.new.twin;
}

found_at : (g : Over) (c : After-join_sides g) → HasFoundRuns g.T.Deck.tells c.in_ok-opened.opened c.in_ok-runs.runs
    (g.T.Twin.pair c.open_sides.new.twin) (g.T.Twin.pair c.find_runs.new.twin)
found_at g c = record { runs = c.in_ok-runs.ensures.found; looks = c.find_runs.ensures.looks; sound = g.met.T.Twin.sound_pair c.find_runs.new.twin }

joined_at : (g : Over) (c : After-go_on g) → HasJoinedSides g.T.Deck.tells c.in_ok-opened.opened.header c.in_ok-runs.runs c.in_ok-joined.joined
    (g.T.Twin.pair c.find_runs.new.twin) (g.T.Twin.pair c.join_sides.new.twin)
joined_at g c = record { joined = c.in_ok-joined.ensures.joined; work = c.join_sides.ensures.work; sound = g.met.T.Twin.sound_pair c.join_sides.new.twin }

pub returns-in_err-opened-clause-refused : goal.returns-in_err-opened-clause-refused
returns-in_err-opened-clause-refused g c =
    let p = err_from_is_err_and c.from_residual.result c.from_residual.ensures.1 in
    let e = c.in_err-opened.ensures in
    let why = c.in_err-opened.field-0.0 in
    let p0 = g.T.Twin.pair c.args.twin.now in
    let p1 = g.T.Twin.pair c.open_sides.new.twin in
    let words = words_of g (goal.at.returns-in_err-opened-clause-refused g c).After-open_sides in
    answered c.from_residual.result _ p.0 why p.1 p.2
    (refused_opening c.args.sound.now g.T.Deck.tells p0 p1 why
    (subst (λ (n : ℕ). IsOpeningRefusal n why p0 p1) words e.cause)
    (λ told below. subst (λ (n : ℕ). opening n (header_after p0.first p1.first) (header_after p0.second p1.second) ≡ Err why) words (sym (e.exact told below)))
    (λ answer told. subst (λ (n : ℕ). IsRefusedByHeaders n p0 p1 why) words (e.refused answer told))
    e.first e.second e.work (keeps_looked c.args.sound.now.frame.words g.T.Deck.tells p0 p1 e.work))

pub returns-in_default-clause-refused : goal.returns-in_default-clause-refused
returns-in_default-clause-refused g c =
    let e = c.in_ok-opened.ensures in
    let p0 = g.T.Twin.pair c.args.twin.now in
    let p1 = g.T.Twin.pair c.open_sides.new.twin in
    refused_memory c.args.sound.now g.T.Deck.tells p0 p1 e.first e.second e.work (keeps_looked c.args.sound.now.frame.words g.T.Deck.tells p0 p1 e.work)

pub returns-in_default-new-clause-refused : goal.returns-in_default-new-clause-refused
returns-in_default-new-clause-refused g c =
    let e = c.in_ok-opened.ensures in
    let p0 = g.T.Twin.pair c.args.twin.now in
    let p1 = g.T.Twin.pair c.open_sides.new.twin in
    refused_memory c.args.sound.now g.T.Deck.tells p0 p1 e.first e.second e.work (keeps_looked c.args.sound.now.frame.words g.T.Deck.tells p0 p1 e.work)

pub returns-in_err-runs-clause-refused : goal.returns-in_err-runs-clause-refused
returns-in_err-runs-clause-refused g c =
    let at = goal.at.returns-in_err-runs-clause-refused g c in
    let p = err_from_is_err_and c.from_residual-in_err-runs.result c.from_residual-in_err-runs.ensures.1 in
    let t = c.args.sound.now in
    let o = c.in_ok-opened.opened in
    let p0 = g.T.Twin.pair c.args.twin.now in
    let p1 = g.T.Twin.pair c.open_sides.new.twin in
    let p2 = g.T.Twin.pair c.find_runs.new.twin in
    let opened = opened_at g at.After-new in
    let looks = c.find_runs.ensures.looks in
    answered c.from_residual-in_err-runs.result _ p.0 c.in_err-runs.field-0.0 p.1 p.2
    (refused_runs t g.T.Deck.tells o p0 p1 p2 opened looks (keeps_searched g.T.Deck.tells t.frame.words o p0 p1 opened p2 looks) c.in_err-runs.field-0.0
    c.in_err-runs.ensures.refused)

pub returns-in_err-joined-clause-refused : goal.returns-in_err-joined-clause-refused
returns-in_err-joined-clause-refused g c =
    let at = goal.at.returns-in_err-joined-clause-refused g c in
    let p = err_from_is_err_and c.from_residual-in_err-joined.result c.from_residual-in_err-joined.ensures.1 in
    let t = c.args.sound.now in
    let o = c.in_ok-opened.opened in
    let p0 = g.T.Twin.pair c.args.twin.now in
    let p1 = g.T.Twin.pair c.open_sides.new.twin in
    let p2 = g.T.Twin.pair c.find_runs.new.twin in
    let p3 = g.T.Twin.pair c.join_sides.new.twin in
    let opened = opened_at g at.After-new in
    let found = found_at g at.After-join_sides in
    let work = c.join_sides.ensures.work in
    answered c.from_residual-in_err-joined.result _ p.0 c.in_err-joined.field-0.0 p.1 p.2
    (refused_join t g.T.Deck.tells o p0 p1 p2 p3 opened
    (keeps_joining g.T.Deck.tells t.frame.words o p0 p1 opened p2 p3 (g.met.T.Twin.sound_pair c.args.twin.now) c.in_ok-runs.runs found work)
    c.in_ok-runs.runs c.in_err-joined.field-0.0 found c.in_err-joined.ensures.refused work)

pub returns-in_err-rings-clause-refused : goal.returns-in_err-rings-clause-refused
returns-in_err-rings-clause-refused g c =
    let at = goal.at.returns-in_err-rings-clause-refused g c in
    let p = err_from_is_err_and c.from_residual-in_err-rings.result c.from_residual-in_err-rings.ensures.1 in
    let t = c.args.sound.now in
    let o = c.in_ok-opened.opened in
    let j = c.in_ok-joined.joined in
    let why = c.in_err-rings.field-0.0 in
    let p0 = g.T.Twin.pair c.args.twin.now in
    let p1 = g.T.Twin.pair c.open_sides.new.twin in
    let p2 = g.T.Twin.pair c.find_runs.new.twin in
    let p3 = g.T.Twin.pair c.join_sides.new.twin in
    let p5 = g.T.Twin.pair c.go_on.new.twin in
    let opened = opened_at g at.After-new in
    let found = found_at g at.After-join_sides in
    let joins = joined_at g at.After-go_on in
    answered c.from_residual-in_err-rings.result _ p.0 why p.1 p.2
    (refused_going t g.T.Deck.tells o c.in_ok-runs.runs j p0 p1 p2 p3 p5 opened found joins why c.in_err-rings.ensures.refused
    (keeps_not_going g.T.Deck.tells t.frame.words o p0 p1 opened p2 p3 (g.met.T.Twin.sound_pair c.args.twin.now) p5
    (g.met.T.Twin.sound_pair c.join_sides.new.twin) c.in_ok-runs.runs j found joins why c.in_err-rings.ensures.refused))

pub returns-clause-started : goal.returns-clause-started
returns-clause-started g c =
    let at = goal.at.returns-clause-started g c in
    let t = c.args.sound.now in
    let o = c.in_ok-opened.opened in
    let j = c.in_ok-joined.joined in
    let rings = c.in_ok-rings.rings in
    let gone = c.in_ok-rings.ensures.gone_on in
    let p0 = g.T.Twin.pair c.args.twin.now in
    let p1 = g.T.Twin.pair c.open_sides.new.twin in
    let p2 = g.T.Twin.pair c.find_runs.new.twin in
    let p3 = g.T.Twin.pair c.join_sides.new.twin in
    let p5 = g.T.Twin.pair c.go_on.new.twin in
    let opened = opened_at g at.After-new in
    let found = found_at g at.After-join_sides in
    let joins = joined_at g at.After-go_on in
    let room = subst (λ (h : Header). IsRoomFor t h.payload c.in-Ok.room) (sym gone.header) c.in-Ok.ensures in
    started t g.T.Deck.tells o c.in_ok-runs.runs j rings ((j.found.session + 1) % 2 ^ 32) (record { session = c.new-session.result; trace = c.in-Ok-new.trace })
    p0 p1 p2 p3 p5 opened found joins gone c.in-Ok-new.ensures c.new-session.ensures.rings (c.new-session.ensures.stands t room) refl
    (keeps_going g.T.Deck.tells t.frame.words o p0 p1 opened p2 p3 (g.met.T.Twin.sound_pair c.args.twin.now) p5
    (g.met.T.Twin.sound_pair c.join_sides.new.twin) c.in_ok-runs.runs j found joins rings gone)

-- ---- nothing else was answered

pub returns-in_err-opened-clause-started : goal.returns-in_err-opened-clause-started
returns-in_err-opened-clause-started g c =
    let p = err_from_is_err_and c.from_residual.result c.from_residual.ensures.1 in
    unstarted c.from_residual.result _ p.0 p.1

pub returns-in_default-clause-started : goal.returns-in_default-clause-started
returns-in_default-clause-started g c = tt

pub returns-in_default-new-clause-started : goal.returns-in_default-new-clause-started
returns-in_default-new-clause-started g c = tt

pub returns-in_err-runs-clause-started : goal.returns-in_err-runs-clause-started
returns-in_err-runs-clause-started g c =
    let p = err_from_is_err_and c.from_residual-in_err-runs.result c.from_residual-in_err-runs.ensures.1 in
    unstarted c.from_residual-in_err-runs.result _ p.0 p.1

pub returns-in_err-joined-clause-started : goal.returns-in_err-joined-clause-started
returns-in_err-joined-clause-started g c =
    let p = err_from_is_err_and c.from_residual-in_err-joined.result c.from_residual-in_err-joined.ensures.1 in
    unstarted c.from_residual-in_err-joined.result _ p.0 p.1

pub returns-in_err-rings-clause-started : goal.returns-in_err-rings-clause-started
returns-in_err-rings-clause-started g c =
    let p = err_from_is_err_and c.from_residual-in_err-rings.result c.from_residual-in_err-rings.ensures.1 in
    unstarted c.from_residual-in_err-rings.result _ p.0 p.1

pub returns-clause-refused : goal.returns-clause-refused
returns-clause-refused g c = tt
