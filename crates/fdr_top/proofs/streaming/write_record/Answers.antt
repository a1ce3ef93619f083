use Rattle.std.proofs.Common.{◌+◌, ⊎_elim, [], ◌∷◌, ◌++◌, None, refl, ◌∙◌, arith}
use Rattle.std.proofs.lemmas.Result.{err_from_is_err_and}
use Rattle.fdr_stream.specs.Blocks.{due_blocks}
use Rattle.fdr_top.proofs.Blocks.{giving, MayFeed-giving, IsGiving-first, text-first, IsGiving-block, text-block, part-block, IsStreamed-taken, due_blocks-few}
use Rattle.fdr_top.proofs.streaming.write_record.Goals as goal

pub loop-i-init : goal.loop-i-init
loop-i-init g c = record {
  giving = λ t records stands next. (
    None,
    due_blocks t 4096 records,
    IsGiving-first c.args.stream.now t records c.args.next.now stands,
    λ before written. rw (← text-first t records c.args.next.now next) written,
  );
  room = c.requires.room;
  no_fault = refl;
}

pub returns-in-Taken-clause-all : goal.returns-in-Taken-clause-all
returns-in-Taken-clause-all g c = λ t records before streamed next.
    let at = c.loop-i.invariant.giving t records streamed.stands next in
    let past = giving t records at.0 at.1 in
    IsStreamed-taken c.feed.new.self t records c.args.next.now at.0 at.1 before _
    (c.in-Taken.ensures.taken past at.2.stands (MayFeed-giving t records c.args.next.now at.0 at.1 next at.2.same) refl)
    (at.3 before streamed.written)

pub loop-i-preserved : goal.loop-i-preserved
loop-i-preserved g c = record {
  giving = λ t records stands next.
      let at = c.loop-i.invariant.giving t records stands next in
      let past = giving t records at.0 at.1 in
      let may = MayFeed-giving t records c.args.next.now at.0 at.1 next at.2.same in
      let due = (c.in-Block.ensures.exactly past at.2.stands may).0 refl in (
        _,
        at.1 + 1,
        IsGiving-block c.loop-i.stream t records c.args.next.now c.loop-i.i at.0 at.1 c.feed.new.self at.2 due
            (c.in-Block.ensures.begun past at.2.stands may refl),
        λ before written. text-block before _ _ t (records ++ c.args.next.now ∷ []) at.1 c.feed.new.out
            (omega (arith, c.feed.auto.out, c.loop-i.invariant.room)) (c.in-Block.ensures.block past at.2.stands may refl) (at.3 before written)
            c.in_ok-write_whole-in-Block.ensures.whole,
      );
  room = omega (arith, c.feed.auto.out, c.loop-i.invariant.room);
  no_fault = c.in_ok-write_whole-in-Block.ensures.no_fault ∙ c.loop-i.invariant.no_fault;
}

pub returns-in_err-write_whole-in-Block-clause-part :
    goal.returns-in_err-write_whole-in-Block-clause-part
returns-in_err-write_whole-in-Block-clause-part g c =
    let p = err_from_is_err_and c.from_residual.result c.from_residual.ensures.1 in
    let sent = c.in_err-write_whole-in-Block.ensures.part in
    rw p.1 (λ t records before streamed next.
    let at = c.loop-i.invariant.giving t records streamed.stands next in
    let past = giving t records at.0 at.1 in
    let may = MayFeed-giving t records c.args.next.now at.0 at.1 next at.2.same in
    let due = (c.in-Block.ensures.exactly past at.2.stands may).0 refl in
    part-block before _ _ t (records ++ c.args.next.now ∷ []) at.1 c.feed.new.out sent.0 (omega (arith, c.feed.auto.out, c.loop-i.invariant.room))
    (c.in-Block.ensures.block past at.2.stands may refl) due (at.3 before streamed.written) sent.1)

pub unreachable-requires : goal.unreachable-requires
unreachable-requires g c =
    let r = c.requires.fed in
    let at = c.loop-i.invariant.giving r.0 r.1 r.2 r.3 in
    let few = due_blocks-few r.0 r.1 c.args.next.now r.2.packed.words r.3.in_time in
    ⊎_elim
    (λ none. absurd (omega (arith, none, c.loop-i-test.false)))
    (λ due. absurd (omega (arith, due, few, at.2.rises, c.loop-i-test.false)))
    at.2.due
