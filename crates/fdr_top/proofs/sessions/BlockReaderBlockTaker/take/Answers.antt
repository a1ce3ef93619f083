use Rattle.fdr_recover.specs.Blocks.{Block}
use Rattle.fdr_recover.specs.Payloads.{payloads_of}
use Rattle.fdr_top.proofs.BlocksRead.{taken_here, unbegun, was_cut, was_read}
use Rattle.fdr_top.proofs.SessionEntries.{few_begun}
use Rattle.fdr_top.proofs.sessions.BlockReaderBlockTaker.take.Goals as goal

pub begin_block-requires : goal.begin_block-requires
begin_block-requires g c =
    let stands = c.requires.stands in
    let b : Block = record { number = c.args.number; session = c.args.session; payload = c.args.payload.now } in
    record {
      stands = (
        stands.0.taker,
        stands.1,
        stands.2,
        taken_here g.T.Taker.took g.T.Taker.failed_in g.met.T.Taker.laws (λ table. table.now) (λ reader. reader.table) (λ reader. reader.version)
            (λ reader. reader.taker) c.args.self.now.table _ _ _ b _ _ stands.0 stands.1 stands.2 (stands.3.0, stands.3.1, stands.3.2),
      );
    }

pub take_piece-requires-clause-stands : goal.take_piece-requires-clause-stands
take_piece-requires-clause-stands g c =
    let stands = c.requires.stands in
    let begun = c.in_ok-begin_block.ensures.all stands.0.taker stands.1 stands.2 c.args.payload.now (rw (stands.3.0, stands.3.1) stands.3.2) in (
      payloads_of begun.current,
      begun.mid,
      begun.out_mid,
      rw c.begin_block.ensures.table begun.bits,
      few_begun g.T.Taker.took g.T.Taker.failed_in g.met.T.Taker.laws _ _ _ _ _ _ _ _ _ _ begun _ stands.4,
    )

pub returns-in_err-begin_block-clause-part : goal.returns-in_err-begin_block-clause-part
returns-in_err-begin_block-clause-part g c =
    let b : Block = record { number = c.args.number; session = c.args.session; payload = c.args.payload.now } in
    unbegun g.T.Taker.took g.T.Taker.failed_in g.met.T.Taker.laws (λ table. table.now) (λ reader. reader.table) (λ reader. reader.version)
    (λ reader. reader.taker) c.args.self.now.table c.args.self.now.version c.args.self.now.open_session c.args.self.now.events b
    c.args.self.now.taker c.args.out.now c.begin_block.new.out c.from_residual.result
    (λ first out_first blocks more had. c.in_err-begin_block.ensures.part first out_first blocks more c.args.payload.now had)

pub returns-clause-all : goal.returns-clause-all
returns-clause-all g c =
    let b : Block = record { number = c.args.number; session = c.args.session; payload = c.args.payload.now } in
    was_read g.T.Taker.took g.T.Taker.failed_in g.met.T.Taker.laws (λ table. table.now) (λ reader. reader.table) (λ reader. reader.version)
    (λ reader. reader.taker) c.args.self.now.table c.args.self.now.version c.args.self.now.open_session c.args.self.now.events b
    c.args.self.now.taker c.args.out.now _ _ c.begin_block.ensures.table c.begin_block.ensures.version _ _ _ _ _
    (λ first out_first blocks had. c.in_ok-begin_block.ensures.all first out_first blocks c.args.payload.now had) _ _ c.take_piece.result
    c.take_piece.ensures.all

pub returns-clause-part : goal.returns-clause-part
returns-clause-part g c =
    let b : Block = record { number = c.args.number; session = c.args.session; payload = c.args.payload.now } in
    was_cut g.T.Taker.took g.T.Taker.failed_in g.met.T.Taker.laws (λ table. table.now) (λ reader. reader.table) (λ reader. reader.version)
    (λ reader. reader.taker) c.args.self.now.table c.args.self.now.version c.args.self.now.open_session c.args.self.now.events b
    c.args.self.now.taker c.args.out.now _ _ c.begin_block.ensures.table c.begin_block.ensures.version _ _ _ _ _
    (λ first out_first blocks had. c.in_ok-begin_block.ensures.all first out_first blocks c.args.payload.now had) c.take_piece.result
    c.take_piece.ensures.part
