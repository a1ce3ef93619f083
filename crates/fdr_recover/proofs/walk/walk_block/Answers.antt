use Rattle.std.proofs.Common.{◌≡◌, ◌≤◌, List, [], ◌∷◌, ◌++◌, length, take, sym, ap, subst, arith, length-take, rules}
use Rattle.std.specs.Prelude.{IsTrue}
use Rattle.std.specs.List.{cons_option}
use Rattle.fdr_recover.specs.Blocks.{Block}
use Rattle.fdr_recover.specs.Images.{block_numbered}
use Rattle.fdr_recover.specs.Payloads.{payloads_of}
use Rattle.fdr_recover.proofs.Between.{block_with, payloads-one, block_read}
use Rattle.fdr_recover.proofs.walk.walk_block.Given.{Over}
use Rattle.fdr_recover.proofs.walk.walk_block.Goals.{After-take}
use Rattle.fdr_recover.proofs.walk.walk_block.Goals as goal

-- the block could not be read
pub returns-in_default : goal.returns-in_default
returns-in_default g c = search (rules, c.block.ensures)

-- there is none
pub returns-then-info-eq0 : goal.returns-then-info-eq0
returns-then-info-eq0 g c = search (rules, c.in-Ok.ensures, c.block.ensures)

-- the block that was read
read : (g : Over) (c : After-take g) → IsTrue g.D.Deck.tells.bytes
    → block_with c.args.number c.in-Ok.info.session (take c.in-Ok.info.len c.block.new.buf) ∷ []
    ≡ cons_option (block_numbered c.args.h.now (g.D.Deck.state c.args.deck.now).held c.args.number) []
read g c told =
    block_read c.args.h.now (g.D.Deck.state c.args.deck.now).held c.args.number c.in-Ok.info.session (take c.in-Ok.info.len c.block.new.buf)
    (λ none. c.if-info-eq0.false ((c.in-Ok.ensures.none told).1 none)) (c.in-Ok.ensures.session told) (c.in-Ok.ensures.payload told)

-- it was taken
pub returns-in-Ok-take : goal.returns-in-Ok-take
returns-in-Ok-take g c =
    let b = block_with c.args.number c.in-Ok.info.session (take c.in-Ok.info.len c.block.new.buf) in
    let all : (first : g.row.T.Denot) (out_first : g.row.O.Denot) (blocks : List Block)
    → g.T.BlockTaker.has_taken first out_first blocks c.args.taker.now c.args.out.now
    → (more : List Block) × g.T.BlockTaker.has_taken first out_first (blocks ++ more) c.take.new.self c.take.new.out
    × (length (payloads_of more) ≤ c.args.h.now.payload)
    × (IsTrue g.D.Deck.tells.bytes → more ≡ cons_option (block_numbered c.args.h.now (g.D.Deck.state c.args.deck.now).held c.args.number) []) =
    λ first out_first blocks had. (
      b ∷ [],
      c.in-Ok-take.ensures.all first out_first blocks had,
      subst (λ n. n ≤ c.args.h.now.payload) (sym (ap length (payloads-one b)))
          (omega (arith, c.in-Ok.ensures.bound, length-take c.in-Ok.info.len c.block.new.buf)),
      read g (goal.at.returns-in-Ok-take g c).After-take,
    ) in
    search (rules, all, c.in-Ok-take.ensures, c.in-Ok.ensures, c.block.ensures)

-- the taker failed
pub returns-in-Err : goal.returns-in-Err
returns-in-Err g c =
    let b = block_with c.args.number c.in-Ok.info.session (take c.in-Ok.info.len c.block.new.buf) in
    let part : (first : g.row.T.Denot) (out_first : g.row.O.Denot) (blocks : List Block)
    → g.T.BlockTaker.has_taken first out_first blocks c.args.taker.now c.args.out.now
    → (more : List Block) × ((rest : List Block) → g.T.BlockTaker.failed_in first out_first ((blocks ++ more) ++ rest) c.take.new.out)
    × (IsTrue g.D.Deck.tells.bytes → more ≡ cons_option (block_numbered c.args.h.now (g.D.Deck.state c.args.deck.now).held c.args.number) []) =
    λ first out_first blocks had.
    (b ∷ [], λ rest. c.in-Err.ensures.part first out_first blocks rest had, read g (goal.at.returns-in-Err g c).After-take) in
    search (rules, part, c.in-Err.ensures, c.in-Ok.ensures, c.block.ensures)
