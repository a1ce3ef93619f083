use Rattle.std.proofs.Common.{◌≡◌, [], refl, ap, ◌∙◌, rules}
use Rattle.std.specs.Prelude.{IsErrOf, IsTrue}
use Rattle.fdr_recover.specs.Images.{blocks_between, recovered_run}
use Rattle.fdr_recover.specs.Payloads.{TakesFront}
use Rattle.fdr_recover.specs.declared.walk.BlocksFault.TheVariants as fault
use Rattle.fdr_recover.proofs.Between.{between_run}
use Rattle.fdr_recover.proofs.Handing.{ok_then, TakesAll-same, TakesFront-same}
use Rattle.fdr_recover.proofs.Looking.{looks}
use Rattle.fdr_recover.proofs.walk.walk_blocks.Goals as goal

-- the run was not found
pub returns-in_default : goal.returns-in_default
returns-in_default g c =
    let run = recovered_run c.args.h.now (g.D.Deck.state c.args.deck.now).held in
    let front : TakesFront g.D.Deck.tells run (λ blocks. g.T.BlockTaker.has_taken c.args.taker.now c.args.out.now blocks c.args.taker.now c.args.out.now) =
    ([], c.requires.ready, λ told. (run, refl)) in
    search (rules, front, c.scan.ensures)

-- the blocks of the run were handed on
pub returns : goal.returns
returns g c =
    let deck = g.met.D.Deck in
    let h = c.args.h.now in
    let mid = (g.D.Deck.state c.scan.new.deck).held in
    let held = (g.D.Deck.state c.args.deck.now).held in
    let found = c.in-Ok.found in
    let w = c.walk_between.ensures in
    let same : IsTrue g.D.Deck.tells.bytes → blocks_between h mid found.first found.next ≡ recovered_run h held = λ told.
    ap (λ image. blocks_between h image found.first found.next) c.scan.ensures.looks.disk.held
    ∙ between_run h held found.first found.next c.requires.limits (c.in-Ok.ensures.first told) (c.in-Ok.ensures.next told) in
    let all = ok_then _ _ c.walk_between.result (TakesAll-same g.D.Deck.tells _ _ _ same) w.all in
    let part = λ (is : IsErrOf c.walk_between.result fault.Taker) (told : IsTrue g.D.Deck.tells.bytes). rw (same told) at (w.part is told) in
    let front = λ (is : IsErrOf c.walk_between.result fault.Disk). TakesFront-same g.D.Deck.tells _ _ _ same (w.front is) in
    rw (← c.in-Ok.ensures.succeeds.disk_faults)
    (search (rules, looks, all, part, front, w.disk_fault, w.disk_unfailed, w.write_fault, w.write_unfailed, deck.sound, deck.rest_then, w, c.in-Ok.ensures))
