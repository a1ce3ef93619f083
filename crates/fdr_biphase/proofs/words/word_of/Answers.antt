use Rattle.std.proofs.Common.{get_or, ap, sym, ◌∙◌, arith}
use Rattle.fdr_biphase.specs.Cells.{bits_of_bytes}
use Rattle.fdr_biphase.proofs.WordBytes.{eight_elements, word_of_eight}
use Rattle.fdr_biphase.proofs.words.word_of.Goals as goal

pub returns : goal.returns
returns c =
    let xs = c.args.eight.now in
    let small = c.fits-eight in
    word_of_eight (get_or xs 0 0) (get_or xs 1 0) (get_or xs 2 0) (get_or xs 3 0) (get_or xs 4 0) (get_or xs 5 0) (get_or xs 6 0) (get_or xs 7 0)
    c.from_le_bytes.result (small 0) (small 1) (small 2) (small 3) (small 4) (small 5) (small 6) (small 7) (omega (arith, c.from_le_bytes.ensures))
    ∙ ap bits_of_bytes (sym (eight_elements xs c.told-eight))
