use Rattle.std.proofs.Common.{length, sym}
use Rattle.fdr_storage_deck.proofs.Stretches.{stretch_given}
use Rattle.fdr_storage_deck.proofs.window.Window.give.Goals as goal

pub returns : goal.returns
returns c told held is = stretch_given held c.args.self.now.room.items c.copy_from_slice.new.self c.args.self.now.at c.args.self.now.len c.args.at
    c.in-Some.from
    (length c.args.buf.now) c.in-Some.ensures.0 c.in-Some.ensures.1 (sym c.copy_from_slice.ensures.len) c.if-from-self.false c.if-buf-self.false
    (rw c.deref.ensures.value at c.copy_from_slice.ensures.after) is
