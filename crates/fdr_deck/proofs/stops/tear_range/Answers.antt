use Rattle.std.proofs.Common.{length, sym}
use Rattle.fdr_deck.proofs.Torn.{Torn-same, Torn-patched, Torn-front, Torn-filled, patched-nil}
use Rattle.fdr_deck.proofs.stops.tear_range.Goals as goal

pub returns-in-Old-clause-torn : goal.returns-in-Old-clause-torn
returns-in-Old-clause-torn c = Torn-same c.args.at (length c.args.bytes.now) c.args.image.now

pub returns-in-Old-clause-image : goal.returns-in-Old-clause-image
returns-in-Old-clause-image c = rw c.in-Old.is (sym (patched-nil c.args.at c.args.image.now))

pub returns-in-New-clause-torn : goal.returns-in-New-clause-torn
returns-in-New-clause-torn c = rw c.patch.ensures (Torn-patched c.args.at c.args.bytes.now c.args.image.now c.requires)

pub returns-in-New-clause-image : goal.returns-in-New-clause-image
returns-in-New-clause-image c = rw c.in-New.is c.patch.ensures

pub returns-in-Half-clause-torn : goal.returns-in-Half-clause-torn
returns-in-Half-clause-torn c = rw c.patch-in-Half.ensures (Torn-front c.args.at _ c.args.bytes.now c.args.image.now c.requires)

pub returns-in-Half-clause-image : goal.returns-in-Half-clause-image
returns-in-Half-clause-image c = rw c.in-Half.is c.patch-in-Half.ensures

pub returns-in-Fill-clause-torn : goal.returns-in-Fill-clause-torn
returns-in-Fill-clause-torn c = rw c.fill.ensures (Torn-filled c.args.at c.in-Fill.byte c.args.bytes.now c.args.image.now c.requires)

pub returns-in-Fill-clause-image : goal.returns-in-Fill-clause-image
returns-in-Fill-clause-image c = rw c.in-Fill.is c.fill.ensures
