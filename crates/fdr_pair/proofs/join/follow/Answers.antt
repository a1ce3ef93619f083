use Rattle.std.proofs.Common.{rules}
use Rattle.std.proofs.lemmas.Result.{IfOk-weaker}
use Rattle.fdr_pair.proofs.PairWorks.{content_then}
use Rattle.fdr_pair.proofs.Joins.{lead_attached, joins_attached, joins_brought, joined_brought, refused_brought}
use Rattle.fdr_pair.proofs.join.follow.Goals as goal

pub returns-in-Ok-clause-lead : goal.returns-in-Ok-clause-lead
returns-in-Ok-clause-lead g c =
    content_then _ _ _ (lead_attached _ _ _ _ _ _ c.other_side.ensures c.attach_on.ensures.serves) c.bring.ensures.lead

pub returns-in-Err-clause-lead : goal.returns-in-Err-clause-lead
returns-in-Err-clause-lead g c = lead_attached _ _ _ _ _ _ c.other_side.ensures c.attach_on.ensures.serves

pub returns-in-Ok-clause-work : goal.returns-in-Ok-clause-work
returns-in-Ok-clause-work g c =
    joins_brought _ _ _ _ _ _ c.other_side.ensures c.attach_on.ensures.serves (g.met.T.Twin.sound_pair c.args.twin.now) c.requires.near c.in-Ok.ring
    c.in-Ok.ensures.header c.attach_on.ensures.keeps (g.T.Twin.pair c.bring.new.twin) (g.met.T.Twin.sound_pair c.attach_on.new.twin)
    c.attach_on.ensures.counts c.bring.ensures.work

pub returns-in-Err-clause-work : goal.returns-in-Err-clause-work
returns-in-Err-clause-work g c =
    joins_attached _ _ _ _ _ _ c.other_side.ensures c.attach_on.ensures.serves (g.met.T.Twin.sound_pair c.args.twin.now) c.requires.near
    c.attach_on.ensures.counts

pub returns-in-Ok-clause-joined : goal.returns-in-Ok-clause-joined
returns-in-Ok-clause-joined g c =
    IfOk-weaker c.bring.result _ _
    (joined_brought _ _ _ _ _ _ c.other_side.ensures c.attach_on.ensures.serves (g.met.T.Twin.sound_pair c.args.twin.now) c.requires.near c.in-Ok.ring
    c.in-Ok.ensures.header c.attach_on.ensures.keeps c.args.end (g.T.Twin.pair c.bring.new.twin) c.in-Ok.ensures.no_fault c.requires.end c.in-Ok.ensures.run)
    c.bring.ensures.brought

pub returns-in-Ok-clause-refused : goal.returns-in-Ok-clause-refused
returns-in-Ok-clause-refused g c =
    refused_brought _ _ _ _ _ _ c.other_side.ensures c.attach_on.ensures.serves (g.met.T.Twin.sound_pair c.args.twin.now) c.requires.near c.in-Ok.ring
    c.in-Ok.ensures.header c.attach_on.ensures.keeps c.args.end (g.T.Twin.pair c.bring.new.twin) c.in-Ok.ensures.no_fault c.bring.result
    c.bring.ensures.refused c.bring.ensures.not_far

pub returns-in-Err-clause-joined : goal.returns-in-Err-clause-joined
returns-in-Err-clause-joined c = search rules
