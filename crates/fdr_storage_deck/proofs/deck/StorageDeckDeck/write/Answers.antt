use Rattle.fdr_storage_deck.proofs.Running.{Runs-moments}
use Rattle.fdr_storage_deck.proofs.deck.StorageDeckDeck.write.Goals as goal

pub returns-clause-moments : goal.returns-clause-moments
returns-clause-moments g c = Runs-moments g.S.Storage.tells g.I.Stream.tells c.args.self.now.numbers c.write.new.numbers
    (g.S.Storage.disk c.args.self.now.disk.image.storage) (g.S.Storage.disk c.write.new.self.image.storage)
    _ _ _ _ _ _ _ _ c.write.ensures.runs
