use Rattle.file_layer.proofs.Reaching.{reaches-told, reaches-raw}
use Rattle.file_layer.proofs.file.FileLayerLayer.run_at.Goals as goal

pub returns-clause-reach : goal.returns-clause-reach
returns-clause-reach g c = reaches-told c.args.self.now.reading (g.D.Device.held c.args.self.now.device) c.args.at c.run_of_reading.result c.run_of_reading.ensures.reach

pub returns-clause-raw_reach : goal.returns-clause-raw_reach
returns-clause-raw_reach g c = reaches-raw c.args.self.now.reading c.args.at c.run_of_reading.result c.run_of_reading.ensures.reach
