-- Each name is found under its place.
use Rattle.gutsirava_maps.proofs.NameLemmas.{distinct_of}
use Rattle.gutsirava_maps.proofs.names.NameList.number_of.Goals as goal

pub returns-in-Some-clause-distinct : goal.returns-in-Some-clause-distinct
returns-in-Some-clause-distinct c =
    distinct_of c.args.self.now.numbers c.args.self.now.names.items c.args.self.now.numbered

pub returns-in-None-clause-distinct : goal.returns-in-None-clause-distinct
returns-in-None-clause-distinct c =
    distinct_of c.add.new.self.numbers c.add.new.self.names.items c.add.new.self.numbered
