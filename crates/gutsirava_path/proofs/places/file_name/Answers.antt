-- The name is what stands behind the last `/`.
use Rattle.std.proofs.Common.{None, lit<, sym}
use Rattle.gutsirava_path.proofs.LastLemmas.{rsplit_last}
use Rattle.gutsirava_path.proofs.places.file_name.Goals as goal

pub returns-in-None : goal.returns-in-None
returns-in-None c = sym (rsplit_last 47 c.args.path.now None c.in-None.ensures.cases (lit< tt)).1

pub returns-in-Some : goal.returns-in-Some
returns-in-Some c =
    let told = rw c.in-Some.is at (rsplit_last 47 c.args.path.now c.rsplit_once.result c.rsplit_once.ensures.cases (lit< tt)) in
    sym told.1
