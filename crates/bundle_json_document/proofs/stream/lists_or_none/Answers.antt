use Rattle.std.proofs.Common.{subst}
use Rattle.bundle_json_document.specs.Stream.{AreListsIn, IsMemberKept}
use Rattle.bundle_json_document.proofs.Turns.{lists_given, lists_left_out}
use Rattle.bundle_json_document.proofs.stream.lists_or_none.Goals as goal

pub returns-in-Some : goal.returns-in-Some
returns-in-Some c = λ d kept. lists_given d c.in-Some.lists (subst (IsMemberKept AreListsIn d) c.in-Some.is kept)

pub returns-in-None : goal.returns-in-None
returns-in-None c = λ d kept. lists_left_out d c.new.result c.new.ensures.empty (subst (IsMemberKept AreListsIn d) c.in-None.is kept)
