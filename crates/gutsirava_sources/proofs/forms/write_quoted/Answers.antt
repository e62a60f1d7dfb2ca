-- Each case is that of a function of its own.
use Rattle.gutsirava_sources.proofs.forms.write_quoted.Goals as goal

pub returns-in-Some : goal.returns-in-Some
returns-in-Some c = rw c.in-Some.is c.write_named.ensures

pub returns-in-None : goal.returns-in-None
returns-in-None c = rw c.in-None.is c.write_nameless.ensures
