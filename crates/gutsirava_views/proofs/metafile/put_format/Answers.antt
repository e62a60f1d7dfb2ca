use Rattle.std.proofs.lemmas.Result.{on_ok_weaker}
use Rattle.gutsirava_views.proofs.metafile.put_format.Goals as goal

pub returns-in-EcmaScript : goal.returns-in-EcmaScript
returns-in-EcmaScript c =
    rw c.in-EcmaScript.is (on_ok_weaker c.put_text.result (λ adds. adds 3 c.requires) c.put_text.ensures)

pub returns-in-CommonJs : goal.returns-in-CommonJs
returns-in-CommonJs c =
    rw c.in-CommonJs.is
    (on_ok_weaker c.put_text-in-CommonJs.result (λ adds. adds 3 c.requires) c.put_text-in-CommonJs.ensures)
