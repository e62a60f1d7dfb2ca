-- A path in which no NUL was found holds none.
use Rattle.std.proofs.Common.{◌≡◌, true, false, lit<}
use Rattle.std.proofs.lemmas.Str.Pattern.{contains_char}
use Rattle.gutsirava_path.proofs.escapes.read_path.Goals as goal

pub returns : goal.returns
returns c = λ i within is_nul.
    let told = (contains_char 0 c.deref.result.now c.contains.result c.contains.ensures.cases (lit< tt)).1 in
    let found : c.contains.result ≡ true
    = told i (rw c.deref.ensures within) (rw c.deref.ensures is_nul) in
    let missed : c.contains.result ≡ false = c.if-contains.false in
    cc
