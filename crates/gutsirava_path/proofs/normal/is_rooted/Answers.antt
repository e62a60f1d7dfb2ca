use Rattle.std.proofs.Common.{eqb, get_or, lit<}
use Rattle.std.proofs.lemmas.Bool.Decides.{same_from_decides, Decides-eqb}
use Rattle.std.proofs.lemmas.Str.Pattern.{starts_char}
use Rattle.gutsirava_path.proofs.normal.is_rooted.Goals as goal

pub returns : goal.returns
returns c =
    let path = c.args.path.now in
    same_from_decides _ (eqb (get_or path 0 0) 47)
    (starts_char 47 path _ c.starts_with.ensures.cases (lit< tt) (lit< tt)) (Decides-eqb (get_or path 0 0) 47)
