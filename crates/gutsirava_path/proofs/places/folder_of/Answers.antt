-- The folder is what stands before the last `/`.
use Rattle.std.proofs.Common.{◌≡◌, [], ◌∷◌, true, false, eqb, cond, length, None, ap, sym, ◌∙◌}
use Rattle.gutsirava_path.proofs.LastLemmas.{folder_of-split}
use Rattle.gutsirava_path.proofs.places.folder_of.Goals as goal

pub returns-in-None : goal.returns-in-None
returns-in-None c = sym (folder_of-split c.args.path.now None c.in-None.ensures.cases)

pub returns-then-is_empty : goal.returns-then-is_empty
returns-then-is_empty c =
    let folder = c.in-Some.folder.now in
    let empty : eqb (length folder) 0 ≡ true = cc in
    let told = rw c.in-Some.is at (folder_of-split c.args.path.now c.rsplit_once.result c.rsplit_once.ensures.cases) in
    sym (told ∙ ap (λ b. cond b (47 ∷ []) folder) empty)

pub returns-else-is_empty : goal.returns-else-is_empty
returns-else-is_empty c =
    let folder = c.in-Some.folder.now in
    let filled : eqb (length folder) 0 ≡ false = cc in
    let told = rw c.in-Some.is at (folder_of-split c.args.path.now c.rsplit_once.result c.rsplit_once.ensures.cases) in
    sym (told ∙ ap (λ b. cond b (47 ∷ []) folder) filled)
