use Rattle.std.proofs.Common.{◌≡◌, ◌∙◌, ap, sym, eqb, not, true, false, length}
use Rattle.std.proofs.lemmas.Bool.{eqb-true, not-true, not-false}
use Rattle.gutsirava_path.proofs.NormalParts.{ends_in_name-last, ends_in_name-none, filled_some}
use Rattle.gutsirava_path.proofs.normal.ends_in_name.Goals as goal

pub returns-then-not-is_empty : goal.returns-then-not-is_empty
returns-then-not-is_empty c =
    let count = length c.args.parts.now in
    let filled : not (eqb count 0) ≡ true = cc in
    c.ne.ensures ∙ sym (ends_in_name-last c.args.parts.now _ (filled_some count (not-true (eqb count 0) filled)))

pub returns-else-not-is_empty : goal.returns-else-not-is_empty
returns-else-not-is_empty c =
    let count = length c.args.parts.now in
    let empty : not (eqb count 0) ≡ false = cc in
    ap not c.if-not-is_empty.false
    ∙ sym (ends_in_name-none c.args.parts.now (eqb-true count 0 (not-false (eqb count 0) empty)))
