-- A normal path leads where the path does, and one that is normal stays.
use Rattle.std.proofs.Common.{◌≡◌, [], ap, ◌∙◌, sym, subst, fold, map, string_bytes}
use Rattle.gutsirava_path.specs.Normal.{IsNormalPath, is_rooted, normal_text, parts_of, path_text, step}
use Rattle.gutsirava_path.proofs.NormalParts.{IsNormalPath-normal_text, normal_text-same}
use Rattle.gutsirava_path.proofs.normal.normalize.Goals as goal

pub returns : goal.returns
returns c =
    let path = c.args.path.now in
    let rooted = c.is_rooted-rooted.result in
    let leads : string_bytes c.in_ok-text.text ≡ normal_text path =
    c.in_ok-text.ensures
    ∙ ap (λ parts. path_text rooted (map (λ p. p.now) parts)) c.as_slice.ensures.value
    ∙ ap (path_text rooted) c.in_ok-parts.ensures
    ∙ ap (λ r. path_text r (fold (step r) [] (parts_of path))) c.is_rooted-rooted.ensures in
    record {
      leads_there = leads;
      normal = subst (IsNormalPath (is_rooted path)) (sym leads) (IsNormalPath-normal_text path);
      same = λ normal. leads ∙ normal_text-same path normal;
    }
